-- The bytes so far, put before those that are to come.
use Rattle.std.proofs.Common.{◌-ℤ◌, ◌++◌, pos, take, slice_index_or, ap, ◌∙◌, w64, to_z, arith, rules}
use Rattle.std.proofs.lemmas.Int.{to_z-of_z}
use Rattle.vm_codec.specs.Integer.{groups, zigzag}
use Rattle.vm_codec.specs.inner.Reading.{lean_after}
use Rattle.vm_codec.proofs.Written.{written_more, written_all, further}
use Rattle.vm_codec.proofs.Chosen.{differences_of}
use Rattle.vm_codec.proofs.writing.write_differences.Goals as goal

pub loop-place-preserved : goal.loop-place-preserved
loop-place-preserved c =
    let item = slice_index_or c.args.values.now c.loop-place.place (pos 0) in
    let value = to_z w64 c.loop-place.value-bits in
    let lean = to_z w64 c.loop-place.lean-bits in
    let inside = c.requires.bounds c.loop-place.place (pos 0) c.loop-place-test.true in
    let same = to_z-of_z w64 item (search rules) in
    let gap = to_z-of_z w64 c.lean_between-lean.result (search rules) in
    record {
      bound = rw same inside;
      lean = rw gap c.lean_between-lean.ensures.small;
      room = omega arith;
      front =
          written_more c.args.coding value lean item _ _ c.loop-place.place
          c.args.values.now _ _ _ c.loop-place-test.true (search rules) same
          (gap ∙ c.lean_between-lean.ensures.value
          ∙ ap (λ n. lean_after c.args.coding (n -ℤ value)) same)
          (c.write_number-end.ensures.front
          ∙ ap (λ n. take c.loop-place.end c.loop-place.into ++ groups 10 n)
          (c.number_between.ensures ∙ ap (λ n. zigzag (n -ℤ value -ℤ lean)) same))
          c.loop-place.invariant.front;
      back =
          c.write_number-end.ensures.back
          ∙ further c.loop-place.end c.write_number-end.result c.loop-place.into c.args.into.now
          c.write_number-end.ensures.few.0
          c.loop-place.invariant.back;
    }

pub returns-clause-spelled : goal.returns-clause-spelled
returns-clause-spelled c =
    written_all c.args.coding _ _ c.loop-place.place c.args.values.now _ _ c.loop-place-test.false
    c.loop-place.invariant.front
    ∙ differences_of c.args.coding c.args.values.now c.requires.coding c.requires.some
