use Rattle.std.proofs.Common.{◌≡◌, ◌++◌, map, take, drop, slice_set, slice_index_or, length, ◌<◌, arith, ap, ◌∙◌}
use Rattle.vm_machine.specs.Machine.{read_more}
use Rattle.vm_machine.proofs.RunLaws.{changed_one, still_there}
use Rattle.vm_machine.proofs.run.count_read.Goals as goal

pub loop-i-preserved : goal.loop-i-preserved
loop-i-preserved g c =
    let xs = c.args.runs.now.items in
    let i = c.loop-i.i in
    let within : i < length xs = omega (arith, c.loop-i-test.true, c.len-i-end.ensures) in
    let old = c.index_mut.result.now in
    let f = read_more c.args.number in
    let value : c.count_one.new.run ≡ f (slice_index_or xs i old) =
    c.count_one.ensures ∙ ap f c.index_mut.ensures.value
    ∙ ap (λ runs. f (slice_index_or runs i old)) c.loop-i.invariant
    ∙ ap f (still_there f xs i old within) in
    ap (λ runs. slice_set runs i c.count_one.new.run) c.loop-i.invariant
    ∙ ap (λ run. slice_set (map f (take i xs) ++ drop i xs) i run) value
    ∙ changed_one f xs i old within
