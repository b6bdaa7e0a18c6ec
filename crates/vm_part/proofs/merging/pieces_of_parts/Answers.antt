-- The pieces of one part more, and of all.
use Rattle.std.proofs.Common.{◌≤◌, ◌++◌, length, flat_map, ap, ◌∙◌, arith}
use Rattle.std.proofs.lemmas.Grind.{common_steps}
use Rattle.std.proofs.lemmas.List.{take_all}
use Rattle.vm_series.specs.Series.{rows_of_piece}
use Rattle.vm_part.specs.inner.Merging.{rows_beside}
use Rattle.vm_part.specs.Said.{rows_in}
use Rattle.vm_part.proofs.MergeLaws.{as_many, as_many_read, kept, many_read, one_more_part, part_at}
use Rattle.vm_part.proofs.merging.pieces_of_parts.Goals as goal

pub offset_bounds-read-at : goal.offset_bounds-read-at
offset_bounds-read-at c =
    let many = as_many_read kept c.args.parts.now c.args.read.now c.requires in
    grind (arith, common_steps)

pub bounds-read-at : goal.bounds-read-at
bounds-read-at c = omega (arith, as_many_read kept c.args.parts.now c.args.read.now c.requires)

pub put_pieces-requires : goal.put_pieces-requires
put_pieces-requires c =
    let part = c.deref.result.now in
    let at =
    part_at kept c.args.parts.now c.args.read.now c.requires.alls c.loop-at.at
    c.index-parts-at.result c.index-read-at.result part c.as_slice.result.now
    c.loop-at-test.true (c.deref.ensures ∙ ap kept c.index-parts-at.is)
    (c.as_slice.ensures ∙ c.index-read-at.is) c.requires.said c.requires.samples in
    ap length (c.sets.ensures.sets ∙ c.index.ensures)
    ∙ as_many part c.as_slice.result.now c.requires.alls c.loop-at.at at

pub loop-at-preserved : goal.loop-at-preserved
loop-at-preserved c = λ alls said same.
    let part = c.deref.result.now in
    let samples = c.as_slice.result.now in
    let before = flat_map rows_of_piece c.loop-at.pieces.items in
    let at =
    part_at kept c.args.parts.now c.args.read.now alls c.loop-at.at c.index-parts-at.result
    c.index-read-at.result part samples
    c.loop-at-test.true (c.deref.ensures ∙ ap kept c.index-parts-at.is)
    (c.as_slice.ensures ∙ c.index-read-at.is) said same in
    one_more_part part samples alls c.loop-at.at before
    (flat_map rows_of_piece c.put_pieces.new.pieces.items) at
    (c.loop-at.invariant alls said same)
    (c.in_ok-put_pieces.ensures
    ∙ ap (λ sets. before ++ rows_beside sets samples) (c.sets.ensures.sets ∙ c.index.ensures))

pub returns : goal.returns
returns c = λ alls said same.
    let long : length alls ≤ c.loop-at.at =
    omega (arith, many_read kept c.args.parts.now alls said) in
    c.loop-at.invariant alls said same ∙ ap (flat_map rows_in) (take_all c.loop-at.at alls long)
