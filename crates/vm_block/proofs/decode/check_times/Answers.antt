-- Which rule is broken.
use Rattle.std.proofs.Common.{◌-◌, pos, slice_index_or, Some, refl, ap, sym, ◌∙◌, w64, to_z, of_z, arith, rules}
use Rattle.std.proofs.lemmas.Int.{to_z-of_z, to_z_pos}
use Rattle.std.proofs.lemmas.Option.{get_or_from_slice_get, slice_get-get_or}
use Rattle.vm_block.specs.Block.BreaksAt.{times_fall, another_end}
use Rattle.vm_block.proofs.Headers.{ranges}
use Rattle.vm_block.proofs.decode.check_times.Goals as goal

pub returns-then-not-rise-clause-broken : goal.returns-then-not-rise-clause-broken
returns-then-not-rise-clause-broken c =
    λ body says. times_fall c.args.times.now says (sym c.rise.ensures ∙ c.if-not-rise.true) refl

pub returns-then-times-header-clause-broken : goal.returns-then-times-header-clause-broken
returns-then-times-header-clause-broken c =
    let h = c.args.header.now in
    λ body says.
    another_end c.args.times.now says (sym c.rise.ensures ∙ c.if-not-rise.false)
    (λ end.
    c.if-times-header.true
    (ap (of_z w64)
    (get_or_from_slice_get c.args.times.now (h.count - 1) (pos h.last_time) (pos 0) end)))
    refl

pub returns-clause-last : goal.returns-clause-last
returns-clause-last c =
    let h = c.args.header.now in
    let r = ranges h c.requires.header in
    let last = slice_index_or c.args.times.now (h.count - 1) (pos 0) in
    slice_get-get_or c.args.times.now (h.count - 1) (pos 0) (omega (arith, r.some, c.requires.len))
    ∙ ap Some
    (sym (to_z-of_z w64 last (search rules)) ∙ ap (to_z w64) c.if-times-header.false
    ∙ to_z_pos w64 h.last_time (omega (arith, r.last_time)))
