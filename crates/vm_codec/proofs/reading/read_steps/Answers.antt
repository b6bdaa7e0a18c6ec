-- One integer, and values as far apart as it says.
use Rattle.std.proofs.Common.{refl, sym, ◌∙◌, w64, rules}
use Rattle.std.proofs.lemmas.Int.{to_z-of_z}
use Rattle.vm_codec.proofs.Values.{same_steps, no_integer, no_steps, steps}
use Rattle.vm_codec.proofs.reading.read_steps.Goals as goal

pub returns-in_default-clause-broken : goal.returns-in_default-clause-broken
returns-in_default-clause-broken c =
    no_integer c.args.first _ c.args.bytes.now (sym c.in_default.ensures.value)

pub returns-then-fill_steps-clause-read : goal.returns-then-fill_steps-clause-read
returns-then-fill_steps-clause-read c =
    steps c.args.first _ _ c.in-Some.number c.args.bytes.now c.in-Some.rest.now
    c.fill_steps.new.into (sym c.in-Some.ensures.value)
    c.unzigzag.ensures
    (same_steps _ _ _ _ _ _ (to_z-of_z w64 c.args.first c.ranges.first)
    (to_z-of_z w64 c.unzigzag.result (search rules)) refl
    ∙ c.if-fill_steps.ensures)

pub returns-else-fill_steps-clause-broken : goal.returns-else-fill_steps-clause-broken
returns-else-fill_steps-clause-broken c =
    no_steps c.args.first _ _ c.in-Some.number c.args.bytes.now c.in-Some.rest.now
    (sym c.in-Some.ensures.value)
    c.unzigzag.ensures
    (same_steps _ _ _ _ _ _ (to_z-of_z w64 c.args.first c.ranges.first)
    (to_z-of_z w64 c.unzigzag.result (search rules)) refl
    ∙ c.if-fill_steps.ensures)
