-- The tenth group, read or not.
use Rattle.std.proofs.Common.{◌^◌, refl, sym}
use Rattle.std.proofs.lemmas.Bool.{eq-eqb, ne_eqb}
use Rattle.vm_codec.proofs.Groups.{no_group, tenth}
use Rattle.vm_codec.proofs.integer.last_group.Goals as goal

pub returns-in_err-group-clause-value : goal.returns-in_err-group-clause-value
returns-in_err-group-clause-value c =
    rw c.from_residual.ensures
    (sym (no_group 9 c.args.below (2 ^ 63) 1 c.args.bytes.now c.in_err-group.ensures.cases))

pub returns-then-group-eq1-clause-value : goal.returns-then-group-eq1-clause-value
returns-then-group-eq1-clause-value c =
    let one = eq-eqb c.in_ok-group.group.now 1 c.if-group-eq1.true in
    rw (
      c.in_ok-group.ensures.cases.0,
      tenth c.args.below c.in_ok-group.group.now c.in_ok-group.more.now c.requires,
      one,
    ) refl

pub returns-else-group-eq1-clause-value : goal.returns-else-group-eq1-clause-value
returns-else-group-eq1-clause-value c =
    let other = ne_eqb c.in_ok-group.group.now 1 c.if-group-eq1.false in
    rw (
      c.in_ok-group.ensures.cases.0,
      tenth c.args.below c.in_ok-group.group.now c.in_ok-group.more.now c.requires,
      other,
    ) refl
