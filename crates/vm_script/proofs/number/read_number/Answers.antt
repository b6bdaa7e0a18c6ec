use Rattle.std.proofs.Common.{◌≤◌, ◌∙◌, length, sym, arith}
use Rattle.std.proofs.lemmas.Grind.{common_steps}
use Rattle.vm_script.proofs.NumberLaws.{number_of-read, number_of-stuck}
use Rattle.vm_script.proofs.number.read_number.Goals as goal

pub returns-in_err-number : goal.returns-in_err-number
returns-in_err-number c =
    let some : 1 ≤ length c.args.digits.now = grind (arith, common_steps) in
    let stuck = sym c.with_digit.ensures ∙ c.in_err-number.was in
    let so_far = c.loop-digit.invariant.read in
    c.from_residual.ensures
    ∙ number_of-stuck c.loop-digit.number c.loop-digit.digit-index c.args.digits.now some
    (omega arith) so_far (omega arith) stuck

pub returns : goal.returns
returns c =
    let some : 1 ≤ length c.args.digits.now = grind (arith, common_steps) in
    let so_far = c.loop-digit.invariant in
    number_of-read c.loop-digit.number c.loop-digit.digit-index c.args.digits.now some (omega arith)
    so_far.read (omega arith) so_far.small
