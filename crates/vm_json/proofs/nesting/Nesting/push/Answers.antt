use Rattle.std.proofs.Common.{◌<◌, ◌≤◌, length, ap, arith}
use Rattle.vm_json.proofs.Nestings.{length-brackets, fits_one_more}
use Rattle.vm_json.proofs.nesting.Nesting.push.Goals as goal
use Rattle.vm_json.proofs.nesting.Nesting.push.Goals.{in-Square, in-Curly}

pub overflow_mul-self : goal.overflow_mul-self
overflow_mul-self c =
    let same = ap length c.self.view_is in
    let len = length-brackets c.self.inside.count c.self.inside.bits in
    let few : c.self.inside.count < 100 = omega arith in
    let fits = fits_one_more c.self.inside.count c.self.inside.bits few c.self.invariant.fits in
    omega arith

pub overflow_add-self : goal.overflow_add-self
overflow_add-self c =
    let same = ap length c.self.view_is in
    let len = length-brackets c.self.inside.count c.self.inside.bits in
    let few : c.self.inside.count < 100 = omega arith in
    let fits = fits_one_more c.self.inside.count c.self.inside.bits few c.self.invariant.fits in
    let one : c.match-bracket.bit ≤ 1 =
    elim c.match-bracket.branch [ in-Square w ↦ omega arith | in-Curly w ↦ omega arith ] in
    omega arith
