use Rattle.std.proofs.Common.{◌≤◌, ◌<◌, ◌*◌, ◌^◌, sym, arith}
use Rattle.std.proofs.Math.Nat.{pow-le-pow_right}
use Rattle.std.proofs.lemmas.Nat.{div_below}
use Rattle.vm_base.specs.Form.{ten_pos}
use Rattle.vm_decimal.proofs.Wholes.{far_cut}
use Rattle.vm_decimal.proofs.whole.parted.Goals as goal

pub returns-then-places-gt38-clause-whole : goal.returns-then-places-gt38-clause-whole
returns-then-places-gt38-clause-whole c =
    sym ((far_cut c.args.size c.args.places c.requires.few c.if-places-gt38.true).0)

pub returns-then-places-gt38-clause-rest : goal.returns-then-places-gt38-clause-rest
returns-then-places-gt38-clause-rest c =
    sym ((far_cut c.args.size c.args.places c.requires.few c.if-places-gt38.true).1)

pub nonzero_div-result : goal.nonzero_div-result
nonzero_div-result c = omega (arith, ten_pos c.args.places, c.wide_power_of_ten-unit.ensures)

pub nonzero_rem-result : goal.nonzero_rem-result
nonzero_rem-result c = omega (arith, ten_pos c.args.places, c.wide_power_of_ten-unit.ensures)

pub returns-clause-few : goal.returns-clause-few
returns-clause-few c =
    let unit_is = c.wide_power_of_ten-unit.ensures in
    let unit = c.wide_power_of_ten-unit.result in
    let power : 10 ^ 1 ≤ 10 ^ c.args.places =
    pow-le-pow_right {n = 10} (omega arith) {i = 1} {j = c.args.places} c.requires.some in
    let ten : 10 ≤ c.wide_power_of_ten-unit.result = omega arith in
    let less : c.args.size < 10 ^ 37 * c.wide_power_of_ten-unit.result = omega arith in
    div_below c.args.size unit (10 ^ 37) (omega arith) less
