use Rattle.std.proofs.Common.{◌≡◌, ◌%◌, arith}
use Rattle.std.proofs.lemmas.Bool.Decides.{nat_tests}
use Rattle.vm_decimal.proofs.Sizes.{factor_off, few_twos}
use Rattle.vm_decimal.proofs.product.cancelled.Goals as goal

pub tens-preserved : goal.tens-preserved
tens-preserved c =
    let t = c.tens in
    let five : t.fives % 5 ≡ 0 =
    grind (arith, nat_tests, c.if-is_five_fold.true, c.is_five_fold.ensures) in
    record {
      some = omega arith;
      some_too = omega arith;
      twos_out = factor_off 2 c.args.twos t.twos t.tens t.invariant.twos_out (omega arith);
      fives_out = factor_off 5 c.args.fives t.fives t.tens t.invariant.fives_out (omega arith);
    }

pub returns-else-is_five_fold-clause-few : goal.returns-else-is_five_fold-clause-few
returns-else-is_five_fold-clause-few c =
    few_twos c.args.twos c.tens.twos c.tens.tens c.tens.invariant.twos_out c.tens.invariant.some
    (omega arith)

pub returns-after-tens-clause-few : goal.returns-after-tens-clause-few
returns-after-tens-clause-few c =
    few_twos c.args.twos c.tens.twos c.tens.tens c.tens.invariant.twos_out c.tens.invariant.some
    (omega arith)
