use Rattle.std.proofs.Common.{◌≡◌, ◌≤◌, drop, length, arith, ap, ◌∙◌, drop_of_length-le, []}
use Rattle.vm_decimal.specs.WordPlaces.{common}
use Rattle.vm_decimal.proofs.WordLaws.{common-nil}
use Rattle.vm_decimal.proofs.words.common.Goals as goal

pub returns-else-front-text : goal.returns-else-front-text
returns-else-front-text c =
    let all : length c.args.text.now ≤ c.front.front = omega arith in
    let rest : drop c.front.front c.args.text.now ≡ [] = drop_of_length-le c.args.text.now all in
    let none : common (drop c.front.front c.args.word.now) (drop c.front.front c.args.text.now)
    ≡ 0 =
    ap (common (drop c.front.front c.args.word.now)) rest
    ∙ common-nil (drop c.front.front c.args.word.now) in
    omega (arith, none, c.front.invariant.same)
