use Rattle.std.proofs.Common.{◌≡◌, ◌+◌, ◌-◌, ◌*◌, ◌^◌, ◌∷◌, min, true, subst, sym, ◌∙◌, arith}
use Rattle.std.specs.Char.{is_ascii_digit}
use Rattle.mql_parse.specs.Values.{length_behind, AsFar}
use Rattle.mql_parse.proofs.Sums.{digit_ms, digit_steps}
use Rattle.mql_parse.proofs.duration.taken.Goals as goal

pub returns-then-is_ascii_digit-clause-ms : goal.returns-then-is_ascii_digit-clause-ms
returns-then-is_ascii_digit-clause-ms c =
    let is : is_ascii_digit c.args.byte ≡ true = sym c.is_ascii_digit.ensures.value
    ∙ c.if-is_ascii_digit.true in
    let count : c.min-count.result ≡ min (c.args.sum.count * 10 + (c.args.byte - 48)) (2 ^ 48) =
    omega arith in
    subst (λ n.
    AsFar (c.args.sum.ms + (length_behind n c.args.more.now).ms)
    (c.args.sum.ms + (length_behind c.args.sum.count (c.args.byte ∷ c.args.more.now)).ms))
    (sym count) (digit_ms c.args.sum.ms c.args.sum.count c.args.byte c.args.more.now is)

pub returns-then-is_ascii_digit-clause-steps : goal.returns-then-is_ascii_digit-clause-steps
returns-then-is_ascii_digit-clause-steps c =
    let is : is_ascii_digit c.args.byte ≡ true = sym c.is_ascii_digit.ensures.value
    ∙ c.if-is_ascii_digit.true in
    let count : c.min-count.result ≡ min (c.args.sum.count * 10 + (c.args.byte - 48)) (2 ^ 48) =
    omega arith in
    subst (λ n.
    AsFar (c.args.sum.steps + (length_behind n c.args.more.now).steps)
    (c.args.sum.steps + (length_behind c.args.sum.count (c.args.byte ∷ c.args.more.now)).steps))
    (sym count) (digit_steps c.args.sum.steps c.args.sum.count c.args.byte c.args.more.now is)
