use Rattle.std.proofs.Common.{ap, sym, subst, ◌∙◌, ◌<◌, ◌≤◌, length, Err}
use Rattle.mql_lex.specs.declared.fault.LexFault.TheVariants.{TooLong}
use Rattle.mql_lex.proofs.Outcomes.{given_tokens, given_bad, given_reading, reading_long}
use Rattle.mql_lex.proofs.Spans.{ok_stand, ok_in_order}
use Rattle.mql_lex.proofs.lexer.tokens.Goals as goal

pub returns-then-bytes-gt-MAX_QUERY_TEXT-clause-value :
    goal.returns-then-bytes-gt-MAX_QUERY_TEXT-clause-value
returns-then-bytes-gt-MAX_QUERY_TEXT-clause-value c =
    let same = c.as_bytes-bytes.ensures.value in
    reading_long c.args.text.now
    (subst (λ t. 16384 < length t) same c.if-bytes-gt-MAX_QUERY_TEXT.true)
    ∙ ap (λ t. Err (TooLong (length t))) (sym same)

pub returns-clause-tokens : goal.returns-clause-tokens
returns-clause-tokens c =
    let cut =
    rw c.as_bytes-bytes.ensures.value at c.cut.ensures in given_tokens c.args.text.now
    c.cut.result cut

pub returns-clause-bad_token : goal.returns-clause-bad_token
returns-clause-bad_token c at is =
    let cut =
    rw c.as_bytes-bytes.ensures.value at c.cut.ensures in given_bad c.args.text.now c.cut.result
    at cut is

pub returns-clause-value : goal.returns-clause-value
returns-clause-value c =
    let same = c.as_bytes-bytes.ensures.value in
    let cut = rw same at c.cut.ensures in
    let few = subst (λ t. length t ≤ 16384) same c.if-bytes-gt-MAX_QUERY_TEXT.false in
    given_reading c.args.text.now c.cut.result few cut

pub returns-clause-slices : goal.returns-clause-slices
returns-clause-slices c =
    let cut = rw c.as_bytes-bytes.ensures.value at c.cut.ensures in
    ok_stand c.args.text.now c.cut.result (given_tokens c.args.text.now c.cut.result cut)

pub returns-clause-order : goal.returns-clause-order
returns-clause-order c =
    let cut = rw c.as_bytes-bytes.ensures.value at c.cut.ensures in
    ok_in_order c.args.text.now c.cut.result (given_tokens c.args.text.now c.cut.result cut)
