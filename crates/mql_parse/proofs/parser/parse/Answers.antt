use Rattle.std.proofs.Common.{◌≡◌, length, Some, sym, ap, subst, ◌∙◌}
use Rattle.std.specs.Option.{option_map}
use Rattle.mql_expr.specs.Tree.{tree}
use Rattle.mql_lex.specs.declared.token.Token.{Token}
use Rattle.mql_lex.specs.declared.token.TokenKind.TheVariants.{Name}
use Rattle.mql_lists.specs.Words.{word_of, words_of}
use Rattle.mql_parse.specs.Faults.{IsUnexpected}
use Rattle.mql_parse.specs.Machine.{at, wanted}
use Rattle.mql_parse.specs.inner.Stack.{stack_of}
use Rattle.mql_parse.specs.inner.Views.{the_before, the_frames}
use Rattle.mql_parse.specs.declared.parse_fault.ParseFault.{ParseFault}
use Rattle.mql_parse.proofs.TokenPlaces.{token_stands, token_inside}
use Rattle.mql_parse.proofs.Turns.{turn_more, fault_unexpected, fault_deep, fault_wide, ended_whole, ended_short}
use Rattle.mql_parse.proofs.parser.parse.Goals as goal

abbrev no_token : Token
no_token = record { kind = Name; at = 0; len = 0 }

pub tokens-init : goal.tokens-init
tokens-init c = ap (λ opens. Some (at (the_frames opens) wanted)) (sym c.new-stack.ensures)

pub step-requires : goal.step-requires
step-requires c =
    record {
      stands = token_stands c.args.text.now c.args.tokens.now c.tokens.token-index no_token
          c.requires.tokens c.tokens-test.true;
    }

pub tokens-preserved : goal.tokens-preserved
tokens-preserved c =
    let text = c.args.text.now in
    let inside =
    token_inside text c.args.tokens.now c.tokens.token-index no_token c.requires.tokens
    c.tokens-test.true in
    turn_more (word_of text) (length text) c.args.tokens.now c.tokens.token-index no_token
    (at (the_frames (stack_of c.tokens.stack)) (the_before c.tokens.last)) c.tokens-test.true
    c.tokens.invariant
    (at (the_frames (stack_of c.step.new.stack)) (the_before c.in-Ok.next))
    (c.in-Ok.ensures (length text) inside)

pub returns-in-Err-clause-unexpected : goal.returns-in-Err-clause-unexpected
returns-in-Err-clause-unexpected c = λ place same.
    let text = c.args.text.now in
    let inside =
    token_inside text c.args.tokens.now c.tokens.token-index no_token c.requires.tokens
    c.tokens-test.true in
    let fault : c.fault_at.result ≡ ParseFault.Unexpected place = cc same in
    fault_unexpected (word_of text) (length text) c.args.tokens.now c.tokens.token-index no_token
    (at (the_frames (stack_of c.tokens.stack)) (the_before c.tokens.last)) c.tokens-test.true
    c.tokens.invariant
    (stack_of c.step.new.stack) c.in-Err.e place (c.in-Err.ensures (length text) inside)
    (sym c.fault_at.ensures ∙ fault)

pub returns-in-Err-clause-too_deep : goal.returns-in-Err-clause-too_deep
returns-in-Err-clause-too_deep c = λ place same.
    let text = c.args.text.now in
    let inside =
    token_inside text c.args.tokens.now c.tokens.token-index no_token c.requires.tokens
    c.tokens-test.true in
    let fault : c.fault_at.result ≡ ParseFault.TooDeep place = cc same in
    fault_deep (word_of text) (length text) c.args.tokens.now c.tokens.token-index no_token
    (at (the_frames (stack_of c.tokens.stack)) (the_before c.tokens.last)) c.tokens-test.true
    c.tokens.invariant
    (stack_of c.step.new.stack) c.in-Err.e place (c.in-Err.ensures (length text) inside)
    (sym c.fault_at.ensures ∙ fault)

pub returns-in-Err-clause-too_wide : goal.returns-in-Err-clause-too_wide
returns-in-Err-clause-too_wide c = λ place same.
    let text = c.args.text.now in
    let inside =
    token_inside text c.args.tokens.now c.tokens.token-index no_token c.requires.tokens
    c.tokens-test.true in
    let fault : c.fault_at.result ≡ ParseFault.NumberTooWide place = cc same in
    fault_wide (word_of text) (length text) c.args.tokens.now c.tokens.token-index no_token
    (at (the_frames (stack_of c.tokens.stack)) (the_before c.tokens.last)) c.tokens-test.true
    c.tokens.invariant
    (stack_of c.step.new.stack) c.in-Err.e place (c.in-Err.ensures (length text) inside)
    (sym c.fault_at.ensures ∙ fault)

pub returns-in-Some-clause-found : goal.returns-in-Some-clause-found
returns-in-Some-clause-found c =
    let text = c.args.text.now in
    ended_whole (word_of text) (length text) c.args.tokens.now c.tokens.token-index
    (at (the_frames (stack_of c.tokens.stack)) (the_before c.tokens.last))
    c.tokens.auto.token-index-end c.tokens-test.false c.tokens.invariant
    (tree c.in-Some.expr) (sym c.in_ok-expr.ensures ∙ ap (option_map tree) c.in-Some.is)

pub returns-in-Some-clause-unexpected : goal.returns-in-Some-clause-unexpected
returns-in-Some-clause-unexpected c = λ place same. absurd (cc same)

pub returns-in-Some-clause-too_deep : goal.returns-in-Some-clause-too_deep
returns-in-Some-clause-too_deep c = λ place same. absurd (cc same)

pub returns-in-Some-clause-too_wide : goal.returns-in-Some-clause-too_wide
returns-in-Some-clause-too_wide c = λ place same. absurd (cc same)

pub returns-clause-unexpected : goal.returns-clause-unexpected
returns-clause-unexpected c = λ place same.
    let text = c.args.text.now in
    let short =
    ended_short (word_of text) (length text) c.args.tokens.now c.tokens.token-index
    (at (the_frames (stack_of c.tokens.stack)) (the_before c.tokens.last))
    c.tokens.auto.token-index-end c.tokens-test.false c.tokens.invariant
    (sym c.in_ok-expr.ensures ∙ ap (option_map tree) c.in-None.is) in
    let here : length text ≡ place = cc same in
    subst (IsUnexpected (length text) (words_of text c.args.tokens.now)) here short

pub returns-clause-too_deep : goal.returns-clause-too_deep
returns-clause-too_deep c = λ place same. absurd (cc same)

pub returns-clause-too_wide : goal.returns-clause-too_wide
returns-clause-too_wide c = λ place same. absurd (cc same)
