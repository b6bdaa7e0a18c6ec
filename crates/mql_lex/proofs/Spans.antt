-- Tokens stand where they say, one after the other.
use Rattle.std.specs.Prelude.{◌≡◌, ℕ, zero, suc, ◌+◌, ◌≤◌, List, [], ◌∷◌, ◌++◌, length, take, drop, All, Result, Ok, Err, IfOk}
use Rattle.std.specs.List.{AllByRecursion}
use Rattle.std.proofs.Common.{refl, arith, sym, ap, subst, ◌∙◌, append_assoc, length-append}
use Rattle.std.proofs.Math.Seq.{take-append_seam, drop-append_seam}
use Rattle.mql_lex.specs.Grammar.{IsToken}
use Rattle.mql_lex.specs.Tokens.{Leads, no_more, a_gap, a_token, AreTokens, StandsIn, AreInOrder}
use Rattle.mql_lex.specs.declared.fault.LexFault.{LexFault}
use Rattle.mql_lex.specs.declared.piece.Piece.TheVariants.{Token}
use Rattle.mql_lex.specs.declared.token.Token.{Token as TokenOf}
use Rattle.mql_lex.specs.declared.token.TokenKind.{TokenKind}
use Rattle.mql_lex.proofs.Reaches.{longest_some}

all_from : {A : Type 0} (P : A → Type 0) (xs : List A) → AllByRecursion P xs → All P xs
all_from P [] are k d few = absurd (omega arith)
all_from P (x ∷ xs) are zero d few = are.0
all_from P (x ∷ xs) are (suc k) d few = all_from P xs are.1 k d (omega arith)

-- a token after a front of the text
stands : (front middle more : List ℕ) (at : ℕ) (kind : TokenKind) → at ≡ length front
    → IsToken kind middle
    → StandsIn (front ++ (middle ++ more)) (record { kind = kind; at = at; len = length middle })
stands front middle more at kind here is =
    let text = front ++ (middle ++ more) in
    let slice : take (length middle) (drop at text) ≡ middle =
    ap (λ n. take (length middle) (drop n text)) here
    ∙ ap (take (length middle)) (drop-append_seam front (middle ++ more))
    ∙ take-append_seam middle more in
    record {
      within = omega (arith, length-append front (middle ++ more), length-append middle more);
      is = subst (IsToken kind) (sym slice) is;
    }

behind : (front middle : List ℕ) (at : ℕ) → at ≡ length front
    → at + length middle ≡ length (front ++ middle)
behind front middle at here = omega (arith, length-append front middle)

leads_stand : (far : ℕ) (rest : List ℕ) (at : ℕ) (text : List ℕ) (tokens : List TokenOf)
    → Leads far rest at text tokens
    → (front : List ℕ) → at ≡ length front → AllByRecursion (StandsIn (front ++ text)) tokens
leads_stand far rest at text tokens no_more front here = tt
leads_stand far rest at text tokens (a_gap {front = gap} {more = more} is leads) front here =
    subst (λ t. AllByRecursion (StandsIn t) tokens) (append_assoc front gap more)
    (leads_stand far rest (at + length gap) more tokens leads (front ++ gap)
    (behind front gap at here))
leads_stand far rest at text tokens
    (a_token {kind = kind} {front = middle} {more = more} {tokens = after} is leads) front here = (
      stands front middle more at kind here is.is,
      subst (λ t. AllByRecursion (StandsIn t) after) (append_assoc front middle more)
          (leads_stand far rest (at + length middle) more after leads (front ++ middle)
          (behind front middle at here)),
    )

pub tokens_stand : (text : List ℕ) (tokens : List TokenOf) → AreTokens text tokens
    → All (StandsIn text) tokens
tokens_stand text tokens are =
    all_from (StandsIn text) tokens (leads_stand (length text) [] 0 text tokens are [] refl)

-- tokens in order from a place are so from an earlier one
earlier : (from at : ℕ) (tokens : List TokenOf) → from ≤ at → AreInOrder at tokens
    → AreInOrder from tokens
earlier from at [] less are = tt
earlier from at (token ∷ tokens) less are = let first =
    are.0 in (omega (arith, first), are.1, are.2)

leads_in_order : (far : ℕ) (rest : List ℕ) (at : ℕ) (text : List ℕ) (tokens : List TokenOf)
    → Leads far rest at text tokens → AreInOrder at tokens
leads_in_order far rest at text tokens no_more = tt
leads_in_order far rest at text tokens (a_gap {front = gap} {more = more} is leads) =
    earlier at (at + length gap) tokens (omega arith)
    (leads_in_order far rest (at + length gap) more tokens leads)
leads_in_order far rest at text tokens
    (a_token {kind = kind} {front = middle} {more = more} {tokens = after} is leads) = (
      omega arith,
      longest_some (Token kind) middle more is,
      leads_in_order far rest (at + length middle) more after leads,
    )

pub tokens_in_order : (text : List ℕ) (tokens : List TokenOf) → AreTokens text tokens
    → AreInOrder 0 tokens
tokens_in_order text tokens are = leads_in_order (length text) [] 0 text tokens are

-- ---- the same of an answer

pub ok_stand : (text : List ℕ) (r : Result (List TokenOf) LexFault) → IfOk r (AreTokens text)
    → IfOk r (All (StandsIn text))
ok_stand text (Ok tokens) are = tokens_stand text tokens are
ok_stand text (Err fault) are = tt

pub ok_in_order : (text : List ℕ) (r : Result (List TokenOf) LexFault) → IfOk r (AreTokens text)
    → IfOk r (AreInOrder 0)
ok_in_order text (Ok tokens) are = tokens_in_order text tokens are
ok_in_order text (Err fault) are = tt
