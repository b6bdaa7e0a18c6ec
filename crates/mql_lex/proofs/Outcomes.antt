-- What a text comes to is what the grammar says.
use Rattle.std.specs.Prelude.{◌≡◌, ◌≢◌, ◌⊎◌, ℕ, zero, suc, ◌+◌, ◌-◌, ◌<◌, ◌≤◌, nat_lt, true, false, List, [], ◌∷◌, ◌++◌, length, take, drop, Option, Some, None, Result, Ok, Err, IfOk}
use Rattle.std.proofs.Common.{refl, arith, sym, ap, subst, ◌∙◌, inl, inr, ⊎_elim, append_assoc, append-nil, length-append}
use Rattle.std.proofs.Math.Seq.{drop-append_seam}
use Rattle.std.proofs.lemmas.List.{take-append-drop, length-take-le, take_rest}
use Rattle.std.proofs.Common.{length-drop, drop-drop}
use Rattle.std.proofs.lemmas.Bool.{cases_lt}
use Rattle.std.proofs.lemmas.Bool.Decides.{nat_tests}
use Rattle.mql_lex.specs.declared.fault.LexFault.{LexFault}
use Rattle.mql_lex.specs.declared.fault.LexFault.TheVariants.{TooLong, BadToken}
use Rattle.mql_lex.specs.Reading.{piece_reading, token_of, put_before, with_piece, lexed, reading, or_bad, Gives}
use Rattle.mql_lex.specs.Tokens.{IsLongest, NoPiece, Leads, no_more, a_gap, a_token, AreTokens, IsBad}
use Rattle.mql_lex.specs.declared.piece.Piece.{Piece}
use Rattle.mql_lex.specs.declared.piece.Piece.TheVariants.{Token, Gap}
use Rattle.mql_lex.specs.declared.token.Token.{Token as TokenOf}
use Rattle.mql_lex.proofs.Reaches.{Found, found_longest, longest_found, longest_some, none_found, found_none}

-- ---- what is computed

-- what is skipped is only counted
pub lexed_skip : (text : List ℕ) (skip at : ℕ) → skip ≤ length text
    → lexed skip at text ≡ lexed 0 (at + skip) (drop skip text)
lexed_skip text zero at few = ap (λ n. lexed 0 n text) (omega arith)
lexed_skip [] (suc skip) at few = absurd (omega arith)
lexed_skip (byte ∷ more) (suc skip) at few =
    lexed_skip more skip (suc at) (omega arith) ∙ ap (λ n. lexed 0 n (drop skip more)) (omega arith)

-- a piece and the rest
pub lexed_piece : (text : List ℕ) (at : ℕ) (piece : Piece) (len : ℕ)
    → piece_reading text ≡ Some (piece, len)
    → 0 < len → len ≤ length text
    → lexed 0 at text ≡ put_before (token_of piece at len) (lexed 0 (at + len) (drop len text))
lexed_piece [] at piece len found some within = absurd (omega arith)
lexed_piece (byte ∷ more) at piece zero found some within = absurd (omega arith)
lexed_piece (byte ∷ more) at piece (suc len) found some within =
    ap (λ o. with_piece at o (λ skip. lexed skip (suc at) more)) found
    ∙ ap (λ r. put_before (token_of piece at (suc len)) r)
    (ap (λ n. lexed n (suc at) more) (omega arith)
    ∙ lexed_skip more len (suc at) (omega arith)
    ∙ ap (λ n. lexed 0 n (drop len more)) (omega arith))

pub lexed_none : (text : List ℕ) (at : ℕ) → 0 < length text → piece_reading text ≡ None
    → lexed 0 at text ≡ Err at
lexed_none [] at some none = absurd (omega arith)
lexed_none (byte ∷ more) at some none =
    ap (λ o. with_piece at o (λ skip. lexed skip (suc at) more)) none

-- ---- what is computed is what the grammar says

-- the same as `IsBad`, from any place on
pub record BadFrom (from : ℕ) (text : List ℕ) (at : ℕ) : Type 0 where
  pub tokens : List TokenOf
  pub rest : List ℕ
  pub leads : Leads at rest from text tokens
  pub more : rest ≢ []
  pub none : NoPiece rest

abbrev pub Outcome : ℕ → List ℕ → Result (List TokenOf) ℕ → Type 0
Outcome at text (Ok tokens) = Leads (at + length text) [] at text tokens
Outcome at text (Err bad) = BadFrom at text bad

-- a piece before what comes to this
outcome_piece : (piece : Piece) (front more : List ℕ) (at : ℕ) (r : Result (List TokenOf) ℕ)
    → IsLongest piece front more → Outcome (at + length front) more r
    → Outcome at (front ++ more) (put_before (token_of piece at (length front)) r)
outcome_piece (Token kind) front more at (Ok tokens) is leads =
    let far : (at + length front) + length more ≡ at + length (front ++ more) =
    omega (arith, length-append front more) in
    subst (λ n.
    Leads n [] at (front ++ more)
    (record { kind = kind; at = at; len = length front } ∷ tokens)) far
    (a_token is leads)
outcome_piece Gap front more at (Ok tokens) is leads =
    let far : (at + length front) + length more ≡ at + length (front ++ more) =
    omega (arith, length-append front more) in
    subst (λ n. Leads n [] at (front ++ more) tokens) far (a_gap is leads)
outcome_piece (Token kind) front more at (Err bad) is from = record {
  tokens = record { kind = kind; at = at; len = length front } ∷ from.tokens;
  rest = from.rest;
  leads = a_token is from.leads;
  more = from.more;
  none = from.none;
}
outcome_piece Gap front more at (Err bad) is from = record {
  tokens = from.tokens;
  rest = from.rest;
  leads = a_gap is from.leads;
  more = from.more;
  none = from.none;
}

-- the same of the piece that is found
outcome_found : (text : List ℕ) (at : ℕ) (piece : Piece) (len : ℕ) → Found text piece len
    → (r : Result (List TokenOf) ℕ) → Outcome (at + len) (drop len text) r
    → Outcome at text (put_before (token_of piece at len) r)
outcome_found text at piece len found r is =
    let front = take len text in
    let size : length front ≡ len = length-take-le len text found.within in
    let whole :
    Outcome at (front ++ drop len text) (put_before (token_of piece at (length front)) r) =
    outcome_piece piece front (drop len text) at r found.longest
    (subst (λ n. Outcome (at + n) (drop len text) r) (sym size) is) in
    subst (λ n. Outcome at text (put_before (token_of piece at n) r)) size
    (subst (λ t. Outcome at t (put_before (token_of piece at (length front)) r))
    (take-append-drop len text) whole)

pub outcome_is : (n : ℕ) (text : List ℕ) (at : ℕ) → length text ≤ n
    → Outcome at text (lexed 0 at text)
outcome_is n [] at few =
    let far : at ≡ at + 0 = omega arith in subst (λ far. Leads far [] at [] []) far no_more
outcome_is zero (byte ∷ more) at few = absurd (omega arith)
outcome_is (suc n) (byte ∷ more) at few =
    go (piece_reading (byte ∷ more)) refl (λ rest place fewer. outcome_is n rest place fewer)
  where
    go : (o : Option (Piece × ℕ)) → piece_reading (byte ∷ more) ≡ o
        → ((rest : List ℕ) (place : ℕ) → length rest ≤ n → Outcome place rest (lexed 0 place rest))
        → Outcome at (byte ∷ more) (lexed 0 at (byte ∷ more))
    go None is behind =
        subst (Outcome at (byte ∷ more)) (sym (lexed_none (byte ∷ more) at (omega arith) is))
        (record {
          tokens = [];
          rest = byte ∷ more;
          leads = no_more;
          more = λ e. cc e;
          none = none_found (byte ∷ more) is;
        })
    go (Some piece) is behind =
        let found = found_longest (byte ∷ more) piece.0 piece.1 is in
        let some = found.some in
        let within = found.within in
        let rest = drop piece.1 (byte ∷ more) in
        let size : length rest ≤ n =
        omega (arith, length-drop piece.1 (byte ∷ more), some, within) in
        subst (Outcome at (byte ∷ more))
        (sym (lexed_piece (byte ∷ more) at piece.0 piece.1 is some within))
        (outcome_found (byte ∷ more) at piece.0 piece.1 found (lexed 0 (at + piece.1) rest)
        (behind rest (at + piece.1) size))

-- ---- and nothing else is

put_before_none : (r : Result (List TokenOf) ℕ) → put_before [] r ≡ r
put_before_none (Ok tokens) = refl
put_before_none (Err at) = refl

pub put_before_more : (front back : List TokenOf) (r : Result (List TokenOf) ℕ)
    → put_before front (put_before back r) ≡ put_before (front ++ back) r
put_before_more front back (Ok tokens) = ap Ok (sym (append_assoc front back tokens))
put_before_more front back (Err at) = refl

piece_lexed : (piece : Piece) (front more : List ℕ) (at : ℕ) → IsLongest piece front more
    → lexed 0 at (front ++ more)
    ≡ put_before (token_of piece at (length front)) (lexed 0 (at + length front) more)
piece_lexed piece front more at is =
    lexed_piece (front ++ more) at piece (length front) (longest_found piece front more is)
    (longest_some piece front more is) (omega (arith, length-append front more))
    ∙ ap (λ t. put_before (token_of piece at (length front)) (lexed 0 (at + length front) t))
    (drop-append_seam front more)

pub leads_lexed : (far : ℕ) (rest : List ℕ) (at : ℕ) (text : List ℕ) (tokens : List TokenOf)
    → Leads far rest at text tokens
    → lexed 0 at text ≡ put_before tokens (lexed 0 far rest)
leads_lexed far rest at text tokens no_more = sym (put_before_none (lexed 0 far rest))
leads_lexed far rest at text tokens (a_gap {front = front} {more = more} is leads) =
    piece_lexed Gap front more at is
    ∙ put_before_none (lexed 0 (at + length front) more)
    ∙ leads_lexed far rest (at + length front) more tokens leads
leads_lexed far rest at text tokens
    (a_token {kind = kind} {front = front} {more = more} {tokens = behind} is leads) =
    piece_lexed (Token kind) front more at is
    ∙ ap (put_before (token_of (Token kind) at (length front)))
    (leads_lexed far rest (at + length front) more behind leads)
    ∙ put_before_more (token_of (Token kind) at (length front)) behind (lexed 0 far rest)

-- a text has one list of tokens
pub tokens_lexed : (text : List ℕ) (tokens : List TokenOf) → AreTokens text tokens
    → lexed 0 0 text ≡ Ok tokens
tokens_lexed text tokens are =
    leads_lexed (length text) [] 0 text tokens are ∙ ap Ok (append-nil tokens)

some_left : (rest : List ℕ) → rest ≢ [] → 0 < length rest
some_left [] more = absurd (more refl)
some_left (byte ∷ rest) more = omega arith

-- or one bad place
pub bad_lexed : (text : List ℕ) (at : ℕ) → IsBad text at → lexed 0 0 text ≡ Err at
bad_lexed text at bad =
    leads_lexed at bad.rest 0 text bad.tokens bad.leads
    ∙ ap (put_before bad.tokens)
    (lexed_none bad.rest at (some_left bad.rest bad.more) (found_none bad.rest bad.none))

-- ---- a whole text

pub lexed_tokens : (text : List ℕ) (tokens : List TokenOf) → lexed 0 0 text ≡ Ok tokens
    → AreTokens text tokens
lexed_tokens text tokens is =
    let whole : Outcome 0 text (Ok tokens) =
    subst (Outcome 0 text) is (outcome_is (length text) text 0 (omega arith)) in
    subst (λ n. Leads n [] 0 text tokens) (omega arith) whole

pub lexed_bad : (text : List ℕ) (at : ℕ) → lexed 0 0 text ≡ Err at → IsBad text at
lexed_bad text at is =
    let whole : Outcome 0 text (Err at) =
    subst (Outcome 0 text) is (outcome_is (length text) text 0 (omega arith)) in
    record {
      tokens = whole.tokens;
      rest = whole.rest;
      leads = whole.leads;
      more = whole.more;
      none = whole.none;
    }

-- ---- the loop

-- one more piece
pub next_piece : (text : List ℕ) (found next : List TokenOf) (at : ℕ) (piece : Piece) (len : ℕ)
    → lexed 0 0 text ≡ put_before found (lexed 0 at (drop at text))
    → piece_reading (take (length text - at) (drop at text)) ≡ Some (piece, len)
    → next ≡ found ++ token_of piece at len
    → lexed 0 0 text ≡ put_before next (lexed 0 (at + len) (drop (at + len) text))
next_piece text found next at piece len so_far is push =
    let rest = drop at text in
    let here : piece_reading rest ≡ Some (piece, len) = rw take_rest at is in
    let a : Found rest piece len = found_longest rest piece len here in
    so_far
    ∙ ap (put_before found) (lexed_piece rest at piece len here a.some a.within)
    ∙ put_before_more found (token_of piece at len) (lexed 0 (at + len) (drop len rest))
    ∙ ap (λ t. put_before t (lexed 0 (at + len) (drop len rest))) (sym push)
    ∙ ap (λ t. put_before next (lexed 0 (at + len) t)) (drop-drop len at text)

-- ---- the answers

from_or_bad : (r : Result (List TokenOf) ℕ) (tokens : List TokenOf) → or_bad r ≡ Ok tokens
    → r ≡ Ok tokens
from_or_bad (Ok found) tokens is = cc is
from_or_bad (Err at) tokens is = absurd (cc is)

bad_from_or_bad : (r : Result (List TokenOf) ℕ) (at : ℕ) → or_bad r ≡ Err (BadToken at) → r ≡ Err at
bad_from_or_bad (Ok found) at is = absurd (cc is)
bad_from_or_bad (Err other) at is = cc is

pub given_tokens : (text : List ℕ) (r : Result (List TokenOf) LexFault)
    → Gives r (or_bad (lexed 0 0 text))
    → IfOk r (AreTokens text)
given_tokens text (Ok tokens) is = lexed_tokens text tokens (from_or_bad (lexed 0 0 text) tokens is)
given_tokens text (Err fault) is = tt

pub given_bad : (text : List ℕ) (r : Result (List TokenOf) LexFault) (at : ℕ)
    → Gives r (or_bad (lexed 0 0 text))
    → r ≡ Err (BadToken at) → IsBad text at
given_bad text r at is bad =
    lexed_bad text at
    (bad_from_or_bad (lexed 0 0 text) at
    (subst (λ a. Gives a (or_bad (lexed 0 0 text))) bad is))

pub reading_short : (text : List ℕ) → length text ≤ 16384 → reading text ≡ or_bad (lexed 0 0 text)
unfolding reading
reading_short text few =
    let short : nat_lt 16384 (length text) ≡ false = grind (arith, nat_tests) in rw short refl

pub reading_long : (text : List ℕ) → 16384 < length text
    → reading text ≡ Err (TooLong (length text))
unfolding reading
reading_long text many =
    let long : nat_lt 16384 (length text) ≡ true = grind (arith, nat_tests) in rw long refl

pub given_reading : (text : List ℕ) (r : Result (List TokenOf) LexFault) → length text ≤ 16384
    → Gives r (or_bad (lexed 0 0 text)) → Gives r (reading text)
given_reading text r few is = subst (Gives r) (sym (reading_short text few)) is

-- ---- the laws for those who use them

cases_short : (text : List ℕ) → (length text ≤ 16384) ⊎ (16384 < length text)
cases_short text = ⊎_elim (λ more. inr more) (λ few. inl few) (cases_lt 16384 (length text))

-- the reading of a text is its tokens, and each list of its tokens is this one
pub reading_tokens : (text : List ℕ) (tokens : List TokenOf) → reading text ≡ Ok tokens
    → AreTokens text tokens
reading_tokens text tokens is = ⊎_elim
    (λ few. lexed_tokens text tokens
    (from_or_bad (lexed 0 0 text) tokens (sym (reading_short text few) ∙ is)))
    (λ many. absurd (cc (reading_long text many, is)))
    (cases_short text)

pub tokens_reading : (text : List ℕ) (tokens : List TokenOf) → length text ≤ 16384
    → AreTokens text tokens
    → reading text ≡ Ok tokens
tokens_reading text tokens few are = reading_short text few
    ∙ ap or_bad (tokens_lexed text tokens are)

pub bad_reading : (text : List ℕ) (at : ℕ) → length text ≤ 16384 → IsBad text at
    → reading text ≡ Err (BadToken at)
bad_reading text at few bad = reading_short text few ∙ ap or_bad (bad_lexed text at bad)

-- a text has one list of tokens
pub one_list : (text : List ℕ) (one other : List TokenOf) → AreTokens text one
    → AreTokens text other → one ≡ other
one_list text one other are are_too =
    let first = tokens_lexed text one are in
    let second = tokens_lexed text other are_too in
    cc (first, second)
