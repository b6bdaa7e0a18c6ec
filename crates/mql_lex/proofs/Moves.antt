-- What the machine reads from a phase.
use Rattle.std.specs.Prelude.{◌≡◌, ℕ, zero, suc, List, [], ◌∷◌, ◌++◌, Option, Some, option_and_then, Bool, true, false, ◌||◌, ◌==◌, slice_get}
use Rattle.std.specs.Char.{is_ascii_digit}
use Rattle.std.specs.List.{AllByRecursion, list_any}
use Rattle.std.proofs.Common.{refl, ap, sym, subst, ◌∙◌, inl, inr, ⊎_elim, arith}
use Rattle.std.proofs.lemmas.Bool.{eqb-true}
use Rattle.std.proofs.lemmas.Bool.Decides.{nat_tests}
use Rattle.vm_base.specs.Run.{run, result}
use Rattle.vm_decimal.specs.Spelled.{IsDigits}
use Rattle.vm_labels.specs.Name.{begins_name}
use Rattle.mql_lex.specs.Grammar.{is_sign, IsOneOf}
use Rattle.mql_lex.specs.Machine.{next, piece_of}
use Rattle.mql_lex.specs.declared.phase.Phase.{Phase}
use Rattle.mql_lex.specs.declared.piece.Piece.{Piece}

-- it reads the text to its end from this phase, as this piece
abbrev pub Reads : Phase → List ℕ → Piece → Type 0
Reads phase text piece = result next piece_of phase text ≡ Some piece

-- the same from the phase that one byte leads to, if it leads to one
abbrev pub Goes : Option Phase → List ℕ → Piece → Type 0
Goes phase text piece =
    option_and_then piece_of (option_and_then (λ p. run next p text) phase) ≡ Some piece

pub digit_no_sign : (byte : ℕ) → is_ascii_digit byte ≡ true → is_sign byte ≡ false
digit_no_sign byte is = grind (arith, nat_tests)

pub name_no_digit : (byte : ℕ) → begins_name byte ≡ true → is_ascii_digit byte ≡ false
name_no_digit byte is = grind (arith, nat_tests)

-- a word at its place among words is one of them
pub one_at : (n : ℕ) (words : List (List ℕ)) (word : List ℕ) → slice_get words n ≡ Some word
    → IsOneOf words word
one_at n [] word is = absurd (cc is)
one_at zero (first ∷ words) word is = inl (cc is)
one_at (suc n) (first ∷ words) word is = inr (one_at n words word is)

-- what holds of some bytes holds of each that is one of them
pub any_byte : (P : ℕ → Type 0) (bytes : List ℕ) (byte : ℕ) → AllByRecursion P bytes
    → list_any (λ one. byte == one) bytes ≡ true → P byte
any_byte P [] byte all is = absurd (cc is)
any_byte P (one ∷ bytes) byte all is = go (byte == one) refl is (any_byte P bytes byte all.1)
  where
    go : (t : Bool) → (byte == one) ≡ t → (t || list_any (λ other. byte == other) bytes) ≡ true
        → (list_any (λ other. byte == other) bytes ≡ true → P byte) → P byte
    go true same is more = subst P (sym (eqb-true byte one same)) all.0
    go false same is more = more is

-- digits lead from a phase that they don't leave to itself
pub behind_digits : (phase : Phase)
    → ((byte : ℕ) → is_ascii_digit byte ≡ true → next phase byte ≡ Some phase)
    → (digits rest : List ℕ) (piece : Piece) → IsDigits digits → Reads phase rest piece
    → Reads phase (digits ++ rest) piece
behind_digits phase stays [] rest piece are reads = reads
behind_digits phase stays (byte ∷ digits) rest piece are reads =
    ap (λ o. option_and_then piece_of (option_and_then (λ p. run next p (digits ++ rest)) o))
    (stays byte are.0)
    ∙ behind_digits phase stays digits rest piece are.1 reads

-- one byte leads on
pub move : (phase target : Phase) (byte : ℕ) (more : List ℕ) (piece : Piece)
    → next phase byte ≡ Some target
    → Reads target more piece → Reads phase (byte ∷ more) piece
move phase target byte more piece is reads =
    ap (λ o. option_and_then piece_of (option_and_then (λ p. run next p more) o)) is ∙ reads

-- what holds of some words holds of each that is one of them
pub each_of : (P : List ℕ → Type 0) (words : List (List ℕ)) (text : List ℕ) → AllByRecursion P words
    → IsOneOf words text → P text
each_of P [] text all is = absurd is
each_of P (word ∷ words) text all is =
    ⊎_elim (λ same. subst P (sym same) all.0) (λ more. each_of P words text all.1 more) is
