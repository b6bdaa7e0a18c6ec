-- Durations, and what follows digits: the rest of a number or of a duration.
use Rattle.std.specs.Prelude.{◌≡◌, ◌⊎◌, ℕ, ◌<◌, Bool, true, false, List, [], ◌∷◌, ◌++◌, length, Some, None, codes, ◌==◌}
use Rattle.std.specs.Char.{is_ascii_digit}
use Rattle.std.proofs.Common.{cond, refl, arith, sym, ap, subst, ◌∙◌, inl, inr, ⊎_elim, append_assoc, append-nil}
use Rattle.std.proofs.lemmas.Bool.{eqb-true}
use Rattle.vm_decimal.specs.Spelled.{IsDigits}
use Rattle.mql_lex.specs.Grammar.{IsCount, IsDuration, one_count, more_counts, IsOneOf, units}
use Rattle.mql_lex.specs.Machine.{behind_count, behind_whole, is_unit, is_mark_letter}
use Rattle.mql_lex.specs.declared.phase.Phase.TheVariants.{Whole, Fraction, Marked, Minutes, Counted, Counting}
use Rattle.mql_lex.specs.declared.piece.Piece.{Piece}
use Rattle.mql_lex.specs.declared.piece.Piece.TheVariants.{Token}
use Rattle.mql_lex.specs.declared.token.TokenKind.TheVariants.{Number, Duration}
use Rattle.mql_lex.proofs.Moves.{Reads, Goes, one_at, any_byte}
use Rattle.mql_lex.proofs.Numbers.{NumberTail, no_more_number, point_tail, mark_tail}

-- nothing, or another duration
abbrev Counts : List ℕ → Type 0
Counts text = (text ≡ []) ⊎ IsDuration text

-- a unit and what stands after it
pub record UnitTail (text : List ℕ) : Type 0 where
  pub unit : List ℕ
  pub rest : List ℕ
  pub parts : text ≡ unit ++ rest
  pub a_unit : IsOneOf units unit
  pub counts : Counts rest

-- digits, a unit and what stands after it
record CountTail (text : List ℕ) : Type 0 where
  pub digits : List ℕ
  pub rest : List ℕ
  pub parts : text ≡ digits ++ rest
  pub are : IsDigits digits
  pub tail : UnitTail rest

pub duration_by : (digits text : List ℕ) → 0 < length digits → IsDigits digits → UnitTail text
    → IsDuration (digits ++ text)
duration_by digits text some are tail =
    let count : IsCount (digits ++ tail.unit) =
    record {
      digits = digits;
      unit = tail.unit;
      parts = refl;
      some = some;
      are = are;
      a_unit = tail.a_unit;
    } in
    ⊎_elim
    (λ none.
    subst (λ t. IsDuration (digits ++ t))
    (sym (tail.parts ∙ ap (λ t. tail.unit ++ t) none ∙ append-nil tail.unit))
    (one_count count))
    (λ more.
    subst IsDuration
    (append_assoc digits tail.unit tail.rest ∙ ap (λ t. digits ++ t) (sym tail.parts))
    (more_counts count more))
    tail.counts

-- digits after a unit are a duration
from_tail : (byte : ℕ) (more : List ℕ) → is_ascii_digit byte ≡ true → CountTail more
    → IsDuration (byte ∷ more)
from_tail byte more is tail =
    subst (λ t. IsDuration (byte ∷ t)) (sym tail.parts)
    (duration_by (byte ∷ tail.digits) tail.rest (omega arith) (is, tail.are) tail.tail)

one_byte_unit : (byte : ℕ) → is_unit byte ≡ true → IsOneOf units (byte ∷ [])
one_byte_unit byte is =
    any_byte (λ b. IsOneOf units (b ∷ [])) (codes "shdwyi") byte (
      one_at 1 units (codes "s") refl,
      (
        one_at 3 units (codes "h") refl,
        (
          one_at 4 units (codes "d") refl,
          (
            one_at 5 units (codes "w") refl,
            (one_at 6 units (codes "y") refl, (one_at 7 units (codes "i") refl, tt)),
          ),
        ),
      ),
    ) is

-- ---- what the machine reads

module _ (piece : Piece) where
  abbrev FromCounted : List ℕ → Type 0
  FromCounted text = Reads Counted text piece → (piece ≡ Token Duration) × Counts text

  abbrev FromCounting : List ℕ → Type 0
  FromCounting text = Reads Counting text piece → (piece ≡ Token Duration) × CountTail text

  abbrev FromMinutes : List ℕ → Type 0
  FromMinutes text = Reads Minutes text piece → (piece ≡ Token Duration) × UnitTail (109 ∷ text)

  behind_unit : (byte : ℕ) (more : List ℕ) → FromCounting more → FromCounted (byte ∷ more)
  behind_unit byte more tail reads = go (is_ascii_digit byte) refl reads
    where
      go : (d : Bool) → is_ascii_digit byte ≡ d → Goes (cond d (Some Counting) None) more piece
          → (piece ≡ Token Duration) × Counts (byte ∷ more)
      go true is reads = let rest = tail reads in (rest.0, inr (from_tail byte more is rest.1))
      go false is reads = absurd (cc reads)

  -- after digits, a unit
  from_unit : (byte : ℕ) (more : List ℕ) → FromMinutes more → FromCounted more
      → Goes (behind_count byte) more piece → (piece ≡ Token Duration) × UnitTail (byte ∷ more)
  from_unit byte more minutes counted reads = go (byte == 109) (is_unit byte) refl refl reads
    where
      go : (m u : Bool) → (byte == 109) ≡ m → is_unit byte ≡ u
          → Goes (cond m (Some Minutes) (cond u (Some Counted) None)) more piece
          → (piece ≡ Token Duration) × UnitTail (byte ∷ more)
      go true u is other reads =
          let rest = minutes reads in
          (rest.0, subst (λ b. UnitTail (b ∷ more)) (sym (eqb-true byte 109 is)) rest.1)
      go false true is other reads =
          let rest = counted reads in (
            rest.0,
            record {
              unit = byte ∷ [];
              rest = more;
              parts = refl;
              a_unit = one_byte_unit byte other;
              counts = rest.1;
            },
          )
      go false false is other reads = absurd (cc reads)

  behind_digit : (byte : ℕ) (more : List ℕ) → FromCounting more → FromMinutes more
      → FromCounted more
      → FromCounting (byte ∷ more)
  behind_digit byte more counting minutes counted reads = go (is_ascii_digit byte) refl reads
    where
      go : (d : Bool) → is_ascii_digit byte ≡ d
          → Goes (cond d (Some Counting) (behind_count byte)) more piece
          → (piece ≡ Token Duration) × CountTail (byte ∷ more)
      go true is reads =
          let tail = counting reads in
          let rest = tail.1 in (
            tail.0,
            record {
              digits = byte ∷ rest.digits;
              rest = rest.rest;
              parts = ap (λ t. byte ∷ t) rest.parts;
              are = (is, rest.are);
              tail = rest.tail;
            },
          )
      go false is reads =
          let rest = from_unit byte more minutes counted reads in (
            rest.0,
            record { digits = []; rest = byte ∷ more; parts = refl; are = tt; tail = rest.1 },
          )

  behind_minutes : (byte : ℕ) (more : List ℕ) → FromCounting more → FromCounted more
      → FromMinutes (byte ∷ more)
  behind_minutes byte more counting counted reads =
      go (is_ascii_digit byte) (byte == 115) refl refl reads
    where
      go : (d s : Bool) → is_ascii_digit byte ≡ d → (byte == 115) ≡ s
          → Goes (cond d (Some Counting) (cond s (Some Counted) None)) more piece
          → (piece ≡ Token Duration) × UnitTail (109 ∷ byte ∷ more)
      go true s is other reads =
          let rest = counting reads in (
            rest.0,
            record {
              unit = codes "m";
              rest = byte ∷ more;
              parts = refl;
              a_unit = inr (inr (inl refl));
              counts = inr (from_tail byte more is rest.1);
            },
          )
      go false true is other reads =
          let rest = counted reads in (
            rest.0,
            record {
              unit = codes "ms";
              rest = more;
              parts = ap (λ b. 109 ∷ b ∷ more) (eqb-true byte 115 other);
              a_unit = inl refl;
              counts = rest.1;
            },
          )
      go false false is other reads = absurd (cc reads)

  mutual
    pub counted_tail : (text : List ℕ) → FromCounted text
    counted_tail [] reads = (cc reads, inl refl)
    counted_tail (byte ∷ more) reads = behind_unit byte more (counting_tail more) reads

    counting_tail : (text : List ℕ) → FromCounting text
    counting_tail [] reads = absurd (cc reads)
    counting_tail (byte ∷ more) reads =
        behind_digit byte more (counting_tail more) (minutes_tail more) (counted_tail more) reads

    pub minutes_tail : (text : List ℕ) → FromMinutes text
    minutes_tail [] reads = (
      cc reads,
      record {
        unit = codes "m";
        rest = [];
        parts = refl;
        a_unit = inr (inr (inl refl));
        counts = inl refl;
      },
    )
    minutes_tail (byte ∷ more) reads =
        behind_minutes byte more (counting_tail more) (counted_tail more) reads

-- ---- what follows digits

pub data WholeTail (piece : Piece) (text : List ℕ) : Type 0 where
  of_number : piece ≡ Token Number → NumberTail text → WholeTail piece text
  of_duration : piece ≡ Token Duration → UnitTail text → WholeTail piece text

-- digits, and the rest of a number or of a duration
pub record DigitsTail (piece : Piece) (text : List ℕ) : Type 0 where
  pub digits : List ℕ
  pub rest : List ℕ
  pub parts : text ≡ digits ++ rest
  pub are : IsDigits digits
  pub tail : WholeTail piece rest

module _ (piece : Piece) where
  behind_number : (byte : ℕ) (more : List ℕ) → Goes (behind_whole byte) more piece
      → WholeTail piece (byte ∷ more)
  behind_number byte more reads = go (byte == 46) (is_mark_letter byte) refl refl reads
    where
      go : (p m : Bool) → (byte == 46) ≡ p → is_mark_letter byte ≡ m
          → Goes (cond p (Some Fraction) (cond m (Some Marked) (behind_count byte))) more piece
          → WholeTail piece (byte ∷ more)
      go true m is other reads =
          let tail = point_tail more piece reads in
          of_number tail.0 (subst (λ b. NumberTail (b ∷ more)) (sym (eqb-true byte 46 is)) tail.1)
      go false true is other reads =
          let tail = mark_tail byte more piece other reads in of_number tail.0 tail.1
      go false false is other reads =
          let tail =
          from_unit piece byte more (minutes_tail piece more) (counted_tail piece more) reads in
          of_duration tail.0 tail.1

  pub whole_tail : (text : List ℕ) → Reads Whole text piece → DigitsTail piece text
  whole_tail [] reads =
      record {
        digits = [];
        rest = [];
        parts = refl;
        are = tt;
        tail = of_number (cc reads) no_more_number;
      }
  whole_tail (byte ∷ more) reads = go (is_ascii_digit byte) refl reads (whole_tail more)
    where
      go : (d : Bool) → is_ascii_digit byte ≡ d
          → Goes (cond d (Some Whole) (behind_whole byte)) more piece
          → (Reads Whole more piece → DigitsTail piece more) → DigitsTail piece (byte ∷ more)
      go true is reads tail =
          let rest = tail reads in
          record {
            digits = byte ∷ rest.digits;
            rest = rest.rest;
            parts = ap (λ t. byte ∷ t) rest.parts;
            are = (is, rest.are);
            tail = rest.tail;
          }
      go false is reads tail =
          record {
            digits = [];
            rest = byte ∷ more;
            parts = refl;
            are = tt;
            tail = behind_number byte more reads;
          }
