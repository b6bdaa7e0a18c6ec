-- Numbers: what the machine reads from the phases of these, by what may follow each phase.
use Rattle.std.specs.Prelude.{◌≡◌, ◌⊎◌, ℕ, suc, ◌+◌, ◌<◌, ℤ, pos, ◌-ℤ◌, Bool, true, false, List, [], ◌∷◌, ◌++◌, length, Some, None, codes, ◌==◌}
use Rattle.std.specs.Char.{is_ascii_digit}
use Rattle.std.specs.Str.Parse.{digits_value}
use Rattle.std.proofs.Common.{cond, refl, arith, sym, ap, subst, ◌∙◌, inl, inr, ⊎_elim, append_assoc}
use Rattle.std.proofs.lemmas.Bool.{eqb-true, or_cases}
use Rattle.vm_base.specs.Number.{signed}
use Rattle.vm_decimal.specs.Spelled.{IsDigits, IsSign, IsOptionalExponent, IsAnyNumber}
use Rattle.mql_lex.specs.Grammar.{is_sign}
use Rattle.mql_lex.specs.Machine.{is_mark_letter}
use Rattle.mql_lex.specs.declared.phase.Phase.TheVariants.{Bare, Fraction, Marked, MarkSigned, Power}
use Rattle.mql_lex.specs.declared.piece.Piece.{Piece}
use Rattle.mql_lex.specs.declared.piece.Piece.TheVariants.{Token}
use Rattle.mql_lex.specs.declared.token.TokenKind.TheVariants.{Number}
use Rattle.mql_lex.proofs.Moves.{Reads, Goes}

-- ---- the exponent

power_tail : (text : List ℕ) (piece : Piece) → Reads Power text piece → (piece ≡ Token Number)
    × IsDigits text
power_tail [] piece reads = (cc reads, tt)
power_tail (byte ∷ more) piece reads = go (is_ascii_digit byte) refl reads (power_tail more piece)
  where
    go : (d : Bool) → is_ascii_digit byte ≡ d → Goes (cond d (Some Power) None) more piece
        → (Reads Power more piece → (piece ≡ Token Number) × IsDigits more)
        → (piece ≡ Token Number) × IsDigits (byte ∷ more)
    go true is reads tail = let rest = tail reads in (rest.0, (is, rest.1))
    go false is reads tail = absurd (cc reads)

-- digits, one or more
record Digits (text : List ℕ) : Type 0 where
  pub some : 0 < length text
  pub are : IsDigits text

first_power : (byte : ℕ) (more : List ℕ) (piece : Piece) → is_ascii_digit byte ≡ true
    → Reads Power more piece
    → (piece ≡ Token Number) × Digits (byte ∷ more)
first_power byte more piece is reads =
    let rest = power_tail more piece reads in
    (rest.0, record { some = omega arith; are = (is, rest.1) })

signed_tail : (text : List ℕ) (piece : Piece) → Reads MarkSigned text piece → (piece ≡ Token Number)
    × Digits text
signed_tail [] piece reads = absurd (cc reads)
signed_tail (byte ∷ more) piece reads = go (is_ascii_digit byte) refl reads
  where
    go : (d : Bool) → is_ascii_digit byte ≡ d → Goes (cond d (Some Power) None) more piece
        → (piece ≡ Token Number) × Digits (byte ∷ more)
    go true is reads = first_power byte more piece is reads
    go false is reads = absurd (cc reads)

-- what stands after the letter of an exponent
record AfterMark (text : List ℕ) : Type 0 where
  pub sign : List ℕ
  pub digits : List ℕ
  pub negative : Bool
  pub parts : text ≡ sign ++ digits
  pub a_sign : IsSign negative sign
  pub power : Digits digits

a_sign_mark : (byte : ℕ) (digits : List ℕ) → is_sign byte ≡ true → Digits digits
    → AfterMark (byte ∷ digits)
a_sign_mark byte digits is power =
    ⊎_elim
    (λ plus. let same = eqb-true byte 43 plus in
    record {
      sign = byte ∷ [];
      digits = digits;
      negative = false;
      parts = refl;
      a_sign = inl (ap (λ b. b ∷ []) same);
      power = power;
    })
    (λ minus. let same = eqb-true byte 45 minus in
    record {
      sign = byte ∷ [];
      digits = digits;
      negative = true;
      parts = refl;
      a_sign = ap (λ b. b ∷ []) same;
      power = power;
    })
    (or_cases (byte == 43) (byte == 45) is)

marked_tail : (text : List ℕ) (piece : Piece) → Reads Marked text piece → (piece ≡ Token Number)
    × AfterMark text
marked_tail [] piece reads = absurd (cc reads)
marked_tail (byte ∷ more) piece reads = go (is_ascii_digit byte) (is_sign byte) refl refl reads
  where
    go : (d s : Bool) → is_ascii_digit byte ≡ d → is_sign byte ≡ s
        → Goes (cond d (Some Power) (cond s (Some MarkSigned) None)) more piece
        → (piece ≡ Token Number) × AfterMark (byte ∷ more)
    go true s is other reads =
        let rest = first_power byte more piece is reads in (
          rest.0,
          record {
            sign = [];
            digits = byte ∷ more;
            negative = false;
            parts = refl;
            a_sign = inr refl;
            power = rest.1;
          },
        )
    go false true is other reads =
        let rest = signed_tail more piece reads in (rest.0, a_sign_mark byte more other rest.1)
    go false false is other reads = absurd (cc reads)

-- an exponent or nothing
pub record Ending (text : List ℕ) : Type 0 where
  pub power : ℤ
  pub is : IsOptionalExponent text power

no_exponent : Ending []
no_exponent = record { power = pos 0; is = inl (refl, refl) }

an_exponent : (byte : ℕ) (more : List ℕ) → is_mark_letter byte ≡ true → AfterMark more
    → Ending (byte ∷ more)
an_exponent byte more is after = record {
  power = signed after.negative (digits_value 10 after.digits);
  is = inr (record {
    letter = byte ∷ [];
    sign = after.sign;
    digits = after.digits;
    negative = after.negative;
    parts = ap (λ t. byte ∷ t) after.parts;
    a_letter = ⊎_elim
        (λ small. inl (ap (λ b. b ∷ []) (eqb-true byte 101 small)))
        (λ large. inr (ap (λ b. b ∷ []) (eqb-true byte 69 large)))
        (or_cases (byte == 101) (byte == 69) is);
    a_sign = after.a_sign;
    all_digits = after.power.are;
    a_digit = after.power.some;
    power_is = refl;
  });
}

-- ---- the digits of a number

-- more digits and an exponent or nothing
pub record Rest (text : List ℕ) : Type 0 where
  pub digits : List ℕ
  pub end : List ℕ
  pub parts : text ≡ digits ++ end
  pub are : IsDigits digits
  pub ending : Ending end

one_digit_more : (byte : ℕ) (more : List ℕ) → is_ascii_digit byte ≡ true → Rest more
    → Rest (byte ∷ more)
one_digit_more byte more is rest = record {
  digits = byte ∷ rest.digits;
  end = rest.end;
  parts = ap (λ t. byte ∷ t) rest.parts;
  are = (is, rest.are);
  ending = rest.ending;
}

ended : (end : List ℕ) → Ending end → Rest end
ended end ending = record { digits = []; end = end; parts = refl; are = tt; ending = ending }

fraction_tail : (text : List ℕ) (piece : Piece) → Reads Fraction text piece → (piece ≡ Token Number)
    × Rest text
fraction_tail [] piece reads = (cc reads, ended [] no_exponent)
fraction_tail (byte ∷ more) piece reads =
    go (is_ascii_digit byte) (is_mark_letter byte) refl refl reads (fraction_tail more piece)
  where
    go : (d m : Bool) → is_ascii_digit byte ≡ d → is_mark_letter byte ≡ m
        → Goes (cond d (Some Fraction) (cond m (Some Marked) None)) more piece
        → (Reads Fraction more piece → (piece ≡ Token Number) × Rest more)
        → (piece ≡ Token Number) × Rest (byte ∷ more)
    go true m is other reads tail =
        let rest = tail reads in (rest.0, one_digit_more byte more is rest.1)
    go false true is other reads tail =
        let after = marked_tail more piece reads in
        (after.0, ended (byte ∷ more) (an_exponent byte more other after.1))
    go false false is other reads tail = absurd (cc reads)

-- a mantissa and what stands after it
number_of : (whole point fraction end : List ℕ) → IsDigits whole → IsDigits fraction
    → 0 < length whole + length fraction → (point ≡ codes ".") ⊎ ((point ≡ []) × (fraction ≡ []))
    → Ending end → IsAnyNumber (whole ++ (point ++ (fraction ++ end)))
number_of whole point fraction end whole_are fraction_are some one_point ending = (
  record {
    negative = false;
    digits = digits_value 10 (whole ++ fraction);
    exponent = ending.power -ℤ pos (length fraction);
  },
  record {
    sign = [];
    mantissa = whole ++ (point ++ fraction);
    exponent = end;
    places = length fraction;
    power = ending.power;
    parts = simp append_assoc;
    a_sign = inr refl;
    a_mantissa = record {
      whole = whole;
      point = point;
      fraction = fraction;
      parts = refl;
      whole_digits = whole_are;
      fraction_digits = fraction_are;
      a_digit = some;
      one_point = one_point;
      digits_are = refl;
      places_are = refl;
    };
    an_exponent = ending.is;
    exponent_is = refl;
  },
)

some_digits : (digits : List ℕ) → 0 < 0 + suc (length digits)
some_digits digits = omega arith

-- a number without digits before its point
pub bare_number : (text : List ℕ) (piece : Piece) → Reads Bare text piece
    → (piece ≡ Token Number) × IsAnyNumber (46 ∷ text)
bare_number [] piece reads = absurd (cc reads)
bare_number (byte ∷ more) piece reads = go (is_ascii_digit byte) refl reads
  where
    go : (d : Bool) → is_ascii_digit byte ≡ d → Goes (cond d (Some Fraction) None) more piece
        → (piece ≡ Token Number) × IsAnyNumber (46 ∷ byte ∷ more)
    go true is reads =
        let tail = fraction_tail more piece reads in
        let rest = tail.1 in
        let whole : IsAnyNumber (46 ∷ byte ∷ (rest.digits ++ rest.end)) =
        number_of [] (codes ".") (byte ∷ rest.digits) rest.end tt (is, rest.are)
        (some_digits rest.digits) (inl refl) rest.ending in
        (tail.0, subst (λ t. IsAnyNumber (46 ∷ byte ∷ t)) (sym rest.parts) whole)
    go false is reads = absurd (cc reads)

-- what follows the digits of a number: a point, digits and an ending, or an ending
pub data NumberTail (text : List ℕ) : Type 0 where
  no_point : Ending text → NumberTail text
  a_point : (rest : List ℕ) → text ≡ 46 ∷ rest → Rest rest → NumberTail text

pub number_by : (digits text : List ℕ) → 0 < length digits → IsDigits digits → NumberTail text
    → IsAnyNumber (digits ++ text)
number_by digits text some are (no_point ending) =
    number_of digits [] [] text are tt (omega arith) (inr (refl, refl)) ending
number_by digits text some are (a_point rest point behind) =
    let whole : IsAnyNumber (digits ++ (46 ∷ (behind.digits ++ behind.end))) =
    number_of digits (codes ".") behind.digits behind.end are behind.are (omega arith) (inl refl)
    behind.ending in
    subst (λ t. IsAnyNumber (digits ++ t)) (sym (point ∙ ap (λ t. 46 ∷ t) behind.parts)) whole

pub no_more_number : NumberTail []
no_more_number = no_point no_exponent

pub point_tail : (more : List ℕ) (piece : Piece) → Reads Fraction more piece
    → (piece ≡ Token Number) × NumberTail (46 ∷ more)
point_tail more piece reads = let tail =
    fraction_tail more piece reads in (tail.0, a_point more refl tail.1)

pub mark_tail : (byte : ℕ) (more : List ℕ) (piece : Piece) → is_mark_letter byte ≡ true
    → Reads Marked more piece
    → (piece ≡ Token Number) × NumberTail (byte ∷ more)
mark_tail byte more piece is reads =
    let tail = marked_tail more piece reads in (tail.0, no_point (an_exponent byte more is tail.1))
