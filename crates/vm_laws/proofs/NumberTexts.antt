-- The text of a sample's value is a number of JSON that is read as the value.
use Rattle.std.specs.Prelude.{◌≡◌, ℕ, zero, suc, ◌+◌, ◌-◌, ◌^◌, ◌<◌, ◌≤◌, ◌==◌, ◌&&◌, nat_lt, nat_le, ℤ, Bool, true, false, List, [], ◌∷◌, ◌++◌, length, take, drop, codes, Some, if◌then◌else◌}
use Rattle.std.specs.Char.{is_ascii_digit, digit_value}
use Rattle.std.specs.Fmt.{decimal}
use Rattle.std.specs.Int.{is_in_range}
use Rattle.std.specs.Str.Parse.{AllDigits}
use Rattle.std.proofs.Common.{get_or, refl, ap, sym, subst, ◌∙◌, ⊎_elim, arith, append_assoc, append-nil, length-append, length-drop}
use Rattle.std.proofs.lemmas.Bool.{cases_lt, cases_eq}
use Rattle.std.proofs.lemmas.Bool.Decides.{nat_tests}
use Rattle.std.proofs.lemmas.Fmt.{decimal_is_IsNumeral, first_decimal, length-decimal-le}
use Rattle.vm_base.specs.Number.{form_of}
use Rattle.vm_base.specs.Sample.{is_sample}
use Rattle.vm_base.proofs.SampleLaws.{IsSampleForm-form_of}
use Rattle.vm_decimal.specs.NumberText.{noughts, plain, power, fraction, scientific, size_text, sign, number_text}
use Rattle.vm_decimal.specs.SampleReading.{sample_reading}
use Rattle.vm_laws.proofs.PrintedSamples.{sample_printed}
use Rattle.vm_decimal.proofs.PrintedTexts.{drop_digits, take_digits, append_digits, noughts_digits}
use Rattle.vm_json.specs.Grammar.{IsDigits, IsWhole, nought, whole, IsFraction, no_fraction, fraction as a_fraction, is_sign, IsExponent, no_exponent, signed_exponent, IsNumber, positive, negative}
use Rattle.vm_jsonline.specs.Series.{value_of}

-- the digits of a number above 0, of which the first isn't a zero

digit_from_value : (b : ℕ) → digit_value b < 10 → is_ascii_digit b ≡ true
digit_from_value b few = grind (arith, nat_tests)

pub are_digits : (ds : List ℕ) → AllDigits 10 ds → IsDigits ds
are_digits [] all = tt
are_digits (b ∷ ds) all = (digit_from_value b all.0, are_digits ds all.1)

above_nought : (b : ℕ) → is_ascii_digit b ≡ true → 48 < b → is_in_range 49 57 b ≡ true
above_nought b is some = grind (arith, nat_tests)

pub record Numeral (ds : List ℕ) : Type 0 where
  pub first : ℕ
  pub rest : List ℕ
  pub parts : ds ≡ first ∷ rest
  pub above : is_in_range 49 57 first ≡ true
  pub digits : IsDigits ds

pub numeral : (n : ℕ) → 0 < n → n < 2 ^ 64 → Numeral (decimal n)
numeral n some few = go (decimal n) refl
  where
    go : (ds : List ℕ) → decimal n ≡ ds → Numeral (decimal n)
    go [] is =
        let above = (decimal_is_IsNumeral n few).0.0 in
        let none = ap length is in
        absurd (omega arith)
    go (b ∷ ds) is =
        let all = are_digits (decimal n) (decimal_is_IsNumeral n few).0.1 in
        let digits : IsDigits (b ∷ ds) = subst (λ d. IsDigits d) is all in
        let first : 48 < b = subst (λ d. 48 < get_or d 0 0) is (first_decimal n some few) in
        record {
          first = b;
          rest = ds;
          parts = is;
          above = above_nought b digits.0 first;
          digits = all;
        }

-- some digits
record Some_digits (ds : List ℕ) : Type 0 where
  pub some : 0 < length ds
  pub digits : IsDigits ds

digits_of : (n : ℕ) → n < 2 ^ 64 → Some_digits (decimal n)
digits_of n few =
    let is = decimal_is_IsNumeral n few in
    record { some = is.0.0; digits = are_digits (decimal n) is.0.1 }

-- a number without a sign, by its parts
record Plain (text : List ℕ) : Type 0 where
  pub w : List ℕ
  pub f : List ℕ
  pub e : List ℕ
  pub parts : text ≡ w ++ (f ++ e)
  pub a_whole : IsWhole w
  pub a_fraction : IsFraction f
  pub an_exponent : IsExponent e

fraction_of : (ds : List ℕ) → Some_digits ds → IsFraction (46 ∷ ds)
fraction_of [] is = let some = is.some in absurd (omega arith)
fraction_of (b ∷ ds) is = let all = is.digits in a_fraction b all.0 all.1

exponent_of : (s : ℕ) (ds : List ℕ) → is_sign s ≡ true → Some_digits ds → IsExponent (101 ∷ s ∷ ds)
exponent_of s [] signs is = let some = is.some in absurd (omega arith)
exponent_of s (b ∷ ds) signs is = let all =
    is.digits in signed_exponent 101 s b refl signs all.0 all.1

whole_only : (b : ℕ) (ds : List ℕ) → is_in_range 49 57 b ≡ true → IsDigits ds → Plain (b ∷ ds)
whole_only b ds above all = record {
  w = b ∷ ds;
  f = [];
  e = [];
  parts = sym (append-nil (b ∷ ds));
  a_whole = whole b above all;
  a_fraction = no_fraction;
  an_exponent = no_exponent;
}

-- the point among the digits
point_among : (b : ℕ) (ds : List ℕ) (w : ℕ) → is_in_range 49 57 b ≡ true → IsDigits ds → 0 < w
    → w < length (b ∷ ds)
    → Plain (take w (b ∷ ds) ++ codes "." ++ drop w (b ∷ ds))
point_among b ds zero above all some less = absurd (omega arith)
point_among b ds (suc w) above all some less = record {
  w = b ∷ take w ds;
  f = 46 ∷ drop w ds;
  e = [];
  parts = append_assoc (b ∷ take w ds) (codes ".") (drop w ds)
      ∙ ap (λ t. (b ∷ take w ds) ++ t) (sym (append-nil (46 ∷ drop w ds)));
  a_whole = whole b above (take_digits w ds all);
  a_fraction = fraction_of (drop w ds) (record {
    some = omega (arith, length-drop w ds);
    digits = drop_digits w ds all;
  });
  an_exponent = no_exponent;
}

below_one : (ds : List ℕ) (z : ℕ) → Some_digits ds → Plain (codes "0." ++ noughts z ++ ds)
below_one ds z is = record {
  w = codes "0";
  f = 46 ∷ (noughts z ++ ds);
  e = [];
  parts = append_assoc (codes "0.") (noughts z) ds
      ∙ ap (λ t. codes "0" ++ t) (sym (append-nil (46 ∷ (noughts z ++ ds))));
  a_whole = nought;
  a_fraction = fraction_of (noughts z ++ ds) (record {
    some = (let some = is.some in omega (arith, length-append (noughts z) ds));
    digits = append_digits (noughts z) ds (noughts_digits z) is.digits;
  });
  an_exponent = no_exponent;
}

plain_is : (b : ℕ) (ds : List ℕ) (shift : ℕ) → is_in_range 49 57 b ≡ true → IsDigits (b ∷ ds)
    → Plain (plain (b ∷ ds) shift)
plain_is b ds shift above all =
    ⊎_elim
    (λ (low : shift < 1000).
    let no : nat_le 1000 shift ≡ false = grind (arith, nat_tests) in
    ⊎_elim
    (λ (some : 0 < length (b ∷ ds) + shift - 1000).
    let more : nat_lt 0 (length (b ∷ ds) + shift - 1000) ≡ true = grind (arith, nat_tests) in
    rw (no, more)
    (point_among b ds (length (b ∷ ds) + shift - 1000) above all.1 some (omega arith)))
    (λ (none : length (b ∷ ds) + shift - 1000 ≤ 0).
    let less : nat_lt 0 (length (b ∷ ds) + shift - 1000) ≡ false = grind (arith, nat_tests) in
    rw (no, less)
    (below_one (b ∷ ds) (1000 - (length (b ∷ ds) + shift))
    (record { some = omega arith; digits = all })))
    (cases_lt 0 (length (b ∷ ds) + shift - 1000)))
    (λ (high : 1000 ≤ shift).
    let yes : nat_le 1000 shift ≡ true = grind (arith, nat_tests) in
    rw yes (whole_only b (ds ++ noughts (shift - 1000)) above
    (append_digits ds (noughts (shift - 1000)) all.1 (noughts_digits (shift - 1000)))))
    (cases_lt shift 1000)

-- the exponent
power_is : (place : ℕ) → place < 2 ^ 64 → IsExponent (codes "e" ++ power place)
power_is place few =
    ⊎_elim
    (λ (low : place < 1000).
    let yes : nat_lt place 1000 ≡ true = grind (arith, nat_tests) in
    rw yes (exponent_of 45 (decimal (1000 - place)) refl (digits_of (1000 - place) (omega arith))))
    (λ (high : 1000 ≤ place).
    let no : nat_lt place 1000 ≡ false = grind (arith, nat_tests) in
    rw no (exponent_of 43 (decimal (place - 1000)) refl (digits_of (place - 1000) (omega arith))))
    (cases_lt place 1000)

fraction_is : (b : ℕ) (ds : List ℕ) → IsDigits ds → IsFraction (fraction (b ∷ ds))
fraction_is b [] all = no_fraction
fraction_is b (d ∷ ds) all =
    let yes : nat_lt 1 (length (b ∷ d ∷ ds)) ≡ true = grind (arith, nat_tests) in
    rw yes (a_fraction d all.0 all.1)

scientific_is : (b : ℕ) (ds : List ℕ) (place : ℕ) → is_in_range 49 57 b ≡ true → IsDigits ds
    → place < 2 ^ 64
    → Plain (scientific (b ∷ ds) place)
scientific_is b ds place above all few = record {
  w = b ∷ [];
  f = fraction (b ∷ ds);
  e = codes "e" ++ power place;
  parts = append_assoc (b ∷ fraction (b ∷ ds)) (codes "e") (power place);
  a_whole = whole b above tt;
  a_fraction = fraction_is b ds all;
  an_exponent = power_is place few;
}

size_is : (b : ℕ) (ds : List ℕ) (shift : ℕ) → is_in_range 49 57 b ≡ true → IsDigits (b ∷ ds)
    → length (b ∷ ds) + shift - 1 < 2 ^ 64 → Plain (size_text (b ∷ ds) shift)
size_is b ds shift above all few =
    go (nat_le 993 (length (b ∷ ds) + shift - 1) && nat_le (length (b ∷ ds) + shift - 1) 1020) refl
  where
    go : (near : Bool)
        → (nat_le 993 (length (b ∷ ds) + shift - 1) && nat_le (length (b ∷ ds) + shift - 1) 1020)
        ≡ near
        → Plain (size_text (b ∷ ds) shift)
    go true near = rw near (plain_is b ds shift above all)
    go false near = rw near (scientific_is b ds (length (b ∷ ds) + shift - 1) above all.1 few)

-- with a sign
signed_is : (minus : Bool) (text : List ℕ) → Plain text → IsNumber (sign minus ++ text)
signed_is true text p =
    subst (λ t. IsNumber (45 ∷ t)) (sym p.parts)
    (negative p.w p.f p.e p.a_whole p.a_fraction p.an_exponent)
signed_is false text p =
    subst IsNumber (sym p.parts) (positive p.w p.f p.e p.a_whole p.a_fraction p.an_exponent)

pub only_whole : (w : List ℕ) → IsWhole w → IsNumber w
only_whole w is = subst IsNumber (append-nil w) (positive w [] [] is no_fraction no_exponent)

-- the text of a number by its parts
by_parts : (minus : Bool) (size shift : ℕ) → size < 10 ^ 18 → shift ≤ 1350
    → IsNumber (if size == 0 then codes "0" else sign minus ++ size_text (decimal size) shift)
by_parts minus size shift few high =
    ⊎_elim
    (λ (none : size ≡ 0).
    let yes : (size == 0) ≡ true = grind (arith, nat_tests) in
    rw yes (only_whole (codes "0") nought))
    (λ (some : size ≡ 0 → ⊥).
    let no : (size == 0) ≡ false = grind (arith, nat_tests) in
    let n = numeral size (omega arith) (omega arith) in
    let digits : IsDigits (n.first ∷ n.rest) = subst (λ d. IsDigits d) n.parts n.digits in
    let short : length (n.first ∷ n.rest) ≤ 18 =
    subst (λ d. length d ≤ 18) n.parts
    (length-decimal-le 18 size (omega arith) few (omega arith)) in
    rw no (signed_is minus (size_text (decimal size) shift)
    (subst (λ d. Plain (size_text d shift)) (sym n.parts)
    (size_is n.first n.rest shift n.above digits (omega arith)))))
    (cases_eq size 0)

-- the text of a sample's value

pub value_number : (z : ℤ) → is_sample z ≡ true → IsNumber (number_text z)
value_number z is =
    let form = IsSampleForm-form_of z is in
    by_parts (form_of z).negative (form_of z).size (form_of z).shift form.few form.high

pub value_again : (z : ℤ) → is_sample z ≡ true
    → value_of (sample_reading (number_text z)) ≡ Some (Some z)
value_again z is = ap value_of (sample_printed z is)
