-- What is printed is read as the same number.
use Rattle.std.specs.Prelude.{◌≡◌, ℕ, zero, suc, ◌+◌, ◌-◌, ◌*◌, ◌%◌, ◌^◌, ◌<◌, ◌≤◌, ◌==◌, ◌&&◌, nat_lt, nat_le, ℤ, pos, ◌+ℤ◌, ◌-ℤ◌, unsigned_abs, Bool, true, false, List, [], ◌∷◌, ◌++◌, length, take, drop, codes, Some, Ok, if◌then◌else◌}
use Rattle.std.specs.Char.{is_ascii_digit, digit_value}
use Rattle.std.specs.Fmt.{decimal}
use Rattle.std.specs.Str.Parse.{AllDigits, digits_value, digits_value_after}
use Rattle.std.proofs.Common.{refl, ap, sym, subst, ◌∙◌, inl, inr, ⊎_elim, arith, append_assoc, append-nil, length-append, length-drop, take_all}
use Rattle.std.proofs.Math.Nat.{pow-suc, mul_assoc}
use Rattle.std.proofs.lemmas.Bool.{cases_lt, cases_eq}
use Rattle.std.proofs.lemmas.Bool.Decides.{nat_tests}
use Rattle.std.proofs.lemmas.Fmt.{decimal_is_IsNumeral_wide}
use Rattle.std.proofs.lemmas.Int.{ints}
use Rattle.std.proofs.lemmas.List.{take-append-drop, length-replicate}
use Rattle.vm_base.specs.Form.{form_of-zero}
use Rattle.vm_base.specs.Number.{signed, number, form_of}
use Rattle.vm_base.proofs.NumberLaws.{number-form_of, form_of-bare, stripped_end, bare, signed-zero}
use Rattle.vm_decimal.specs.Dec.{is_dec, dec_of, IsDecForm}
use Rattle.vm_decimal.specs.DecText.{dec_value, dec_reading, dec_valued, or_too_wide}
use Rattle.vm_decimal.specs.NumberText.{noughts, plain, power, fraction, scientific, size_text, sign, number_text}
use Rattle.vm_decimal.specs.Spelled.{Spelled, IsDigits, IsSign, IsMantissa, IsExponent, IsOptionalExponent, IsNumber}
use Rattle.vm_decimal.proofs.DecForms.{dec_of-form}
use Rattle.vm_decimal.proofs.Decs.{dec_of-zero}
use Rattle.vm_decimal.proofs.Exacts.{dec_of-noughts}
use Rattle.vm_decimal.proofs.NumberReadings.{number_reading-number}
use Rattle.vm_decimal.proofs.NumberTexts.{few_digits}
use Rattle.vm_decimal.proofs.Spellings.{value_append}

-- digits

digit_from_value : (b : ℕ) → digit_value b < 10 → is_ascii_digit b ≡ true
digit_from_value b small = grind (arith, nat_tests)

are_digits : (ds : List ℕ) → AllDigits 10 ds → IsDigits ds
are_digits [] all = tt
are_digits (b ∷ bs) all = (digit_from_value b all.0, are_digits bs all.1)

pub take_digits : (k : ℕ) (ds : List ℕ) → IsDigits ds → IsDigits (take k ds)
take_digits zero ds all = tt
take_digits (suc k) [] all = tt
take_digits (suc k) (b ∷ bs) all = (all.0, take_digits k bs all.1)

pub drop_digits : (k : ℕ) (ds : List ℕ) → IsDigits ds → IsDigits (drop k ds)
drop_digits zero ds all = all
drop_digits (suc k) [] all = tt
drop_digits (suc k) (b ∷ bs) all = drop_digits k bs all.1

pub append_digits : (xs ys : List ℕ) → IsDigits xs → IsDigits ys → IsDigits (xs ++ ys)
append_digits [] ys first more = more
append_digits (x ∷ xs) ys first more = (first.0, append_digits xs ys first.1 more)

pub noughts_digits : (count : ℕ) → IsDigits (noughts count)
noughts_digits zero = tt
noughts_digits (suc count) = (refl, noughts_digits count)

noughts_value : (n count : ℕ) → digits_value_after 10 n (noughts count) ≡ n * 10 ^ count
noughts_value n zero = omega arith
noughts_value n (suc count) =
    let rest : digits_value_after 10 (n * 10 + 0) (noughts count) ≡ (n * 10 + 0) * 10 ^ count =
    noughts_value (n * 10 + 0) count in
    let moved : (n * 10 + 0) * 10 ^ count ≡ n * (10 * 10 ^ count) =
    ap (λ m. m * 10 ^ count) (omega arith) ∙ mul_assoc n 10 (10 ^ count) in
    rest ∙ moved ∙ ap (λ m. n * m) (omega (arith, pow-suc 10 count))

-- the digits of a number
pub record Decimal (size : ℕ) : Type 0 where
  pub digits : IsDigits (decimal size)
  pub some : 0 < length (decimal size)
  pub value : digits_value 10 (decimal size) ≡ size

pub decimal_of : (size : ℕ) → size < 10 ^ 38 → Decimal size
decimal_of size few =
    let is = decimal_is_IsNumeral_wide size (omega arith) in
    record { digits = are_digits (decimal size) is.0.1; some = is.0.0; value = is.1 }

-- a text without a sign that spells a size and a shift
pub record Spells (text : List ℕ) (size shift : ℕ) : Type 0 where
  pub mantissa : List ℕ
  pub exponent : List ℕ
  pub digits : ℕ
  pub places : ℕ
  pub power : ℤ
  pub behind : ℕ
  pub parts : text ≡ mantissa ++ exponent
  pub a_mantissa : IsMantissa mantissa digits places
  pub an_exponent : IsOptionalExponent exponent power
  -- the digits are those of the size and so many zeros, and the exponent counts these
  pub whole : digits ≡ size * 10 ^ behind
  pub last : (power -ℤ pos places) +ℤ pos behind ≡ pos shift -ℤ pos 1000

-- zeros after the digits
plain_whole : (size shift : ℕ) → size < 10 ^ 38 → 1000 ≤ shift
    → Spells (plain (decimal size) shift) size shift
plain_whole size shift few high =
    let ds = decimal size in
    let d = decimal_of size few in
    let some = d.some in
    let k : ℕ = shift - 1000 in
    let text = ds ++ noughts (shift - 1000) in
    let yes : nat_le 1000 shift ≡ true = grind (arith, nat_tests) in
    let is : plain (decimal size) shift ≡ decimal size ++ noughts (shift - 1000) = rw yes refl in
    let value : digits_value 10 (decimal size ++ noughts (shift - 1000)) ≡ size
    * 10 ^ (shift - 1000) =
    value_append 0 ds (noughts k) ∙ ap (λ n. digits_value_after 10 n (noughts k)) d.value
    ∙ noughts_value size k in
    let nil : (decimal size ++ noughts (shift - 1000)) ++ [] ≡ decimal size
    ++ noughts (shift - 1000) =
    append-nil (decimal size ++ noughts (shift - 1000)) in
    let last : (pos 0 -ℤ pos 0) +ℤ pos (shift - 1000) ≡ pos shift -ℤ pos 1000 =
    omega (arith, ints) in
    record {
      mantissa = text;
      exponent = [];
      digits = size * 10 ^ (shift - 1000);
      places = 0;
      power = pos 0;
      behind = shift - 1000;
      parts = is ∙ sym nil;
      a_mantissa = record {
        whole = text;
        point = [];
        fraction = [];
        parts = sym nil;
        whole_digits = append_digits ds (noughts k) d.digits (noughts_digits k);
        fraction_digits = tt;
        a_digit = omega (arith, length-append (decimal size) (noughts (shift - 1000)));
        one_point = inr (refl, refl);
        digits_are = sym (ap (digits_value 10) nil ∙ value);
        places_are = refl;
      };
      an_exponent = inl (refl, refl);
      whole = refl;
      last = last;
    }

-- the point among the digits
plain_point : (size shift : ℕ) → size < 10 ^ 38 → shift < 1000
    → 1000 < length (decimal size) + shift
    → Spells (plain (decimal size) shift) size shift
plain_point size shift few low some =
    let ds = decimal size in
    let d = decimal_of size few in
    let w : ℕ = length ds + shift - 1000 in
    let no : nat_le 1000 shift ≡ false = grind (arith, nat_tests) in
    let more : nat_lt 0 (length (decimal size) + shift - 1000) ≡ true = grind (arith, nat_tests) in
    let is : plain (decimal size) shift
    ≡ take (length (decimal size) + shift - 1000) (decimal size) ++ (codes "."
    ++ drop (length (decimal size) + shift - 1000) (decimal size)) =
    rw (no, more) (append_assoc (take w ds) (codes ".") (drop w ds)) in
    let count : length (drop (length (decimal size) + shift - 1000) (decimal size)) ≡ 1000 - shift =
    length-drop w ds ∙ omega arith in
    let last : (pos 0 -ℤ pos (1000 - shift)) +ℤ pos 0 ≡ pos shift -ℤ pos 1000 =
    omega (arith, ints) in
    record {
      mantissa = take w ds ++ (codes "." ++ drop w ds);
      exponent = [];
      digits = size;
      places = 1000 - shift;
      power = pos 0;
      behind = 0;
      parts = is ∙ sym (append-nil (take w ds ++ (codes "." ++ drop w ds)));
      a_mantissa = record {
        whole = take w ds;
        point = codes ".";
        fraction = drop w ds;
        parts = refl;
        whole_digits = take_digits w ds d.digits;
        fraction_digits = drop_digits w ds d.digits;
        a_digit = omega arith;
        one_point = inl refl;
        digits_are = sym (ap (digits_value 10) (take-append-drop w ds) ∙ d.value);
        places_are = sym count;
      };
      an_exponent = inl (refl, refl);
      whole = omega arith;
      last = last;
    }

-- `0.` and zeros before the digits
plain_fraction : (size shift : ℕ) → size < 10 ^ 38 → shift < 1000
    → length (decimal size) + shift ≤ 1000
    → Spells (plain (decimal size) shift) size shift
plain_fraction size shift few low none =
    let ds = decimal size in
    let d = decimal_of size few in
    let z : ℕ = 1000 - (length ds + shift) in
    let no : nat_le 1000 shift ≡ false = grind (arith, nat_tests) in
    let less : nat_lt 0 (length (decimal size) + shift - 1000) ≡ false = grind (arith, nat_tests) in
    let is : plain (decimal size) shift
    ≡ codes "0." ++ (noughts (1000 - (length (decimal size) + shift)) ++ decimal size) =
    rw (no, less) refl in
    let count : length (noughts (1000 - (length (decimal size) + shift)) ++ decimal size) ≡ 1000
    - shift =
    length-append (noughts z) ds ∙ ap (λ n. n + length ds) (length-replicate z 48) ∙ omega arith in
    let nought : 0 * 10 ^ z ≡ 0 = omega arith in
    let value : digits_value 10 (codes "0" ++ (noughts z ++ ds)) ≡ size =
    value_append 0 (noughts z) ds
    ∙ ap (λ n. digits_value_after 10 n ds) (noughts_value 0 z ∙ nought) ∙ d.value in
    let last : (pos 0 -ℤ pos (1000 - shift)) +ℤ pos 0 ≡ pos shift -ℤ pos 1000 =
    omega (arith, ints) in
    record {
      mantissa = codes "0." ++ (noughts z ++ ds);
      exponent = [];
      digits = size;
      places = 1000 - shift;
      power = pos 0;
      behind = 0;
      parts = is ∙ sym (append-nil (codes "0." ++ (noughts z ++ ds)));
      a_mantissa = record {
        whole = codes "0";
        point = codes ".";
        fraction = noughts z ++ ds;
        parts = refl;
        whole_digits = (refl, tt);
        fraction_digits = append_digits (noughts z) ds (noughts_digits z) d.digits;
        a_digit = omega arith;
        one_point = inl refl;
        digits_are = sym value;
        places_are = sym count;
      };
      an_exponent = inl (refl, refl);
      whole = omega arith;
      last = last;
    }

-- a power of ten with its sign
exponent_is : (place : ℕ) → place < 10 ^ 38
    → IsExponent (codes "e" ++ power place) (pos place -ℤ pos 1000)
exponent_is place few =
    ⊎_elim
    (λ (low : place < 1000).
    let yes : nat_lt place 1000 ≡ true = grind (arith, nat_tests) in
    let d = decimal_of (1000 - place) (omega arith) in
    record {
      letter = codes "e";
      sign = codes "-";
      digits = decimal (1000 - place);
      negative = true;
      parts = rw yes refl;
      a_letter = inl refl;
      a_sign = refl;
      all_digits = d.digits;
      a_digit = d.some;
      power_is = omega (arith, ints, d.value);
    })
    (λ (high : 1000 ≤ place).
    let no : nat_lt place 1000 ≡ false = grind (arith, nat_tests) in
    let d = decimal_of (place - 1000) (omega arith) in
    record {
      letter = codes "e";
      sign = codes "+";
      digits = decimal (place - 1000);
      negative = false;
      parts = rw no refl;
      a_letter = inl refl;
      a_sign = inl refl;
      all_digits = d.digits;
      a_digit = d.some;
      power_is = omega (arith, ints, d.value);
    })
    (cases_lt place 1000)

-- the first digit and the others after a point
front_is : (size : ℕ) → size < 10 ^ 38
    → IsMantissa (take 1 (decimal size) ++ fraction (decimal size)) size (length (decimal size) - 1)
front_is size few =
    let ds = decimal size in
    let d = decimal_of size few in
    let some = d.some in
    let whole_value : digits_value 10 (take 1 (decimal size) ++ drop 1 (decimal size)) ≡ size =
    ap (digits_value 10) (take-append-drop 1 ds) ∙ d.value in
    ⊎_elim
    (λ (more : 1 < length (decimal size)).
    let yes : nat_lt 1 (length (decimal size)) ≡ true = grind (arith, nat_tests) in
    record {
      whole = take 1 ds;
      point = codes ".";
      fraction = drop 1 ds;
      parts = rw yes refl;
      whole_digits = take_digits 1 ds d.digits;
      fraction_digits = drop_digits 1 ds d.digits;
      a_digit = omega (arith, length-drop 1 (decimal size));
      one_point = inl refl;
      digits_are = sym whole_value;
      places_are = sym (length-drop 1 ds);
    })
    (λ (one : length (decimal size) ≤ 1).
    let no : nat_lt 1 (length (decimal size)) ≡ false = grind (arith, nat_tests) in
    let all : take 1 (decimal size) ≡ decimal size = take_all 1 ds one in
    record {
      whole = take 1 ds;
      point = [];
      fraction = [];
      parts = rw no refl;
      whole_digits = take_digits 1 ds d.digits;
      fraction_digits = tt;
      a_digit = omega (arith, ap length all);
      one_point = inr (refl, refl);
      digits_are = sym (ap (digits_value 10) (append-nil (take 1 ds) ∙ all) ∙ d.value);
      places_are = omega arith;
    })
    (cases_lt 1 (length (decimal size)))

scientific_is : (size shift place : ℕ) → size < 10 ^ 38 → place < 10 ^ 38
    → place ≡ length (decimal size) + shift - 1
    → Spells (scientific (decimal size) place) size shift
scientific_is size shift place few near is =
    let ds = decimal size in
    let d = decimal_of size few in
    let some = d.some in
    let last : ((pos place -ℤ pos 1000) -ℤ pos (length (decimal size) - 1)) +ℤ pos 0
    ≡ pos shift -ℤ pos 1000 =
    omega (arith, ints) in
    record {
      mantissa = take 1 ds ++ fraction ds;
      exponent = codes "e" ++ power place;
      digits = size;
      places = length ds - 1;
      power = pos place -ℤ pos 1000;
      behind = 0;
      parts = append_assoc (take 1 ds ++ fraction ds) (codes "e") (power place);
      a_mantissa = front_is size few;
      an_exponent = inr (exponent_is place near);
      whole = omega arith;
      last = last;
    }

-- a size and a shift as they are written
pub size_spells : (size shift : ℕ) → size < 10 ^ 38 → shift ≤ 2000 → length (decimal size) ≤ 38
    → Spells (size_text (decimal size) shift) size shift
size_spells size shift few high short =
    go (nat_le 993 (length (decimal size) + shift - 1)
    && nat_le (length (decimal size) + shift - 1) 1020) refl
  where
    go : (near : Bool)
        → (nat_le 993 (length (decimal size) + shift - 1)
        && nat_le (length (decimal size) + shift - 1) 1020) ≡ near
        → Spells (size_text (decimal size) shift) size shift
    go true near =
        let all : Spells (plain (decimal size) shift) size shift =
        ⊎_elim
        (λ (low : shift < 1000).
        ⊎_elim
        (λ (some : 1000 < length (decimal size) + shift). plain_point size shift few low some)
        (λ none. plain_fraction size shift few low none)
        (cases_lt 1000 (length (decimal size) + shift)))
        (λ whole. plain_whole size shift few whole)
        (cases_lt shift 1000) in
        rw near all
    go false near =
        rw near (scientific_is size shift (length (decimal size) + shift - 1) few (omega arith)
        refl)

-- with a sign
pub number_of_text : (minus : Bool) (text : List ℕ) (size shift : ℕ) (s : Spells text size shift)
    → IsNumber (sign minus ++ text)
    (record { negative = minus; digits = s.digits; exponent = s.power -ℤ pos s.places })
number_of_text minus text size shift s = record {
  sign = sign minus;
  mantissa = s.mantissa;
  exponent = s.exponent;
  places = s.places;
  power = s.power;
  parts = ap (λ t. sign minus ++ t) s.parts;
  a_sign = signed_text minus;
  a_mantissa = s.a_mantissa;
  an_exponent = s.an_exponent;
  exponent_is = refl;
}
  where
    signed_text : (minus : Bool) → IsSign minus (sign minus)
    signed_text true = refl
    signed_text false = inr refl

pub nought_text :
    IsNumber (codes "0") (record { negative = false; digits = 0; exponent = pos 0 -ℤ pos 0 })
nought_text = record {
  sign = [];
  mantissa = codes "0";
  exponent = [];
  places = 0;
  power = pos 0;
  parts = refl;
  a_sign = inr refl;
  a_mantissa = record {
    whole = codes "0";
    point = [];
    fraction = [];
    parts = refl;
    whole_digits = (refl, tt);
    fraction_digits = tt;
    a_digit = omega arith;
    one_point = inr (refl, refl);
    digits_are = refl;
    places_are = refl;
  };
  an_exponent = inl (refl, refl);
  exponent_is = refl;
}

reads_as : (text : List ℕ) (s : Spelled) (z : ℤ) → IsNumber text s → dec_value s ≡ Some z
    → dec_reading text ≡ Ok z
unfolding dec_reading
reads_as text s z is value = ap dec_valued (number_reading-number text s is) ∙ ap or_too_wide value

-- the number that is spelled is that of the size and the shift
same_number : (minus : Bool) (text : List ℕ) (size shift : ℕ) (s : Spells text size shift)
    → size < 10 ^ 38
    → dec_of (signed minus s.digits) (s.power -ℤ pos s.places)
    ≡ dec_of (signed minus size) (pos shift -ℤ pos 1000)
same_number minus text size shift s few =
    ap (λ n. dec_of (signed minus n) (s.power -ℤ pos s.places)) s.whole
    ∙ dec_of-noughts minus size s.behind (s.power -ℤ pos s.places) few
    ∙ ap (dec_of (signed minus size)) s.last

-- the text of a number by its parts
pub parts_read : (minus : Bool) (size shift : ℕ) → IsDecForm minus size shift
    → length (decimal size) ≤ 38
    → dec_reading (if size == 0 then codes "0" else sign minus ++ size_text (decimal size) shift)
    ≡ Ok (number minus size shift)
parts_read minus size shift form short =
    ⊎_elim
    (λ (none : size ≡ 0).
    let yes : (size == 0) ≡ true = grind (arith, nat_tests) in
    let nought : number minus size shift ≡ pos 0 =
    ap (λ n. signed minus (n * 10 ^ shift)) none ∙ ap (signed minus) (omega arith)
    ∙ signed-zero minus in
    rw yes
    (reads_as (codes "0") (record { negative = false; digits = 0; exponent = pos 0 -ℤ pos 0 })
    (pos 0) nought_text
    (dec_of-zero (pos 0 -ℤ pos 0)) ∙ ap Ok (sym nought)))
    (λ (some : size ≡ 0 → ⊥).
    let no : (size == 0) ≡ false = grind (arith, nat_tests) in
    let spells = size_spells size shift form.few form.high short in
    rw no
    (reads_as (sign minus ++ size_text (decimal size) shift)
    (record {
      negative = minus;
      digits = spells.digits;
      exponent = spells.power -ℤ pos spells.places;
    })
    (number minus size shift)
    (number_of_text minus (size_text (decimal size) shift) size shift spells)
    (same_number minus (size_text (decimal size) shift) size shift spells form.few
    ∙ dec_of-form minus size shift (pos shift -ℤ pos 1000) form refl)))
    (cases_eq size 0)

-- a number within the limits is in normal form by its parts
within : (size shift : ℕ) → (nat_lt size (10 ^ 38) && nat_le shift 2000) ≡ true
    → (size < 10 ^ 38) × (shift ≤ 2000)
within size shift is = grind (arith, nat_tests)

zero_form : IsDecForm false 0 1000
zero_form = record {
  few = omega arith;
  high = omega arith;
  short = λ _. refl;
  plus = λ _. refl;
  here = λ _. refl;
}

pub IsDecForm-form_of : (z : ℤ) → is_dec z ≡ true
    → IsDecForm (form_of z).negative (form_of z).size (form_of z).shift
IsDecForm-form_of z is =
    ⊎_elim
    (λ none.
    let form = form_of-zero z none in
    subst (λ f. IsDecForm f.negative f.size f.shift) (sym form) zero_form)
    (λ h.
    let form = form_of-bare z (omega arith) in
    let limits = within (bare z).0 (bare z).1 (rw form at is) in
    let last : (bare z).0 % 10 ≡ 0 → ⊥ =
    stripped_end 2001 (unsigned_abs z) (omega (arith, limits.1)) in
    subst (λ f. IsDecForm f.negative f.size f.shift) (sym form)
    (record {
      few = limits.0;
      high = limits.1;
      short = λ k. absurd (last k);
      plus = λ k. absurd (last (ap (λ n. n % 10) k));
      here = λ k. absurd (last (ap (λ n. n % 10) k));
    }))
    (cases_eq (unsigned_abs z) 0)

-- a number's text is read as the number
pub printed_read : (z : ℤ) → is_dec z ≡ true → dec_reading (number_text z) ≡ Ok z
printed_read z is =
    let f = form_of z in
    let form = IsDecForm-form_of z is in
    parts_read f.negative f.size f.shift form (few_digits f.size form.few)
    ∙ ap Ok (number-form_of z)
