-- The fast way finds what the grammar says.
use Rattle.std.specs.Prelude.{◌≡◌, ℕ, suc, ◌+◌, ◌-◌, ◌*◌, ◌^◌, ◌<◌, ◌≤◌, ℤ, pos, ◌+ℤ◌, ◌-ℤ◌, Bool, true, List, [], ◌∷◌, ◌++◌, length, take, drop, Option, Some, None, Ok, IfSome, codes, ◌⊎◌, unsigned_abs}
use Rattle.std.specs.Char.{is_ascii_digit, digit_value}
use Rattle.std.specs.Str.Parse.{digits_value_after}
use Rattle.std.proofs.Common.{refl, arith, sym, ap, ap₂, subst, ◌∙◌, inl, inr, ⊎_elim, append-nil, add-one, drop-cons, take_all, pow-add, length-drop, length-take, take-add, take-take}
use Rattle.std.proofs.Math.ListN.{get_or}
use Rattle.std.proofs.Math.Nat.{pow-suc, pow-le-pow_right, mul_assoc, mul-le-mul_left, mul-le-mul_right}
use Rattle.std.proofs.lemmas.Bool.Decides.{nat_tests}
use Rattle.std.proofs.lemmas.Int.{ints}
use Rattle.std.proofs.lemmas.List.{take_more, take_rest, take-append-drop, length-take-le}
use Rattle.vm_base.specs.Form.{unsigned_abs-signed}
use Rattle.vm_base.specs.Number.{signed}
use Rattle.vm_base.specs.Sample.{sample_of}
use Rattle.vm_decimal.specs.Dec.{dec_of}
use Rattle.vm_decimal.specs.DecText.{dec_reading}
use Rattle.vm_decimal.specs.inner.Quick.{BeginsQuick, FewDigits, SignedPower, QuickPower, QuickValue, SpellsQuick}
use Rattle.vm_decimal.specs.Rounded.{sample_value}
use Rattle.vm_decimal.specs.SampleReading.{number_reading, valued}
use Rattle.vm_decimal.specs.Spelled.{IsDigits, IsSign}
use Rattle.vm_decimal.proofs.Exacts.{quick_dec_is}
use Rattle.vm_decimal.proofs.NumberReadings.{number_reading-number}
use Rattle.vm_decimal.proofs.Roundings.{surplus-short, nearest-one}
use Rattle.vm_decimal.specs.declared.quick.QuickNumber.{QuickNumber}
use Rattle.vm_decimal.proofs.SampleDigits.{sample_of_digits-sample_of}
use Rattle.vm_decimal.proofs.Spellings.{value_append, digit_is}

-- one digit more

pub digit_small : (b : ℕ) → is_ascii_digit b ≡ true → b - 48 < 10
digit_small b digit = grind (arith, nat_tests)

digits-append : (xs ys : List ℕ) → IsDigits xs → IsDigits ys → IsDigits (xs ++ ys)
digits-append [] ys first more = more
digits-append (x ∷ xs) ys first more = (first.0, digits-append xs ys first.1 more)

pub digits_more : (text : List ℕ) (i : ℕ) → i < length text
    → is_ascii_digit (get_or text i 0) ≡ true
    → IsDigits (take i text) → IsDigits (take (i + 1) text)
digits_more text i here digit so_far =
    subst IsDigits (sym (take_more text i 0 here))
    (digits-append (take i text) (get_or text i 0 ∷ []) so_far (digit, tt))

pub value_more : (n : ℕ) (text : List ℕ) (i v : ℕ) → i < length text
    → is_ascii_digit (get_or text i 0) ≡ true → v ≡ digits_value_after 10 n (take i text)
    → v * 10 + (get_or text i 0 - 48) ≡ digits_value_after 10 n (take (i + 1) text)
value_more n text i v here digit is =
    let more = ap (digits_value_after 10 n) (take_more text i 0 here)
    ∙ value_append n (take i text) (get_or text i 0 ∷ []) in
    omega (arith, more, digit_is (get_or text i 0) digit)

-- 19 digits fit 64 bits

pub small_more : (v digit i : ℕ) → v < 10 ^ i → digit < 10 → v * 10 + digit < 10 ^ (i + 1)
small_more v digit i small is = rw add-one (omega (arith, pow-suc 10 i))

pub room_more : (v i n : ℕ) → v < 10 ^ i → i < n → n ≤ 19 → v * 10 + 9 < 10 ^ 19
room_more v i n small within few =
    let more : 10 ^ (i + 1) ≤ 10 ^ 19 =
    pow-le-pow_right {n = 10} (omega arith) {i = i + 1} {j = 19} (omega arith) in
    let next : v * 10 + 9 < 10 ^ (i + 1) = small_more v 9 i small (omega arith) in
    omega arith

-- 38 digits fit 128 bits

pub room_less : (a count all : ℕ) → count ≤ all → a * 10 ^ all ≤ 10 ^ 38 → a * 10 ^ count ≤ 10 ^ 38
room_less a count all less room =
    let power : 10 ^ count ≤ 10 ^ all = pow-le-pow_right {n = 10} (omega arith) less in
    let times : a * 10 ^ count ≤ a * 10 ^ all = mul-le-mul_left a power in
    omega arith

pub room_joined : (a size first more all : ℕ) → size < a * 10 ^ first → first + more ≤ all
    → a * 10 ^ all ≤ 10 ^ 38
    → (size + 1) * 10 ^ more ≤ 10 ^ 38
room_joined a size first more all small less room =
    let times : (size + 1) * 10 ^ more ≤ a * 10 ^ first * 10 ^ more =
    mul-le-mul_right (10 ^ more) (omega arith) in
    let power : a * 10 ^ first * 10 ^ more ≡ a * 10 ^ (first + more) =
    mul_assoc a (10 ^ first) (10 ^ more) ∙ ap (λ n. a * n) (sym (pow-add 10 first more)) in
    let within : a * 10 ^ (first + more) ≤ 10 ^ 38 = room_less a (first + more) all less room in
    omega arith

behind : (whole end size count all : ℕ) → whole < 1 * 10 ^ end → size ≤ (whole + 1) * 10 ^ count
    → end + count ≤ all → size ≤ 10 ^ all
behind whole end size count all small less few =
    let first : (whole + 1) * 10 ^ count ≤ 10 ^ end * 10 ^ count =
    mul-le-mul_right (10 ^ count) (omega arith) in
    let more : 10 ^ (end + count) ≤ 10 ^ all = pow-le-pow_right {n = 10} (omega arith) few in
    omega (arith, pow-add 10 end count)

pub room_behind : (whole end count : ℕ) → whole < 1 * 10 ^ end → end + count ≤ 38
    → (whole + 1) * 10 ^ count ≤ 10 ^ 38
room_behind whole end count small few =
    behind whole end ((whole + 1) * 10 ^ count) count 38 small (omega arith) few

few_behind : (whole end size count : ℕ) → whole < 1 * 10 ^ end → size < (whole + 1) * 10 ^ count
    → end + count ≤ 38 → size < 10 ^ 38
few_behind whole end size count small less few =
    let at_most : size + 1 ≤ 10 ^ 38 =
    behind whole end (size + 1) count 38 small (omega arith) few in
    omega arith

-- mantissas

-- the front of a text's front
front_take : (text front : List ℕ) (m end : ℕ) → front ≡ take m text → end ≤ length front
    → take end front ≡ take end text
front_take text front m end is within =
    let short : end ≤ m = omega (arith, ap length is, length-take m text) in
    ap (take end) is ∙ take-take end m text short

-- digits at the front of a text, after those of another number
pub record Behind (before : ℕ) (text : List ℕ) (size count : ℕ) : Type 0 where
  pub within : count ≤ length text
  pub digits : IsDigits (take count text)
  pub value : size ≡ digits_value_after 10 before (take count text)
  pub small : size < (before + 1) * 10 ^ count

value_from : (n : ℕ) (ds : List ℕ)
    → digits_value_after 10 n ds ≡ n * 10 ^ length ds + digits_value_after 10 0 ds
value_from n [] = omega arith
value_from n (b ∷ ds) =
    let one = value_from (n * 10 + digit_value b) ds in
    let none = value_from (0 * 10 + digit_value b) ds in
    let power : (n * 10 + digit_value b) * 10 ^ length ds ≡ n * 10 ^ suc (length ds) + digit_value b
    * 10 ^ length ds =
    omega (arith, ap (λ t. n * t) (pow-suc 10 (length ds))) in
    omega arith

pub first_digits : (before : ℕ) (text front : List ℕ) (m first count size : ℕ) → front ≡ take m text
    → count ≤ length front → IsDigits (take count front)
    → first ≡ digits_value_after 10 0 (take count front)
    → first < 10 ^ count → size ≡ before * 10 ^ count + first → Behind before text size count
first_digits before text front m first count size is within digits value small joined =
    let same : take count front ≡ take count text = front_take text front m count is within in
    let inside : count ≤ length text = omega (arith, ap length is, length-take m text) in
    let many : length (take count text) ≡ count = length-take-le count text inside in
    let from : digits_value_after 10 before (take count text) ≡ before * 10 ^ count
    + digits_value_after 10 0 (take count text) =
    value_from before (take count text)
    ∙ ap (λ n. before * 10 ^ n + digits_value_after 10 0 (take count text)) many in
    record {
      within = inside;
      digits = subst IsDigits same digits;
      value = joined ∙ ap (λ n. before * 10 ^ count + n) (value ∙ ap (digits_value_after 10 0) same)
          ∙ sym from;
      small = omega arith;
    }

pub more_digits : (before : ℕ) (text rest : List ℕ) (first size more all : ℕ)
    → Behind before text size first
    → rest ≡ take (length text - first) (drop first text) → Behind size rest all more
    → Behind before text all (first + more)
more_digits before text rest first size more all b rest_is r =
    let far : rest ≡ drop first text = rest_is ∙ take_rest text first in
    let next : Behind size (drop first text) all more = subst (λ t. Behind size t all more) far r in
    let split : take (first + more) text ≡ take first text ++ take more (drop first text) =
    take-add first more text in
    let in_text = b.within in
    let in_rest = next.within in
    let least = b.small in
    let less = next.small in
    let times : (size + 1) * 10 ^ more ≤ (before + 1) * 10 ^ first * 10 ^ more =
    mul-le-mul_right (10 ^ more) (omega arith) in
    let power : (before + 1) * 10 ^ first * 10 ^ more ≡ (before + 1) * 10 ^ (first + more) =
    mul_assoc (before + 1) (10 ^ first) (10 ^ more)
    ∙ ap (λ n. (before + 1) * n) (sym (pow-add 10 first more)) in
    record {
      within = omega (arith, length-drop first text);
      digits =
          subst IsDigits (sym split)
          (digits-append (take first text) (take more (drop first text)) b.digits next.digits);
      value = next.value ∙ ap (λ n. digits_value_after 10 n (take more (drop first text))) b.value
          ∙ sym (ap (digits_value_after 10 before) split
          ∙ value_append before (take first text) (take more (drop first text)));
      small = omega arith;
    }

pub whole_quick : (text front : List ℕ) (m value end : ℕ) → front ≡ take m text → m ≤ 38
    → end ≤ length front → 1 ≤ end → IsDigits (take end front)
    → value ≡ digits_value_after 10 0 (take end front) → value < 1 * 10 ^ end
    → BeginsQuick text value 0 end
whole_quick text front m value end is few within some digits value_is small =
    let same : take end front ≡ take end text = front_take text front m end is within in
    let inside : end ≤ length text = omega (arith, ap length is, length-take m text) in
    let short : end ≤ 38 = omega (arith, ap length is, length-take m text) in
    let count : length (take end text) ≡ end = length-take-le end text inside in
    let power : 10 ^ end ≤ 10 ^ 38 = pow-le-pow_right {n = 10} (omega arith) short in
    record {
      within = inside;
      is = record {
        mantissa = record {
          whole = take end text;
          point = [];
          fraction = [];
          parts = sym (append-nil (take end text));
          whole_digits = subst IsDigits same digits;
          fraction_digits = tt;
          a_digit = omega arith;
          one_point = inr (refl, refl);
          digits_are = value_is
              ∙ ap (digits_value_after 10 0) (same ∙ sym (append-nil (take end text)));
          places_are = refl;
        };
        few = omega arith;
        near = omega arith;
      };
    }

pub pointed_quick : (text front rest : List ℕ) (m k whole end size places : ℕ) → front ≡ take m text
    → m ≤ 38 → end ≤ length front → end < length text → get_or text end 0 ≡ 46
    → IsDigits (take end front) → whole ≡ digits_value_after 10 0 (take end front)
    → whole < 1 * 10 ^ end
    → rest ≡ take k (take (length text - (end + 1)) (drop (end + 1) text)) → k ≤ 38 - end
    → places ≤ length rest → IsDigits (take places rest)
    → size ≡ digits_value_after 10 whole (take places rest) → size < (whole + 1) * 10 ^ places
    → 1 ≤ end + places → BeginsQuick text size places (end + 1 + places)
pointed_quick text front rest m k whole end size places is few within here point digits whole_is
    small rest_is near all more size_is less some =
    let same : take end front ≡ take end text = front_take text front m end is within in
    let behind_point : take (length text - (end + 1)) (drop (end + 1) text) ≡ drop (suc end) text =
    take_rest text (end + 1) ∙ ap (λ n. drop n text) (add-one end) in
    let rest_same : rest ≡ take k (drop (suc end) text) = rest_is ∙ ap (take k) behind_point in
    let fraction : take places rest ≡ take places (drop (suc end) text) =
    front_take (drop (suc end) text) rest k places rest_same all in
    let short : end ≤ 38 = omega (arith, ap length is, length-take m text) in
    let left : places ≤ k =
    omega (arith, ap length rest_same, length-take k (drop (suc end) text)) in
    let far : places ≤ length (drop (suc end) text) =
    omega (arith, ap length rest_same, length-take k (drop (suc end) text)) in
    let count : length (take end text) ≡ end = length-take-le end text (omega arith) in
    let count_behind : length (take places (drop (suc end) text)) ≡ places =
    length-take-le places (drop (suc end) text) far in
    let next : end + 1 + places ≡ end + suc places = omega arith in
    let parts : take (end + 1 + places) text ≡ take end text
    ++ (46 ∷ take places (drop (suc end) text)) =
    ap (λ n. take n text) next ∙ take-add end (suc places) text
    ∙ ap (λ t. take end text ++ take (suc places) t)
    (drop-cons text end 0 here ∙ ap (λ b. b ∷ drop (suc end) text) point) in
    record {
      within = omega (arith, length-drop (suc end) text);
      is = record {
        mantissa = record {
          whole = take end text;
          point = codes ".";
          fraction = take places (drop (suc end) text);
          parts = parts;
          whole_digits = subst IsDigits same digits;
          fraction_digits = subst IsDigits fraction more;
          a_digit = omega arith;
          one_point = inl refl;
          digits_are = size_is ∙ ap (digits_value_after 10 whole) fraction
              ∙ ap (λ n. digits_value_after 10 n (take places (drop (suc end) text)))
              (whole_is ∙ ap (digits_value_after 10 0) same)
              ∙ sym (value_append 0 (take end text) (take places (drop (suc end) text)));
          places_are = sym count_behind;
        };
        few = few_behind whole end size places small less (omega arith);
        near = omega arith;
      };
    }

-- exponents

pub all_digits : (text : List ℕ) (size count : ℕ) → 0 < length text → length text ≤ 4
    → count ≤ length text → length text ≤ count → IsDigits (take count text)
    → size ≡ digits_value_after 10 0 (take count text) → size < 10 ^ count → FewDigits text size
all_digits text size count some few within all digits size_is small =
    let same : take count text ≡ text = take_all count text all in
    let power : 10 ^ count ≤ 10 ^ 4 =
    pow-le-pow_right {n = 10} (omega arith) {i = count} {j = 4} (omega arith) in
    record {
      some = some;
      all = subst IsDigits same digits;
      is = size_is ∙ ap (digits_value_after 10 0) same;
      few = omega arith;
    }

pub first_byte : (text : List ℕ) (b : ℕ) → 1 ≤ length text → get_or text 0 0 ≡ b
    → text ≡ b ∷ take (length text - 1) (drop 1 text)
first_byte [] b some first = absurd (omega arith)
first_byte (c ∷ cs) b some first =
    ap (λ d. d ∷ cs) first ∙ ap (λ t. b ∷ t) (sym (take_rest (c ∷ cs) 1))

pub no_power : QuickPower [] (pos 0)
no_power = record { is = inl (refl, refl); few = omega arith }

small_power : (negative : Bool) (size : ℕ) → size < 10 ^ 4
    → unsigned_abs (signed negative size) < 10 ^ 4
small_power negative size few = omega (arith, unsigned_abs-signed negative size)

pub marked_power : (text rest : List ℕ) (b : ℕ) (power : ℤ) → text ≡ b ∷ rest → (b ≡ 101) ⊎ (b ≡ 69)
    → SignedPower rest power → QuickPower text power
marked_power text rest b power parts letter p =
    let few = p.are_few in
    record {
      is = inr (record {
        letter = b ∷ [];
        sign = p.sign;
        digits = p.digits;
        negative = p.negative;
        parts = parts ∙ ap (λ t. b ∷ t) p.parts;
        a_letter =
            ⊎_elim (λ low. inl (ap (λ c. c ∷ []) low)) (λ high. inr (ap (λ c. c ∷ []) high)) letter;
        a_sign = p.a_sign;
        all_digits = few.all;
        a_digit = few.some;
        power_is = p.is ∙ ap (signed p.negative) few.is;
      });
      few = subst (λ z. unsigned_abs z < 10 ^ 4) (sym p.is) (small_power p.negative p.size few.few);
    }

pub marked_some : (text rest : List ℕ) (b : ℕ) (found : Option ℤ) → text ≡ b ∷ rest
    → (b ≡ 101) ⊎ (b ≡ 69) → IfSome found (SignedPower rest) → IfSome found (QuickPower text)
marked_some text rest b None parts letter is = tt
marked_some text rest b (Some power) parts letter is =
    marked_power text rest b power parts letter is

-- the number of what was found
pub quick_found :
    (negative : Bool) (text rest : List ℕ) (n : QuickNumber) (size places len : ℕ) (power : ℤ)
    → BeginsQuick text size places len → rest ≡ take (length text - len) (drop len text)
    → QuickPower rest power
    → n.mantissa ≡ signed negative size → n.exponent ≡ power -ℤ pos places
    → QuickValue negative text n
quick_found negative text rest n size places len power front rest_is p mantissa_is exponent_is =
    record {
      size = size;
      places = places;
      len = len;
      power = power;
      rest = rest;
      parts = sym (take-append-drop len text)
          ∙ ap (λ t. take len text ++ t) (sym (rest_is ∙ take_rest text len));
      mantissa = front.is;
      exponent = p.is;
      near = p.few;
      mantissa_is = mantissa_is;
      exponent_is = exponent_is;
    }

-- with its sign
near_exponent : (e power : ℤ) (places : ℕ) → e ≡ power -ℤ pos places → unsigned_abs power < 10 ^ 4
    → places ≤ 38
    → unsigned_abs e < 2 ^ 15
near_exponent e power places is few near = omega (arith, ints)

pub quick_spells : (negative : Bool) (whole sign text : List ℕ) (n : QuickNumber) → whole ≡ sign
    ++ text
    → IsSign negative sign → QuickValue negative text n → SpellsQuick whole n
quick_spells negative whole sign text n parts a_sign q =
    let quick = q.mantissa in
    record {
      spelled = record { negative = negative; digits = q.size; exponent = n.exponent };
      is = record {
        sign = sign;
        mantissa = take q.len text;
        exponent = q.rest;
        places = q.places;
        power = q.power;
        parts = parts ∙ ap (λ t. sign ++ t) q.parts;
        a_sign = a_sign;
        a_mantissa = quick.mantissa;
        an_exponent = q.exponent;
        exponent_is = q.exponent_is;
      };
      mantissa_is = q.mantissa_is;
      exponent_is = refl;
      near = near_exponent n.exponent q.power q.places q.exponent_is q.near quick.near;
    }

pub quick_some : (negative : Bool) (whole sign text : List ℕ) (found : Option QuickNumber)
    → whole ≡ sign ++ text
    → IsSign negative sign → IfSome found (QuickValue negative text)
    → IfSome found (SpellsQuick whole)
quick_some negative whole sign text None parts a_sign is = tt
quick_some negative whole sign text (Some n) parts a_sign is =
    quick_spells negative whole sign text n parts a_sign is

-- the sample of a number of few digits
pub quick_sample : (text : List ℕ) (n : QuickNumber) (m : ℤ) (found : Option ℤ) → SpellsQuick text n
    → m ≡ n.mantissa → unsigned_abs m < 10 ^ 18 → found ≡ sample_of m n.exponent
    → IfSome found (λ z. valued (number_reading text) ≡ Ok (Some z))
quick_sample text n m None spells same few is = tt
quick_sample text n m (Some z) spells same few is =
    let s = spells.spelled in
    let mantissa : m ≡ signed s.negative s.digits = same ∙ spells.mantissa_is in
    let digits : unsigned_abs m ≡ s.digits = ap unsigned_abs mantissa
    ∙ unsigned_abs-signed s.negative s.digits in
    let none = surplus-short s.digits (omega arith) in
    let last : s.exponent +ℤ pos 0 ≡ s.exponent = omega (arith, ints) in
    let value : sample_value s ≡ Some z =
    rw (none, nearest-one s.digits, last)
    (sample_of_digits-sample_of s.negative s.digits s.exponent (omega arith)
    ∙ sym (is ∙ ap₂ sample_of mantissa spells.exponent_is)) in
    ap valued (number_reading-number text s spells.is) ∙ ap Ok value

-- the number of few digits
pub quick_dec : (text : List ℕ) (n : QuickNumber) (found : Option ℤ) → SpellsQuick text n
    → found ≡ dec_of n.mantissa n.exponent → IfSome found (λ z. dec_reading text ≡ Ok z)
quick_dec text n found spells is =
    quick_dec_is text spells.spelled found spells.is
    (is ∙ ap₂ dec_of spells.mantissa_is spells.exponent_is)
