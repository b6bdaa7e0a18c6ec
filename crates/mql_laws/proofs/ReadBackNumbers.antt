-- A number that a text says can be printed.
use Rattle.std.specs.Prelude.{◌≡◌, ℕ, ◌*◌, ◌/◌, ◌^◌, ◌==◌, ℤ, pos, ◌+ℤ◌, ◌*ℤ◌, int_le, int_div, int_rem, unsigned_abs, Bool, true, false, List, ◌++◌, slice_index, Option, Some, None, Result, Ok, Err, is_some, if◌then◌else◌}
use Rattle.std.specs.Int.{is_negative}
use Rattle.std.specs.Option.{option_and_then}
use Rattle.std.specs.Ordering.{int_eq}
use Rattle.std.proofs.Common.{refl, ap, sym, subst, ◌∙◌, arith}
use Rattle.std.proofs.Math.IntN.{pos-*ℤ-pos}
use Rattle.std.proofs.lemmas.Bool.Decides.{nat_tests}
use Rattle.vm_base.specs.Number.{Form, form_of, signed, stripped}
use Rattle.vm_decimal.specs.Dec.{is_dec, in_range, dec_of}
use Rattle.vm_decimal.specs.DecText.{dec_reading, SaysNumber}
use Rattle.vm_decimal.specs.Spelled.{IsSign}
use Rattle.vm_decimal.specs.declared.sample_text.NumFault.{NumFault}
use Rattle.vm_decimal.proofs.DecReadings.{DecSays, dec_says}
use Rattle.mql_lex.specs.Grammar.{IsUnsigned, is_sign}
use Rattle.mql_laws.specs.Lexed.{IsNumber}
use Rattle.mql_parse.specs.Values.{number_of, or_none, or_zero}

some_is : (x y : ℤ) → Some x ≡ Some y → x ≡ y
some_is x y is = ap (λ (o : Option ℤ). elim o [ None ↦ x | Some z ↦ z ]) is

-- ---- signs

not_below : (n : ℕ) → is_negative (pos n) ≡ false
not_below n = grind (arith, nat_tests)

abbrev bare_form : Bool → ℕ → Form
bare_form nothing n =
    if nothing then record { negative = false; size = 0; shift = 1000 }
    else record {
      negative = is_negative (pos n);
      size = (stripped 2001 (unsigned_abs (pos n))).0;
      shift = (stripped 2001 (unsigned_abs (pos n))).1;
    }

form_plus : (n : ℕ) → (form_of (pos n)).negative ≡ false
unfolding form_of
form_plus n = go (unsigned_abs (pos n) == 0)
  where
    go : (b : Bool) → (bare_form b n).negative ≡ false
    go true = refl
    go false = not_below n

in_range_says : (y z : ℤ) → in_range y ≡ Some z → (y ≡ z) × (is_dec y ≡ true)
in_range_says y z is = go (is_dec y) refl is
  where
    go : (b : Bool) → is_dec y ≡ b → (if b then Some y else None) ≡ Some z → (y ≡ z)
        × (is_dec y ≡ true)
    go true fits is = (some_is y z is, fits)
    go false fits is = absurd (cc is)

plus_in_range : (n : ℕ) (z : ℤ) → in_range (pos n) ≡ Some z → IsNumber z
plus_in_range n z is = let says =
    in_range_says (pos n) z is in subst IsNumber says.0 (says.1, form_plus n)

abbrev tens_of : ℤ → ℕ
tens_of e = 10 ^ unsigned_abs (e +ℤ pos 1000)

plus_number : (n : ℕ) (e z : ℤ) → dec_of (pos n) e ≡ Some z → IsNumber z
unfolding dec_of
plus_number n e z is =
    go (int_le (pos 0) (e +ℤ pos 1000)) (int_eq (int_rem (pos n) (pos (tens_of e))) (pos 0)) is
  where
    go : (up whole : Bool)
        → option_and_then in_range
        (if up then Some (pos n *ℤ pos (tens_of e))
        else (if whole then Some (int_div (pos n) (pos (tens_of e))) else None)) ≡ Some z
        → IsNumber z
    go true whole is =
        plus_in_range (n * 10 ^ unsigned_abs (e +ℤ pos 1000)) z
        (ap in_range (sym (pos-*ℤ-pos n (tens_of e))) ∙ is)
    go false true is = plus_in_range (n / 10 ^ unsigned_abs (e +ℤ pos 1000)) z is
    go false false is = absurd (cc is)

-- a text without a sign spells no number below zero
no_minus : (text rest : List ℕ) (minus : Bool) (s : List ℕ) → text ≡ s ++ rest → IsSign minus s
    → is_sign (slice_index text 0) ≡ false → minus ≡ false
no_minus text rest false s parts is unsigned = refl
no_minus text rest true s parts is unsigned =
    let front : is_sign (slice_index text 0) ≡ true =
    ap (λ t. is_sign (slice_index t 0)) (parts ∙ ap (λ t. t ++ rest) is) in
    absurd (cc (front, unsigned))

says_plus : (text : List ℕ) (z : ℤ) → is_sign (slice_index text 0) ≡ false → SaysNumber text z
    → IsNumber z
says_plus text z unsigned says =
    let spelled = says.0 in
    let minus : spelled.negative ≡ false =
    no_minus text (says.1.mantissa ++ says.1.exponent) spelled.negative says.1.sign says.1.parts
    says.1.a_sign unsigned in
    plus_number spelled.digits spelled.exponent z
    (ap (λ m. dec_of (signed m spelled.digits) spelled.exponent) (sym minus) ∙ says.2)

-- the value of a number's text that is one
pub number_printed : (text : List ℕ) → IsUnsigned text → is_some (number_of text) ≡ true
    → IsNumber (or_zero (number_of text))
unfolding number_of
number_printed text is some = go (dec_reading text) (dec_says text) some
  where
    go : (r : Result ℤ NumFault) → DecSays text r → is_some (or_none r) ≡ true
        → IsNumber (or_zero (or_none r))
    go (Ok z) says some = says_plus text z is.1 says
    go (Err fault) says some = absurd (cc some)
