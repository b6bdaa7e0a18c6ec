-- The text of a number, by its parts.
use Rattle.std.specs.Prelude.{◌≡◌, ℕ, ◌<◌, ◌≤◌, ◌^◌, ◌==◌, Bool, true, false, ◌++◌, length, take, codes, if◌then◌else◌}
use Rattle.std.specs.Fmt.{decimal}
use Rattle.std.proofs.Common.{refl, arith}
use Rattle.std.proofs.lemmas.Bool.Decides.{nat_tests}
use Rattle.std.proofs.lemmas.Fmt.{decimal_is_IsNumeral_wide, length-decimal-le_wide}
use Rattle.std.proofs.lemmas.List.{take-replicate}
use Rattle.vm_base.specs.Number.{number}
use Rattle.vm_base.specs.Form.{form_of-number}
use Rattle.vm_decimal.specs.Dec.{IsDecForm}
use Rattle.vm_decimal.specs.NumberText.{number_text, sign, size_text, noughts}

-- the text of a number whose parts are known
text_of_parts : (negative : Bool) (size shift : ℕ) → IsDecForm negative size shift
    → number_text (number negative size shift)
    ≡ (if size == 0 then codes "0" else sign negative ++ size_text (decimal size) shift)
text_of_parts negative size shift is =
    rw (form_of-number negative size shift is.short is.plus is.here is.high) refl

pub text_of_zero : (negative : Bool) (size shift : ℕ) → IsDecForm negative size shift → size ≡ 0
    → number_text (number negative size shift) ≡ codes "0"
text_of_zero negative size shift is none =
    let none_is : (size == 0) ≡ true = grind (arith, nat_tests) in
    rw (text_of_parts negative size shift is, none_is) refl

pub text_of_other : (negative : Bool) (size shift : ℕ) → IsDecForm negative size shift
    → (size ≡ 0 → ⊥)
    → number_text (number negative size shift) ≡ sign negative ++ size_text (decimal size) shift
text_of_other negative size shift is some =
    let other : (size == 0) ≡ false = grind (arith, nat_tests) in
    rw (text_of_parts negative size shift is, other) refl

-- how many digits a number of at most 38 digits has
pub some_digits : (size : ℕ) → size < 10 ^ 38 → 1 ≤ length (decimal size)
some_digits size few = (decimal_is_IsNumeral_wide size (omega arith)).0.0

pub few_digits : (size : ℕ) → size < 10 ^ 38 → length (decimal size) ≤ 38
few_digits size few = length-decimal-le_wide 38 size (omega arith) few (omega arith)

-- the front of a run of zeros
pub fewer_noughts : (count : ℕ) → count ≤ 21 → take count (noughts 21) ≡ noughts count
fewer_noughts count few = take-replicate count 21 48 few

pub ruleset texts = (text_of_zero, text_of_other, some_digits, few_digits)
