-- Samples by their fields, for the proofs of their methods.
use mathlib.Core.Bool.{beq}
use Rattle.std.proofs.Common.{◌≡◌, ℕ, zero, suc, ◌*◌, ◌^◌, ◌<◌, ◌==◌, ℤ, pos, ◌-ℤ◌, neg_ℤ, Bool, true, false, Less, Greater, refl, ap, sym, ◌∙◌, ⊎_elim, arith}
use Rattle.std.proofs.Math.Nat.{one-le-mul}
use Rattle.std.proofs.lemmas.Bool.{cases_eq}
use Rattle.std.proofs.lemmas.Bool.Decides.{nat_tests, Decides-int_eq}
use Rattle.std.specs.Ordering.{int_eq, int_cmp}
use Rattle.vm_base.specs.Form.{form_of-sample, ten_pos}
use Rattle.vm_base.specs.Number.{signed, number, form_of}
use Rattle.vm_base.specs.Sample.{mantissa, exponent, IsSampleForm}
use Rattle.vm_base.specs.declared.sample.Sample.TheInside.{Inside}

abbrev pub InForm : Inside → Type 0
InForm s = IsSampleForm s.negative s.size s.shift

abbrev pub Is : Inside → ℤ → Type 0
Is s z = number s.negative s.size s.shift ≡ z

-- the mantissa and the exponent
pub mantissa_is : (s : Inside) (z : ℤ) → InForm s → Is s z → mantissa z ≡ signed s.negative s.size
mantissa_is s z form is = rw (← is, form_of-sample s.negative s.size s.shift form) refl

pub exponent_is : (s : Inside) (z : ℤ) → InForm s → Is s z → exponent z ≡ pos s.shift -ℤ pos 1000
exponent_is s z form is = rw (← is, form_of-sample s.negative s.size s.shift form) refl

-- equal numbers have equal fields
pub unlike : (s o : Inside) (y z : ℤ) → InForm s → InForm o → Is s y → Is o z
    → (s.negative ≡ o.negative → s.size ≡ o.size → s.shift ≡ o.shift → ⊥) → false ≡ int_eq y z
unlike s o y z form other is_y is_z differ =
    let apart : y ≡ z → ⊥ = λ h.
    let forms =
    sym (form_of-sample s.negative s.size s.shift form) ∙ ap form_of (is_y ∙ h ∙ sym is_z)
    ∙ form_of-sample o.negative o.size o.shift other in
    differ (ap (λ f. f.negative) forms) (ap (λ f. f.size) forms) (ap (λ f. f.shift) forms) in
    grind (arith, Decides-int_eq y z)

pub alike : (s o : Inside) (y z : ℤ) → InForm s → InForm o → Is s y → Is o z
    → s.negative ≡ o.negative → s.size ≡ o.size → (s.shift == o.shift) ≡ int_eq y z
alike s o y z form other is_y is_z signs sizes =
    ⊎_elim
    (λ shifts.
    let parts : number s.negative s.size s.shift ≡ number o.negative o.size o.shift = cc in
    let same : y ≡ z = sym is_y ∙ parts ∙ is_z in
    grind (arith, nat_tests, Decides-int_eq y z))
    (λ differ.
    let apart : (s.shift == o.shift) ≡ false = grind (arith, nat_tests) in
    apart ∙ unlike s o y z form other is_y is_z (λ _ _ h. differ h))
    (cases_eq s.shift o.shift)

pub same_sign : (a b : Bool) → beq a b ≡ true → a ≡ b
same_sign true true h = refl
same_sign false false h = refl
same_sign true false h = sym h
same_sign false true h = h

pub other_sign : (a b : Bool) → beq a b ≡ false → a ≡ b → ⊥
other_sign true true h is = cc
other_sign false false h is = cc
other_sign true false h is = cc
other_sign false true h is = cc

-- a number below zero comes before one that isn't
opposite : (n m : ℕ) → 0 < n
    → (Less ≡ int_cmp (neg_ℤ (pos n)) (pos m)) × (Greater ≡ int_cmp (pos m) (neg_ℤ (pos n)))
opposite zero m some = absurd (omega arith)
opposite (suc n) m some = (refl, refl)

pub below_zero : (s o : Inside) (y z : ℤ) → InForm s → Is s y → Is o z
    → s.negative ≡ true → o.negative ≡ false → (Less ≡ int_cmp y z) × (Greater ≡ int_cmp z y)
below_zero s o y z form is_y is_z minus plus =
    let some : 0 < s.size =
    ⊎_elim (λ none. absurd (cc (minus, form.plus none))) (λ h. omega arith) (cases_eq s.size 0) in
    let whole = one-le-mul {a = s.size} some (ten_pos s.shift) in
    rw (← is_y, ← is_z, minus, plus)
    (opposite (s.size * 10 ^ s.shift) (o.size * 10 ^ o.shift) whole)
