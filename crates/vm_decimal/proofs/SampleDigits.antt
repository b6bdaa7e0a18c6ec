-- The sample of a number of at most 18 digits.
use Rattle.std.specs.Prelude.{◌≡◌, ℕ, ◌+◌, ◌*◌, ◌%◌, ◌^◌, ◌<◌, ◌≤◌, ◌==◌, ◌&&◌, ◌⊎◌, nat_lt, ℤ, pos, negsuc, ◌+ℤ◌, ◌-ℤ◌, ◌<ℤ◌, int_le, unsigned_abs, Bool, true, false, Some, None, if◌then◌else◌}
use Rattle.std.proofs.Common.{refl, arith, sym, ap, ◌∙◌, inl, inr, ⊎_elim}
use Rattle.std.proofs.lemmas.Bool.{cases_eq, cases_lt}
use Rattle.std.proofs.lemmas.Bool.Decides.{nat_tests}
use Rattle.std.proofs.lemmas.Int.{ints}
use Rattle.std.proofs.Math.Nat.{le-mul_of_pos_right}
use Rattle.vm_base.specs.Form.{stripped_is, ten_pos}
use Rattle.vm_base.specs.Number.{signed, number, stripped}
use Rattle.vm_base.specs.Sample.{sample_of}
use Rattle.vm_base.proofs.NumberLaws.{stripped_whole, stripped_last, stripped_few, signed-zero}
use Rattle.vm_base.proofs.SampleLaws.{sample_of-placed, sample_of-zero}
use Rattle.vm_decimal.specs.inner.Leading.{IsRounding}
use Rattle.vm_decimal.specs.NumberMachine.{State, spelled}
use Rattle.vm_decimal.specs.inner.Reader.{IsCapped, Stands}
use Rattle.vm_decimal.specs.Rounded.{rounded, sample_of_digits, sample_value}
use Rattle.vm_decimal.specs.Spelled.{Spelled}
use Rattle.vm_decimal.specs.declared.reader.Reader.{Reader}
use Rattle.vm_decimal.proofs.Roundings.{nearest-surplus}

abbrev pub spelling : Bool → ℕ → ℤ → Spelled
spelling negative size e = record { negative = negative; digits = size; exponent = e }

-- a size without the zeros at its end
pub record Bare (size : ℕ) : Type 0 where
  pub digits : ℕ
  pub noughts : ℕ
  pub is : stripped 18 size ≡ (digits, noughts)
  pub whole : digits * 10 ^ noughts ≡ size
  pub last : digits % 10 ≡ 0 → ⊥
  pub few : digits < 10 ^ 18
  pub short : noughts ≤ 18

pub bare_of : (size : ℕ) → 0 < size → size ≤ 10 ^ 18 → Bare size
bare_of size some few =
    ⊎_elim
    (λ (less : size < 10 ^ 18).
    let p = stripped 18 size in
    let whole : (stripped 18 size).0 * 10 ^ (stripped 18 size).1 ≡ size = stripped_whole 18 size in
    let short : (stripped 18 size).1 < 18 = stripped_few 18 size 18 some less in
    let low : (stripped 18 size).0 ≤ (stripped 18 size).0 * 10 ^ (stripped 18 size).1 =
    le-mul_of_pos_right (stripped 18 size).0 (ten_pos (stripped 18 size).1) in
    record {
      digits = p.0;
      noughts = p.1;
      is = refl;
      whole = whole;
      last = stripped_last 18 size some less;
      few = omega arith;
      short = omega arith;
    })
    (λ (more : 10 ^ 18 ≤ size).
    let same : size ≡ 1 * 10 ^ 18 = omega arith in
    record {
      digits = 1;
      noughts = 18;
      is = ap (stripped 18) same ∙ stripped_is 18 1 18 (λ none. absurd (omega arith)) (omega arith);
      whole = sym same;
      last = λ none. absurd (omega arith);
      few = omega arith;
      short = omega arith;
    })
    (cases_lt size (10 ^ 18))

-- the definition by such parts
by_bare : (negative : Bool) (size : ℕ) (e : ℤ) → 0 < size → (b : Bare size)
    → sample_of_digits (spelling negative size e)
    ≡ (if int_le (negsuc 349) (e +ℤ pos b.noughts) && int_le (e +ℤ pos b.noughts) (pos 350)
    then Some (number negative b.digits (unsigned_abs ((e +ℤ pos b.noughts) +ℤ pos 1000)))
    else None)
unfolding sample_of_digits
by_bare negative size e some b =
    let other : (size == 0) ≡ false = grind (arith, nat_tests) in
    rw (other, b.is) refl

pub sample_of_digits-zero : (negative : Bool) (e : ℤ)
    → sample_of_digits (spelling negative 0 e) ≡ Some (pos 0)
unfolding sample_of_digits
sample_of_digits-zero negative e = refl

and_none : (b : Bool) → (b && false) ≡ false
and_none true = refl
and_none false = refl

out_of_range : (e : ℤ) (noughts : ℕ) → noughts ≤ 18 → (e <ℤ negsuc 999) ⊎ (pos 1000 <ℤ e)
    → (int_le (negsuc 349) (e +ℤ pos noughts) && int_le (e +ℤ pos noughts) (pos 350)) ≡ false
out_of_range e noughts short far =
    ⊎_elim
    (λ (below : e <ℤ negsuc 999).
    let low : int_le (negsuc 349) (e +ℤ pos noughts) ≡ false = grind (arith, ints) in
    rw low refl)
    (λ (above : pos 1000 <ℤ e).
    let high : int_le (e +ℤ pos noughts) (pos 350) ≡ false = grind (arith, ints) in
    rw high (and_none (int_le (negsuc 349) (e +ℤ pos noughts))))
    far

-- an exponent that is far out of range
pub sample_of_digits-far : (negative : Bool) (size : ℕ) (e : ℤ) → 0 < size → size ≤ 10 ^ 18
    → (e <ℤ negsuc 999) ⊎ (pos 1000 <ℤ e) → sample_of_digits (spelling negative size e) ≡ None
sample_of_digits-far negative size e some few far =
    let b = bare_of size some few in
    by_bare negative size e some b ∙ rw (out_of_range e b.noughts b.short far) refl

same_low : (x : ℤ) → int_le (pos 650) (x +ℤ pos 1000) ≡ int_le (negsuc 349) x
same_low x = grind (arith, ints)

same_high : (x : ℤ) → int_le (x +ℤ pos 1000) (pos 1350) ≡ int_le x (pos 350)
same_high x = grind (arith, ints)

-- it is the sample that a mantissa and an exponent have
pub sample_of_digits-sample_of : (negative : Bool) (size : ℕ) (e : ℤ) → size ≤ 10 ^ 18
    → sample_of_digits (spelling negative size e) ≡ sample_of (signed negative size) e
sample_of_digits-sample_of negative size e few =
    ⊎_elim
    (λ (none : size ≡ 0).
    let mantissa : signed negative size ≡ pos 0 = ap (signed negative) none
    ∙ signed-zero negative in
    ap (λ n. sample_of_digits (spelling negative n e)) none ∙ sample_of_digits-zero negative e
    ∙ sym (ap (λ z. sample_of z e) mantissa ∙ sample_of-zero e))
    (λ (other : size ≡ 0 → ⊥).
    let some : 0 < size = omega arith in
    let b = bare_of size some few in
    let shift : ℤ = (e +ℤ pos b.noughts) +ℤ pos 1000 in
    let shift_is : shift ≡ e +ℤ pos (1000 + b.noughts) = omega (arith, ints) in
    let whole = b.whole in
    let short = b.short in
    let low : int_le (pos 650) shift ≡ int_le (negsuc 349) (e +ℤ pos b.noughts) =
    same_low (e +ℤ pos b.noughts) in
    let high : int_le shift (pos 1350) ≡ int_le (e +ℤ pos b.noughts) (pos 350) =
    same_high (e +ℤ pos b.noughts) in
    let fits : nat_lt b.digits (10 ^ 18) ≡ true = let less = b.few in grind (arith, nat_tests) in
    by_bare negative size e some b
    ∙ sym (ap (λ n. sample_of (signed negative n) e) (sym whole)
    ∙ sample_of-placed negative b.digits b.noughts b.last (omega arith) (omega arith) e shift
    shift_is
    ∙ rw (fits, low, high) refl))
    (cases_eq size 0)

-- an exponent that is counted exactly below 10^30 alone gives the same
pub sample_of_digits-capped : (negative down : Bool) (size more places counted power : ℕ)
    → size ≤ 10 ^ 18
    → more ≤ 2 ^ 64 → places ≤ 2 ^ 64 → IsCapped counted power
    → sample_of_digits (spelling negative size ((signed down counted -ℤ pos places) +ℤ pos more))
    ≡ sample_of_digits (spelling negative size ((signed down power -ℤ pos places) +ℤ pos more))
sample_of_digits-capped negative down size more places counted power few small near capped =
    ⊎_elim
    (λ (exact : counted < 10 ^ 30).
    ap (λ n. sample_of_digits (spelling negative size ((signed down n -ℤ pos places) +ℤ pos more)))
    (capped.exact exact))
    (λ (far : 10 ^ 30 ≤ counted).
    ⊎_elim
    (λ (none : size ≡ 0).
    rw none (sample_of_digits-zero negative ((signed down counted -ℤ pos places) +ℤ pos more)
    ∙ sym (sample_of_digits-zero negative ((signed down power -ℤ pos places) +ℤ pos more))))
    (λ (other : size ≡ 0 → ⊥).
    let too : 10 ^ 30 ≤ power = capped.far far in
    sample_of_digits-far negative size _ (omega arith) few
    (out_of_reach down more places counted small near far)
    ∙ sym (sample_of_digits-far negative size _ (omega arith) few
    (out_of_reach down more places power small near too)))
    (cases_eq size 0))
    (cases_lt counted (10 ^ 30))
  where
    out_of_reach : (down : Bool) (more places power : ℕ) → more ≤ 2 ^ 64 → places ≤ 2 ^ 64
        → 10 ^ 30 ≤ power
        → (((signed down power -ℤ pos places) +ℤ pos more) <ℤ negsuc 999)
        ⊎ (pos 1000 <ℤ ((signed down power -ℤ pos places) +ℤ pos more))
    out_of_reach true more places power small near far = inl (omega (arith, ints))
    out_of_reach false more places power small near far = inr (omega (arith, ints))

-- the sample of what a reader stands for
pub value_of : (reader : Reader) (s : State) (size more : ℕ) → Stands reader s
    → IsRounding s.digits size more → size ≤ 10 ^ 18 → more ≤ 2 ^ 64 → reader.places ≤ 2 ^ 64
    → sample_of_digits (spelling reader.negative size
    ((signed reader.down reader.power -ℤ pos reader.places) +ℤ pos more))
    ≡ sample_value (spelled s)
value_of reader s size more stands rounding few small near =
    sample_of_digits-capped reader.negative reader.down size more reader.places reader.power s.power
    few small
    near stands.power
    ∙ rw (rounding.size_is, rounding.more_is, stands.negative, stands.down, stands.places) refl

-- the sample of a number is that of its rounded digits, as vm_base says it
pub sample_value-sample_of : (s : Spelled)
    → sample_value s ≡ sample_of (signed s.negative (rounded s).digits) (rounded s).exponent
sample_value-sample_of s =
    sample_of_digits-sample_of s.negative (rounded s).digits (rounded s).exponent
    (nearest-surplus s.digits)
