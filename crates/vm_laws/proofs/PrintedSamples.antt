-- What is printed of a sample is read as the same sample: no digit of it is rounded.
use Rattle.std.specs.Prelude.{◌≡◌, ℕ, zero, suc, ◌+◌, ◌-◌, ◌*◌, ◌/◌, ◌%◌, ◌^◌, ◌<◌, ◌≤◌, ◌==◌, ◌&&◌, nat_lt, ℤ, pos, ◌+ℤ◌, ◌-ℤ◌, int_le, Bool, true, false, List, codes, ◌++◌, Some, Ok, if◌then◌else◌}
use Rattle.std.specs.Fmt.{decimal}
use Rattle.std.proofs.Common.{refl, ap, sym, ◌∙◌, ⊎_elim, arith}
use Rattle.std.proofs.Math.Nat.{pow-le-pow_right, le-mul_of_pos_right}
use Rattle.std.proofs.lemmas.Bool.{cases_eq, cases_lt}
use Rattle.std.proofs.lemmas.Bool.Decides.{nat_tests}
use Rattle.std.proofs.lemmas.Int.{ints}
use Rattle.vm_base.specs.Form.{ten_pos, tens}
use Rattle.vm_base.specs.Number.{signed, number, form_of}
use Rattle.vm_base.specs.Rounding.{nearest}
use Rattle.vm_base.specs.Sample.{is_sample, sample_of, IsSampleForm}
use Rattle.vm_base.proofs.NumberLaws.{nonzero, number-form_of, signed-zero}
use Rattle.vm_base.proofs.RoundingLaws.{IsNearest-whole, IsNearest-one, nearest-IsNearest}
use Rattle.vm_base.proofs.SampleLaws.{IsSampleForm-form_of, sample_of-placed, sample_of-zero}
use Rattle.vm_decimal.specs.NumberText.{size_text, sign, number_text}
use Rattle.vm_decimal.specs.Rounded.{surplus_within, surplus, sample_value}
use Rattle.vm_decimal.specs.SampleReading.{valued, value_reading, sample_reading}
use Rattle.vm_decimal.specs.Spelled.{Spelled, IsNumber}
use Rattle.vm_decimal.specs.declared.sample_text.SampleText.TheVariants.{Value}
use Rattle.vm_decimal.proofs.Decs.{noughts_add}
use Rattle.vm_decimal.proofs.NumberReadings.{number_reading-number}
use Rattle.vm_decimal.proofs.NumberTexts.{few_digits}
use Rattle.vm_decimal.proofs.PrintedTexts.{size_spells, number_of_text, nought_text}
use Rattle.vm_decimal.proofs.Roundings.{surplus-few, surplus-many, nearest-surplus}
use Rattle.vm_decimal.proofs.SampleDigits.{spelling, bare_of, sample_value-sample_of}

-- a multiple is its own nearest one
nearest-multiple : (a d : ℕ) → 0 < d → nearest (a * d) d ≡ a
nearest-multiple a d some =
    IsNearest-one (a * d) d (nearest (a * d) d) a some (nearest-IsNearest (a * d) d some)
    (IsNearest-whole (a * d) d a 0 (omega arith) (omega arith) (λ tie. absurd (omega arith)))

-- of a number of at most 18 digits and zeros, no more stand after the first 18 than the zeros
surplus-noughts : (more size k : ℕ) → size < 10 ^ 18 → surplus_within more (size * 10 ^ k) ≤ k
unfolding surplus_within
surplus-noughts zero size k few = omega arith
surplus-noughts (suc more) size zero few =
    omega (arith, surplus-few (suc more) (size * 10 ^ 0) (omega arith))
surplus-noughts (suc more) size (suc k) few =
    let n = size * 10 ^ suc k in
    let rest : size * 10 ^ suc k / 10 ≡ size * 10 ^ k = omega (arith, tens size k) in
    ⊎_elim
    (λ (short : size * 10 ^ suc k < 10 ^ 18). omega (arith, surplus-few (suc more) n short))
    (λ (long : 10 ^ 18 ≤ size * 10 ^ suc k).
    omega (
      arith,
      surplus-many more n long
          ∙ ap (λ m. surplus_within more m + 1) rest,
      surplus-noughts more size k few,
    ))
    (cases_lt (size * 10 ^ suc k) (10 ^ 18))

-- few zeros stand after a number that has few digits with them
short_of : (a n : ℕ) → 0 < a → a * 10 ^ n ≤ 10 ^ 18 → n < 20
short_of a n above few =
    ⊎_elim (λ less. less)
    (λ (far : 20 ≤ n).
    let great : 10 ^ 20 ≤ 10 ^ n = pow-le-pow_right {n = 10} (omega arith) {i = 20} {j = n} far in
    let times : 10 ^ n ≤ 10 ^ n * a = le-mul_of_pos_right (10 ^ n) above in
    absurd (omega arith))
    (cases_lt n 20)

-- zeros at the end count as well in the exponent
sample_of-noughts : (minus : Bool) (size k : ℕ) (e : ℤ) → size * 10 ^ k ≤ 10 ^ 18
    → sample_of (signed minus (size * 10 ^ k)) e ≡ sample_of (signed minus size) (e +ℤ pos k)
sample_of-noughts minus size k e few =
    ⊎_elim
    (λ (none : size ≡ 0).
    let nought : size * 10 ^ k ≡ 0 = ap (λ n. n * 10 ^ k) none ∙ omega arith in
    ap (λ n. sample_of (signed minus n) e) nought ∙ ap (λ z. sample_of z e) (signed-zero minus)
    ∙ sample_of-zero e
    ∙ sym (ap (λ n. sample_of (signed minus n) (e +ℤ pos k)) none
    ∙ ap (λ z. sample_of z (e +ℤ pos k)) (signed-zero minus) ∙ sample_of-zero (e +ℤ pos k)))
    (λ (other : size ≡ 0 → ⊥). some (omega arith))
    (cases_eq size 0)
  where
    some : 0 < size
        → sample_of (signed minus (size * 10 ^ k)) e ≡ sample_of (signed minus size) (e +ℤ pos k)
    some above =
        let low : size ≤ size * 10 ^ k = le-mul_of_pos_right size (ten_pos k) in
        let b = bare_of size above (omega arith) in
        let j = b.noughts in
        let shift : ℤ = (e +ℤ pos k) +ℤ pos (1000 + b.noughts) in
        let all : size * 10 ^ k ≡ b.digits * 10 ^ (b.noughts + k) =
        ap (λ n. n * 10 ^ k) (sym b.whole) ∙ noughts_add b.digits b.noughts k in
        let whole = b.whole in
        let short : b.noughts + k < 20 =
        short_of b.digits (b.noughts + k) (nonzero b.digits b.last) (omega arith) in
        ap (λ n. sample_of (signed minus n) e) all
        ∙ sample_of-placed minus b.digits (b.noughts + k) b.last (omega arith) short e shift
        (omega (arith, ints))
        ∙ sym (ap (λ n. sample_of (signed minus n) (e +ℤ pos k)) (sym b.whole)
        ∙ sample_of-placed minus b.digits b.noughts b.last (omega arith) (omega arith) (e +ℤ pos k)
        shift refl)

-- a number of at most 18 digits and zeros isn't rounded
sample_value-noughts : (minus : Bool) (size k : ℕ) (e : ℤ) → size < 10 ^ 18
    → sample_value (spelling minus (size * 10 ^ k) e) ≡ sample_of (signed minus size) (e +ℤ pos k)
sample_value-noughts minus size k e few =
    let n = size * 10 ^ k in
    let more : ℕ = surplus (size * 10 ^ k) in
    let within : surplus (size * 10 ^ k) ≤ k = surplus-noughts (size * 10 ^ k) size k few in
    let left : ℕ = k - surplus (size * 10 ^ k) in
    let parts : size * 10 ^ k ≡ size * 10 ^ left * 10 ^ more =
    ap (λ j. size * 10 ^ j) (omega arith) ∙ sym (noughts_add size left more) in
    let near : nearest (size * 10 ^ k) (10 ^ more) ≡ size * 10 ^ left =
    ap (λ m. nearest m (10 ^ more)) parts
    ∙ nearest-multiple (size * 10 ^ left) (10 ^ more) (ten_pos more) in
    let low : nearest (size * 10 ^ k) (10 ^ more) ≤ 10 ^ 18 = nearest-surplus n in
    let last : (e +ℤ pos more) +ℤ pos left ≡ e +ℤ pos k = omega (arith, ints) in
    sample_value-sample_of (spelling minus n e)
    ∙ ap (λ m. sample_of (signed minus m) (e +ℤ pos more)) near
    ∙ sample_of-noughts minus size left (e +ℤ pos more) (omega arith)
    ∙ ap (sample_of (signed minus size)) last

reads_as : (text : List ℕ) (s : Spelled) (z : ℤ) → IsNumber text s → sample_value s ≡ Some z
    → sample_reading text ≡ Ok (Value z)
unfolding sample_reading
reads_as text s z is value =
    ap (λ read. value_reading text (valued read)) (number_reading-number text s is)
    ∙ ap (λ found. value_reading text (Ok found)) value

-- the sample of a size in normal form
sample_of-form : (minus : Bool) (size shift : ℕ) (e : ℤ) → IsSampleForm minus size shift
    → (size % 10 ≡ 0 → ⊥)
    → e ≡ pos shift -ℤ pos 1000 → sample_of (signed minus size) e ≡ Some (number minus size shift)
sample_of-form minus size shift e form last is =
    let bare : size ≡ size * 10 ^ 0 = omega arith in
    let few = form.few in
    let low = form.low in
    let high = form.high in
    let place : pos shift ≡ e +ℤ pos (1000 + 0) = omega (arith, ints) in
    let all :
    (nat_lt size (10 ^ 18) && int_le (pos 650) (pos shift) && int_le (pos shift) (pos 1350))
    ≡ true =
    grind (arith, nat_tests, ints) in
    ap (λ n. sample_of (signed minus n) e) bare
    ∙ sample_of-placed minus size 0 last (omega arith) (omega arith) e (pos shift) place
    ∙ rw all refl

-- the text of a sample by its parts
parts_read : (minus : Bool) (size shift : ℕ) → IsSampleForm minus size shift
    → sample_reading (if size == 0 then codes "0" else sign minus ++ size_text (decimal size) shift)
    ≡ Ok (Value (number minus size shift))
parts_read minus size shift form =
    let few = form.few in
    let high = form.high in
    ⊎_elim
    (λ (none : size ≡ 0).
    let yes : (size == 0) ≡ true = grind (arith, nat_tests) in
    let nought : number minus size shift ≡ pos 0 =
    ap (λ n. signed minus (n * 10 ^ shift)) none ∙ ap (signed minus) (omega arith)
    ∙ signed-zero minus in
    rw yes
    (reads_as (codes "0") (spelling false 0 (pos 0 -ℤ pos 0)) (pos 0) nought_text
    (sample_value-noughts false 0 0 (pos 0 -ℤ pos 0) (omega arith)
    ∙ sample_of-zero ((pos 0 -ℤ pos 0) +ℤ pos 0))
    ∙ ap (λ z. Ok (Value z)) (sym nought)))
    (λ (some : size ≡ 0 → ⊥).
    let no : (size == 0) ≡ false = grind (arith, nat_tests) in
    let s = size_spells size shift (omega arith) (omega arith) (few_digits size (omega arith)) in
    let text = size_text (decimal size) shift in
    let e : ℤ = s.power -ℤ pos s.places in
    rw no
    (reads_as (sign minus ++ text) (spelling minus s.digits e) (number minus size shift)
    (number_of_text minus text size shift s)
    (ap (λ n. sample_value (spelling minus n e)) s.whole
    ∙ sample_value-noughts minus size s.behind e form.few
    ∙ sample_of-form minus size shift (e +ℤ pos s.behind) form (λ end. some (form.short end))
    s.last)))
    (cases_eq size 0)

-- a sample's text is read as the sample
pub sample_printed : (z : ℤ) → is_sample z ≡ true → sample_reading (number_text z) ≡ Ok (Value z)
sample_printed z is =
    let f = form_of z in
    parts_read f.negative f.size f.shift (IsSampleForm-form_of z is)
    ∙ ap (λ y. Ok (Value y)) (number-form_of z)
