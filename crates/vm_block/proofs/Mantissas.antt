-- Mantissas of values at an exponent that their block has.
use Rattle.std.proofs.Common.{◌≡◌, ◌==◌, if◌then◌else◌, nat_lt, ℕ, zero, suc, ◌+◌, ◌*◌, ◌^◌, ◌<◌, ◌≤◌, min, Bool, true, false, ℤ, pos, negsuc, ◌*ℤ◌, unsigned_abs, All, w64, of_z, List, [], ◌∷◌, ◌++◌, length, get_or, take, map, Option, Some, None, refl, ap, ap₂, sym, subst, ◌∙◌, inl, inr, arith, pow-add}
use Rattle.std.proofs.Math.Nat.{lt_of_mul-lt-mul_right, mul_assoc, one-le-mul}
use Rattle.std.proofs.lemmas.Bool.{cases_Bool, and_from}
use Rattle.std.proofs.lemmas.Bool.Decides.{nat_tests}
use Rattle.std.proofs.lemmas.List.Folds.{list_all_at, list_all-append}
use Rattle.std.proofs.lemmas.List.{length-map, map-append}
use Rattle.std.specs.Int.{is_negative}
use Rattle.std.specs.List.{list_all}
use Rattle.std.specs.Option.{unwrap_or}
use Rattle.std.specs.Ordering.{int_eq}
use Rattle.vm_base.specs.Form.{ten_pos, unsigned_abs-signed}
use Rattle.vm_base.specs.Number.{form_of, signed}
use Rattle.vm_base.specs.Sample.{is_sample, mantissa}
use Rattle.vm_base.proofs.NumberLaws.{int_eq-signed, number-form_of, is_negative-form}
use Rattle.vm_base.proofs.SampleLaws.{IsSampleForm-form_of}
use Rattle.vm_base.specs.declared.stamped.Stamped.{Stamped}
use Rattle.vm_codec.specs.Coding.{IsInBounds}
use Rattle.vm_block.specs.Block.{own_shift, lesser, least_shift, common_shift, times_of, values_of}
use Rattle.vm_block.specs.Cut.{has_18_digits, share_exponent}
use Rattle.vm_block.specs.inner.Reading.{raised_by}
use Rattle.vm_block.proofs.Cuts.{values_more}

-- ---- one value

signed_times : (minus : Bool) (size by : ℕ) → signed minus size *ℤ pos by ≡ signed minus (size * by)
signed_times false size by = refl
signed_times true zero by = let none : 0 * by ≡ 0 = omega arith in rw none refl
signed_times true (suc size) by = refl

-- the size of a sample, by its mantissa
size_is : (z m : ℤ) → m ≡ mantissa z → unsigned_abs m ≡ (form_of z).size
size_is z m is = ap unsigned_abs is ∙ unsigned_abs-signed (form_of z).negative (form_of z).size

whole_is : (z : ℤ) → unsigned_abs z ≡ (form_of z).size * 10 ^ (form_of z).shift
whole_is z =
    let f = form_of z in
    ap unsigned_abs (sym (number-form_of z))
    ∙ unsigned_abs-signed f.negative (f.size * 10 ^ f.shift)

pub zero_mantissa : (z m : ℤ) (shift : ℕ) → is_sample z ≡ true → m ≡ mantissa z → m ≡ pos 0
    → z ≡ raised_by shift (pos 0)
zero_mantissa z m shift is m_is none =
    let f = form_of z in
    let form = IsSampleForm-form_of z is in
    let size : f.size ≡ 0 = sym (size_is z m m_is) ∙ ap unsigned_abs none in
    let nought : f.size * 10 ^ f.shift ≡ 0 = ap (λ n. n * 10 ^ f.shift) size
    ∙ zero_times (10 ^ f.shift) in
    sym (number-form_of z) ∙ ap₂ signed (form.plus size) nought
    ∙ ap pos (sym (zero_times (10 ^ shift)))
  where
    zero_times : (n : ℕ) → 0 * n ≡ 0
    zero_times n = omega arith

-- the exponent of a value that isn't zero
pub own_is : (z m : ℤ) → m ≡ mantissa z → 0 < unsigned_abs m → own_shift z ≡ Some (form_of z).shift
own_is z m m_is some =
    let f = form_of z in
    let test : int_eq z (pos 0) ≡ false =
    ap (λ x. int_eq x (pos 0)) (sym (number-form_of z))
    ∙ int_eq-signed f.negative (f.size * 10 ^ f.shift)
    ∙ not_zero (f.size * 10 ^ f.shift)
    (one-le-mul {a = f.size} (omega (arith, size_is z m m_is)) (ten_pos f.shift)) in
    ap (λ b. if b then None else Some f.shift) test
  where
    not_zero : (n : ℕ) → 0 < n → (n == 0) ≡ false
    not_zero n h = grind (arith, nat_tests)

pub shift_below : (z m : ℤ) (shift : ℕ) → m ≡ mantissa z → 0 < unsigned_abs m
    → lesser (Some shift) (own_shift z) ≡ Some shift
    → shift ≤ (form_of z).shift
shift_below z m shift m_is some least =
    let lower : lesser (Some shift) (Some (form_of z).shift) ≡ Some shift =
    ap (lesser (Some shift)) (sym (own_is z m m_is some)) ∙ least in
    let both : min shift (form_of z).shift ≡ shift = cc in
    omega arith

-- zeros after the mantissa, which leave it 18 digits
raised_whole : (size gap shift high : ℕ) → gap + shift ≡ high
    → size * 10 ^ gap * 10 ^ shift ≡ size * 10 ^ high
raised_whole size gap shift high is =
    mul_assoc size (10 ^ gap) (10 ^ shift)
    ∙ ap (λ n. size * n) (sym (pow-add 10 gap shift) ∙ ap (λ n. 10 ^ n) is)

pub raised_few : (z m : ℤ) (shift gap : ℕ) → m ≡ mantissa z → gap + shift ≡ (form_of z).shift
    → has_18_digits shift z ≡ true
    → unsigned_abs m * 10 ^ gap < 10 ^ 18
raised_few z m shift gap m_is at digits =
    let size = unsigned_abs m in
    let whole : size * 10 ^ gap * 10 ^ shift ≡ unsigned_abs z =
    raised_whole size gap shift (form_of z).shift at
    ∙ ap (λ n. n * 10 ^ (form_of z).shift) (size_is z m m_is) ∙ sym (whole_is z) in
    let below : unsigned_abs z < 10 ^ (18 + shift) =
    below_from (unsigned_abs z) (10 ^ (18 + shift)) digits in
    lt_of_mul-lt-mul_right (10 ^ shift) (omega (arith, whole, below, pow-add 10 18 shift))
  where
    below_from : (x b : ℕ) → nat_lt x b ≡ true → x < b
    below_from x b h = grind (arith, nat_tests)

pub raised_value : (z m : ℤ) (shift gap raised : ℕ) → is_sample z ≡ true → m ≡ mantissa z
    → gap + shift ≡ (form_of z).shift
    → raised ≡ unsigned_abs m * 10 ^ gap → z ≡ raised_by shift (signed (is_negative m) raised)
raised_value z m shift gap raised is m_is at raised_is =
    let f = form_of z in
    let form = IsSampleForm-form_of z is in
    let sign : is_negative m ≡ f.negative = ap is_negative m_is
    ∙ is_negative-form f.negative f.size form.plus in
    let whole : raised * 10 ^ shift ≡ f.size * 10 ^ f.shift =
    ap (λ n. n * 10 ^ shift) raised_is ∙ raised_whole (unsigned_abs m) gap shift f.shift at
    ∙ ap (λ n. n * 10 ^ f.shift) (size_is z m m_is) in
    sym (number-form_of z) ∙ ap₂ signed (sym sign) (sym whole)
    ∙ sym (signed_times (is_negative m) raised (10 ^ shift))

-- ---- a value among others

absorbed : (one two : Option ℕ) → lesser (lesser one two) one ≡ lesser one two
absorbed None None = refl
absorbed None (Some b) = refl
absorbed (Some a) None = let same : min a a ≡ a = omega arith in ap Some same
absorbed (Some a) (Some b) = let same : min (min a b) a ≡ min a b = omega arith in ap Some same

assoc : (one two three : Option ℕ) → lesser (lesser one two) three ≡ lesser one (lesser two three)
assoc None two three = refl
assoc (Some a) None three = refl
assoc (Some a) (Some b) None = refl
assoc (Some a) (Some b) (Some c) = let same : min (min a b) c ≡ min a (min b c) =
    omega arith in ap Some same

held : (values : List ℤ) (i : ℕ) (d : ℤ) → i < length values
    → lesser (least_shift values) (own_shift (get_or values i d)) ≡ least_shift values
held [] i d inside = absurd (omega arith)
held (z ∷ values) zero d inside = absorbed (own_shift z) (least_shift values)
held (z ∷ values) (suc i) d inside =
    assoc (own_shift z) (least_shift values) (own_shift (get_or values i d))
    ∙ ap (lesser (own_shift z)) (held values i d (omega arith))

pub common_held : (values : List ℤ) (i : ℕ) (d : ℤ) → i < length values
    → lesser (Some (common_shift values)) (own_shift (get_or values i d))
    ≡ Some (common_shift values)
common_held values i d inside =
    by_least (least_shift values) (own_shift (get_or values i d)) (held values i d inside)
  where
    by_least : (least own : Option ℕ) → lesser least own ≡ least
        → lesser (Some (unwrap_or least 1000)) own ≡ Some (unwrap_or least 1000)
    by_least None None is = refl
    by_least None (Some n) is = absurd (cc)
    by_least (Some n) own is = is

pub digits_held : (values : List ℤ) (i : ℕ) (d : ℤ) → i < length values
    → share_exponent values ≡ true
    → has_18_digits (common_shift values) (get_or values i d) ≡ true
digits_held values i d inside share =
    elim (cases_Bool (has_18_digits (common_shift values) (get_or values i d))) [
      | inl fits ↦ fits
      | inr over ↦
          let other : share_exponent values ≡ false =
          list_all_at (has_18_digits (common_shift values)) values i d inside over in
          absurd (clash (share_exponent values) share other)
    ]
  where
    clash : (b : Bool) → b ≡ true → b ≡ false → ⊥
    clash b holds fails = cc

-- ---- a sample among others

value_at : (samples : List Stamped) (i : ℕ) (s : Stamped) → i < length samples
    → s ≡ get_or samples i s → get_or (values_of samples) i s.value ≡ s.value
value_at [] i s inside is = absurd (omega arith)
value_at (t ∷ samples) zero s inside is = ap (λ x. x.value) (sym is)
value_at (t ∷ samples) (suc i) s inside is = value_at samples i s (omega arith) is

pub item_least : (samples : List Stamped) (i : ℕ) (s : Stamped) (shift : ℕ) → i < length samples
    → s ≡ get_or samples i s
    → shift ≡ common_shift (values_of samples)
    → lesser (Some shift) (own_shift s.value) ≡ Some shift
item_least samples i s shift inside is shift_is =
    let values = values_of samples in
    let within : i < length values = omega (arith, length-map samples (λ s. s.value)) in
    subst (λ n. lesser (Some n) (own_shift s.value) ≡ Some n) (sym shift_is)
    (subst (λ z. lesser (Some (common_shift values)) (own_shift z) ≡ Some (common_shift values))
    (value_at samples i s inside is)
    (common_held values i s.value within))

pub item_digits : (samples : List Stamped) (i : ℕ) (s : Stamped) (shift : ℕ) → i < length samples
    → s ≡ get_or samples i s
    → shift ≡ common_shift (values_of samples) → share_exponent (values_of samples) ≡ true
    → has_18_digits shift s.value ≡ true
item_digits samples i s shift inside is shift_is share =
    let values = values_of samples in
    let within : i < length values = omega (arith, length-map samples (λ s. s.value)) in
    subst (λ n. has_18_digits n s.value ≡ true) (sym shift_is)
    (subst (λ z. has_18_digits (common_shift values) z ≡ true) (value_at samples i s inside is)
    (digits_held values i s.value within share))

pub bounds_more : (ms : List ℤ) (m : ℤ) → All IsInBounds ms → IsInBounds m
    → All IsInBounds (ms ++ m ∷ [])
bounds_more [] m all one zero d inside = one
bounds_more [] m all one (suc k) d inside = absurd (omega arith)
bounds_more (x ∷ ms) m all one zero d inside = all 0 d (omega arith)
bounds_more (x ∷ ms) m all one (suc k) d inside =
    bounds_more ms m (λ k d h. all (suc k) d (omega arith)) one k d (omega arith)

pub times_bound : (samples : List Stamped) → All (λ s. s.time < 2 ^ 48) samples
    → All IsInBounds (times_of samples)
times_bound [] all k d inside = absurd (omega arith)
times_bound (s ∷ samples) all zero d inside = let early : s.time < 2 ^ 48 =
    all 0 s (omega arith) in omega arith
times_bound (s ∷ samples) all (suc k) d inside =
    times_bound samples (λ k d h. all (suc k) d (omega arith)) k d (omega arith)

-- one mantissa more
pub mantissas_more :
    (shift : ℕ) (samples : List Stamped) (i : ℕ) (s : Stamped) (ms : List ℤ) (m : ℤ)
    → i < length samples → s ≡ get_or samples i s
    → s.value ≡ raised_by shift m → values_of (take i samples) ≡ map (raised_by shift) ms
    → values_of (take (i + 1) samples) ≡ map (raised_by shift) (ms ++ m ∷ [])
mantissas_more shift samples i s ms m inside is value so_far =
    values_more samples i s s inside is ∙ ap₂ (λ xs z. xs ++ z ∷ []) so_far value
    ∙ sym (map-append (raised_by shift) ms (m ∷ []))

pub samples_more : (samples : List Stamped) (i : ℕ) (s : Stamped) → i < length samples
    → s ≡ get_or samples i s → is_sample s.value ≡ true
    → list_all is_sample (values_of (take i samples)) ≡ true
    → list_all is_sample (values_of (take (i + 1) samples)) ≡ true
samples_more samples i s inside is one so_far =
    ap (list_all is_sample) (values_more samples i s s inside is)
    ∙ list_all-append is_sample (values_of (take i samples)) (s.value ∷ [])
    ∙ and_from (list_all is_sample (values_of (take i samples))) (list_all is_sample (s.value ∷ []))
    so_far
    (and_from (is_sample s.value) true one refl)

pub some_abs : (m : ℤ) → (of_z w64 m ≡ 0 → ⊥) → 0 < unsigned_abs m
some_abs (pos zero) other = absurd (other refl)
some_abs (pos (suc n)) other = omega arith
some_abs (negsuc n) other = omega arith
