-- The exponent that values share, and how great their mantissas are at it.
use Rattle.std.proofs.Common.{◌≡◌, ◌==◌, ◌&&◌, if◌then◌else◌, nat_lt, ℕ, zero, suc, ◌+◌, ◌-◌, ◌*◌, ◌^◌, ◌<◌, ◌≤◌, min, max, true, false, ℤ, pos, unsigned_abs, List, [], ◌∷◌, ◌++◌, Option, Some, None, refl, ap, ap₂, sym, subst, ◌∙◌, inl, inr, arith, pow-add}
use Rattle.std.proofs.Math.Nat.{mul-le-mul_right, mul-lt-mul_of_pos_right, mul_assoc, pow-le-pow_right, zero-mul}
use Rattle.std.proofs.lemmas.Bool.{cases_eq, cases_lt}
use Rattle.std.proofs.lemmas.Bool.Decides.{nat_tests}
use Rattle.std.specs.List.{list_all}
use Rattle.std.specs.Option.{unwrap_or}
use Rattle.std.specs.Ordering.{int_eq}
use Rattle.vm_base.specs.Form.{ten_pos, unsigned_abs-signed}
use Rattle.vm_base.specs.Number.{form_of}
use Rattle.vm_base.specs.Sample.{is_sample, mantissa}
use Rattle.vm_base.proofs.NumberLaws.{int_eq-signed, number-form_of}
use Rattle.vm_base.proofs.SampleLaws.{IsSampleForm-form_of}
use Rattle.vm_block.specs.Block.{own_shift, lesser, least_shift, common_shift}
use Rattle.vm_block.specs.Cut.{share_exponent}
use Rattle.vm_block.specs.inner.Reading.{greatest_size, IsShared, raise_of, join_of, Joined}
use Rattle.vm_block.specs.declared.shared.Shared.{Shared}

-- ---- least exponents

pub lesser-none : (one : Option ℕ) → lesser one None ≡ one
lesser-none None = refl
lesser-none (Some n) = refl

lesser-assoc : (one two three : Option ℕ)
    → lesser (lesser one two) three ≡ lesser one (lesser two three)
lesser-assoc None two three = refl
lesser-assoc (Some a) None three = refl
lesser-assoc (Some a) (Some b) None = refl
lesser-assoc (Some a) (Some b) (Some c) = let same : min (min a b) c ≡ min a (min b c) =
    omega arith in ap Some same

pub least-append : (values others : List ℤ)
    → least_shift (values ++ others) ≡ lesser (least_shift values) (least_shift others)
least-append [] others = refl
least-append (z ∷ values) others =
    ap (lesser (own_shift z)) (least-append values others)
    ∙ sym (lesser-assoc (own_shift z) (least_shift values) (least_shift others))

-- ---- greatest sizes

pub greatest-append : (values others : List ℤ)
    → greatest_size (values ++ others) ≡ max (greatest_size values) (greatest_size others)
greatest-append [] others = omega arith
greatest-append (z ∷ values) others = let rest =
    greatest-append values others in omega (arith, rest)

both_below : (x y b : ℕ) → (nat_lt x b && nat_lt y b) ≡ nat_lt (max x y) b
both_below x y b = grind (arith, nat_tests)

all_below : (b : ℕ) (values : List ℤ) → 0 < b
    → list_all (λ z. nat_lt (unsigned_abs z) b) values ≡ nat_lt (greatest_size values) b
all_below b [] some = grind (arith, nat_tests)
all_below b (z ∷ values) some =
    ap (λ t. nat_lt (unsigned_abs z) b && t) (all_below b values some)
    ∙ both_below (unsigned_abs z) (greatest_size values) b

pub share_by_greatest : (values : List ℤ)
    → share_exponent values ≡ nat_lt (greatest_size values) (10 ^ (18 + common_shift values))
share_by_greatest values =
    all_below (10 ^ (18 + common_shift values)) values (ten_pos (18 + common_shift values))

is_below : (x b : ℕ) → x < b → nat_lt x b ≡ true
is_below x b h = grind (arith, nat_tests)

not_below : (x b : ℕ) → b ≤ x → nat_lt x b ≡ false
not_below x b h = grind (arith, nat_tests)

is_zero : (n : ℕ) → n ≡ 0 → (n == 0) ≡ true
is_zero n h = grind (arith, nat_tests)

not_zero : (n : ℕ) → 0 < n → (n == 0) ≡ false
not_zero n h = grind (arith, nat_tests)

-- ---- what is known of values so far

-- the exponent of values, not all of which are zero
shift_is : (values : List ℤ) (shared : Shared) → IsShared values shared → 0 < shared.greatest
    → least_shift values ≡ Some shared.shift
shift_is values shared is some = rw (not_zero shared.greatest some) at is.least

no_shift : (values : List ℤ) (shared : Shared) → IsShared values shared → shared.greatest ≡ 0
    → least_shift values ≡ None
no_shift values shared is none = rw (is_zero shared.greatest none) at is.least

no_size : (values : List ℤ) (shared : Shared) → IsShared values shared → shared.greatest ≡ 0
    → greatest_size values ≡ 0
no_size values shared is none =
    sym is.greatest ∙ ap (λ n. n * 10 ^ shared.shift) none ∙ zero-mul (10 ^ shared.shift)

-- they fit
pub shared_shares : (values : List ℤ) (shared : Shared) → IsShared values shared
    → share_exponent values ≡ true
shared_shares values shared is =
    share_by_greatest values
    ∙ elim (cases_eq shared.greatest 0) [
      | inl none ↦
          is_below (greatest_size values) (10 ^ (18 + common_shift values))
          (subst (λ n. n < 10 ^ (18 + common_shift values)) (sym (no_size values shared is none))
          (ten_pos (18 + common_shift values)))
      | inr some ↦
          let shift : common_shift values ≡ shared.shift =
          ap (λ o. unwrap_or o 1000) (shift_is values shared is (omega arith)) in
          let below : shared.greatest * 10 ^ shared.shift < 10 ^ 18 * 10 ^ shared.shift =
          mul-lt-mul_of_pos_right is.few (ten_pos shared.shift) in
          let power : 10 ^ (18 + common_shift values) ≡ 10 ^ 18 * 10 ^ shared.shift =
          ap (λ n. 10 ^ (18 + n)) shift ∙ pow-add 10 18 shared.shift in
          is_below (greatest_size values) (10 ^ (18 + common_shift values))
          (omega (arith, below, power, is.greatest))
    ]

-- ---- one value

pub one_shared : (z : ℤ) (shared : Shared) → is_sample z ≡ true → shared.shift ≡ (form_of z).shift
    → shared.greatest ≡ unsigned_abs (mantissa z)
    → IsShared (z ∷ []) shared
one_shared z shared is shift greatest =
    let f = form_of z in
    let form = IsSampleForm-form_of z is in
    let size : shared.greatest ≡ f.size = greatest ∙ unsigned_abs-signed f.negative f.size in
    let whole = number-form_of z in
    let abs : unsigned_abs z ≡ f.size * 10 ^ f.shift = ap unsigned_abs (sym whole)
    ∙ unsigned_abs-signed f.negative (f.size * 10 ^ f.shift) in
    let test : int_eq z (pos 0) ≡ (f.size * 10 ^ f.shift == 0) =
    ap (λ x. int_eq x (pos 0)) (sym whole) ∙ int_eq-signed f.negative (f.size * 10 ^ f.shift) in
    record {
      least =
          lesser-none (own_shift z)
          ∙ ap (λ b. if b then None else Some f.shift)
          (test ∙ same_zero f.size (10 ^ f.shift) (ten_pos f.shift) ∙ ap (λ n. n == 0) (sym size))
          ∙ ap (λ n. if shared.greatest == 0 then None else Some n) (sym shift);
      greatest =
          let rest : max (f.size * 10 ^ f.shift) 0 ≡ f.size * 10 ^ f.shift = omega arith in
          ap₂ (λ n k. n * 10 ^ k) size shift ∙ sym (ap (λ n. max n 0) abs ∙ rest);
      few = subst (λ n. n < 10 ^ 18) (sym size) form.few;
    }
  where
    same_zero : (n by : ℕ) → 0 < by → (n * by == 0) ≡ (n == 0)
    same_zero zero by some = ap (λ n. n == 0) (zero-mul by)
    same_zero (suc n) by some =
        let above : 1 * by ≤ suc n * by = mul-le-mul_right {m = 1} {n = suc n} by (omega arith) in
        not_zero (suc n * by) (omega (arith, above)) ∙ sym (not_zero (suc n) (omega arith))

-- ---- values and others

max_times : (x y by : ℕ) → max x y * by ≡ max (x * by) (y * by)
max_times x y by =
    elim (cases_lt x y) [
      | inl below ↦
          let above : x * by ≤ y * by = mul-le-mul_right {m = x} {n = y} by (omega arith) in
          let greater : max x y ≡ y = omega arith in
          rw greater (omega (arith, above))
      | inr past ↦
          let above : y * by ≤ x * by = mul-le-mul_right {m = y} {n = x} by (omega arith) in
          let greater : max x y ≡ x = omega arith in
          rw greater (omega (arith, above))
    ]

raised_joins : (values : List ℤ) (low high : Shared) → 0 < low.greatest → low.greatest < 10 ^ 18
    → low.shift ≤ high.shift
    → least_shift values ≡ Some low.shift
    → greatest_size values ≡ max (high.greatest * 10 ^ high.shift) (low.greatest * 10 ^ low.shift)
    → Joined values (raise_of low high)
raised_joins values low high some few order least greatest =
    let raised = high.greatest * 10 ^ (high.shift - low.shift) in
    let gap : high.shift - low.shift + low.shift ≡ high.shift = omega arith in
    let whole : raised * 10 ^ low.shift ≡ high.greatest * 10 ^ high.shift =
    mul_assoc high.greatest (10 ^ (high.shift - low.shift)) (10 ^ low.shift)
    ∙ ap (λ n. high.greatest * n)
    (sym (pow-add 10 (high.shift - low.shift) low.shift) ∙ ap (λ n. 10 ^ n) gap) in
    let sizes : max raised low.greatest * 10 ^ low.shift ≡ greatest_size values =
    max_times raised low.greatest (10 ^ low.shift)
    ∙ ap (λ n. max n (low.greatest * 10 ^ low.shift)) whole ∙ sym greatest in
    let shift : common_shift values ≡ low.shift = ap (λ o. unwrap_or o 1000) least in
    elim (cases_lt raised (10 ^ 18)) [
      | inl fits ↦
          let above : 0 < max raised low.greatest = omega arith in
          let below : max raised low.greatest < 10 ^ 18 = omega arith in
          let test = is_below raised (10 ^ 18) fits in
          subst (Joined values)
          (sym (ap (λ b. if b
          then Some (record { shift = low.shift; greatest = max raised low.greatest })
          else None) test))
          (record {
            least = least
                ∙ ap (λ b. if b then None else Some low.shift)
                (sym (not_zero (max raised low.greatest) above));
            greatest = sizes;
            few = below;
          })
      | inr over ↦
          let test = not_below raised (10 ^ 18) over in
          let times : 10 ^ 18 * 10 ^ low.shift ≤ raised * 10 ^ low.shift =
          mul-le-mul_right {m = 10 ^ 18} {n = raised} (10 ^ low.shift) over in
          let power : 10 ^ (18 + common_shift values) ≡ 10 ^ 18 * 10 ^ low.shift =
          ap (λ n. 10 ^ (18 + n)) shift ∙ pow-add 10 18 low.shift in
          let at_least : raised * 10 ^ low.shift ≤ greatest_size values =
          omega (arith, whole, greatest) in
          subst (Joined values)
          (sym (ap (λ b. if b
          then Some (record { shift = low.shift; greatest = max raised low.greatest })
          else None) test))
          (share_by_greatest values
          ∙ not_below (greatest_size values) (10 ^ (18 + common_shift values))
          (omega (arith, times, power, at_least)))
    ]

pub joins : (values others : List ℤ) (one two : Shared) → IsShared values one → IsShared others two
    → Joined (values ++ others) (join_of one two)
joins values others one two is other =
    let least = least-append values others in
    let greatest = greatest-append values others in
    elim (cases_eq two.greatest 0) [
      | inl none ↦
          subst (Joined (values ++ others))
          (sym (ap (λ b. if b then Some one else rest) (is_zero two.greatest none)))
          (record {
            least = least ∙ ap (lesser (least_shift values)) (no_shift others two other none)
                ∙ lesser-none (least_shift values) ∙ is.least;
            greatest =
                let size = no_size others two other none in
                is.greatest ∙ omega (arith, greatest, size);
            few = is.few;
          })
      | inr some ↦
          subst (Joined (values ++ others))
          (sym (ap (λ b. if b then Some one else rest) (not_zero two.greatest (omega arith))))
          (elim (cases_eq one.greatest 0) [
            | inl none ↦
                subst (Joined (values ++ others))
                (sym (ap (λ b. if b then Some two else ordered) (is_zero one.greatest none)))
                (record {
                  least = least
                      ∙ ap (λ o. lesser o (least_shift others)) (no_shift values one is none)
                      ∙ other.least;
                  greatest =
                      let size = no_size values one is none in
                      other.greatest ∙ omega (arith, greatest, size);
                  few = other.few;
                })
            | inr more ↦
                subst (Joined (values ++ others))
                (sym (ap (λ b. if b then Some two else ordered)
                (not_zero one.greatest (omega arith))))
                (in_order (omega arith) (omega arith))
          ])
    ]
  where
    ordered : Option Shared
    ordered = if nat_lt one.shift two.shift then raise_of one two else raise_of two one

    rest : Option Shared
    rest = if one.greatest == 0 then Some two else ordered

    in_order : 0 < one.greatest → 0 < two.greatest → Joined (values ++ others) ordered
    in_order first second =
        let least : least_shift (values ++ others) ≡ Some (min one.shift two.shift) =
        least-append values others
        ∙ ap₂ lesser (shift_is values one is first) (shift_is others two other second) in
        let greatest : greatest_size (values ++ others)
        ≡ max (one.greatest * 10 ^ one.shift) (two.greatest * 10 ^ two.shift) =
        greatest-append values others ∙ ap₂ max (sym is.greatest) (sym other.greatest) in
        elim (cases_lt one.shift two.shift) [
          | inl below ↦
              let lower : min one.shift two.shift ≡ one.shift = omega arith in
              subst (Joined (values ++ others))
              (sym (ap (λ b. if b then raise_of one two else raise_of two one)
              (is_below one.shift two.shift below)))
              (raised_joins (values ++ others) one two first is.few (omega arith)
              (least ∙ ap Some lower)
              (greatest ∙ turned (one.greatest * 10 ^ one.shift) (two.greatest * 10 ^ two.shift)))
          | inr past ↦
              let lower : min one.shift two.shift ≡ two.shift = omega arith in
              subst (Joined (values ++ others))
              (sym (ap (λ b. if b then raise_of one two else raise_of two one)
              (not_below one.shift two.shift past)))
              (raised_joins (values ++ others) two one second other.few (omega arith)
              (least ∙ ap Some lower) greatest)
        ]
      where
        turned : (x y : ℕ) → max x y ≡ max y x
        turned x y = omega arith

-- 18 zeros or more are too many
pub far_raised : (size noughts : ℕ) → 0 < size → 18 ≤ noughts
    → None ≡ (if nat_lt (size * 10 ^ noughts) (10 ^ 18) then Some (size * 10 ^ noughts) else None)
far_raised size noughts some far =
    let powers : 10 ^ 18 ≤ 10 ^ noughts = pow-le-pow_right {n = 10} (omega arith) far in
    let sizes : 1 * 10 ^ noughts ≤ size * 10 ^ noughts =
    mul-le-mul_right {m = 1} {n = size} (10 ^ noughts) some in
    sym (ap (λ b. if b then Some (size * 10 ^ noughts) else None)
    (not_below (size * 10 ^ noughts) (10 ^ 18) (omega (arith, powers, sizes))))
