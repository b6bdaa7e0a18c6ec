-- Samples from times and mantissas, one after the other.
use Rattle.std.proofs.Common.{◌≡◌, ℕ, suc, ◌+◌, ◌<◌, ◌≤◌, if◌then◌else◌, Bool, true, false, ℤ, pos, negsuc, ◌+ℤ◌, ◌≤ℤ◌, int_le, unsigned_abs, List, [], ◌∷◌, ◌++◌, length, get_or, take, map, Some, None, inl, inr, refl, ap, ap₂, sym, subst, ◌∙◌, arith}
use Rattle.std.proofs.Math.Seq.{take-suc}
use Rattle.std.proofs.lemmas.Bool.{cases_Bool, and_from}
use Rattle.std.proofs.lemmas.Bool.Decides.{nat_tests}
use Rattle.std.proofs.lemmas.Int.{ints}
use Rattle.std.proofs.lemmas.List.{take_all, map-append}
use Rattle.std.proofs.lemmas.List.Folds.{list_all-append, list_all-map, list_all_at}
use Rattle.std.specs.List.{list_all}
use Rattle.std.specs.Ordering.{int_eq}
use Rattle.vm_base.specs.Sample.{is_sample, sample_of}
use Rattle.vm_base.specs.declared.stamped.Stamped.{Stamped}
use Rattle.vm_block.specs.Block.{scaled_by, times_of, values_of}
use Rattle.vm_block.specs.inner.Reading.{AreStamped}

-- ---- one mantissa

-- the sample of a mantissa, at an exponent that a block may have
sample_at : (m e : ℤ) → negsuc 349 ≤ℤ e
    → sample_of m e ≡ (if is_sample (scaled_by e m) then Some (scaled_by e m) else None)
sample_at m e low =
    let whole : int_le (pos 0) (e +ℤ pos 1000) ≡ true = grind (arith, ints, nat_tests) in
    rw whole refl

if_some : (b : Bool) (z v : ℤ) → (if b then Some z else None) ≡ Some v → (b ≡ true) × (z ≡ v)
if_some true z v is = (refl, cc)
if_some false z v is = absurd (cc)

if_none : (b : Bool) (z : ℤ) → (if b then Some z else None) ≡ None → b ≡ false
if_none true z is = absurd (cc)
if_none false z is = refl

-- ---- one item more

front_more : {X Y : Type 0} (f : X → Y) (xs : List X) (i : ℕ) (d : X) (y : Y) (ys : List Y)
    → i < length xs → y ≡ f (get_or xs i d)
    → ys ≡ map f (take i xs) → ys ++ y ∷ [] ≡ map f (take (i + 1) xs)
front_more f xs i d y ys inside is front =
    let next : i + 1 ≡ suc i = omega arith in
    let more : take (i + 1) xs ≡ take i xs ++ get_or xs i d ∷ [] = ap (λ n. take n xs) next
    ∙ take-suc xs i d inside in
    ap₂ (λ zs z. zs ++ z ∷ []) front is
    ∙ sym (ap (map f) more ∙ map-append f (take i xs) (get_or xs i d ∷ []))

pub stamp_none : (e : ℤ) (ts ms : List ℤ) → AreStamped e (take 0 ts) (take 0 ms) []
stamp_none e ts ms = record { times = refl; values = refl; are = refl }

pub stamp_more : (e : ℤ) (ts ms : List ℤ) (i : ℕ) (samples : List Stamped) (t : ℕ) (v : ℤ)
    → negsuc 349 ≤ℤ e → i < length ts → i < length ms
    → t ≡ unsigned_abs (get_or ts i (pos 0)) → Some v ≡ sample_of (get_or ms i (pos 0)) e
    → AreStamped e (take i ts) (take i ms) samples
    → AreStamped e (take (i + 1) ts) (take (i + 1) ms)
    (samples ++ record { time = t; value = v } ∷ [])
stamp_more e ts ms i samples t v low in_times in_values time value are =
    let m = get_or ms i (pos 0) in
    let both =
    if_some (is_sample (scaled_by e m)) (scaled_by e m) v (sym (value ∙ sample_at m e low)) in
    let values =
    front_more (scaled_by e) ms i (pos 0) (scaled_by e m) (map (scaled_by e) (take i ms))
    in_values refl refl in
    record {
      times =
          map-append (λ s. pos s.time) samples (record { time = t; value = v } ∷ [])
          ∙ front_more (λ time. pos (unsigned_abs time)) ts i (pos 0) (pos t) (times_of samples)
          in_times (ap pos time) are.times;
      values =
          map-append (λ s. s.value) samples (record { time = t; value = v } ∷ [])
          ∙ front_more (scaled_by e) ms i (pos 0) v (values_of samples) in_values (sym both.1)
          are.values;
      are =
          ap (list_all is_sample) (sym values)
          ∙ list_all-append is_sample (map (scaled_by e) (take i ms)) (scaled_by e m ∷ [])
          ∙ and_from (list_all is_sample (map (scaled_by e) (take i ms)))
          (list_all is_sample (scaled_by e m ∷ [])) are.are
          (and_from (is_sample (scaled_by e m)) true both.0 refl);
    }

pub stamp_all : (e : ℤ) (ts ms : List ℤ) (i : ℕ) (samples : List Stamped) → length ts ≡ length ms
    → length ts ≤ i
    → AreStamped e (take i ts) (take i ms) samples → AreStamped e ts ms samples
stamp_all e ts ms i samples same past are =
    subst (λ ms. AreStamped e ts ms samples) (take_all i ms (omega arith))
    (subst (λ ts. AreStamped e ts (take i ms) samples) (take_all i ts past) are)

pub no_sample : (e : ℤ) (ms : List ℤ) (i : ℕ) → negsuc 349 ≤ℤ e → i < length ms
    → None ≡ sample_of (get_or ms i (pos 0)) e
    → list_all is_sample (map (scaled_by e) ms) ≡ false
no_sample e ms i low inside none =
    let m = get_or ms i (pos 0) in
    list_all-map is_sample (scaled_by e) ms
    ∙ list_all_at (λ m. is_sample (scaled_by e m)) ms i (pos 0) inside
    (if_none (is_sample (scaled_by e m)) (scaled_by e m) (sym (none ∙ sample_at m e low)))

-- ---- exponents

pub other_exponent : (one two : ℤ) → (one ≡ two → ⊥) → int_eq one two ≡ false
other_exponent one two apart =
    elim (cases_Bool (int_eq one two)) [
      | inl same ↦ absurd (apart (same_int one two same))
      | inr other ↦ other
    ]
  where
    same_int : (one two : ℤ) → int_eq one two ≡ true → one ≡ two
    same_int one two same = grind (arith, ints, nat_tests)
