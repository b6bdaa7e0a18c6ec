-- Intervals of time, and what `thinned` gives.
use Rattle.std.proofs.Common.{◌≡◌, ℕ, zero, suc, ◌+◌, ◌-◌, ◌*◌, ◌/◌, ◌%◌, ◌==◌, ◌&&◌, ◌<◌, ◌≤◌, nat_lt, min, Bool, true, false, List, [], ◌∷◌, arith, ap, sym, ◌∙◌, refl}
use Rattle.std.specs.List.{AllByRecursion, list_any}
use Rattle.std.proofs.Math.Nat.{div-mul-le_self}
use Rattle.std.proofs.lemmas.Nat.{div-mul-add, le-div}
use Rattle.std.proofs.lemmas.Bool.{or_from}
use Rattle.std.proofs.lemmas.Bool.Decides.{nat_tests}
use Rattle.vm_base.specs.Sorted.{IsUp}
use Rattle.vm_base.specs.Stamped.{is_in_order}
use Rattle.vm_base.specs.Thinned.{interval_of, is_one_interval, thinned}
use Rattle.vm_base.specs.declared.stamped.Stamped.{Stamped}
use Rattle.vm_dedup.specs.Intervals.{last_of_intervals}

-- a quotient rounded up, of a multiple and of what lies above one
rounds_up : (d q r : ℕ) → r < d → (d * q + r + d - 1) / d ≡ q + min 1 r
rounds_up d q zero some =
    ap (λ n. n / d) (let e : d * q + 0 + d - 1 ≡ q * d + (d - 1) = omega arith in e)
    ∙ div-mul-add q d (d - 1) (omega arith) ∙ omega arith
rounds_up d q (suc r) some =
    ap (λ n. n / d) (let e : d * q + suc r + d - 1 ≡ (q + 1) * d + r = omega arith in e)
    ∙ div-mul-add (q + 1) d r (omega arith) ∙ omega arith

-- the end of an interval is the quotient rounded up
pub interval_rounds_up : (d time : ℕ) → 0 < d → interval_of d time ≡ time / d + min 1 (time % d)
interval_rounds_up d time some =
    let whole : d * (time / d) + time % d ≡ time = omega arith in
    ap (λ n. (n + d - 1) / d) (sym whole) ∙ rounds_up d (time / d) (time % d) (omega arith)

-- times in order have ends in order
interval_of-le : (d t u : ℕ) → 0 < d → t ≤ u → interval_of d t ≤ interval_of d u
interval_of-le d t u some up =
    le-div ((t + d - 1) / d) (u + d - 1) d some
    (omega (arith, div-mul-le_self (t + d - 1) d))

-- a time after one of another interval is of another interval too
later_too : (d t u v : ℕ) → t ≤ u → u ≤ v
    → (nat_lt 0 d && interval_of d t == interval_of d u) ≡ false
    → (nat_lt 0 d && interval_of d t == interval_of d v) ≡ false
later_too zero t u v first next other = refl
later_too (suc e) t u v first next other =
    let low : interval_of (suc e) t ≤ interval_of (suc e) u =
    interval_of-le (suc e) t u (omega arith) first in
    let high : interval_of (suc e) u ≤ interval_of (suc e) v =
    interval_of-le (suc e) u v (omega arith) next in
    grind (arith, nat_tests)

-- samples in order have times in order
times_up : (a b : Stamped) → is_in_order a b ≡ true → a.time ≤ b.time
times_up a b up = grind (arith, nat_tests)

-- a sample whose interval the next one isn't in has no later one in it
no_more : (d : ℕ) (a b : Stamped) (more : List Stamped) → is_in_order a b ≡ true
    → AllByRecursion (λ s. is_in_order b s ≡ true) more → is_one_interval d a b ≡ false
    → list_any (is_one_interval d a) more ≡ false
no_more d a b [] first up other = refl
no_more d a b (s ∷ more) first up other =
    or_from (is_one_interval d a s) (list_any (is_one_interval d a) more)
    (later_too d a.time b.time s.time (times_up a b first) (times_up b s up.0) other)
    (no_more d a b more first up.1 other)

-- one sample more in front
one_more : (d : ℕ) (a b : Stamped) (more : List Stamped) → IsUp is_in_order (a ∷ b ∷ more)
    → (same : Bool) → is_one_interval d a b ≡ same
    → thinned d (b ∷ more) ≡ last_of_intervals d (b ∷ more)
    → thinned d (a ∷ b ∷ more) ≡ last_of_intervals d (a ∷ b ∷ more)
one_more d a b more up true one rest = rw one rest
one_more d a b more up false other rest =
    let none = no_more d a b more up.0.0 up.1.0 other in
    rw (other, none) (ap (λ s. a ∷ s) rest)

-- of samples in order `thinned` keeps those of which no later one is in the same interval
pub thinned-last : (d : ℕ) (samples : List Stamped) → IsUp is_in_order samples
    → thinned d samples ≡ last_of_intervals d samples
thinned-last d [] up = refl
thinned-last d (a ∷ []) up = refl
thinned-last d (a ∷ b ∷ more) up =
    one_more d a b more up (is_one_interval d a b) refl (thinned-last d (b ∷ more) up.1)

-- with no interval all stay
pub thinned-all : (samples : List Stamped) → thinned 0 samples ≡ samples
thinned-all [] = refl
thinned-all (a ∷ []) = refl
thinned-all (a ∷ b ∷ more) = ap (λ s. a ∷ s) (thinned-all (b ∷ more))
