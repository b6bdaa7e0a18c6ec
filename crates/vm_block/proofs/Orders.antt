-- Samples in order, and times that rise.
use Rattle.std.proofs.Common.{◌≡◌, ◌&&◌, ℕ, suc, ◌+◌, ◌<◌, ◌≤◌, Bool, true, false, ℤ, pos, negsuc, int_le, int_lt, unsigned_abs, ◌^◌, List, [], ◌∷◌, length, get_or, drop, map, refl, ap, ap₂, sym, ◌∙◌, arith, drop-cons}
use Rattle.std.proofs.lemmas.Bool.{and_parts, and_from}
use Rattle.std.proofs.lemmas.Bool.Decides.{nat_tests}
use Rattle.std.proofs.lemmas.Int.{ints}
use Rattle.std.proofs.lemmas.List.{drop_all}
use Rattle.std.specs.List.{AllByRecursion}
use Rattle.vm_base.specs.Sorted.{IsUp}
use Rattle.vm_base.specs.Stamped.{is_in_order}
use Rattle.vm_base.specs.declared.stamped.Stamped.{Stamped}
use Rattle.vm_base.proofs.StampedLaws.{stamped_order}
use Rattle.vm_block.specs.Block.{rise_from}
use Rattle.vm_block.specs.inner.Reading.{never_falls}

-- ---- order

-- what stands after a later sample stands after an earlier one
behind_all : (first next : Stamped) (samples : List Stamped) → is_in_order first next ≡ true
    → AllByRecursion (λ s. is_in_order next s ≡ true) samples
    → AllByRecursion (λ s. is_in_order first s ≡ true) samples
behind_all first next [] before all = tt
behind_all first next (s ∷ more) before all =
    (stamped_order.chain first next s before all.0, behind_all first next more before all.1)

pub up_from_neighbours : (first : Stamped) (samples : List Stamped)
    → never_falls first samples ≡ true → IsUp is_in_order (first ∷ samples)
up_from_neighbours first [] never = (tt, tt)
up_from_neighbours first (s ∷ more) never =
    let both = and_parts (is_in_order first s) (never_falls s more) never in
    let rest = up_from_neighbours s more both.1 in
    ((both.0, behind_all first s more both.0 rest.0), rest)

pub neighbours_from_up : (first : Stamped) (samples : List Stamped)
    → IsUp is_in_order (first ∷ samples) → never_falls first samples ≡ true
neighbours_from_up first [] up = refl
neighbours_from_up first (s ∷ more) up =
    and_from (is_in_order first s) (never_falls s more) up.0.0 (neighbours_from_up s more up.1)

-- ---- times

-- a time may follow another
abbrev next_time : ℤ → ℤ → Bool
next_time last time = int_le last time && int_lt time (pos (2 ^ 48))

rise-cons : (i : ℕ) (last : ℤ) (times : List ℤ) → i < length times
    → rise_from last (drop i times)
    ≡ (next_time last (get_or times i (pos 0))
    && rise_from (get_or times i (pos 0)) (drop (i + 1) times))
rise-cons i last times inside =
    let next : suc i ≡ i + 1 = omega arith in
    ap (rise_from last)
    (drop-cons times i (pos 0) inside ∙ ap (λ n. get_or times i (pos 0) ∷ drop n times) next)

pub rise-stuck : (i : ℕ) (last : ℤ) (times : List ℤ) (all : Bool) → i < length times
    → next_time last (get_or times i (pos 0)) ≡ false
    → rise_from last (drop i times) ≡ all → false ≡ all
rise-stuck i last times all inside stuck rest =
    sym (rise-cons i last times inside
    ∙ ap (λ b. b && rise_from (get_or times i (pos 0)) (drop (i + 1) times)) stuck) ∙ rest

pub rise-more : (i : ℕ) (last time : ℤ) (times : List ℤ) (all : Bool) → i < length times
    → next_time last (get_or times i (pos 0)) ≡ true
    → time ≡ get_or times i (pos 0) → rise_from last (drop i times) ≡ all
    → rise_from time (drop (i + 1) times) ≡ all
rise-more i last time times all inside follows is rest =
    ap (λ t. rise_from t (drop (i + 1) times)) is
    ∙ sym (rise-cons i last times inside
    ∙ ap (λ b. b && rise_from (get_or times i (pos 0)) (drop (i + 1) times)) follows) ∙ rest

pub rise-done : (i : ℕ) (last : ℤ) (times : List ℤ) (all : Bool) → length times ≤ i
    → rise_from last (drop i times) ≡ all → true ≡ all
rise-done i last times all past rest = sym (ap (rise_from last) (drop_all i times past)) ∙ rest

-- times that rise from 0 have no sign to lose
pub rise-abs : (last : ℤ) (times : List ℤ) → int_le (pos 0) last ≡ true
    → rise_from last times ≡ true → map (λ time. pos (unsigned_abs time)) times ≡ times
rise-abs last [] begin rise = refl
rise-abs last (time ∷ times) begin rise =
    let parts = and_parts (next_time last time) (rise_from time times) rise in
    let above : int_le (pos 0) time ≡ true = grind (arith, ints, nat_tests) in
    ap₂ (λ t ts. t ∷ ts) (abs_is time above) (rise-abs time times above parts.1)
  where
    abs_is : (time : ℤ) → int_le (pos 0) time ≡ true → pos (unsigned_abs time) ≡ time
    abs_is (pos n) above = refl
    abs_is (negsuc n) above = absurd (cc)
