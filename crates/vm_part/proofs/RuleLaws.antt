-- The first broken rule of some one behind the other.
use Rattle.std.proofs.Common.{◌≡◌, ℕ, ◌≤◌, Bool, true, false, cond, List, [], ◌∷◌, ◌++◌, Some, None, refl, subst}
use Rattle.std.specs.List.{AllByRecursion}
use Rattle.vm_block.specs.Header.{first_broken}

pub kept_first : (at : ℕ) (b : Bool) (more : List (ℕ × Bool)) → b ≡ true
    → first_broken ((at, b) ∷ more) ≡ first_broken more
kept_first at b more h = rw h refl

pub broken_first : (at : ℕ) (b : Bool) (more : List (ℕ × Bool)) → b ≡ false
    → first_broken ((at, b) ∷ more) ≡ Some at
broken_first at b more h = rw h refl

-- what breaks in front breaks in all
pub broken_front : (xs ys : List (ℕ × Bool)) (at : ℕ) → first_broken xs ≡ Some at
    → first_broken (xs ++ ys) ≡ Some at
broken_front [] ys at h = absurd (cc)
broken_front (x ∷ xs) ys at h =
    elim x.1 as (λ b. cond b (first_broken xs) (Some x.0) ≡ Some at
    → cond b (first_broken (xs ++ ys)) (Some x.0) ≡ Some at)
    [ true ↦ broken_front xs ys at | false ↦ λ e. e ] h

-- where all in front are kept, the rest decides
pub kept_front : (xs ys : List (ℕ × Bool)) → first_broken xs ≡ None
    → first_broken (xs ++ ys) ≡ first_broken ys
kept_front [] ys h = refl
kept_front (x ∷ xs) ys h =
    elim x.1 as (λ b. cond b (first_broken xs) (Some x.0) ≡ None
    → cond b (first_broken (xs ++ ys)) (Some x.0) ≡ first_broken ys)
    [ true ↦ kept_front xs ys | false ↦ λ e. absurd (cc) ] h

-- where all are kept, the first one is
pub kept_one : (at : ℕ) (b : Bool) (more : List (ℕ × Bool)) → first_broken ((at, b) ∷ more) ≡ None
    → (b ≡ true) × (first_broken more ≡ None)
kept_one at true more h = (refl, h)
kept_one at false more h = absurd (cc)

-- where all are kept, those in front are, and those behind
pub kept_parts : (xs ys : List (ℕ × Bool)) → first_broken (xs ++ ys) ≡ None
    → (first_broken xs ≡ None) × (first_broken ys ≡ None)
kept_parts [] ys h = (refl, h)
kept_parts (x ∷ xs) ys h =
    elim x.1 as (λ b. cond b (first_broken (xs ++ ys)) (Some x.0) ≡ None
    → (cond b (first_broken xs) (Some x.0) ≡ None) × (first_broken ys ≡ None))
    [ true ↦ kept_parts xs ys | false ↦ λ e. absurd (cc) ] h

-- a broken place is one of the rules'
pub broken_within : (xs : List (ℕ × Bool)) (n at : ℕ) → AllByRecursion (λ x. x.0 ≤ n) xs
    → first_broken xs ≡ Some at → at ≤ n
broken_within [] n at all h = absurd (cc)
broken_within (x ∷ xs) n at all h =
    elim x.1 as (λ b. cond b (first_broken xs) (Some x.0) ≡ Some at → at ≤ n) [
      | true ↦ broken_within xs n at all.1
      | false ↦ λ e. let same : x.0 ≡ at = cc in subst (λ m. m ≤ n) same all.0
    ] h
