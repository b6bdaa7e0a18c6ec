-- Samples cut into blocks.
use Rattle.std.proofs.Common.{◌≡◌, ◌==◌, nat_le, ℕ, zero, suc, ◌+◌, ◌<◌, ◌≤◌, true, false, List, [], ◌∷◌, ◌++◌, length, get_or, take, drop, Some, None, refl, ap, sym, subst, ◌∙◌, arith, append_assoc, length-drop}
use Rattle.std.proofs.Math.Seq.{take-suc, take-add}
use Rattle.std.proofs.lemmas.Bool.{and_left, and_right, and_from}
use Rattle.std.proofs.lemmas.Bool.Decides.{nat_tests}
use Rattle.std.proofs.lemmas.List.{map-append, length-take-le, take-append-drop, append-nil}
use Rattle.std.specs.List.{AllByRecursion}
use Rattle.std.specs.Prelude.{⊤}
use Rattle.vm_base.specs.declared.stamped.Stamped.{Stamped}
use Rattle.vm_block.specs.Block.{values_of}
use Rattle.vm_block.specs.Cut.{share_exponent, fit_one_block, joined, AreFull}
use Rattle.vm_block.specs.inner.Reading.{IsShared, join_of, Joined}
use Rattle.vm_block.specs.declared.shared.Shared.{Shared}
use Rattle.vm_block.proofs.Exponents.{shared_shares, joins}

-- ---- how far a block goes

-- one sample more
pub values_more : (samples : List Stamped) (i : ℕ) (d s : Stamped) → i < length samples
    → s ≡ get_or samples i d
    → values_of (take (i + 1) samples) ≡ values_of (take i samples) ++ s.value ∷ []
values_more samples i d s inside is =
    let next : i + 1 ≡ suc i = omega arith in
    ap (λ n. values_of (take n samples)) next
    ∙ ap values_of (take-suc samples i d inside ∙ ap (λ x. take i samples ++ x ∷ []) (sym is))
    ∙ map-append (λ x. x.value) (take i samples) (s ∷ [])

pub shared_more : (samples : List Stamped) (i : ℕ) (d s : Stamped) (one two more : Shared)
    → i < length samples → s ≡ get_or samples i d
    → IsShared (values_of (take i samples)) one → IsShared (s.value ∷ []) two
    → Some more ≡ join_of one two
    → IsShared (values_of (take (i + 1) samples)) more
shared_more samples i d s one two more inside is so_far its joined =
    subst (λ values. IsShared values more) (sym (values_more samples i d s inside is))
    (subst (Joined (values_of (take i samples) ++ s.value ∷ [])) (sym joined)
    (joins (values_of (take i samples)) (s.value ∷ []) one two so_far its))

pub none_more : (samples : List Stamped) (i : ℕ) (d s : Stamped) (one two : Shared)
    → i < length samples → s ≡ get_or samples i d
    → IsShared (values_of (take i samples)) one → IsShared (s.value ∷ []) two
    → None ≡ join_of one two
    → fit_one_block (take (i + 1) samples) ≡ false
none_more samples i d s one two inside is so_far its joined =
    and_right (nat_le (length (take (i + 1) samples)) 8192)
    (share_exponent (values_of (take (i + 1) samples)))
    (ap share_exponent (values_more samples i d s inside is)
    ∙ subst (Joined (values_of (take i samples) ++ s.value ∷ [])) (sym joined)
    (joins (values_of (take i samples)) (s.value ∷ []) one two so_far its))

at_most : (n most : ℕ) → n ≤ most → nat_le n most ≡ true
at_most n most h = grind (arith, nat_tests)

above : (n most : ℕ) → most < n → nat_le n most ≡ false
above n most h = grind (arith, nat_tests)

pub fits_so_far : (samples : List Stamped) (n : ℕ) (one : Shared) → n ≤ length samples → n ≤ 8192
    → IsShared (values_of (take n samples)) one
    → fit_one_block (take n samples) ≡ true
fits_so_far samples n one within few is =
    and_from (nat_le (length (take n samples)) 8192) (share_exponent (values_of (take n samples)))
    (at_most (length (take n samples)) 8192 (omega (arith, length-take-le n samples within)))
    (shared_shares (values_of (take n samples)) one is)

pub too_long : (samples : List Stamped) (n : ℕ) → 8192 ≤ n → n < length samples
    → fit_one_block (take (n + 1) samples) ≡ false
too_long samples n most inside =
    and_left (nat_le (length (take (n + 1) samples)) 8192)
    (share_exponent (values_of (take (n + 1) samples)))
    (above (length (take (n + 1) samples)) 8192
    (omega (arith, length-take-le (n + 1) samples (omega arith))))

-- ---- blocks so far

-- each block is full, the last one since the first sample of the rest doesn't fit
abbrev pub FullBefore : List (List Stamped) → List Stamped → Type 0
FullBefore [] rest = ⊤
FullBefore (block ∷ []) rest = 1 ≤ length rest → fit_one_block (block ++ take 1 rest) ≡ false
FullBefore (block ∷ next ∷ more) rest = (fit_one_block (block ++ take 1 next) ≡ false)
    × FullBefore (next ∷ more) rest

first_taken : (rest : List Stamped) (n : ℕ) → 1 ≤ n → take 1 rest ≡ take 1 (take n rest)
first_taken [] zero some = refl
first_taken [] (suc n) some = refl
first_taken (s ∷ rest) zero some = absurd (omega arith)
first_taken (s ∷ rest) (suc n) some = refl

-- a block and the sample after it
behind_block : (rest : List Stamped) (n : ℕ) → take n rest
    ++ take 1 (drop n rest) ≡ take (n + 1) rest
behind_block rest n = sym (take-add n 1 rest)

pub full_more : (blocks : List (List Stamped)) (rest : List Stamped) (n : ℕ) → 1 ≤ n
    → n ≤ length rest
    → (n < length rest → fit_one_block (take (n + 1) rest) ≡ false) → FullBefore blocks rest
    → FullBefore (blocks ++ take n rest ∷ []) (drop n rest)
full_more [] rest n some within longest full =
    λ left. ap fit_one_block (behind_block rest n) ∙ longest (omega (arith, length-drop n rest))
full_more (block ∷ []) rest n some within longest full = (
  ap (λ xs. fit_one_block (block ++ xs)) (sym (first_taken rest n some)) ∙ full (omega arith),
  λ left. ap fit_one_block (behind_block rest n) ∙ longest (omega (arith, length-drop n rest)),
)
full_more (block ∷ next ∷ more) rest n some within longest full =
    (full.0, full_more (next ∷ more) rest n some within longest full.1)

pub full_all : (blocks : List (List Stamped)) (rest : List Stamped) → FullBefore blocks rest
    → AreFull blocks
full_all [] rest full = tt
full_all (block ∷ []) rest full = tt
full_all (block ∷ next ∷ more) rest full = (full.0, full_all (next ∷ more) rest full.1)

pub each_more : (P : List Stamped → Type 0) (blocks : List (List Stamped)) (block : List Stamped)
    → AllByRecursion P blocks → P block
    → AllByRecursion P (blocks ++ block ∷ [])
each_more P [] block all its = (its, tt)
each_more P (first ∷ blocks) block all its = (all.0, each_more P blocks block all.1 its)

joined-append : (blocks : List (List Stamped)) (block : List Stamped)
    → joined (blocks ++ block ∷ []) ≡ joined blocks ++ block
joined-append [] block = append-nil block
joined-append (first ∷ blocks) block = ap (λ xs. first ++ xs) (joined-append blocks block)
    ∙ sym (append_assoc first (joined blocks) block)

pub whole_more : (blocks : List (List Stamped)) (rest samples : List Stamped) (n : ℕ)
    → joined blocks ++ rest ≡ samples
    → joined (blocks ++ take n rest ∷ []) ++ drop n rest ≡ samples
whole_more blocks rest samples n whole =
    ap (λ xs. xs ++ drop n rest) (joined-append blocks (take n rest))
    ∙ append_assoc (joined blocks) (take n rest) (drop n rest)
    ∙ ap (λ xs. joined blocks ++ xs) (take-append-drop n rest) ∙ whole

pub no_rest : (rest : List Stamped) → (length rest == 0) ≡ true → rest ≡ []
no_rest [] none = refl
no_rest (s ∷ rest) none = let zero : length (s ∷ rest) ≡ 0 =
    grind (arith, nat_tests) in absurd (omega arith)
