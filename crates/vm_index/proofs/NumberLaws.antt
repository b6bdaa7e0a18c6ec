-- Laws of sets of numbers.
use Rattle.std.proofs.Common.{◌≡◌, ◌≢◌, ◌⊎◌, ℕ, suc, ◌+◌, ◌-◌, ◌<◌, ◌≤◌, Bool, true, false, cond, not, ◌&&◌, ◌||◌, List, [], ◌∷◌, ◌++◌, length, take, drop, get_or, filter, nat_lt, eqb, refl, sym, ap, ◌∙◌, subst, arith, ⊎_elim, append_assoc, add-one, drop-cons}
use Rattle.std.proofs.Math.Bool.{and-false, beq}
use Rattle.std.specs.Prelude.{nat_le}
use Rattle.std.specs.List.{AllByRecursion, list_any, position_or_len}
use Rattle.std.proofs.lemmas.Bool.{lt-ltb, ltb-true, ltb-false, eqb-true}
use Rattle.std.proofs.lemmas.Bool.Decides.{nat_tests}
use Rattle.std.proofs.lemmas.Grind.{common_steps}
use Rattle.std.proofs.lemmas.List.Folds.{list_any-append}
use Rattle.vm_index.specs.Numbers.{AreThose, Rise, holds, stays, kept, merged}
use Rattle.vm_index.proofs.ListLaws.{all_more, all_append, all_filter, all_own, filter_all, filter_none, filter_same, up_filter, up_drop}

-- ---- where a number stands in a set

-- those that aren't below n
abbrev pub from : ℕ → List ℕ → List ℕ
from n = filter (nat_le n)

abbrev pub above : ℕ → List ℕ → List ℕ
above n = filter (nat_lt n)

abbrev pub below : ℕ → List ℕ → List ℕ
below n = filter (λ m. nat_lt m n)

abbrev pub AllAbove : ℕ → List ℕ → Type 0
AllAbove n = AllByRecursion (λ m. nat_lt n m ≡ true)

three : (m n : ℕ) → (m < n) ⊎ ((m ≡ n) ⊎ (n < m))
three m n = grind (arith, nat_tests)

two : (m n : ℕ) → (m < n) ⊎ (n ≤ m)
two m n = grind (arith, nat_tests)

le_yes : (m n : ℕ) → m ≤ n → nat_le m n ≡ true
le_yes m n h = grind (arith, nat_tests)

le_no : (m n : ℕ) → n < m → nat_le m n ≡ false
le_no m n h = grind (arith, nat_tests)

lt_no : (m n : ℕ) → n ≤ m → nat_lt m n ≡ false
lt_no m n h = grind (arith, nat_tests)

eq_yes : (m n : ℕ) → m ≡ n → eqb m n ≡ true
eq_yes m n h = grind (arith, nat_tests)

less_apart : (m n : ℕ) → m < n → eqb m n ≡ false
less_apart m n h = grind (arith, nat_tests)

more_apart : (m n : ℕ) → n < m → eqb m n ≡ false
more_apart m n h = grind (arith, nat_tests)

-- what is above a number that isn't below n isn't below n either
all_from : (n m : ℕ) (ms : List ℕ) → n ≤ m → AllAbove m ms
    → AllByRecursion (λ x. nat_le n x ≡ true) ms
all_from n m ms h = all_more _ _ (λ x p. le_yes n x (omega (arith, ltb-true m x p))) ms

all_above : (n m : ℕ) (ms : List ℕ) → n ≤ m → AllAbove m ms → AllAbove n ms
all_above n m ms h = all_more _ _ (λ x p. lt-ltb n x (omega (arith, ltb-true m x p))) ms

all_past : (n m : ℕ) (ms : List ℕ) → n ≤ m → AllAbove m ms
    → AllByRecursion (λ x. nat_lt x n ≡ false) ms
all_past n m ms h = all_more _ _ (λ x p. lt_no x n (omega (arith, ltb-true m x p))) ms

none_held : (n m : ℕ) (ms : List ℕ) → n ≤ m → AllAbove m ms → holds ms n ≡ false
none_held n m [] h all = refl
none_held n m (x ∷ xs) h all =
    let apart : eqb x n ≡ false = more_apart x n (omega (arith, ltb-true m x all.0)) in
    rw apart (none_held n m xs h all.1)

-- n stands there first of those that aren't below it, or none of them is n
pub data Spot (n : ℕ) (ns : List ℕ) : Type 0 where
  here : from n ns ≡ n ∷ above n ns → holds ns n ≡ true → Spot n ns
  absent : from n ns ≡ above n ns → holds ns n ≡ false → Spot n ns

pub spot : (n : ℕ) (ns : List ℕ) → Rise ns → Spot n ns
spot n [] up = absent refl refl
spot n (m ∷ ms) up = ⊎_elim (lower (spot n ms up.1)) (⊎_elim equal higher) (three m n)
  where
    lower : Spot n ms → m < n → Spot n (m ∷ ms)
    lower more h =
        let le = le_no n m h in
        let lt = lt_no n m (omega arith) in
        let eq = less_apart m n h in
        elim more [
          | here first found ↦ here (rw (le, lt) first) (rw eq found)
          | absent rest none ↦ absent (rw (le, lt) rest) (rw eq none)
        ]

    equal : m ≡ n → Spot n (m ∷ ms)
    equal h =
        let le = le_yes n m (omega arith) in
        let lt = lt_no n m (omega arith) in
        let eq = eq_yes m n h in
        let all = filter_all (nat_le n) ms (all_from n m ms (omega arith) up.0) in
        let others = filter_all (nat_lt n) ms (all_above n m ms (omega arith) up.0) in
        here (rw (le, lt) (ap (λ x. x ∷ from n ms) h ∙ ap (λ xs. n ∷ xs) (all ∙ sym others)))
        (rw eq)

    higher : n < m → Spot n (m ∷ ms)
    higher h =
        let le = le_yes n m (omega arith) in
        let lt = lt-ltb n m h in
        let eq = more_apart m n h in
        let all = filter_all (nat_le n) ms (all_from n m ms (omega arith) up.0) in
        let others = filter_all (nat_lt n) ms (all_above n m ms (omega arith) up.0) in
        absent (rw (le, lt) (ap (λ xs. m ∷ xs) (all ∙ sym others)))
        (rw eq (none_held n m ms (omega arith) up.0))

-- the first place that isn't below n parts the set there
pub taken : (n : ℕ) (ns : List ℕ) → Rise ns → take (position_or_len (nat_le n) ns) ns ≡ below n ns
taken n [] up = refl
taken n (m ∷ ms) up = ⊎_elim (lower (taken n ms up.1)) higher (two m n)
  where
    lower : take (position_or_len (nat_le n) ms) ms ≡ below n ms → m < n
        → take (position_or_len (nat_le n) (m ∷ ms)) (m ∷ ms) ≡ below n (m ∷ ms)
    lower more h =
        let le = le_no n m h in
        let lt = lt-ltb m n h in
        let k = position_or_len (nat_le n) ms in
        let next : 1 + k ≡ suc k = omega arith in
        rw (le, lt, next) (ap (λ xs. m ∷ xs) more)

    higher : n ≤ m → take (position_or_len (nat_le n) (m ∷ ms)) (m ∷ ms) ≡ below n (m ∷ ms)
    higher h =
        let le = le_yes n m h in
        let lt = lt_no m n h in
        rw (le, lt) (sym (filter_none (λ x. nat_lt x n) ms (all_past n m ms h up.0)))

pub dropped : (n : ℕ) (ns : List ℕ) → Rise ns → drop (position_or_len (nat_le n) ns) ns ≡ from n ns
dropped n [] up = refl
dropped n (m ∷ ms) up = ⊎_elim (lower (dropped n ms up.1)) higher (two m n)
  where
    lower : drop (position_or_len (nat_le n) ms) ms ≡ from n ms → m < n
        → drop (position_or_len (nat_le n) (m ∷ ms)) (m ∷ ms) ≡ from n (m ∷ ms)
    lower h0 h =
        let le = le_no n m h in
        let k = position_or_len (nat_le n) ms in
        let next : 1 + k ≡ suc k = omega arith in
        rw (le, next) h0

    higher : n ≤ m → drop (position_or_len (nat_le n) (m ∷ ms)) (m ∷ ms) ≡ from n (m ∷ ms)
    higher h =
        let le = le_yes n m h in
        rw le (ap (λ xs. m ∷ xs) (sym (filter_all (nat_le n) ms (all_from n m ms h up.0))))

-- what is said of the first item, where there is one
of_first : (P : ℕ → Type 0) (ns : List ℕ) → AllByRecursion P ns → 1 ≤ length ns → P (get_or ns 0 0)
of_first P [] all h = absurd (omega arith)
of_first P (n ∷ ns) all h = all.0

pub first_is : (n : ℕ) (ns rest : List ℕ) → Rise ns → rest ≡ from n ns → 1 ≤ length rest
    → get_or rest 0 0 ≡ n
    → (true ≡ holds ns n) × (take (length rest - 1) (drop 1 rest) ≡ above n ns)
first_is n ns rest up is long first = elim (spot n ns up) [
  | here begins found ↦ (sym found, rw (is, begins) (taken_all (above n ns)))
  | absent others none ↦
      let all : AllByRecursion (λ m. nat_lt n m ≡ true) rest =
      rw (is ∙ others) (all_own (nat_lt n) ns) in
      absurd (omega (arith, ltb-true n (get_or rest 0 0) (of_first _ rest all long)))
]
  where
    taken_all : (ms : List ℕ) → take (suc (length ms) - 1) ms ≡ ms
    taken_all ms = grind (arith, common_steps)

pub first_isnt : (n : ℕ) (ns rest : List ℕ) → Rise ns → rest ≡ from n ns → (length rest < 1)
    ⊎ (get_or rest 0 0 ≢ n)
    → (false ≡ holds ns n) × (rest ≡ above n ns)
first_isnt n ns rest up is other = elim (spot n ns up) [
  | here begins found ↦ absurd (⊎_elim
      (λ short. let long : length rest
      ≡ suc (length (above n ns)) = ap length (is ∙ begins) in omega arith)
      (λ apart. apart (rw (is, begins)))
      other)
  | absent others none ↦ (sym none, is ∙ others)
]

-- ---- one number more of a set

step_above : (n m : ℕ) (others : List ℕ) → n < m → holds (above n others) m ≡ holds others m
step_above n m [] h = refl
step_above n m (x ∷ xs) h = go (nat_lt n x) refl (step_above n m xs h)
  where
    go : (b : Bool) → nat_lt n x ≡ b → holds (above n xs) m ≡ holds xs m
        → list_any (λ y. eqb y m) (cond b (x ∷ above n xs) (above n xs)) ≡ (eqb x m || holds xs m)
    go true over more = ap (λ b. eqb x m || b) more
    go false under more =
        let apart : eqb x m ≡ false = less_apart x m (omega (arith, ltb-false n x under)) in
        rw apart more

pub kept_step : (among : Bool) (n : ℕ) (ns others : List ℕ) → AllAbove n ns
    → kept among others (n ∷ ns)
    ≡ cond (stays among (holds others n)) (n ∷ kept among (above n others) ns)
    (kept among (above n others) ns)
kept_step among n ns others all =
    ap (λ ms. cond (stays among (holds others n)) (n ∷ ms) ms)
    (filter_same _ _ ns
    (all_more _ _ (λ m over. ap (stays among) (sym (step_above n m others (ltb-true n m over))))
    ns all))

-- a loop's step: the first number left of a set goes to the end of what is done, or doesn't
pub kept_put : (among : Bool) (n : ℕ) (done whole ns others : List ℕ) → AllAbove n ns
    → stays among (holds others n) ≡ true
    → done ++ kept among others (n ∷ ns) ≡ whole → (done ++ n ∷ [])
    ++ kept among (above n others) ns ≡ whole
kept_put among n done whole ns others all put so_far =
    append_assoc done (n ∷ []) (kept among (above n others) ns)
    ∙ ap (λ ms. done ++ ms)
    (sym (kept_step among n ns others all
    ∙ ap (λ b. cond b (n ∷ kept among (above n others) ns) (kept among (above n others) ns)) put))
    ∙ so_far

pub kept_left : (among : Bool) (n : ℕ) (done whole ns others : List ℕ) → AllAbove n ns
    → stays among (holds others n) ≡ false
    → done ++ kept among others (n ∷ ns) ≡ whole → done ++ kept among (above n others) ns ≡ whole
kept_left among n done whole ns others all left so_far =
    ap (λ ms. done ++ ms)
    (sym (kept_step among n ns others all
    ∙ ap (λ b. cond b (n ∷ kept among (above n others) ns) (kept among (above n others) ns))
    left))
    ∙ so_far

-- ---- what the sets become

holds_filter : (p : ℕ → Bool) (ns : List ℕ) (m : ℕ) → holds (filter p ns) m ≡ (holds ns m && p m)
holds_filter p [] m = refl
holds_filter p (n ∷ ns) m = go (p n) (eqb n m) refl refl (holds_filter p ns m)
  where
    same : eqb n m ≡ true → p m ≡ p n
    same h = ap p (sym (eqb-true n m h))

    go : (b e : Bool) → p n ≡ b → eqb n m ≡ e → holds (filter p ns) m ≡ (holds ns m && p m)
        → list_any (λ y. eqb y m) (cond b (n ∷ filter p ns) (filter p ns))
        ≡ ((e || holds ns m) && p m)
    go true true passes is more = rw is (sym (same is ∙ passes))
    go true false passes isnt more = rw isnt more
    go false true fails is more = more ∙ rw (same is ∙ fails) (and-false (holds ns m))
    go false false fails isnt more = more

pub both : (a b : List ℕ) → Rise a → AreThose (λ n. holds a n && holds b n) (kept true b a)
both a b up = record { rising = up_filter nat_lt (holds b) a up; same = holds_filter (holds b) a }

pub without : (a b : List ℕ) → Rise a
    → AreThose (λ n. holds a n && not (holds b n)) (kept false b a)
without a b up =
    record {
      rising = up_filter nat_lt (λ n. not (holds b n)) a up;
      same = holds_filter (λ n. not (holds b n)) a;
    }

all_merged : (P : ℕ → Type 0) (a b : List ℕ) → AllByRecursion P a → AllByRecursion P b
    → AllByRecursion P (merged a b)
all_merged P [] b all others = others
all_merged P (n ∷ ns) b all others =
    all_append P (below n b) (n ∷ merged ns (above n b)) (all_filter P (λ m. nat_lt m n) b others)
    (all.0, all_merged P ns (above n b) all.1 (all_filter P (nat_lt n) b others))

up_around : (n : ℕ) (low high : List ℕ) → Rise low → Rise high
    → AllByRecursion (λ m. nat_lt m n ≡ true) low → AllAbove n high → Rise (low ++ n ∷ high)
up_around n [] high up over all others = (others, over)
up_around n (m ∷ ms) high up over all others = (
  all_append _ ms (n ∷ high) up.0 (
    all.0,
    all_more _ _ (λ x h. lt-ltb m x (omega (arith, ltb-true m n all.0, ltb-true n x h)))
        high others,
  ),
  up_around n ms high up.1 over all.1 others,
)

merged_rises : (a b : List ℕ) → Rise a → Rise b → Rise (merged a b)
merged_rises [] b up over = over
merged_rises (n ∷ ns) b up over =
    up_around n (below n b) (merged ns (above n b)) (up_filter nat_lt (λ m. nat_lt m n) b over)
    (merged_rises ns (above n b) up.1 (up_filter nat_lt (nat_lt n) b over))
    (all_own (λ m. nat_lt m n) b)
    (all_merged _ ns (above n b) up.0 (all_own (nat_lt n) b))

merged_holds : (a b : List ℕ) (m : ℕ) → holds (merged a b) m ≡ (holds a m || holds b m)
merged_holds [] b m = refl
merged_holds (n ∷ ns) b m =
    list_any-append (λ y. eqb y m) (below n b) (n ∷ merged ns (above n b))
    ∙ rw (
      holds_filter (λ x. nat_lt x n) b m,
      merged_holds ns (above n b) m,
      holds_filter (nat_lt n) b m,
    ) (regrouped (holds b m) (holds ns m))
  where
    regrouped : (x y : Bool)
        → ((x && nat_lt m n) || (eqb n m || (y || (x && nat_lt n m)))) ≡ ((eqb n m || y) || x)
    regrouped x y = grind (arith, nat_tests)

pub either : (a b : List ℕ) → Rise a → Rise b → AreThose (λ n. holds a n || holds b n) (merged a b)
either a b up over = record { rising = merged_rises a b up over; same = merged_holds a b }

-- a loop's step of the merge
pub merged_step : (n : ℕ) (done whole ns others : List ℕ) → done ++ merged (n ∷ ns) others ≡ whole
    → ((done ++ below n others) ++ n ∷ []) ++ merged ns (above n others) ≡ whole
merged_step n done whole ns others so_far =
    append_assoc (done ++ below n others) (n ∷ []) (merged ns (above n others))
    ∙ append_assoc done (below n others) (n ∷ merged ns (above n others))
    ∙ so_far

-- ---- the loops, by the place that they have come to

at_place : (a : List ℕ) (i : ℕ) → i < length a → drop i a ≡ get_or a i 0 ∷ drop (i + 1) a
at_place a i h = rw add-one (drop-cons a i 0 h)

over_place : (a : List ℕ) (i : ℕ) → i < length a → Rise a → AllAbove (get_or a i 0) (drop (i + 1) a)
over_place a i h up = (subst Rise (at_place a i h) (up_drop nat_lt i a up)).0

stays_same : (among found : Bool) → beq found among ≡ true → stays among found ≡ true
stays_same true true is = refl
stays_same true false is = is
stays_same false true is = is
stays_same false false is = refl

stays_other : (among found : Bool) → beq found among ≡ false → stays among found ≡ false
stays_other true true isnt = isnt
stays_other true false isnt = refl
stays_other false true isnt = refl
stays_other false false isnt = isnt

pub kept_more : (among found : Bool) (a : List ℕ) (i : ℕ) (others done whole : List ℕ)
    → i < length a → Rise a
    → found ≡ holds others (get_or a i 0) → beq found among ≡ true → done
    ++ kept among others (drop i a) ≡ whole
    → (done ++ get_or a i 0 ∷ [])
    ++ kept among (above (get_or a i 0) others) (drop (i + 1) a) ≡ whole
kept_more among found a i others done whole within up is same so_far =
    kept_put among (get_or a i 0) done whole (drop (i + 1) a) others (over_place a i within up)
    (ap (stays among) (sym is) ∙ stays_same among found same)
    (ap (λ ns. done ++ kept among others ns) (sym (at_place a i within)) ∙ so_far)

pub kept_less : (among found : Bool) (a : List ℕ) (i : ℕ) (others done whole : List ℕ)
    → i < length a → Rise a
    → found ≡ holds others (get_or a i 0) → beq found among ≡ false → done
    ++ kept among others (drop i a) ≡ whole
    → done ++ kept among (above (get_or a i 0) others) (drop (i + 1) a) ≡ whole
kept_less among found a i others done whole within up is other so_far =
    kept_left among (get_or a i 0) done whole (drop (i + 1) a) others (over_place a i within up)
    (ap (stays among) (sym is) ∙ stays_other among found other)
    (ap (λ ns. done ++ kept among others ns) (sym (at_place a i within)) ∙ so_far)

pub merged_more : (a : List ℕ) (i : ℕ) (others done whole : List ℕ) → i < length a → done
    ++ merged (drop i a) others ≡ whole
    → ((done ++ below (get_or a i 0) others) ++ get_or a i 0 ∷ [])
    ++ merged (drop (i + 1) a) (above (get_or a i 0) others) ≡ whole
merged_more a i others done whole within so_far =
    merged_step (get_or a i 0) done whole (drop (i + 1) a) others
    (ap (λ ns. done ++ merged ns others) (sym (at_place a i within)) ∙ so_far)

pub rises_above : (n : ℕ) (others : List ℕ) → Rise others → Rise (above n others)
rises_above n = up_filter nat_lt (nat_lt n)
