-- A whole column: what is read is in the grammar, what is in the grammar is read, and where others
-- break.
use Rattle.std.proofs.Common.{◌≡◌, ◌==◌, ◌&&◌, not, ℕ, zero, suc, ℤ, pos, ◌-◌, ◌^◌, ◌<◌, ◌≤◌, ◌-ℤ◌, true, false, List, [], ◌∷◌, ◌++◌, length, take, replicate, slice_get, Option, Some, None, Ok, All, inl, inr, ap, ap₂, refl, sym, subst, ◌∙◌, arith}
use Rattle.std.specs.List.{AllByRecursion, list_all, flat_map}
use Rattle.std.specs.Ordering.{int_eq}
use Rattle.std.proofs.lemmas.Bool.{ne_eqb, and_left, and_right, and_parts, and_from}
use Rattle.std.proofs.lemmas.Bool.Decides.{Decides-int_eq}
use Rattle.std.proofs.lemmas.List.{length-replicate, append-nil}
use Rattle.vm_codec.specs.Integer.{integer, groups, zigzag, unzigzag}
use Rattle.vm_codec.specs.Coding.{IsInBounds, differences, spelling, are_equal, Suits, IsColumn}
use Rattle.vm_codec.specs.inner.Reading.{number_at, steps_from, values_at, onto, steps_by, steps_then, column_at, is_const, all_read, decoded}
use Rattle.vm_codec.specs.declared.coding.Coding.{Coding}
use Rattle.vm_codec.specs.declared.coding.Coding.TheVariants.{DeltaConst, Const, NearestDelta2, NearestDelta}
use Rattle.vm_codec.proofs.Integers.{AreBytes, difference_fits, number_takes, number_again, zigzag-unzigzag, unzigzag-zigzag}
use Rattle.vm_codec.proofs.Steps.{AreSteps, steps_take, steps_again, all_replicate, same_int}
use Rattle.vm_codec.proofs.Columns.{IsNearest, is_ok_of, AreValues, spelling-nearest, same_ok, onto-ok, values_take, values_again}
use Rattle.vm_codec.proofs.Values.{decoded-column, all_read-all, differences_column}

-- ---- every value

pub all_from : (values : List ℤ) → AllByRecursion IsInBounds values → All IsInBounds values
all_from [] all k d within = absurd (omega arith)
all_from (v ∷ values) all zero d within = all.0
all_from (v ∷ values) all (suc k) d within = all_from values all.1 k d (omega arith)

pub all_to : (values : List ℤ) → All IsInBounds values → AllByRecursion IsInBounds values
all_to [] all = tt
all_to (v ∷ values) all =
    (all 0 v (omega arith), all_to values (λ k d within. all (suc k) d (omega arith)))

-- ---- a first value

-- values that begin with the first one
pub begins_with : (values : List ℤ) (first : ℤ) {P : Type 0} → slice_get values 0 ≡ Some first
    → ((more : List ℤ) → values ≡ first ∷ more → P) → P
begins_with [] first begins use_it = absurd (cc)
begins_with (v ∷ more) first begins use_it =
    let same : v ≡ first = cc in
    use_it more (ap (λ n. n ∷ more) same)

-- ---- what is read

-- a column in the grammar, and the bytes after it
pub record IsRead (coding : Coding) (first : ℤ) (count : ℕ) (bytes : List ℕ) (values : List ℤ)
    (rest : List ℕ) : Type 0 where
  pub column : IsColumn coding first count (spelling coding values) values
  pub parts : bytes ≡ spelling coding values ++ rest

const_read : (first : ℤ) (more : ℕ) (bytes : List ℕ) → IsInBounds first
    → IsRead Const first (suc more) bytes (first ∷ replicate more first) bytes
const_read first more bytes bound = record {
  column = record {
    begins = refl;
    len = ap suc (length-replicate more first);
    bounds = all_from (first ∷ replicate more first) (bound, within more);
    suits = all_replicate more first;
    spelled = refl;
  };
  parts = refl;
}
  where
    within : (n : ℕ) → AllByRecursion IsInBounds (replicate n first)
    within zero = tt
    within (suc n) = (bound, within n)

nearest_suits : (coding : Coding) (values : List ℤ) → IsNearest coding → 2 ≤ length values
    → Suits coding values
nearest_suits coding values is two =
    elim is [
      | inl h ↦ subst (λ c. Suits c values) (sym h) two
      | inr h ↦ subst (λ c. Suits c values) (sym h) two
    ]

nearest_read : (coding : Coding) (first : ℤ) (more : ℕ) (bytes rest : List ℕ) (others : List ℤ)
    → IsNearest coding → IsInBounds first → 1 ≤ more
    → AreValues coding more first (pos 0) bytes others rest
    → IsRead coding first (suc more) bytes (first ∷ others) rest
nearest_read coding first more bytes rest others is bound two read = record {
  column = record {
    begins = refl;
    len = ap suc read.len;
    bounds = all_from (first ∷ others) (bound, read.bounds);
    suits = nearest_suits coding (first ∷ others) is (omega (arith, read.len));
    spelled = refl;
  };
  parts = read.parts ∙ ap (λ bs. bs ++ rest) (sym (spelling-nearest coding first others is));
}

-- the one integer of equal differences
spelling-steps : (first step : ℤ) (more : ℕ) (others : List ℤ)
    → differences (first ∷ others) ≡ replicate (suc more) step
    → spelling DeltaConst (first ∷ others) ≡ integer step
spelling-steps first step more others gaps =
    ap (λ ds. flat_map integer (take 1 ds)) gaps ∙ append-nil (integer step)

steps_read : (first : ℤ) (more number : ℕ) (bytes rest : List ℕ) (others : List ℤ)
    → IsInBounds first → 1 ≤ more
    → bytes ≡ groups 10 number ++ rest → AreSteps more first (unzigzag number) others
    → IsRead DeltaConst first (suc more) bytes (first ∷ others) rest
steps_read first zero number bytes rest others bound two parts read = absurd (omega arith)
steps_read first (suc more) number bytes rest others bound two parts read =
    let text : spelling DeltaConst (first ∷ others) ≡ groups 10 number =
    spelling-steps first (unzigzag number) more others read.gaps
    ∙ ap (groups 10) (zigzag-unzigzag number) in
    record {
      column = record {
        begins = refl;
        len = ap suc read.len;
        bounds = all_from (first ∷ others) (bound, read.bounds);
        suits = (
          omega (arith, read.len),
          ap are_equal read.gaps
              ∙ all_replicate more (unzigzag number),
        );
        spelled = refl;
      };
      parts = parts ∙ ap (λ bs. bs ++ rest) (sym text);
    }

-- the coding of one value
not_lone : (coding : Coding) (more : ℕ) → is_const coding ≡ false
    → (suc more == 1 && not (is_const coding)) ≡ false → 1 ≤ more
not_lone coding zero other lone =
    let is : (1 == 1 && not (is_const coding)) ≡ true = ap (λ b. 1 == 1 && not b) other in
    absurd (cc)
not_lone coding (suc more) other lone = omega arith

pub column_at-const : (first : ℤ) (count : ℕ) (bytes : List ℕ)
    → column_at Const first count bytes ≡ Ok (replicate count first, bytes)
unfolding column_at
column_at-const first count bytes = refl

pub column_at-steps : (first : ℤ) (count : ℕ) (bytes : List ℕ)
    → column_at DeltaConst first count bytes ≡ steps_by (number_at bytes) count first (length bytes)
unfolding column_at
column_at-steps first count bytes = refl

-- what reading equal differences gives
steps_by-ok :
    (o : Option (ℕ × List ℕ)) (count : ℕ) (first : ℤ) (left : ℕ) (values : List ℤ)
    (rest : List ℕ) {P : Type 0}
    → steps_by o count first left ≡ Ok (values, rest)
    → ((number : ℕ) → o ≡ Some (number, rest)
    → steps_from count first (unzigzag number) ≡ Some values → P) → P
steps_by-ok None count first left values rest is use_it = absurd (cc)
steps_by-ok (Some x) count first left values rest {P = P} is use_it =
    go (steps_from count first (unzigzag x.0)) refl is
  where
    go : (steps : Option (List ℤ)) → steps_from count first (unzigzag x.0) ≡ steps
        → steps_then steps x.1 left ≡ Ok (values, rest) → P
    go None read is = absurd (cc)
    go (Some vs) read is =
        let same = same_ok (vs, x.1) (values, rest) is in
        let after : x.1 ≡ rest = ap (λ (p : List ℤ × List ℕ). p.1) same in
        use_it x.0 (ap (λ (bs : List ℕ). Some (x.0, bs)) after)
        (read ∙ ap (λ (vs : List ℤ). Some vs) (ap (λ (p : List ℤ × List ℕ). p.0) same))

nearest_column :
    (coding : Coding) (first : ℤ) (more : ℕ) (bytes : List ℕ) (values : List ℤ) (rest : List ℕ)
    → IsNearest coding → AreBytes bytes
    → IsInBounds first → 1 ≤ more
    → onto first (column_at coding first more bytes) ≡ Ok (values, rest)
    → IsRead coding first (suc more) bytes values rest
nearest_column coding first more bytes values rest nearest are bound two is =
    onto-ok first (column_at coding first more bytes) values rest is
    (λ others column whole. subst (λ vs. IsRead coding first (suc more) bytes vs rest) (sym whole)
    (nearest_read coding first more bytes rest others nearest bound two
    (values_take coding more first (pos 0) bytes others rest are
    (sym (differences_column coding first more bytes nearest) ∙ column))))

pub column_read :
    (coding : Coding) (first : ℤ) (more : ℕ) (bytes : List ℕ) (values : List ℤ) (rest : List ℕ)
    → AreBytes bytes → IsInBounds first
    → (suc more == 1 && not (is_const coding)) ≡ false
    → onto first (column_at coding first more bytes) ≡ Ok (values, rest)
    → IsRead coding first (suc more) bytes values rest
column_read DeltaConst first more bytes values rest are bound lone is =
    onto-ok first (column_at DeltaConst first more bytes) values rest is
    (λ others column whole.
    subst (λ vs. IsRead DeltaConst first (suc more) bytes vs rest) (sym whole)
    (steps_by-ok (number_at bytes) more first (length bytes) others rest
    (sym (column_at-steps first more bytes) ∙ column)
    (λ number number_is steps.
    steps_read first more number bytes rest others bound (not_lone DeltaConst more refl lone)
    (number_takes bytes number rest are number_is).0
    (steps_take more first (unzigzag number) others steps))))
column_read Const first more bytes values rest are bound lone is =
    onto-ok first (column_at Const first more bytes) values rest is
    (λ others column whole.
    let same =
    same_ok (replicate more first, bytes) (others, rest)
    (sym (column_at-const first more bytes) ∙ column) in
    let all : first ∷ replicate more first ≡ values = ap (λ (p : List ℤ × List ℕ). first ∷ p.0) same
    ∙ sym whole in
    subst (λ bs. IsRead Const first (suc more) bytes values bs)
    (ap (λ (p : List ℤ × List ℕ). p.1) same)
    (subst (λ vs. IsRead Const first (suc more) bytes vs bytes) all
    (const_read first more bytes bound)))
column_read NearestDelta2 first more bytes values rest are bound lone is =
    nearest_column NearestDelta2 first more bytes values rest (inl refl) are bound
    (not_lone NearestDelta2 more refl lone) is
column_read NearestDelta first more bytes values rest are bound lone is =
    nearest_column NearestDelta first more bytes values rest (inr refl) are bound
    (not_lone NearestDelta more refl lone) is

-- ---- what is in the grammar is read

-- what a column of a first value and others says
nearest_again : (coding : Coding) (first : ℤ) (others : List ℤ) (rest : List ℕ) → IsNearest coding
    → AllByRecursion IsInBounds (first ∷ others)
    → onto first (column_at coding first (length others) (spelling coding (first ∷ others) ++ rest))
    ≡ Ok (first ∷ others, rest)
nearest_again coding first others rest nearest all =
    ap (onto first)
    (differences_column coding first (length others) (spelling coding (first ∷ others) ++ rest)
    nearest
    ∙ ap (λ bs. values_at coding (length others) first (pos 0) (bs ++ rest))
    (spelling-nearest coding first others nearest)
    ∙ values_again coding others first (pos 0) rest all.0 (omega arith) all.1)

-- all others are the first value
all_first : (first : ℤ) (others : List ℤ) → list_all (int_eq first) others ≡ true
    → replicate (length others) first ≡ others
all_first first [] equal = refl
all_first first (v ∷ others) equal =
    let both = and_parts (int_eq first v) (list_all (int_eq first) others) equal in
    ap₂ (λ v vs. v ∷ vs) ((Decides-int_eq first v).0 both.0) (all_first first others both.1)

const_again : (first : ℤ) (others : List ℤ) (rest : List ℕ) → list_all (int_eq first) others ≡ true
    → onto first (column_at Const first (length others) rest) ≡ Ok (first ∷ others, rest)
const_again first others rest equal =
    ap (onto first) (column_at-const first (length others) rest)
    ∙ ap (λ (vs : List ℤ). is_ok_of (first ∷ vs, rest)) (all_first first others equal)

steps_again_by : (first next : ℤ) (others : List ℤ) (rest : List ℕ)
    → AllByRecursion IsInBounds (first ∷ next ∷ others)
    → are_equal (differences (first ∷ next ∷ others)) ≡ true
    → onto first
    (column_at DeltaConst first (length (next ∷ others))
    (spelling DeltaConst (first ∷ next ∷ others) ++ rest))
    ≡ Ok (first ∷ next ∷ others, rest)
steps_again_by first next others rest all equal =
    let step = next -ℤ first in
    let bytes = spelling DeltaConst (first ∷ next ∷ others) ++ rest in
    let text : spelling DeltaConst (first ∷ next ∷ others) ≡ groups 10 (zigzag step) =
    append-nil (integer step) in
    let fits : zigzag step < 2 ^ 64 = difference_fits first next all.0 all.1.0 in
    let number : number_at bytes ≡ Some (zigzag step, rest) = ap (λ bs. number_at (bs ++ rest)) text
    ∙ number_again (zigzag step) rest fits in
    let every =
    and_from (int_eq step step) (list_all (int_eq step) (differences (next ∷ others)))
    (same_int step) equal in
    let steps : steps_from (length (next ∷ others)) first (unzigzag (zigzag step))
    ≡ Some (next ∷ others) =
    ap (steps_from (length (next ∷ others)) first) (unzigzag-zigzag step)
    ∙ steps_again (next ∷ others) first step all.1 every in
    ap (onto first)
    (column_at-steps first (length (next ∷ others)) bytes
    ∙ ap (λ o. steps_by o (length (next ∷ others)) first (length bytes)) number
    ∙ ap (λ o. steps_then o rest (length bytes)) steps)

again_by : (coding : Coding) (first : ℤ) (others : List ℤ) (rest : List ℕ)
    → AllByRecursion IsInBounds (first ∷ others) → Suits coding (first ∷ others)
    → onto first (column_at coding first (length others) (spelling coding (first ∷ others) ++ rest))
    ≡ Ok (first ∷ others, rest)
again_by DeltaConst first [] rest all suits = absurd (omega (arith, suits.0))
again_by DeltaConst first (next ∷ others) rest all suits =
    steps_again_by first next others rest all suits.1
again_by Const first others rest all suits = const_again first others rest suits
again_by NearestDelta2 first others rest all suits =
    nearest_again NearestDelta2 first others rest (inl refl) all
again_by NearestDelta first others rest all suits =
    nearest_again NearestDelta first others rest (inr refl) all

pub column_again :
    (coding : Coding) (first : ℤ) (count : ℕ) (bytes : List ℕ) (values : List ℤ) (rest : List ℕ)
    → IsColumn coding first count bytes values
    → onto first (column_at coding first (count - 1) (bytes ++ rest)) ≡ Ok (values, rest)
column_again coding first count bytes values rest column =
    begins_with values first column.begins
    (λ others whole.
    let all : AllByRecursion IsInBounds (first ∷ others) =
    subst (AllByRecursion IsInBounds) whole (all_to values column.bounds) in
    let suits : Suits coding (first ∷ others) = subst (Suits coding) whole column.suits in
    let len : length others ≡ count - 1 = omega (arith, column.len, ap length whole) in
    let text : spelling coding (first ∷ others) ≡ bytes = ap (spelling coding) (sym whole)
    ∙ sym column.spelled in
    subst (λ n. onto first (column_at coding first n (bytes ++ rest)) ≡ Ok (values, rest)) len
    (subst (λ bs. onto first (column_at coding first (length others) (bs ++ rest))
    ≡ Ok (values, rest)) text
    (again_by coding first others rest all suits
    ∙ ap (λ (vs : List ℤ). is_ok_of (vs, rest)) (sym whole))))

-- a coding of one value is Const
pub lone_suits : (coding : Coding) (values : List ℤ) (count : ℕ) → length values ≡ count
    → Suits coding values
    → (count == 1 && not (is_const coding)) ≡ false
lone_suits DeltaConst values count len suits =
    and_left (count == 1) true (ne_eqb count 1 (λ h. omega (arith, suits.0)))
lone_suits Const values count len suits = and_right (count == 1) false refl
lone_suits NearestDelta2 values count len suits =
    and_left (count == 1) true (ne_eqb count 1 (λ h. omega arith))
lone_suits NearestDelta values count len suits =
    and_left (count == 1) true (ne_eqb count 1 (λ h. omega arith))

pub decoded_again : (coding : Coding) (first : ℤ) (count : ℕ) (bytes : List ℕ) (values : List ℤ)
    → IsColumn coding first count bytes values → decoded coding first count bytes ≡ Ok values
decoded_again coding first count bytes values column =
    let read : onto first (column_at coding first (count - 1) bytes) ≡ Ok (values, []) =
    ap (λ bs. onto first (column_at coding first (count - 1) bs)) (sym (append-nil bytes))
    ∙ column_again coding first count bytes values [] column in
    decoded-column coding first count bytes (lone_suits coding values count column.len column.suits)
    ∙ ap (all_read (length bytes)) read ∙ all_read-all (length bytes) values [] refl
