-- The columns of differences: what is read of one is its spelling, and its spelling is read.
use Rattle.std.proofs.Common.{◌≡◌, ◌⊎◌, ℕ, zero, suc, ℤ, pos, ◌*◌, ◌^◌, ◌<◌, ◌-ℤ◌, unsigned_abs, List, [], ◌∷◌, ◌++◌, length, take, Option, Some, None, Result, Ok, Err, inl, inr, ap, ap₂, refl, sym, subst, ◌∙◌, arith, append_assoc}
use Rattle.std.specs.List.{AllByRecursion, flat_map}
use Rattle.std.proofs.lemmas.Int.{ints}
use Rattle.vm_codec.specs.Integer.{integer}
use Rattle.vm_codec.specs.Coding.{IsInBounds, differences, spelling}
use Rattle.vm_codec.specs.inner.Reading.{next_at, values_at, lean_after, onto, then_more}
use Rattle.vm_codec.specs.declared.coding.Coding.{Coding}
use Rattle.vm_codec.specs.declared.coding.Coding.TheVariants.{DeltaConst, Const, NearestDelta2, NearestDelta}
use Rattle.vm_codec.proofs.Integers.{AreBytes, IsNext, next_takes, next_again}
use Rattle.vm_codec.proofs.Values.{one_value, values_zero, differ_small}

-- the bytes of the values after this one
abbrev pub spelled_from : Coding → ℤ → ℤ → List ℤ → List ℕ
spelled_from coding value lean [] = []
spelled_from coding value lean (next ∷ more) =
    integer (next -ℤ value -ℤ lean)
    ++ spelled_from coding next (lean_after coding (next -ℤ value)) more

-- ---- they are the bytes of the columns

pub less_nothing : (z : ℤ) → z -ℤ pos 0 ≡ z
less_nothing z = omega (arith, ints)

spelled-differences : (value : ℤ) (more : List ℤ)
    → flat_map integer (differences (value ∷ more)) ≡ spelled_from NearestDelta value (pos 0) more
spelled-differences value [] = refl
spelled-differences value (next ∷ more) =
    ap₂ (λ d rest. integer d ++ rest) (sym (less_nothing (next -ℤ value)))
    (spelled-differences next more)

spelled-second : (value lean : ℤ) (more : List ℤ)
    → flat_map integer (differences (lean ∷ differences (value ∷ more)))
    ≡ spelled_from NearestDelta2 value lean more
spelled-second value lean [] = refl
spelled-second value lean (next ∷ more) =
    ap (λ rest. integer (next -ℤ value -ℤ lean) ++ rest) (spelled-second next (next -ℤ value) more)

second_from_nothing : (gaps : List ℤ) → take 1 gaps ++ differences gaps ≡ differences (pos 0 ∷ gaps)
second_from_nothing [] = refl
second_from_nothing (gap ∷ gaps) = ap (λ d. d ∷ differences (gap ∷ gaps)) (sym (less_nothing gap))

-- a coding with an integer for each value but the first
abbrev pub IsNearest : Coding → Type 0
IsNearest coding = (coding ≡ NearestDelta2) ⊎ (coding ≡ NearestDelta)

pub spelling-nearest : (coding : Coding) (first : ℤ) (more : List ℤ) → IsNearest coding
    → spelling coding (first ∷ more) ≡ spelled_from coding first (pos 0) more
spelling-nearest coding first more is =
    elim is [
      | inl two ↦
          rw two (ap (flat_map integer) (second_from_nothing (differences (first ∷ more)))
          ∙ spelled-second first (pos 0) more)
      | inr one ↦ rw one (spelled-differences first more)
    ]

-- ---- reading

abbrev pub is_ok_of : {A : Type 0} → A → Result A ℕ
is_ok_of x = Ok x

pub same_ok : {A : Type 0} (x y : A) → is_ok_of x ≡ is_ok_of y → x ≡ y
same_ok x y is = cc

abbrev is_err_of : ℕ → Result (List ℤ × List ℕ) ℕ
is_err_of left = Err left

same_err : (left other : ℕ) → is_err_of left ≡ is_err_of other → left ≡ other
same_err left other is = cc

not_both : {x : List ℤ × List ℕ} {left : ℕ} → is_ok_of x ≡ is_err_of left → ⊥
not_both is = cc

same_next : (x y : ℤ × List ℕ) → Some x ≡ Some y → x ≡ y
same_next x y is = cc

abbrev none_of : Option (ℤ × List ℕ)
none_of = None

is_none : {x : ℤ × List ℕ} → none_of ≡ Some x → ⊥
is_none is = cc

values-more : (coding : Coding) (count : ℕ) (value lean : ℤ) (bytes : List ℕ)
    → values_at coding (suc count) value lean bytes
    ≡ then_more (next_at value lean bytes) (length bytes)
    (λ next rest. values_at coding count next (lean_after coding (next -ℤ value)) rest)
unfolding values_at
values-more coding count value lean bytes = refl

then_more-ok :
    (o : Option (ℤ × List ℕ)) (left : ℕ) (read : ℤ → List ℕ → Result (List ℤ × List ℕ) ℕ)
    (y : List ℤ × List ℕ) {P : Type 0}
    → then_more o left read ≡ Ok y
    → ((next : ℤ) (rest : List ℕ) → o ≡ Some (next, rest) → onto next (read next rest) ≡ Ok y → P)
    → P
then_more-ok None left read y is use_it = absurd (cc)
then_more-ok (Some x) left read y is use_it = use_it x.0 x.1 refl is

pub onto-ok :
    (value : ℤ) (r : Result (List ℤ × List ℕ) ℕ) (values : List ℤ) (rest : List ℕ) {P : Type 0}
    → onto value r ≡ Ok (values, rest)
    → ((more : List ℤ) → r ≡ Ok (more, rest) → values ≡ value ∷ more → P) → P
onto-ok value (Err left) values rest is use_it = absurd (cc)
onto-ok value (Ok r) values rest is use_it =
    let same = same_ok (value ∷ r.0, r.1) (values, rest) is in
    let after : r.1 ≡ rest = ap (λ (p : List ℤ × List ℕ). p.1) same in
    use_it r.0 (ap (λ (bs : List ℕ). Ok (r.0, bs)) after)
    (sym (ap (λ (p : List ℤ × List ℕ). p.0) same))

pub onto-err : (value : ℤ) (r : Result (List ℤ × List ℕ) ℕ) (left : ℕ) → onto value r ≡ Err left
    → r ≡ Err left
onto-err value (Err l) left is = is
onto-err value (Ok r) left is = absurd (cc)

abbrev AreInBounds : List ℤ → Type 0
AreInBounds values = AllByRecursion IsInBounds values

-- the values that are read and the bytes after their integers
pub record AreValues (coding : Coding) (count : ℕ) (value lean : ℤ) (bytes : List ℕ)
    (values : List ℤ) (rest : List ℕ) : Type 0 where
  pub parts : bytes ≡ spelled_from coding value lean values ++ rest
  pub rest_bytes : AreBytes rest
  pub len : length values ≡ count
  pub bounds : AllByRecursion IsInBounds values

one_more :
    (coding : Coding) (count : ℕ) (value lean next : ℤ) (bytes after : List ℕ) (values : List ℤ)
    (rest : List ℕ)
    → IsNext value lean bytes next after
    → AreValues coding count next (lean_after coding (next -ℤ value)) after values rest
    → AreValues coding (suc count) value lean bytes (next ∷ values) rest
one_more coding count value lean next bytes after values rest front more = record {
  parts =
      front.parts ∙ ap (λ bs. integer (next -ℤ value -ℤ lean) ++ bs) more.parts
      ∙ sym (append_assoc (integer (next -ℤ value -ℤ lean))
      (spelled_from coding next (lean_after coding (next -ℤ value)) values) rest);
  rest_bytes = more.rest_bytes;
  len = ap suc more.len;
  bounds = (front.bound, more.bounds);
}

pub values_take :
    (coding : Coding) (count : ℕ) (value lean : ℤ) (bytes : List ℕ) (values : List ℤ)
    (rest : List ℕ) → AreBytes bytes
    → values_at coding count value lean bytes ≡ Ok (values, rest)
    → AreValues coding count value lean bytes values rest
values_take coding zero value lean bytes values rest are is =
    let same =
    same_ok ([], bytes) (values, rest) (sym (values_zero coding value lean bytes) ∙ is) in
    subst (λ (r : List ℤ × List ℕ). AreValues coding 0 value lean bytes r.0 r.1) same
    (record { parts = refl; rest_bytes = are; len = refl; bounds = tt })
values_take coding (suc count) value lean bytes values rest are is =
    then_more-ok (next_at value lean bytes) (length bytes) _ (values, rest)
    (sym (values-more coding count value lean bytes) ∙ is)
    (λ next after read others. onto-ok next _ values rest others
    (λ more is_more first.
    subst (λ vs. AreValues coding (suc count) value lean bytes vs rest) (sym first)
    (let front = next_takes value lean bytes next after are read in
    one_more coding count value lean next bytes after more rest front
    (values_take coding count next (lean_after coding (next -ℤ value)) after more rest
    front.rest_bytes is_more))))

-- ---- what is spelled is read

lean_small : (coding : Coding) (next value : ℤ) → IsInBounds next → IsInBounds value
    → unsigned_abs (lean_after coding (next -ℤ value)) < 2 * 10 ^ 18
lean_small NearestDelta2 next value n v = differ_small next value n v
lean_small DeltaConst next value n v = omega arith
lean_small Const next value n v = omega arith
lean_small NearestDelta next value n v = omega arith

pub values_again : (coding : Coding) (values : List ℤ) (value lean : ℤ) (rest : List ℕ)
    → IsInBounds value
    → unsigned_abs lean < 2 * 10 ^ 18 → AllByRecursion IsInBounds values
    → values_at coding (length values) value lean (spelled_from coding value lean values ++ rest)
    ≡ Ok (values, rest)
values_again coding [] value lean rest v l all = values_zero coding value lean rest
values_again coding (next ∷ more) value lean rest v l all =
    let gap = lean_after coding (next -ℤ value) in
    let after = spelled_from coding next gap more ++ rest in
    let front = next_again value lean next after v l all.0 in
    let others =
    values_again coding more next gap rest all.0 (lean_small coding next value all.0 v) all.1 in
    ap (λ bs. values_at coding (suc (length more)) value lean bs)
    (append_assoc (integer (next -ℤ value -ℤ lean)) (spelled_from coding next gap more) rest)
    ∙ one_value coding (length more) value lean next (integer (next -ℤ value -ℤ lean) ++ after)
    after front
    ∙ ap (onto next) others

-- ---- where the next integer breaks

-- the most values that the bytes begin with, and the bytes after them
pub record IsStuck (coding : Coding) (count : ℕ) (value lean : ℤ) (bytes : List ℕ) (left : ℕ) :
    Type 0 where
  pub read : List ℤ
  pub rest : List ℕ
  pub parts : bytes ≡ spelled_from coding value lean read ++ rest
  pub place : left ≡ length rest
  pub few : length read < count
  pub bounds : AllByRecursion IsInBounds read
  pub longest : (values : List ℤ) (more : List ℕ) → length read < length values
      → AllByRecursion IsInBounds values
      → bytes ≡ spelled_from coding value lean values ++ more → ⊥

-- what the bytes begin with is what is read of them
begins_again : (coding : Coding) (value lean next : ℤ) (values : List ℤ) (bytes more : List ℕ)
    → IsInBounds value
    → unsigned_abs lean < 2 * 10 ^ 18 → IsInBounds next
    → bytes ≡ spelled_from coding value lean (next ∷ values) ++ more
    → next_at value lean bytes
    ≡ Some (next, spelled_from coding next (lean_after coding (next -ℤ value)) values ++ more)
begins_again coding value lean next values bytes more v l n parts =
    let after = spelled_from coding next (lean_after coding (next -ℤ value)) values in
    ap (next_at value lean) (parts ∙ append_assoc (integer (next -ℤ value -ℤ lean)) after more)
    ∙ next_again value lean next (after ++ more) v l n

stuck_here : (coding : Coding) (count : ℕ) (value lean : ℤ) (bytes : List ℕ) (left : ℕ)
    → IsInBounds value
    → unsigned_abs lean < 2 * 10 ^ 18 → next_at value lean bytes ≡ None → left ≡ length bytes
    → IsStuck coding (suc count) value lean bytes left
stuck_here coding count value lean bytes left v l none place = record {
  read = [];
  rest = bytes;
  parts = refl;
  place = place;
  few = omega arith;
  bounds = tt;
  longest = go;
}
  where
    go : (values : List ℤ) (more : List ℕ) → 0 < length values → AllByRecursion IsInBounds values
        → bytes ≡ spelled_from coding value lean values ++ more → ⊥
    go [] more longer all begins = absurd (omega arith)
    go (next ∷ values) more longer all begins =
        let some = begins_again coding value lean next values bytes more v l all.0 begins in
        is_none (sym none ∙ some)

stuck_later : (coding : Coding) (count : ℕ) (value lean next : ℤ) (bytes after : List ℕ) (left : ℕ)
    → IsInBounds value
    → unsigned_abs lean < 2 * 10 ^ 18 → next_at value lean bytes ≡ Some (next, after)
    → IsNext value lean bytes next after
    → IsStuck coding count next (lean_after coding (next -ℤ value)) after left
    → IsStuck coding (suc count) value lean bytes left
stuck_later coding count value lean next bytes after left v l some front later = record {
  read = next ∷ later.read;
  rest = later.rest;
  parts =
      front.parts ∙ ap (λ bs. integer (next -ℤ value -ℤ lean) ++ bs) later.parts
      ∙ sym (append_assoc (integer (next -ℤ value -ℤ lean))
      (spelled_from coding next (lean_after coding (next -ℤ value)) later.read) later.rest);
  place = later.place;
  few = omega (arith, later.few);
  bounds = (front.bound, later.bounds);
  longest = go;
}
  where
    go : (values : List ℤ) (more : List ℕ) → suc (length later.read) < length values
        → AllByRecursion IsInBounds values
        → bytes ≡ spelled_from coding value lean values ++ more → ⊥
    go [] more longer all begins = absurd (omega arith)
    go (other ∷ values) more longer all begins =
        let again = begins_again coding value lean other values bytes more v l all.0 begins in
        let same =
        same_next (next, after)
        (other, spelled_from coding other (lean_after coding (other -ℤ value)) values ++ more)
        (sym some ∙ again) in
        let is : next ≡ other = ap (λ (p : ℤ × List ℕ). p.0) same in
        let left_is : after ≡ spelled_from coding other (lean_after coding (other -ℤ value)) values
        ++ more = ap (λ (p : ℤ × List ℕ). p.1) same in
        later.longest values more (omega arith) all.1
        (subst (λ n. after ≡ spelled_from coding n (lean_after coding (n -ℤ value)) values ++ more)
        (sym is) left_is)

pub values_stuck_at : (coding : Coding) (count : ℕ) (value lean : ℤ) (bytes : List ℕ) (left : ℕ)
    → AreBytes bytes → IsInBounds value
    → unsigned_abs lean < 2 * 10 ^ 18 → values_at coding count value lean bytes ≡ Err left
    → IsStuck coding count value lean bytes left
values_stuck_at coding zero value lean bytes left are v l is =
    absurd (not_both (sym (values_zero coding value lean bytes) ∙ is))
values_stuck_at coding (suc count) value lean bytes left are v l is =
    go (next_at value lean bytes) refl (sym (values-more coding count value lean bytes) ∙ is)
    (λ next after front.
    values_stuck_at coding count next (lean_after coding (next -ℤ value)) after left
    front.rest_bytes front.bound
    (lean_small coding next value front.bound v))
  where
    go : (o : Option (ℤ × List ℕ)) → next_at value lean bytes ≡ o
        → then_more o (length bytes)
        (λ next rest. values_at coding count next (lean_after coding (next -ℤ value)) rest)
        ≡ Err left
        → ((next : ℤ) (after : List ℕ) → IsNext value lean bytes next after
        → values_at coding count next (lean_after coding (next -ℤ value)) after ≡ Err left
        → IsStuck coding count next (lean_after coding (next -ℤ value)) after left)
        → IsStuck coding (suc count) value lean bytes left
    go None some read later =
        stuck_here coding count value lean bytes left v l some
        (sym (same_err (length bytes) left read))
    go (Some x) some read later =
        let front = next_takes value lean bytes x.0 x.1 are some in
        stuck_later coding count value lean x.0 bytes x.1 left v l some front
        (later x.0 x.1 front (onto-err x.0 _ left read))
