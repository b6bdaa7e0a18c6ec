-- Values read one after the other, as the loops do.
use Rattle.std.proofs.Common.{◌≡◌, ◌==◌, ◌&&◌, not, true, false, ℕ, ℤ, zero, suc, pos, ◌+◌, ◌-◌, ◌<◌, ◌≤◌, ◌*◌, ◌^◌, ◌+ℤ◌, ◌-ℤ◌, unsigned_abs, w64, to_z, of_z, List, [], ◌∷◌, ◌++◌, length, replicate, ◌⊎◌, inl, inr, take, set, Option, Some, None, Result, Ok, Err, ap, refl, sym, subst, ◌∙◌, arith, append_assoc}
use Rattle.std.specs.Option.{option_map}
use Rattle.std.proofs.lemmas.List.{append-nil, take_all, take_more_set, length-set}
use Rattle.vm_codec.specs.declared.coding.Coding.{Coding}
use Rattle.std.specs.Result.{OnOk, IfErr}
use Rattle.std.proofs.lemmas.Bool.{eq-eqb, ne_eqb}
use Rattle.std.proofs.lemmas.Int.{ints}
use Rattle.vm_codec.specs.Integer.{unzigzag}
use Rattle.vm_codec.specs.declared.coding.Coding.TheVariants.{DeltaConst, Const, NearestDelta2, NearestDelta}
use Rattle.vm_codec.specs.inner.Reading.{decoded, is_const, number_at, column_at, steps_then, bounded, steps_from, values_at, next_at, lean_after, onto, all_read}

-- a value written at the first place
pub take_first : (into : List ℤ) (value : ℤ) → 1 ≤ length into
    → take 1 (set into 0 value) ≡ value ∷ []
take_first [] value some = absurd (omega arith)
take_first (v ∷ into) value some = refl

-- ---- values equally far apart

-- values that were written before, and those to come
abbrev pub behind_values : List ℤ → Option (List ℤ) → Option (List ℤ)
behind_values front others = option_map (λ others. front ++ others) others

pub one_step : (more : ℕ) (value step next : ℤ) → bounded (value +ℤ step) ≡ Some next
    → steps_from (suc more) value step
    ≡ option_map (λ others. next ∷ others) (steps_from more next step)
unfolding steps_from
one_step more value step next is = rw is refl

pub no_step : (more : ℕ) (value step : ℤ) → bounded (value +ℤ step) ≡ None
    → steps_from (suc more) value step ≡ None
unfolding steps_from
no_step more value step is = rw is refl

regroup_values : (front : List ℤ) (next : ℤ) (others : Option (List ℤ))
    → behind_values front (option_map (λ others. next ∷ others) others)
    ≡ behind_values (front ++ next ∷ []) others
regroup_values front next None = refl
regroup_values front next (Some others) =
    ap (λ (vs : List ℤ). Some vs) (sym (append_assoc front (next ∷ []) others))

-- the same values, from what is the same
pub same_steps : (first first' step step' : ℤ) (len len' : ℕ) → first ≡ first' → step ≡ step'
    → len ≡ len'
    → option_map (λ others. first' ∷ others) (steps_from len' first' step')
    ≡ option_map (λ others. first ∷ others) (steps_from len first step)
same_steps first first' step step' len len' f s n = rw (f, s, n) refl

pub steps_more : (place : ℕ) (value step put next : ℤ) (into : List ℤ) (total : Option (List ℤ))
    → place < length into
    → bounded (value +ℤ step) ≡ Some next → put ≡ next
    → behind_values (take place into) (steps_from (length into - place) value step) ≡ total
    → behind_values (take (place + 1) (set into place put))
    (steps_from (length (set into place put) - (place + 1)) put step) ≡ total
steps_more place value step put next into total within is same so_far =
    let goal : ℤ → Type 0 =
    λ put. behind_values (take (place + 1) (set into place put))
    (steps_from (length (set into place put) - (place + 1)) put step) ≡ total in
    subst goal (sym same) (
    let left : length into - place ≡ suc (length into - (place + 1)) = omega arith in
    let front : take (place + 1) (set into place next) ≡ take place into ++ next ∷ [] =
    take_more_set into place next within in
    let len : length (set into place next) ≡ length into = length-set into place next in
    rw (front, len)
    (sym (regroup_values (take place into) next (steps_from (length into - (place + 1)) next step))
    ∙ ap (behind_values (take place into))
    (sym (one_step (length into - (place + 1)) value step next is))
    ∙ ap (λ n. behind_values (take place into) (steps_from n value step)) (sym left) ∙ so_far))

pub steps_stuck : (place : ℕ) (value step : ℤ) (into : List ℤ) (total : Option (List ℤ))
    → place < length into
    → bounded (value +ℤ step) ≡ None
    → behind_values (take place into) (steps_from (length into - place) value step) ≡ total
    → total ≡ None
steps_stuck place value step into total within is so_far =
    let left : length into - place ≡ suc (length into - (place + 1)) = omega arith in
    sym so_far ∙ ap (λ n. behind_values (take place into) (steps_from n value step)) left
    ∙ ap (behind_values (take place into)) (no_step (length into - (place + 1)) value step is)

pub steps_zero : (value step : ℤ) → steps_from 0 value step ≡ Some []
unfolding steps_from
steps_zero value step = refl

pub steps_done : (place : ℕ) (value step : ℤ) (into : List ℤ) (total : Option (List ℤ))
    → length into ≤ place
    → behind_values (take place into) (steps_from (length into - place) value step) ≡ total
    → total ≡ Some into
steps_done place value step into total end so_far =
    let left : length into - place ≡ 0 = omega arith in
    sym so_far ∙ ap (λ n. behind_values (take place into) (steps_from n value step)) left
    ∙ ap (behind_values (take place into)) (steps_zero value step)
    ∙ ap (λ (vs : List ℤ). Some vs) (append-nil (take place into) ∙ take_all place into end)

-- ---- values by an integer each

-- values that were read before, and what is still read
abbrev pub with_front : List ℤ → Result (List ℤ × List ℕ) ℕ → Result (List ℤ × List ℕ) ℕ
with_front front (Ok r) = Ok (front ++ r.0, r.1)
with_front front (Err left) = Err left

pub one_value : (coding : Coding) (more : ℕ) (value lean next : ℤ) (bytes rest : List ℕ)
    → next_at value lean bytes ≡ Some (next, rest)
    → values_at coding (suc more) value lean bytes
    ≡ onto next (values_at coding more next (lean_after coding (next -ℤ value)) rest)
unfolding values_at
one_value coding more value lean next bytes rest is = rw is refl

pub no_value : (coding : Coding) (more : ℕ) (value lean : ℤ) (bytes : List ℕ)
    → next_at value lean bytes ≡ None
    → values_at coding (suc more) value lean bytes ≡ Err (length bytes)
unfolding values_at
no_value coding more value lean bytes is = rw is refl

pub values_zero : (coding : Coding) (value lean : ℤ) (bytes : List ℕ)
    → values_at coding 0 value lean bytes ≡ Ok ([], bytes)
unfolding values_at
values_zero coding value lean bytes = refl

regroup : (front : List ℤ) (next : ℤ) (r : Result (List ℤ × List ℕ) ℕ)
    → with_front front (onto next r) ≡ with_front (front ++ next ∷ []) r
regroup front next (Ok r) =
    ap (λ (vs : List ℤ). Ok (vs, r.1)) (sym (append_assoc front (next ∷ []) r.0))
regroup front next (Err left) = refl

pub first_front : (first : ℤ) (r : Result (List ℤ × List ℕ) ℕ)
    → with_front (first ∷ []) r ≡ onto first r
first_front first (Ok r) = refl
first_front first (Err left) = refl

pub same_values : (coding : Coding) (first first' : ℤ) (len len' : ℕ) (bytes : List ℕ)
    → first ≡ first' → len ≡ len'
    → onto first' (values_at coding len' first' (pos 0) bytes)
    ≡ onto first (values_at coding len first (pos 0) bytes)
same_values coding first first' len len' bytes f n = rw (f, n) refl

pub values_more :
    (coding : Coding) (place : ℕ) (value lean put next after : ℤ) (into : List ℤ)
    (bytes rest : List ℕ) (total : Result (List ℤ × List ℕ) ℕ)
    → place < length into → next_at value lean bytes ≡ Some (next, rest)
    → after ≡ lean_after coding (next -ℤ value) → put ≡ next
    → with_front (take place into) (values_at coding (length into - place) value lean bytes) ≡ total
    → with_front (take (place + 1) (set into place put))
    (values_at coding (length (set into place put) - (place + 1)) put after rest) ≡ total
values_more coding place value lean put next after into bytes rest total within is then_lean same
    so_far =
    let goal : ℤ → Type 0 =
    λ put. with_front (take (place + 1) (set into place put))
    (values_at coding (length (set into place put) - (place + 1)) put after rest) ≡ total in
    subst goal (sym same) (
    let left : length into - place ≡ suc (length into - (place + 1)) = omega arith in
    let front : take (place + 1) (set into place next) ≡ take place into ++ next ∷ [] =
    take_more_set into place next within in
    let len : length (set into place next) ≡ length into = length-set into place next in
    rw (front, len, then_lean)
    (sym (regroup (take place into) next
    (values_at coding (length into - (place + 1)) next (lean_after coding (next -ℤ value))
    rest))
    ∙ ap (with_front (take place into))
    (sym (one_value coding (length into - (place + 1)) value lean next bytes rest is))
    ∙ ap (λ n. with_front (take place into) (values_at coding n value lean bytes)) (sym left)
    ∙ so_far))

pub values_stuck :
    (coding : Coding) (place : ℕ) (value lean : ℤ) (into : List ℤ) (bytes : List ℕ)
    (total : Result (List ℤ × List ℕ) ℕ)
    → place < length into → next_at value lean bytes ≡ None
    → with_front (take place into) (values_at coding (length into - place) value lean bytes) ≡ total
    → total ≡ Err (length bytes)
values_stuck coding place value lean into bytes total within is so_far =
    let left : length into - place ≡ suc (length into - (place + 1)) = omega arith in
    sym so_far ∙ ap (λ n. with_front (take place into) (values_at coding n value lean bytes)) left
    ∙ ap (with_front (take place into))
    (no_value coding (length into - (place + 1)) value lean bytes is)

pub values_done :
    (coding : Coding) (place : ℕ) (value lean : ℤ) (into : List ℤ) (bytes : List ℕ)
    (total : Result (List ℤ × List ℕ) ℕ)
    → length into ≤ place
    → with_front (take place into) (values_at coding (length into - place) value lean bytes) ≡ total
    → total ≡ Ok (into, bytes)
values_done coding place value lean into bytes total end so_far =
    let left : length into - place ≡ 0 = omega arith in
    sym so_far ∙ ap (λ n. with_front (take place into) (values_at coding n value lean bytes)) left
    ∙ ap (with_front (take place into)) (values_zero coding value lean bytes)
    ∙ ap (λ (vs : List ℤ). Ok (vs, bytes)) (append-nil (take place into) ∙ take_all place into end)

-- ---- numbers that fit 64 bits

pub differ : (next value : ℤ) → unsigned_abs next < 10 ^ 18 → unsigned_abs value < 10 ^ 18
    → to_z w64 (of_z w64 (next -ℤ value)) ≡ next -ℤ value
differ next value n v = omega (arith, ints)

pub differ_small : (next value : ℤ) → unsigned_abs next < 10 ^ 18 → unsigned_abs value < 10 ^ 18
    → unsigned_abs (next -ℤ value) < 2 * 10 ^ 18
differ_small next value n v = omega (arith, ints)

pub sum_fits : (value lean : ℤ) → unsigned_abs value < 10 ^ 18 → unsigned_abs lean < 2 * 10 ^ 18
    → to_z w64 (of_z w64 (value +ℤ lean)) ≡ value +ℤ lean
sum_fits value lean v l = omega (arith, ints)

-- ---- the value after this one

pub next_is : (value lean next : ℤ) (n : ℕ) (bytes rest : List ℕ) → number_at bytes ≡ Some (n, rest)
    → bounded (value +ℤ lean +ℤ unzigzag n) ≡ Some next
    → next_at value lean bytes ≡ Some (next, rest)
unfolding next_at
next_is value lean next n bytes rest number is = rw (number, is) refl

-- ---- values equally far apart, by one integer

pub no_integer : (first : ℤ) (count : ℕ) (bytes : List ℕ) → number_at bytes ≡ None
    → all_read (length bytes) (onto first (column_at DeltaConst first count bytes)) ≡ Err 0
unfolding column_at
no_integer first count bytes none = rw none (ap Err (omega arith))

pub no_steps : (first step : ℤ) (count n : ℕ) (bytes rest : List ℕ)
    → number_at bytes ≡ Some (n, rest) → step ≡ unzigzag n
    → option_map (λ others. first ∷ others) (steps_from count first step) ≡ None
    → all_read (length bytes) (onto first (column_at DeltaConst first count bytes)) ≡ Err 0
unfolding column_at
no_steps first step count n bytes rest number is none =
    rw number (go (steps_from count first (unzigzag n)) (rw is at none))
  where
    go : (steps : Option (List ℤ)) → option_map (λ others. first ∷ others) steps ≡ None
        → all_read (length bytes) (onto first (steps_then steps rest (length bytes))) ≡ Err 0
    go None h = ap Err (omega arith)
    go (Some others) h = absurd (cc)

pub steps : (first step : ℤ) (count n : ℕ) (bytes rest : List ℕ) (into : List ℤ)
    → number_at bytes ≡ Some (n, rest) → step ≡ unzigzag n
    → option_map (λ others. first ∷ others) (steps_from count first step) ≡ Some into
    → onto first (column_at DeltaConst first count bytes) ≡ Ok (into, rest)
unfolding column_at
steps first step count n bytes rest into number is done =
    rw number (go (steps_from count first (unzigzag n)) (rw is at done))
  where
    go : (steps : Option (List ℤ)) → option_map (λ others. first ∷ others) steps ≡ Some into
        → onto first (steps_then steps rest (length bytes)) ≡ Ok (into, rest)
    go None h = absurd (cc)
    go (Some others) h =
        let same : first ∷ others ≡ into = cc in
        ap (λ (vs : List ℤ). Ok (vs, rest)) same

-- ---- a whole column

pub const_column : (first put : ℤ) (len : ℕ) (into : List ℤ) (bytes : List ℕ) → 1 ≤ len
    → put ≡ first → into ≡ replicate len put
    → onto first (column_at Const first (len - 1) bytes) ≡ Ok (into, bytes)
unfolding column_at
const_column first put zero into bytes some same all = absurd (omega arith)
const_column first put (suc more) into bytes some same all =
    let len : suc more - 1 ≡ more = omega arith in
    rw (all, same, len) refl

pub differences_column : (coding : Coding) (first : ℤ) (count : ℕ) (bytes : List ℕ)
    → (coding ≡ NearestDelta2) ⊎ (coding ≡ NearestDelta)
    → column_at coding first count bytes ≡ values_at coding count first (pos 0) bytes
unfolding column_at
differences_column coding first count bytes is = elim is [ inl h ↦ rw h refl | inr h ↦ rw h refl ]

pub decoded-lone : (coding : Coding) (first : ℤ) (count : ℕ) (bytes : List ℕ)
    → (count == 1 && not (is_const coding)) ≡ true
    → decoded coding first count bytes ≡ Err 0
unfolding decoded
decoded-lone coding first count bytes lone = rw lone refl

pub decoded-column : (coding : Coding) (first : ℤ) (count : ℕ) (bytes : List ℕ)
    → (count == 1 && not (is_const coding)) ≡ false
    → decoded coding first count bytes
    ≡ all_read (length bytes) (onto first (column_at coding first (count - 1) bytes))
unfolding decoded
decoded-column coding first count bytes other = rw other refl

pub all_read-all : (len : ℕ) (values : List ℤ) (rest : List ℕ) → length rest ≡ 0
    → all_read len (Ok (values, rest)) ≡ Ok values
all_read-all len values rest none = rw (eq-eqb (length rest) 0 none) refl

pub all_read-left : (len : ℕ) (values : List ℤ) (rest : List ℕ) → 0 < length rest
    → all_read len (Ok (values, rest)) ≡ Err (len - length rest)
all_read-left len values rest some = rw (ne_eqb (length rest) 0 (λ h. omega arith)) refl

-- what follows from a fact of a result follows of the result
pub on_ok : {T E : Type 0} (r : Result T E) (P Q : Type 0) → (P → Q) → OnOk r P → OnOk r Q
on_ok (Ok x) P Q so h = so h
on_ok (Err e) P Q so h = tt

pub if_err : {T E : Type 0} (r : Result T E) (P Q : E → Type 0) → ((e : E) → P e → Q e) → IfErr r P
    → IfErr r Q
if_err (Ok x) P Q so h = tt
if_err (Err e) P Q so h = so e h
