-- The coding that is chosen suits its values.
use Rattle.std.proofs.Common.{◌≡◌, ℕ, ℤ, pos, add-one, ◌+◌, ◌<◌, ◌≤◌, ◌&&◌, ◌-ℤ◌, Bool, true, false, List, [], ◌∷◌, length, drop, slice_get, get_or, nat_le, Some, All, ap, ap₂, refl, sym, subst, ◌∙◌, arith, if◌then◌else◌}
use Rattle.std.specs.List.{list_all}
use Rattle.std.specs.Ordering.{int_eq}
use Rattle.std.proofs.Math.Seq.{drop-cons}
use Rattle.std.proofs.lemmas.Bool.{and_left}
use Rattle.std.proofs.lemmas.List.{append-nil, drop_all}
use Rattle.vm_codec.specs.Integer.{groups, integer, zigzag}
use Rattle.vm_codec.specs.Coding.{IsInBounds, differences, are_equal, spelling, Suits, IsColumn, chosen}
use Rattle.vm_codec.specs.declared.coding.Coding.{Coding}
use Rattle.vm_codec.specs.declared.coding.Coding.TheVariants.{DeltaConst, Const, NearestDelta2, NearestDelta}
use Rattle.vm_codec.proofs.Columns.{IsNearest, spelled_from, spelling-nearest}

-- values that differ are two or more
pub two_values : (values : List ℤ) → 1 ≤ length values → are_equal values ≡ false
    → 2 ≤ length values
two_values [] some differ = absurd (omega arith)
two_values (v ∷ []) some differ = absurd (cc)
two_values (v ∷ w ∷ values) some differ = omega arith

chosen_suits : (values : List ℤ) → 1 ≤ length values → Suits (chosen values) values
chosen_suits values some = go (are_equal values) refl (are_equal (differences values)) refl
    (nat_le (length (spelling NearestDelta2 values)) (length (spelling NearestDelta values)))
  where
    go : (equal : Bool) → are_equal values ≡ equal → (even : Bool)
        → are_equal (differences values) ≡ even → (shorter : Bool)
        → Suits (if equal then Const
        else (if even then DeltaConst else (if shorter then NearestDelta2 else NearestDelta)))
        values
    go true is even even_is shorter = is
    go false is true even_is shorter = (two_values values some is, even_is)
    go false is false even_is true = two_values values some is
    go false is false even_is false = two_values values some is

-- the bytes of a column in the coding that is chosen
pub column_of : (coding : Coding) (values : List ℤ) (bytes : List ℕ) → coding ≡ chosen values
    → 1 ≤ length values → All IsInBounds values
    → bytes ≡ spelling coding values → (first : ℤ) → slice_get values 0 ≡ Some first
    → IsColumn coding first (length values) bytes values
column_of coding values bytes is some bounds text first begins = record {
  begins = begins;
  len = refl;
  bounds = bounds;
  suits = subst (λ c. Suits c values) (sym is) (chosen_suits values some);
  spelled = text;
}

-- the one integer of equal differences
pub one_integer : (values : List ℤ) (number : ℕ) → 2 ≤ length values
    → number ≡ zigzag (get_or values 1 (pos 0) -ℤ get_or values 0 (pos 0))
    → groups 10 number ≡ spelling DeltaConst values
one_integer [] number two is = absurd (omega arith)
one_integer (v ∷ []) number two is = absurd (omega arith)
one_integer (v ∷ w ∷ values) number two is = ap (groups 10) is ∙ sym (append-nil (integer (w -ℤ v)))

-- a column of differences
pub differences_of : (coding : Coding) (values : List ℤ) → IsNearest coding → 1 ≤ length values
    → spelled_from coding (get_or values 0 (pos 0)) (pos 0) (drop 1 values) ≡ spelling coding values
differences_of coding [] is some = absurd (omega arith)
differences_of coding (v ∷ values) is some = sym (spelling-nearest coding v values is)

pub chosen_two : (values : List ℤ) → 1 ≤ length values → DeltaConst ≡ chosen values
    → 2 ≤ length values
chosen_two values some is = (subst (λ c. Suits c values) (sym is) (chosen_suits values some)).0

-- ---- the test of equal differences, one after the other

abbrev pub are_steps : ℤ → ℤ → List ℤ → Bool
are_steps step last values = list_all (int_eq step) (differences (last ∷ values))

pub same_test : (step step' last last' : ℤ) (values : List ℤ) → step ≡ step' → last ≡ last'
    → are_steps step last values ≡ are_steps step' last' values
same_test step step' last last' values s l = ap₂ (λ s l. are_steps s l values) s l

split_at : (place : ℕ) (values : List ℤ) (item : ℤ) → place < length values
    → item ≡ get_or values place (pos 0)
    → drop place values ≡ item ∷ drop (place + 1) values
split_at place values item within is =
    drop-cons values place (pos 0) within
    ∙ ap₂ (λ n k. n ∷ drop k values) (sym is) (sym (add-one place))

pub other_step : (step last item : ℤ) (place : ℕ) (values : List ℤ) (total : Bool)
    → place < length values
    → item ≡ get_or values place (pos 0) → int_eq step (item -ℤ last) ≡ false
    → are_steps step last (drop place values) ≡ total
    → false ≡ total
other_step step last item place values total within is other so_far =
    sym (and_left (int_eq step (item -ℤ last)) (are_steps step item (drop (place + 1) values))
    other)
    ∙ ap (are_steps step last) (sym (split_at place values item within is)) ∙ so_far

pub one_step_more : (step last item put : ℤ) (place : ℕ) (values : List ℤ) (total : Bool)
    → place < length values
    → item ≡ get_or values place (pos 0) → put ≡ item → int_eq step (item -ℤ last) ≡ true
    → are_steps step last (drop place values) ≡ total
    → are_steps step put (drop (place + 1) values) ≡ total
one_step_more step last item put place values total within is same one so_far =
    let rest = are_steps step item (drop (place + 1) values) in
    ap (λ p. are_steps step p (drop (place + 1) values)) same
    ∙ sym (ap (λ b. b && rest) one)
    ∙ ap (are_steps step last) (sym (split_at place values item within is)) ∙ so_far

pub no_step_more : (step last : ℤ) (place : ℕ) (values : List ℤ) (total : Bool)
    → length values ≤ place
    → are_steps step last (drop place values) ≡ total → true ≡ total
no_step_more step last place values total end so_far =
    ap (are_steps step last) (sym (drop_all place values end)) ∙ so_far
