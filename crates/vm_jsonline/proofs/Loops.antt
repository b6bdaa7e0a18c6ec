-- Steps of the loops over members and items.
use Rattle.std.proofs.Common.{◌≡◌, ◌+◌, ℕ, suc, zero, ◌<◌, List, [], ◌∷◌, ◌++◌, length, map, Option, Some, None, refl, ap, sym, ◌∙◌, arith, append_assoc, append-nil, drop, drop-cons, add-one, Bool, false, cond}
use Rattle.std.specs.Prelude.{option_map, option_and_then, ◌==◌, ◌&&◌, not}
use Rattle.std.proofs.Math.ListN.{get_or}
use Rattle.std.proofs.lemmas.List.{map-append}
use Rattle.vm_jsonline.specs.inner.Stop.{Fails}
use Rattle.vm_jsonline.specs.declared.stop.Stop.{Stop}
use Rattle.vm_jsonline.specs.declared.stop.Stop.TheVariants.{Memory, Faulty}
use Rattle.vm_jsonline.specs.Parts.{next_item, next_member, items, members, items_of, members_of, MemberRead, Part, quote_place}
use Rattle.vm_jsonline.specs.Series.{all_of}

-- ---- members

pub members_stop : (n : ℕ) (text : List ℕ) → next_member text ≡ None → members n text ≡ []
unfolding members
members_stop zero text none = refl
members_stop (suc n) text none = ap (members_of (λ rest. members n rest)) none

pub members_out : (n : ℕ) (text : List ℕ) → n ≡ 0 → members n text ≡ []
unfolding members
members_out zero text none = refl
members_out (suc n) text none = absurd (omega arith)

pub members_on : (n k : ℕ) (text : List ℕ) (m : MemberRead) → n ≡ suc k → next_member text ≡ Some m
    → members n text ≡ record { key = m.key; value = m.value } ∷ members k m.rest
unfolding members
members_on zero k text m same is = absurd (omega arith)
members_on (suc n) k text m same is =
    let less : n ≡ k = omega arith in
    ap (members_of (λ rest. members n rest)) is
    ∙ ap (λ i. record { key = m.key; value = m.value } ∷ members i m.rest) less

-- ---- items

pub items_stop : (n : ℕ) (text : List ℕ) → next_item text ≡ None → items n text ≡ []
unfolding items
items_stop zero text none = refl
items_stop (suc n) text none = ap (items_of (λ rest. items n rest)) none

pub items_out : (n : ℕ) (text : List ℕ) → n ≡ 0 → items n text ≡ []
unfolding items
items_out zero text none = refl
items_out (suc n) text none = absurd (omega arith)

pub items_on : (n k : ℕ) (text value rest : List ℕ) → n ≡ suc k
    → next_item text ≡ Some (value, rest)
    → items n text ≡ value ∷ items k rest
unfolding items
items_on zero k text value rest same is = absurd (omega arith)
items_on (suc n) k text value rest same is =
    let less : n ≡ k = omega arith in
    ap (items_of (λ rest. items n rest)) is ∙ ap (λ i. value ∷ items i rest) less

-- ---- all of them

module _ {A B : Type 0} (f : A → Option B) (front : List B) where
  -- what was made, put before what the rest gives
  abbrev pub onto : List A → Option (List B)
  onto xs = option_map (λ ys. front ++ ys) (all_of f xs)

  pub onto_none : (x : A) (xs : List A) → f x ≡ None → onto (x ∷ xs) ≡ None
  onto_none x xs none =
      ap (λ o.
      option_map (λ ys. front ++ ys)
      (option_and_then (λ y. option_map (λ ys. y ∷ ys) (all_of f xs)) o)) none

  pub onto_end : (xs : List A) → xs ≡ [] → onto xs ≡ Some front
  onto_end xs none = ap onto none ∙ ap Some (append-nil front)

pub onto_on : {A B : Type 0} (f : A → Option B) (front new : List B) (x : A) (xs : List A) (y : B)
    → f x ≡ Some y → new ≡ front ++ y ∷ []
    → onto f front (x ∷ xs) ≡ onto f new xs
onto_on {B = B} f front new x xs y is now =
    ap (λ o.
    option_map (λ ys. front ++ ys)
    (option_and_then (λ y. option_map (λ ys. y ∷ ys) (all_of f xs)) o)) is
    ∙ go (all_of f xs)
    ∙ ap (λ o. onto f o xs) (sym now)
  where
    go : (o : Option (List B))
        → option_map (λ ys. front ++ ys) (option_map (λ ys. y ∷ ys) o)
        ≡ option_map (λ ys. (front ++ y ∷ []) ++ ys) o
    go None = refl
    go (Some ys) = ap Some (sym (append_assoc front (y ∷ []) ys))

-- a step that fails
pub fails_all :
    {A B : Type 0} (f : A → Option B) (front : List B) (stop : Stop) (all : Option (List B)) (x : A)
    (xs : List A) → all ≡ onto f front (x ∷ xs)
    → Fails stop (f x) → Fails stop all
fails_all f front Memory all x xs is fails = tt
fails_all f front Faulty all x xs is fails = is ∙ onto_none f front x xs fails

-- one part more
pub parts_on : {A : Type 0} (f : A → Part) (xs new : List A) (x : A) (all ms ns : List Part)
    → all ≡ map f xs ++ ms → ms ≡ f x ∷ ns → new ≡ xs ++ x ∷ []
    → all ≡ map f new ++ ns
parts_on f xs new x all ms ns is step now =
    is ∙ ap (λ l. map f xs ++ l) step
    ∙ sym (ap (λ l. map f l ++ ns) now ∙ ap (λ l. l ++ ns) (map-append f xs (x ∷ []))
    ∙ append_assoc (map f xs) (f x ∷ []) ns)

pub parts_end : {A : Type 0} (f : A → Part) (xs : List A) (all ms : List Part) → all ≡ map f xs
    ++ ms → ms ≡ [] → map f xs ≡ all
parts_end f xs all ms is none = sym (is ∙ ap (λ l. map f xs ++ l) none ∙ append-nil (map f xs))

-- a text from one place on
pub next_drop : (text : List ℕ) (i : ℕ) → i < length text
    → drop i text ≡ get_or text i 0 ∷ drop (i + 1) text
next_drop text i here = rw add-one (drop-cons text i 0 here)

shifted : (i : ℕ) (o : Option ℕ)
    → option_map (λ k. i + k) (option_map suc o) ≡ option_map (λ k. i + 1 + k) o
shifted i None = refl
shifted i (Some k) = ap Some (omega arith)

pub quote_on : (text : List ℕ) (i : ℕ) (escaped new : Bool) → i < length text
    → quote_place false text ≡ option_map (λ k. i + k) (quote_place escaped (drop i text))
    → (not escaped && get_or text i 0 == 34) ≡ false → new ≡ (not escaped && get_or text i 0 == 92)
    → quote_place false text ≡ option_map (λ k. i + 1 + k) (quote_place new (drop (i + 1) text))
quote_on text i escaped new here is no_end next =
    is ∙ ap (λ t. option_map (λ k. i + k) (quote_place escaped t)) (next_drop text i here)
    ∙ ap (λ t.
    option_map (λ k. i + k)
    (cond t (Some 0)
    (option_map suc (quote_place (not escaped && get_or text i 0 == 92) (drop (i + 1) text)))))
    no_end
    ∙ shifted i (quote_place (not escaped && get_or text i 0 == 92) (drop (i + 1) text))
    ∙ ap (λ e. option_map (λ k. i + 1 + k) (quote_place e (drop (i + 1) text))) (sym next)
