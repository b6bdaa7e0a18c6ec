-- Two lists whose items give the same, in order, and lists that are gone through up to an item.
use Rattle.std.proofs.Common.{◌≡◌, ℕ, zero, suc, ◌<◌, ◌+◌, Bool, true, false, List, [], ◌∷◌, ◌++◌, length, map}
use Rattle.std.proofs.Common.{take, get_or, set, Vec, arith, sym, ap, ◌∙◌}
use Rattle.std.proofs.Math.Seq.{map-set_same}
use Rattle.std.proofs.lemmas.List.{map-append, take_more, with_items_is}
use Rattle.std.proofs.lemmas.List.Folds.{list_all_more, list_any_more}
use Rattle.std.specs.List.{list_all, list_any}
use Rattle.std.specs.Vec.{with_items}

-- items at one place give the same
pub same_at :
    {A B C : Type 0} (f : A → C) (g : B → C) (xs : List A) (ys : List B) (i : ℕ) (d : A) (e : B)
    → map f xs ≡ map g ys → i < length ys → f (get_or xs i d) ≡ g (get_or ys i e)
same_at f g xs [] i d e same within = absurd (omega arith)
same_at f g [] (y ∷ ys) i d e same within = cc
same_at f g (x ∷ xs) (y ∷ ys) zero d e same within = cc
same_at f g (x ∷ xs) (y ∷ ys) (suc i) d e same within =
    let rest : map f xs ≡ map g ys = cc in
    same_at f g xs ys i d e rest (omega arith)

-- and still do with one item more
pub same_more : {A B C : Type 0} (f : A → C) (g : B → C) (xs more : List A) (ys : List B) (i : ℕ)
    (x : A) (y d : B) → i < length ys → y ≡ get_or ys i d → map f xs ≡ map g (take i ys)
    → more ≡ xs ++ x ∷ [] → f x ≡ g y → map f more ≡ map g (take (i + 1) ys)
same_more f g xs more ys i x y d within is same pushed here =
    ap (map f) pushed ∙ map-append f xs (x ∷ []) ∙ ap (λ t. t ++ f x ∷ []) same
    ∙ ap (λ z. map g (take i ys) ++ z ∷ []) here
    ∙ sym (ap (map g) (take_more ys i d within) ∙ map-append g (take i ys) (get_or ys i d ∷ [])
    ∙ ap (λ z. map g (take i ys) ++ g z ∷ []) (sym is))

-- a write that gives the same leaves what the list gives
pub same_written : {A C : Type 0} (f : A → C) (xs : List A) (i : ℕ) (x d : A) (ys : List C)
    → f x ≡ f (get_or xs i d) → map f xs ≡ ys → map f (set xs i x) ≡ ys
same_written f xs i x d ys here same = map-set_same f xs i x d here ∙ same

-- and so does one within a list of lists
pub same_within :
    {A C Z : Type 0} (f : A → C) (xs : List (Vec A Z)) (i : ℕ) (d : Vec A Z) (new old : List A)
    (ys : List (List C)) → length new ≡ (get_or xs i d).len → old ≡ (get_or xs i d).items
    → map f new ≡ map f old
    → map (λ (v : Vec A Z). map f v.items) xs ≡ ys
    → map (λ (v : Vec A Z). map f v.items) (set xs i (with_items (get_or xs i d) new)) ≡ ys
same_within f xs i d new old ys long is here same =
    same_written (λ v. map f v.items) xs i (with_items (get_or xs i d) new) d ys
    (ap (map f) (with_items_is (get_or xs i d) new long) ∙ here ∙ ap (map f) is) same

-- one item more that passes
pub all_more : {X : Type 0} (p : X → Bool) (xs : List X) (i : ℕ) (x d : X) (b : Bool)
    → i < length xs → x ≡ get_or xs i d → list_all p (take i xs) ≡ true → b ≡ p x → b ≡ true
    → list_all p (take (i + 1) xs) ≡ true
all_more p xs i x d b within is all here on =
    let last : p (get_or xs i d) ≡ true = ap p (sym is) ∙ sym here ∙ on in
    rw (list_all_more p xs i d within, all, last)

-- one item more that doesn't
pub none_more : {X : Type 0} (p : X → Bool) (xs : List X) (i : ℕ) (x d : X) (b : Bool)
    → i < length xs → x ≡ get_or xs i d → list_any p (take i xs) ≡ false → b ≡ p x → b ≡ false
    → list_any p (take (i + 1) xs) ≡ false
none_more p xs i x d b within is none here off =
    let last : p (get_or xs i d) ≡ false = ap p (sym is) ∙ sym here ∙ off in
    rw (list_any_more p xs i d within, none, last)
