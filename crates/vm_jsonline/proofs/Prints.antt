-- How the text of a series grows.
use Rattle.std.proofs.Common.{◌≡◌, ℕ, suc, ◌+◌, ◌<◌, false, List, [], ◌∷◌, ◌++◌, length, take, map, refl, sym, ap, ◌∙◌, append_assoc, arith}
use Rattle.std.specs.Prelude.{◌==◌}
use Rattle.std.specs.List.{join_with_byte}
use Rattle.std.proofs.Math.ListN.{get_or}
use Rattle.std.proofs.lemmas.List.{take_more, map_push, length-take, length-map}
use Rattle.std.proofs.lemmas.Bool.Decides.{nat_tests}
use Rattle.vm_jsonline.specs.Print.{comma_before}

comma_some : (n : ℕ) → comma_before (suc n) ≡ 44 ∷ []
comma_some n = let apart : (suc n == 0) ≡ false = grind (arith, nat_tests) in rw apart refl

join_push : (xs : List (List ℕ)) (y : List ℕ)
    → join_with_byte 44 (xs ++ y ∷ []) ≡ join_with_byte 44 xs ++ (comma_before (length xs) ++ y)
join_push [] y = refl
join_push (x ∷ []) y = refl
join_push (x ∷ z ∷ xs) y =
    let joined = join_with_byte 44 (z ∷ xs) in
    let same : comma_before (length (z ∷ xs)) ≡ comma_before (length (x ∷ z ∷ xs)) =
    comma_some (length xs) ∙ sym (comma_some (length (z ∷ xs))) in
    ap (λ (t : List ℕ). x ++ 44 ∷ t) (join_push (z ∷ xs) y)
    ∙ sym (append_assoc x (44 ∷ joined) (comma_before (length (z ∷ xs)) ++ y))
    ∙ ap (λ (t : List ℕ). (x ++ 44 ∷ joined) ++ (t ++ y)) same

-- one more item
pub join_more :
    {A : Type 0} (f : A → List ℕ) (front out1 out2 out3 : List ℕ) (xs : List A) (i : ℕ) (p : A)
    → i < length xs → p ≡ get_or xs i p
    → out1 ≡ front ++ join_with_byte 44 (map f (take i xs)) → out2 ≡ out1 ++ comma_before i
    → out3 ≡ out2 ++ f p
    → out3 ≡ front ++ join_with_byte 44 (map f (take (i + 1) xs))
join_more f front out1 out2 out3 xs i p low is so_far comma item =
    let y = f p in
    let joined = join_with_byte 44 (map f (take i xs)) in
    let len : length (map f (take i xs)) ≡ i =
    omega (arith, length-map (take i xs) f, length-take i xs) in
    let more : join_with_byte 44 (map f (take (i + 1) xs)) ≡ joined ++ (comma_before i ++ y) =
    ap (λ q. join_with_byte 44 (map f q))
    (take_more xs i p low ∙ ap (λ q. take i xs ++ q ∷ []) (sym is))
    ∙ ap (join_with_byte 44) (map_push f (take i xs) p)
    ∙ join_push (map f (take i xs)) y
    ∙ ap (λ k. joined ++ (comma_before k ++ y)) len in
    item ∙ ap (λ t. t ++ y) (comma ∙ ap (λ t. t ++ comma_before i) so_far)
    ∙ append_assoc (front ++ joined) (comma_before i) y
    ∙ append_assoc front joined (comma_before i ++ y)
    ∙ ap (λ t. front ++ t) (sym more)
