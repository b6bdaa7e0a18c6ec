-- Texts parted by a byte.
use Rattle.std.proofs.Common.{◌≡◌, ℕ, List, [], ◌∷◌, ◌++◌, append-nil, append_assoc, ap, ◌∙◌, sym, map, flat_map, take, length, slice_index_or, ◌+◌, ◌<◌}
use Rattle.std.proofs.lemmas.List.{take_more}
use Rattle.std.proofs.lemmas.List.Concat.{flat_map-append}
use Rattle.std.specs.List.{join_with_byte}
use Rattle.vm_machine.specs.declared.question.Valued.{Valued}
use Rattle.vm_top.specs.Reply.{series, next_series}

-- the first text, and the mark before each other one
pub joined_behind : {X : Type 0} (mark : ℕ) (f : X → List ℕ) (first : X) (more : List X)
    → join_with_byte mark (map f (first ∷ more)) ≡ f first ++ flat_map (λ x. mark ∷ f x) more
joined_behind mark f first [] = sym (append-nil (f first))
joined_behind mark f first (next ∷ more) =
    ap (λ rest. f first ++ (mark ∷ rest)) (joined_behind mark f next more)

-- series that were written, the first one and those behind it
pub series_written :
    (time : ℕ) (values : List Valued) (first : Valued) (rest : List Valued)
    (before mid after : List ℕ)
    → values ≡ first ∷ rest → mid ≡ before ++ series time first → after ≡ mid
    ++ flat_map (next_series time) rest
    → after ≡ before ++ join_with_byte 44 (map (series time) values)
series_written time values first rest before mid after parts one others =
    others ∙ ap (λ text. text ++ flat_map (next_series time) rest) one
    ∙ append_assoc before (series time first) (flat_map (next_series time) rest)
    ∙ ap (λ text. before ++ text) (sym (joined_behind 44 (series time) first rest))
    ∙ ap (λ list. before ++ join_with_byte 44 (map (series time) list)) (sym parts)

-- one piece more
pub more_written :
    {X : Type 0} (f : X → List ℕ) (xs : List X) (i : ℕ) (d : X) (before so_far after : List ℕ)
    → i < length xs
    → so_far ≡ before ++ flat_map f (take i xs) → after ≡ so_far ++ f (slice_index_or xs i d)
    → after ≡ before ++ flat_map f (take (i + 1) xs)
more_written f xs i d before so_far after within old new =
    let x = slice_index_or xs i d in
    let one : flat_map f (take i xs ++ x ∷ []) ≡ flat_map f (take i xs) ++ f x =
    flat_map-append f (take i xs) (x ∷ [])
    ∙ ap (λ text. flat_map f (take i xs) ++ text) (append-nil (f x)) in
    new ∙ ap (λ text. text ++ f x) old ∙ append_assoc before (flat_map f (take i xs)) (f x)
    ∙ ap (λ text. before ++ text) (sym one ∙ ap (flat_map f) (sym (take_more xs i d within)))
