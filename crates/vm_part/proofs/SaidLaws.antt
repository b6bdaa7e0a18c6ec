-- What a part in memory keeps is as much as its series.
use Rattle.std.proofs.Common.{◌≡◌, ℕ, ◌+◌, suc, List, [], ◌∷◌, length, refl, sym, ap, ◌∙◌}
use Rattle.std.proofs.lemmas.List.{length-map}
use Rattle.vm_part.specs.Part.{Stored, blocks_bytes, entries_from}
use Rattle.vm_part.specs.Said.{Kept, Says}

entries_from-many : (start : ℕ) (all : List Stored) → length (entries_from start all) ≡ length all
entries_from-many start [] = refl
entries_from-many start (s ∷ all) =
    ap suc (entries_from-many (start + length (blocks_bytes s.blocks)) all)

-- there is an entry for each label set
pub entries_many : (part : Kept) (P : List Stored → Type 0) → Says part P
    → length part.entries ≡ length part.sets
entries_many part P says =
    ap length says.said.entries ∙ entries_from-many 8 says.all
    ∙ sym (ap length says.said.sets ∙ length-map says.all (λ s. s.labels))
