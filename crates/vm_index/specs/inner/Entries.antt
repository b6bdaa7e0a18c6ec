-- How postings are made: the entries of all sets are sorted, and those of one pair are gathered.
use Rattle.std.specs.Prelude.{ℕ, suc, List, [], ◌∷◌, ◌++◌, map, if◌then◌else◌}
use Rattle.vm_labels.specs.Labels.{pair_eq}
use Rattle.vm_labels.specs.declared.pair.Pair.{Pair}
use Rattle.vm_index.specs.declared.posting.Posting.{Posting}
use Rattle.vm_index.specs.declared.entries.Entry.{Entry}

-- a pair and the ordinal of its set
abbrev pub seen : Entry → Pair × ℕ
seen e = (e.pair.now, e.ordinal)

-- an entry for each pair of each set, the sets counted from a number
abbrev pub entries_from : ℕ → List (List Pair) → List (Pair × ℕ)
entries_from at [] = []
entries_from at (set ∷ sets) = map (λ p. (p, at)) set ++ entries_from (suc at) sets

-- the postings with an entry before them
abbrev pub put_entry : Pair × ℕ → List Posting → List Posting
put_entry e [] = record { pair = e.0; ordinals = e.1 ∷ [] } ∷ []
put_entry e (q ∷ qs) =
    if pair_eq q.pair e.0 then record { pair = e.0; ordinals = e.1 ∷ q.ordinals } ∷ qs
    else record { pair = e.0; ordinals = e.1 ∷ [] } ∷ q ∷ qs

-- neighbours of one pair as one posting
abbrev pub gathered : List (Pair × ℕ) → List Posting
gathered [] = []
gathered (e ∷ es) = put_entry e (gathered es)
