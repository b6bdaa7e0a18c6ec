-- The label index: label sets in order, and for each pair the sets that have it.
use Rattle.std.specs.Prelude.{◌≡◌, ℕ, suc, Bool, List, [], ◌∷◌, None, map, flat_map, if◌then◌else◌}
use Rattle.std.specs.List.{AllByRecursion, list_any, dedup}
use Rattle.std.specs.Ordering.{is_lt}
use Rattle.vm_base.specs.Sorted.{IsUp, sorted}
use Rattle.vm_labels.specs.Labels.{label_cmp, limit_of, is_in_pair_order, pair_cmp, pair_eq}
use Rattle.vm_labels.specs.Bytes.{HasBytes}
use Rattle.vm_labels.specs.declared.pair.Pair.{Pair}
use Rattle.vm_index.specs.declared.posting.Posting.{Posting}

-- whether a label set comes before another in label order
abbrev pub is_set_below : List Pair → List Pair → Bool
is_set_below a b = is_lt (label_cmp a b)

-- each set comes before all that come after it, so none stands twice
abbrev pub SetsRise : List (List Pair) → Type 0
SetsRise = IsUp is_set_below

-- each set keeps the limits of an import
abbrev pub KeepLimits : List (List Pair) → Type 0
KeepLimits = AllByRecursion (λ set. limit_of set ≡ None)

-- what the sets of an index are: they rise, and each is a label set that has bytes
pub record AreSets (sets : List (List Pair)) : Type 0 where
  pub rising : SetsRise sets
  pub written : AllByRecursion HasBytes sets

-- the places of the items that pass a test, counted from a number
abbrev pub places_from : {X : Type 0} → ℕ → (X → Bool) → List X → List ℕ
places_from at p [] = []
places_from at p (x ∷ xs) = if p x then at ∷ places_from (suc at) p xs
    else places_from (suc at) p xs

-- the ordinals of the sets that have a pair
abbrev pub ordinals_of : List (List Pair) → Pair → List ℕ
ordinals_of sets p = places_from 0 (list_any (pair_eq p)) sets

-- the pairs of all sets, each once and in order
abbrev pub pairs_of : List (List Pair) → List Pair
pairs_of sets = dedup pair_eq (sorted is_in_pair_order (flat_map (λ set. set) sets))

-- a pair with the ordinals of the sets that have it
abbrev pub posting_of : List (List Pair) → Pair → Posting
posting_of sets p = record { pair = p; ordinals = ordinals_of sets p }

-- each pair with the ordinals of the sets that have it
abbrev pub postings_of : List (List Pair) → List Posting
postings_of sets = map (posting_of sets) (pairs_of sets)

-- the ordinals of the first posting of a pair, none where there is no such posting
abbrev pub found_in : List Posting → Pair → List ℕ
found_in [] p = []
found_in (q ∷ qs) p = if pair_eq p q.pair then q.ordinals else found_in qs p

-- postings by their pairs, none twice
abbrev pub PostingsRise : List Posting → Type 0
PostingsRise = IsUp (λ a b. is_lt (pair_cmp a.pair b.pair))
