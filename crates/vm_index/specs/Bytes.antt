-- The label table and the postings as bytes in a file. Numbers have their highest byte first.
use Rattle.std.specs.Prelude.{ℕ, List, [], ◌∷◌, ◌++◌, length, map, flat_map}
use Rattle.std.specs.List.{concat}
use Rattle.std.specs.Int.{w16, w32, w64, to_be_bytes}
use Rattle.vm_labels.specs.Bytes.{label_set_bytes}
use Rattle.vm_labels.specs.declared.pair.Pair.{Pair}
use Rattle.vm_index.specs.declared.posting.Posting.{Posting}

-- four bytes of length, and the label set
abbrev pub framed : List Pair → List ℕ
framed set = to_be_bytes w32 (length (label_set_bytes set)) ++ label_set_bytes set

-- the label sets one after the other
abbrev pub table_bytes : List (List Pair) → List ℕ
table_bytes = flat_map framed

-- two bytes of length, and a text
abbrev pub text_fields : List ℕ → List (List ℕ)
text_fields text = to_be_bytes w16 (length text) ∷ text ∷ []

-- a name and a value, how many ordinals there are, and each ordinal
abbrev pub posting_fields : Posting → List (List ℕ)
posting_fields q =
    text_fields q.pair.name ++ text_fields q.pair.value
    ++ to_be_bytes w64 (length q.ordinals) ∷ map (to_be_bytes w64) q.ordinals

-- how many postings there are, and each posting: the fields one after the other
abbrev pub postings_fields : List Posting → List (List ℕ)
postings_fields qs = to_be_bytes w64 (length qs) ∷ flat_map posting_fields qs

-- the bytes of postings
abbrev pub postings_bytes : List Posting → List ℕ
postings_bytes qs = concat (postings_fields qs)
