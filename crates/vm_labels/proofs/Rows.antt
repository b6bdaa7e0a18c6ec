-- Rows of the definitions, worked out by hand.
use Rattle.std.proofs.Common.{◌≡◌, ℕ, false, List, [], ◌∷◌, Ok, Err, refl}
use Rattle.std.specs.Prelude.{codes}
use Rattle.vm_labels.specs.Labels
use Rattle.vm_labels.specs.Text
use Rattle.json.specs.Print.{escape_byte}
use Rattle.vm_labels.specs.Bytes.{label_set_bytes, label_set_of, fields_of, pairs_at, pair_at, text_at}
use Rattle.vm_labels.specs.Name.{name_len}
use Rattle.vm_labels.specs.declared.pair.Pair.{Pair}
use Rattle.vm_labels.specs.declared.fault.LabelFault.TheVariants.{BadName, TwiceNamed}
use Rattle.std.specs.Prelude.{bytes_eq}
use Rattle.vm_labels.specs.Selected.{meets, selected}
use Rattle.vm_labels.specs.declared.selector.Filter.{Filter}
use Rattle.vm_labels.specs.declared.selector.Selector.{Selector}
use Rattle.vm_labels.specs.declared.selector.FilterOp.{FilterOp}
use Rattle.vm_labels.specs.declared.selector.FilterOp.TheVariants.{Equal, Differs, Matches, MatchesNot}

pair : List ℕ → List ℕ → Pair
pair name value = record { name = name; value = value }

ab : List Pair
ab = pair (codes "a") (codes "b") ∷ pair (codes "c") (codes "d\"") ∷ []

text_row : Text.label_text ab ≡ codes "{a=\"b\",c=\"d\\\"\"}"
unfolding ab pair
text_row = refl

json_row : Text.label_json (pair (codes "a") (codes "b") ∷ []) ≡ codes "{\"a\":\"b\"}"
unfolding pair escape_byte
json_row = refl

built_row :
    Labels.built
    (pair (codes "c") (codes "d") ∷ pair (codes "0") [] ∷ pair (codes "a") (codes "b") ∷ [])
    ≡ Ok (pair (codes "a") (codes "b") ∷ pair (codes "c") (codes "d") ∷ [])
unfolding pair
built_row = refl

bad_row :
    Labels.built
    (pair (codes "c") (codes "d") ∷ pair (codes "0") [] ∷ pair (codes "c") (codes "b")
    ∷ pair (codes "0") (codes "x") ∷ []) ≡ Err (BadName 3)
unfolding pair
bad_row = refl

twice_row :
    Labels.built
    (pair (codes "c") (codes "d") ∷ pair (codes "a") (codes "x") ∷ pair (codes "a") (codes "y")
    ∷ pair (codes "c") (codes "b") ∷ []) ≡ Err (TwiceNamed (codes "a"))
unfolding pair
twice_row = refl

bytes_row : label_set_bytes (pair (codes "a") (codes "bc") ∷ []) ≡ 0 ∷ 1 ∷ 0 ∷ 1 ∷ 97 ∷ 0 ∷ 2 ∷ 98
    ∷ 99 ∷ []
unfolding pair
bytes_row = refl

empty_row : label_set_of (0 ∷ 1 ∷ 0 ∷ 1 ∷ 97 ∷ 0 ∷ 0 ∷ []) ≡ Err 7
unfolding label_set_of fields_of pairs_at pair_at text_at
empty_row = refl

cut_row : label_set_of (0 ∷ 1 ∷ 0 ∷ 1 ∷ 97 ∷ 0 ∷ 3 ∷ 98 ∷ 99 ∷ []) ≡ Err 7
unfolding label_set_of fields_of pairs_at pair_at text_at
cut_row = refl

none_row : label_set_of (0 ∷ 0 ∷ []) ≡ Err 0
unfolding label_set_of fields_of pairs_at pair_at text_at
none_row = refl

name_row : name_len (codes "ab1 x") ≡ 3
name_row = refl

-- ---- selections, with a pattern that matches its own text alone

filter_of : List ℕ → FilterOp → List ℕ → Filter
filter_of name op value = record { name = name; op = op; value = value }

a_is_b : Selector
a_is_b =
    record {
      lists = (filter_of (codes "a") Equal (codes "b") ∷ filter_of (codes "x") Equal [] ∷ [])
          ∷ (filter_of (codes "c") Matches (codes "d") ∷ []) ∷ [];
    }

one : List ℕ → List ℕ → List Pair
one name value = pair name value ∷ []

selected_row :
    selected bytes_eq a_is_b
    (one (codes "c") (codes "d") ∷ one (codes "a") (codes "b") ∷ one (codes "a") (codes "c")
    ∷ one (codes "c") (codes "d") ∷ (pair (codes "a") (codes "b") ∷ one (codes "x") (codes "y"))
    ∷ [])
    ≡ one (codes "a") (codes "b") ∷ one (codes "c") (codes "d") ∷ []
unfolding pair filter_of a_is_b one
selected_row = refl

absent_row : meets bytes_eq (filter_of (codes "x") Differs []) (one (codes "a") (codes "b")) ≡ false
unfolding pair filter_of one
absent_row = refl

not_matched_row :
    meets bytes_eq (filter_of (codes "a") MatchesNot (codes "b")) (one (codes "a") (codes "b"))
    ≡ false
unfolding pair filter_of one
not_matched_row = refl
