-- The names that label sets have, and the values of one name.
use Rattle.std.specs.Prelude.{◌≡◌, ℕ, Bool, false, List, [], ◌∷◌, ◌++◌, bytes_eq, if◌then◌else◌}
use Rattle.std.specs.List.{list_any}
use Rattle.std.specs.Option.{option_map_or}
use Rattle.vm_base.specs.Sorted.{IsUp, last_of}
use Rattle.vm_labels.specs.Labels.{is_among, is_below, pair_eq}
use Rattle.vm_labels.specs.declared.pair.Pair.{Pair}

-- the list has exactly the texts that pass the test, each once and in order
pub record AreTexts (test : List ℕ → Bool) (texts : List (List ℕ)) : Type 0 where
  pub rising : IsUp is_below texts
  pub same : (text : List ℕ) → is_among texts text ≡ test text

-- whether some set has the name
abbrev pub is_name_in : List (List Pair) → List ℕ → Bool
is_name_in sets name = list_any (list_any (λ p. bytes_eq name p.name)) sets

-- whether some set has the name with the value
abbrev pub is_value_in : List (List Pair) → List ℕ → List ℕ → Bool
is_value_in sets name value =
    list_any (list_any (pair_eq (record { name = name; value = value }))) sets

-- ---- how names are gathered

-- whether a text is the last of some
abbrev pub is_last : List (List ℕ) → List ℕ → Bool
is_last texts text = option_map_or (bytes_eq text) (last_of texts) false

-- the texts with one at the end, which may stand there already
abbrev pub put_new : List (List ℕ) → List ℕ → List (List ℕ)
put_new texts text = if is_last texts text then texts else texts ++ text ∷ []
