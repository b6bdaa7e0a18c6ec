-- Which label sets a selector selects. (MetricsQL, "filters")
use Rattle.std.specs.Prelude.{ℕ, Bool, not, List, [], ◌∷◌, filter, bytes_eq}
use Rattle.std.specs.List.{list_all, list_any}
use Rattle.vm_base.specs.Sorted.{sorted}
use Rattle.vm_labels.specs.Labels.{value_in, label_eq, is_in_label_order}
use Rattle.vm_labels.specs.declared.pair.Pair.{Pair}
use Rattle.vm_labels.specs.declared.selector.Filter.{Filter}
use Rattle.vm_labels.specs.declared.selector.Selector.{Selector}
use Rattle.vm_labels.specs.declared.selector.FilterOp.{FilterOp}
use Rattle.vm_labels.specs.declared.selector.FilterOp.TheVariants.{Equal, Differs, Matches, MatchesNot}

-- whether a value passes the operator of a filter with this text
abbrev pub passes : (List ℕ → List ℕ → Bool) → FilterOp → List ℕ → List ℕ → Bool
passes whole Equal text value = bytes_eq value text
passes whole Differs text value = not (bytes_eq value text)
passes whole Matches text value = whole text value
passes whole MatchesNot text value = not (whole text value)

-- Whether a label set meets a filter. A label that it lacks has the empty value; `whole` says
-- whether a pattern matches a value from end to end.
abbrev pub meets : (List ℕ → List ℕ → Bool) → Filter → List Pair → Bool
meets whole f labels = passes whole f.op f.value (value_in f.name labels)

-- whether a label set meets all filters of some list of the selector
abbrev pub selects : (List ℕ → List ℕ → Bool) → Selector → List Pair → Bool
selects whole s labels = list_any (λ filters. list_all (λ f. meets whole f labels) filters) s.lists

-- the label sets of a list, each once
abbrev pub distinct : List (List Pair) → List (List Pair)
distinct [] = []
distinct (x ∷ xs) = x ∷ filter (λ y. not (label_eq x y)) (distinct xs)

-- the label sets of the list that the selector selects, in label order and each once
abbrev pub selected : (List ℕ → List ℕ → Bool) → Selector → List (List Pair) → List (List Pair)
selected whole s sets = sorted is_in_label_order (distinct (filter (selects whole s) sets))
