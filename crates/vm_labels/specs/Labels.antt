-- Label sets: lists of pairs with names that rise. (Prometheus data model,
-- "Metric names and labels")
use Rattle.std.specs.Prelude.{◌≡◌, ℕ, ◌==◌, ◌&&◌, ◌||◌, nat_lt, not, Bool, true, false, List, [], ◌∷◌, length, Option, Some, None, option_map, unwrap_or, find, position, Result, Ok, Err, filter, bytes_eq, if◌then◌else◌, ⊤}
use Rattle.std.specs.List.{list_all, list_any}
use Rattle.std.specs.Ordering.{is_lt, is_le, nat_cmp, on, then_cmp, eq_of_both}
use Rattle.std.specs.declared.cmp.Ordering.{Ordering}
use Rattle.std.specs.Cmp.Lexicographic.{slice_cmp, pointwise}
use Rattle.vm_base.specs.Sorted.{sorted}
use Rattle.vm_labels.specs.Name.{is_name}
use Rattle.vm_labels.specs.declared.pair.Pair.{Pair}
use Rattle.vm_labels.specs.declared.fault.LabelFault.{LabelFault}
use Rattle.vm_labels.specs.declared.fault.LabelFault.TheVariants.{BadName, TwiceNamed, Memory}
use Rattle.vm_labels.specs.declared.fault.LimitFault.{LimitFault}
use Rattle.vm_labels.specs.declared.fault.LimitFault.TheVariants.{NoLabel, TooMany, TooLong}

-- texts in order by their bytes
abbrev pub text_cmp : List ℕ → List ℕ → Ordering
text_cmp = slice_cmp nat_cmp

-- whether a text comes strictly before another
abbrev pub is_below : List ℕ → List ℕ → Bool
is_below a b = is_lt (text_cmp a b)

-- whether a pair's value isn't empty
abbrev pub has_value : Pair → Bool
has_value p = not (length p.value == 0)

-- whether a pair has this name
abbrev pub has_name : List ℕ → Pair → Bool
has_name name p = bytes_eq p.name name

-- each name comes strictly before all that come after it, so none stands twice
abbrev pub names_rise : List Pair → Bool
names_rise [] = true
names_rise (p ∷ ps) = list_all (λ q. is_below p.name q.name) ps && names_rise ps

-- what a list of pairs is that is a label set
pub record IsLabels (pairs : List Pair) : Type 0 where
  pub named : list_all (λ p. is_name p.name) pairs ≡ true
  pub valued : list_all has_value pairs ≡ true
  pub rising : names_rise pairs ≡ true

-- the value of a name, none where no pair has the name
abbrev pub value_of : List ℕ → List Pair → Option (List ℕ)
value_of name pairs = option_map (λ p. p.value) (find (has_name name) pairs)

-- the value of a name, empty where no pair has the name
abbrev pub value_in : List ℕ → List Pair → List ℕ
value_in name pairs = unwrap_or (value_of name pairs) []

-- ---- the order of label sets

-- pairs by name, and at one name by value
abbrev pub pair_cmp : Pair → Pair → Ordering
pair_cmp = then_cmp (on (λ p. p.name) text_cmp) (on (λ p. p.value) text_cmp)

-- whether a pair comes before another in this order, or is the same
abbrev pub is_in_pair_order : Pair → Pair → Bool
is_in_pair_order a b = is_le (pair_cmp a b)

-- label sets as lists of pairs: the first pairs that differ decide, and else the shorter list is
-- first
abbrev pub label_cmp : List Pair → List Pair → Ordering
label_cmp = slice_cmp pair_cmp

-- the same names with the same values
abbrev pub pair_eq : Pair → Pair → Bool
pair_eq = eq_of_both (on (λ p. p.name) bytes_eq) (on (λ p. p.value) bytes_eq)

abbrev pub label_eq : List Pair → List Pair → Bool
label_eq = pointwise pair_eq

-- whether a label set comes before another in label order, or is the same
abbrev pub is_in_label_order : List Pair → List Pair → Bool
is_in_label_order a b = is_le (label_cmp a b)

-- ---- building

-- a pair with a value whose name is no name
abbrev pub is_badly_named : Pair → Bool
is_badly_named p = has_value p && not (is_name p.name)

-- the name of the first pair whose name is among the earlier ones, or that of a pair before it
abbrev pub twice_named : List (List ℕ) → List Pair → Option (List ℕ)
twice_named earlier [] = None
twice_named earlier (p ∷ ps) = if list_any (bytes_eq p.name) earlier then Some p.name
    else twice_named (p.name ∷ earlier) ps

-- the fault, where there is one
abbrev pub unless : Option LabelFault → Result (List Pair) LabelFault
    → Result (List Pair) LabelFault
unless (Some fault) labels = Err fault
unless None labels = labels

-- pairs by name, unless two have one name
abbrev pub ordered : List Pair → Result (List Pair) LabelFault
ordered pairs =
    unless (option_map TwiceNamed (twice_named [] pairs)) (Ok (sorted is_in_pair_order pairs))

-- The label set of pairs in any order: those with a value, by name. A name that is none is told by
-- its place among all of the pairs, and else a name that stands twice.
abbrev pub built : List Pair → Result (List Pair) LabelFault
built pairs =
    unless (option_map BadName (position is_badly_named pairs)) (ordered (filter has_value pairs))

-- ---- changes

-- whether a name is one of the names
abbrev pub is_among : List (List ℕ) → List ℕ → Bool
is_among names name = list_any (bytes_eq name) names

-- whether a pair is kept: those among the names, or the others
abbrev pub keeps : Bool → List (List ℕ) → Pair → Bool
keeps true names p = is_among names p.name
keeps false names p = not (is_among names p.name)

-- the labels whose name is one of these
abbrev pub labels_only : List (List ℕ) → List Pair → List Pair
labels_only names = filter (keeps true names)

-- the labels whose name is none of these
abbrev pub labels_without : List (List ℕ) → List Pair → List Pair
labels_without names = filter (keeps false names)

-- the label set with the value at the name, or without the name where the value is empty
abbrev pub labels_set : List ℕ → List ℕ → List Pair → List Pair
labels_set name value pairs = if length value == 0 then labels_without (name ∷ []) pairs
    else sorted is_in_pair_order
    (record { name = name; value = value } ∷ labels_without (name ∷ []) pairs)

-- the same, or the fault where the name is none
abbrev pub labels_with : List ℕ → List ℕ → List Pair → Result (List Pair) LabelFault
labels_with name value pairs = if is_name name then Ok (labels_set name value pairs)
    else Err (BadName 0)

-- ---- the limits of an import

-- whether a label's name or value is above its limit
abbrev pub is_too_long : Pair → Bool
is_too_long p = nat_lt 256 (length p.name) || nat_lt 4096 (length p.value)

-- the first limit that a label set breaks: 1 to 40 labels, names of 256 bytes, values of 4,096
-- bytes
abbrev pub limit_of : List Pair → Option LimitFault
limit_of pairs = if length pairs == 0 then Some NoLabel else if nat_lt 40 (length pairs)
    then Some (TooMany (length pairs)) else option_map TooLong (position is_too_long pairs)

-- ---- what a call gives

-- why a call that makes a label set failed is what the definition says, unless memory ran out
abbrev pub Fails : LabelFault → Result (List Pair) LabelFault → Type 0
Fails Memory defined = ⊤
Fails (BadName index) defined = defined ≡ Err (BadName index)
Fails (TwiceNamed name) defined = defined ≡ Err (TwiceNamed name)

-- a call that makes a label set gives what the definition says, unless memory ran out
abbrev pub Gives : Result (List Pair) LabelFault → Result (List Pair) LabelFault → Type 0
Gives (Ok labels) defined = defined ≡ Ok labels
Gives (Err fault) defined = Fails fault defined
