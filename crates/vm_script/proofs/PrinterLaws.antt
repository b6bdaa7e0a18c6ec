-- Each text that spells a selector is read as that selector.
use Rattle.std.proofs.Common.{◌≡◌, ℕ, true, false, List, [], ◌∷◌, ◌++◌, length, get_or, Some, arith, refl, sym, ◌∙◌, ap, append_assoc, append-nil, length-append}
use Rattle.std.specs.Prelude.{◌==◌, map, codes}
use Rattle.std.specs.List.{AllByRecursion, list_any, slice_split, flat_map, join_with_byte}
use Rattle.std.specs.Option.{option_and_then}
use Rattle.std.specs.Str.{bytes_eq}
use Rattle.std.proofs.lemmas.Bool.Decides.{nat_tests}
use Rattle.std.proofs.lemmas.List.Splits.{slice_split-cons_no}
use Rattle.std.proofs.lemmas.List.Folds.{list_any-append}
use Rattle.vm_labels.specs.Name.{begins_name, is_name, is_name_byte}
use Rattle.vm_labels.specs.declared.selector.Filter.{Filter}
use Rattle.vm_labels.specs.declared.selector.FilterOp.{FilterOp}
use Rattle.vm_labels.specs.declared.selector.FilterOp.TheVariants.{Equal, Differs, Matches, MatchesNot}
use Rattle.vm_script.specs.Expression.{is_quote, behind, op_of, op_text, item_of, item_text, items_of, items_behind, inner_filters, braces_text, braces_filters, metric_filter, metric_filters, filters_of, Written, metric, braces, both, written_text, written_filters, IsFreeName, IsKnown, IsItem, IsWritten}
use Rattle.vm_script.proofs.NameLaws.{front_name-append, behind_name-append, name_some, free_from, name_no_quote}

-- the items, each with a comma before it
abbrev pub comma_items : List Filter → List ℕ
comma_items items = flat_map (λ item. 44 ∷ item_text item) items

pub comma_items-join : (item : Filter) (more : List Filter)
    → 44 ∷ join_with_byte 44 (map item_text (item ∷ more)) ≡ comma_items (item ∷ more)
comma_items-join item [] = ap (λ text. 44 ∷ text) (sym (append-nil (item_text item)))
comma_items-join item (next ∷ more) =
    ap (λ text. (44 ∷ item_text item) ++ text) (comma_items-join next more)

-- a text is cut at its first quote
pub split_at_quote : (front rest : List ℕ) → list_any is_quote front ≡ false
    → slice_split is_quote (front ++ 34 ∷ rest) ≡ front ∷ slice_split is_quote rest
split_at_quote [] rest none = refl
split_at_quote (char ∷ more) rest none =
    let here : is_quote char ≡ false = grind arith in
    let later : list_any is_quote more ≡ false = grind arith in
    rw (slice_split-cons_no is_quote char (more ++ 34 ∷ rest) here, split_at_quote more rest later)
    refl

op_stops : (op : FilterOp) → is_name_byte (get_or (op_text op) 0 0) ≡ false
op_stops Equal = refl
op_stops Differs = refl
op_stops Matches = refl
op_stops MatchesNot = refl

op_no_quote : (op : FilterOp) → list_any is_quote (op_text op) ≡ false
op_no_quote Equal = refl
op_no_quote Differs = refl
op_no_quote Matches = refl
op_no_quote MatchesNot = refl

op_of-text : (op : FilterOp) → IsKnown op → op_of (op_text op) ≡ Some op
op_of-text Equal known = refl
op_of-text Differs known = refl
op_of-text Matches known = absurd known
op_of-text MatchesNot known = absurd known

-- an item is read from its two pieces
pub item_of-text : (item : Filter) → IsItem item
    → item_of (item.name ++ op_text item.op) item.value ≡ Some item
item_of-text item h =
    let stops = op_stops item.op in
    let named = h.name.is_name in
    rw (
      front_name-append item.name (op_text item.op) named stops,
      behind_name-append item.name (op_text item.op) named stops,
      free_from item.name h.name,
      h.no_backslash,
      op_of-text item.op h.op,
    ) refl

key_no_quote : (item : Filter) → IsItem item
    → list_any is_quote (44 ∷ (item.name ++ op_text item.op)) ≡ false
key_no_quote item h = list_any-append is_quote item.name (op_text item.op)
    ∙ rw (name_no_quote item.name h.name.is_name, op_no_quote item.op) refl

-- the text of an item and what stands after it, put together at the quotes
pub item_text-append : (item : Filter) (rest : List ℕ)
    → (44 ∷ item_text item) ++ rest ≡ (44 ∷ (item.name ++ op_text item.op))
    ++ 34 ∷ (item.value ++ 34 ∷ rest)
item_text-append item rest = simp append_assoc

items_of-item : (item : Filter) (pieces : List (List ℕ)) → IsItem item
    → items_of ((44 ∷ (item.name ++ op_text item.op)) ∷ item.value ∷ pieces)
    ≡ option_and_then (λ items. Some (item ∷ items)) (items_of pieces)
items_of-item item pieces h = rw (item_of-text item h) refl

-- the items are read back
pub items_behind-text : (items : List Filter) → AllByRecursion IsItem items
    → items_behind (comma_items items ++ codes "}") ≡ Some items
items_behind-text [] all = refl
items_behind-text (item ∷ more) all =
    let text : List ℕ = comma_items more ++ codes "}" in
    let key : List ℕ = 44 ∷ (item.name ++ op_text item.op) in
    let parts : comma_items (item ∷ more) ++ codes "}" ≡ key ++ 34 ∷ (item.value ++ 34 ∷ text) =
    append_assoc (44 ∷ item_text item) (comma_items more) (codes "}")
    ∙ item_text-append item text in
    let pieces : slice_split is_quote (key ++ 34 ∷ (item.value ++ 34 ∷ text)) ≡ key ∷ item.value
    ∷ slice_split is_quote text =
    split_at_quote key (item.value ++ 34 ∷ text) (key_no_quote item all.0)
    ∙ ap (λ more. key ∷ more) (split_at_quote item.value text all.0.no_quote) in
    ap items_behind parts ∙ ap items_of pieces
    ∙ items_of-item item (slice_split is_quote text) all.0
    ∙ ap (option_and_then (λ items. Some (item ∷ items))) (items_behind-text more all.1)

-- what begins with a name isn't the brace alone
name_first : (name rest : List ℕ) → is_name name ≡ true
    → bytes_eq (name ++ rest) (codes "}") ≡ false
name_first [] rest named = grind (arith, nat_tests)
name_first (char ∷ more) rest named =
    let begins : begins_name char ≡ true = grind arith in
    let other : (char == 125) ≡ false = grind (arith, nat_tests) in
    rw other refl

item_first : (item : Filter) (rest : List ℕ) → IsItem item
    → bytes_eq (item_text item ++ rest) (codes "}") ≡ false
item_first item rest h =
    simp append_assoc
    (name_first item.name (op_text item.op ++ 34 ∷ (item.value ++ 34 ∷ rest)) h.name.is_name)

join_first : (item : Filter) (more : List Filter)
    → (rest : List ℕ) × (join_with_byte 44 (map item_text (item ∷ more)) ≡ item_text item ++ rest)
join_first item [] = ([], sym (append-nil (item_text item)))
join_first item (next ∷ more) = (44 ∷ join_with_byte 44 (map item_text (next ∷ more)), refl)

inner_filters-text : (items : List Filter) → AllByRecursion IsItem items
    → inner_filters (join_with_byte 44 (map item_text items) ++ codes "}") ≡ Some items
inner_filters-text [] all = refl
inner_filters-text (item ∷ more) all =
    let inner : List ℕ = join_with_byte 44 (map item_text (item ∷ more)) ++ codes "}" in
    let first = join_first item more in
    let longer : bytes_eq inner (codes "}") ≡ false =
    ap (λ text. bytes_eq (text ++ codes "}") (codes "}")) first.1
    ∙ ap (λ text. bytes_eq text (codes "}")) (append_assoc (item_text item) first.0 (codes "}"))
    ∙ item_first item (first.0 ++ codes "}") all.0 in
    let commas : 44 ∷ inner ≡ comma_items (item ∷ more) ++ codes "}" =
    ap (λ text. text ++ codes "}") (comma_items-join item more) in
    rw longer (ap items_behind commas ∙ items_behind-text (item ∷ more) all)

pub not_empty : (char : ℕ) (more : List ℕ) → (length (char ∷ more) == 0) ≡ false
not_empty char more = grind (arith, nat_tests)

braces_filters-text : (items : List Filter) → AllByRecursion IsItem items
    → braces_filters (braces_text items) ≡ Some items
braces_filters-text items all =
    rw (not_empty 123 (join_with_byte 44 (map item_text items) ++ codes "}"))
    (inner_filters-text items all)

metric_filters-name : (name : List ℕ) → IsFreeName name
    → metric_filters name ≡ Some (metric_filter name ∷ [])
metric_filters-name name h =
    let some : (length name == 0) ≡ false = grind (arith, nat_tests, name_some name h.is_name) in
    rw (some, h.free) refl

named_filters : (name behind : List ℕ) (items : List Filter) → IsFreeName name
    → is_name_byte (get_or behind 0 0) ≡ false → braces_filters behind ≡ Some items
    → filters_of (name ++ behind) ≡ Some (metric_filter name ∷ items)
named_filters name behind items h stops read =
    let some : (length (name ++ behind) == 0) ≡ false =
    grind (arith, nat_tests, name_some name h.is_name, length-append name behind) in
    rw (
      some,
      front_name-append name behind h.is_name stops,
      behind_name-append name behind h.is_name stops,
      metric_filters-name name h,
      read,
    ) refl

-- what spells a selector gives its filters
pub filters_of-text : (written : Written) → IsWritten written
    → filters_of (written_text written) ≡ Some (written_filters written)
filters_of-text (metric name) h = ap filters_of (sym (append-nil name))
    ∙ named_filters name [] [] h refl refl
filters_of-text (braces items) h =
    rw (
      not_empty 123 (join_with_byte 44 (map item_text items) ++ codes "}"),
      inner_filters-text items h,
    ) refl
filters_of-text (both name items) h =
    named_filters name (braces_text items) items h.0 refl (braces_filters-text items h.1)
