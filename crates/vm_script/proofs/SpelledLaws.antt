-- What is read as a selector spells it.
use Rattle.std.proofs.Common.{◌≡◌, ℕ, ◌<◌, Bool, true, false, List, [], ◌∷◌, ◌++◌, length, drop, get_or, Option, Some, None, arith, refl, sym, ◌∙◌, ap, subst, inl, inr, append_assoc, append-nil, take-append-drop}
use Rattle.std.specs.Prelude.{◌==◌, ◌&&◌, nat_lt, not, map, unwrap_or, codes, ◌⊎◌, if◌then◌else◌}
use Rattle.std.specs.List.{AllByRecursion, list_any, slice_split, onto_first, join_with_byte}
use Rattle.std.specs.Option.{option_map, option_and_then}
use Rattle.std.specs.Str.{bytes_eq}
use Rattle.std.proofs.lemmas.Bool.Decides.{nat_tests}
use Rattle.std.proofs.lemmas.Slice.Eq.{bytes_eq-Decides}
use Rattle.std.proofs.lemmas.Option.{option_and_then_some}
use Rattle.std.proofs.lemmas.List.Splits.{join_with_byte-slice_split}
use Rattle.vm_labels.specs.Name.{is_name, name_len}
use Rattle.vm_labels.specs.declared.selector.Filter.{Filter}
use Rattle.vm_labels.specs.declared.selector.FilterOp.{FilterOp}
use Rattle.vm_labels.specs.declared.selector.FilterOp.TheVariants.{Equal, Differs}
use Rattle.vm_labels.specs.declared.selector.Selector.{Selector}
use Rattle.vm_script.specs.Expression.{is_quote, is_backslash, front_name, behind_name, is_free_name, is_reserved, behind, op_of, op_text, item_of, item_text, items_of, items_behind, inner_filters, braces_text, braces_filters, metric_filter, metric_filters, filters_with, filters_of, metric, braces, both, one_list, Spells, IsFreeName, IsKnown, IsItem}
use Rattle.vm_script.proofs.ItemLaws.{behind_back}
use Rattle.vm_script.proofs.NameLaws.{front_is_name}
use Rattle.vm_script.proofs.PrinterLaws.{comma_items, comma_items-join, item_text-append, filters_of-text, not_empty}

abbrev HasNoQuote : List ℕ → Type 0
HasNoQuote piece = list_any is_quote piece ≡ false

no_quote_first : (char : ℕ) (pieces : List (List ℕ)) → is_quote char ≡ false
    → AllByRecursion HasNoQuote pieces → AllByRecursion HasNoQuote (onto_first char pieces)
no_quote_first char [] none all = (rw none refl, tt)
no_quote_first char (piece ∷ more) none all = (rw none all.0, all.1)

-- no piece of a text cut at its quotes has a quote
pieces_no_quote : (text : List ℕ) → AllByRecursion HasNoQuote (slice_split is_quote text)
pieces_no_quote [] = (refl, tt)
pieces_no_quote (char ∷ more) =
    elim (is_quote char) as (λ b. is_quote char ≡ b
    → AllByRecursion HasNoQuote (slice_split is_quote (char ∷ more))) [
      | true ↦ λ is. rw is (refl, pieces_no_quote more)
      | false ↦
          λ is. rw is (no_quote_first char (slice_split is_quote more) is (pieces_no_quote more))
    ] refl

bytes_same : (one two : List ℕ) → bytes_eq one two ≡ true → one ≡ two
bytes_same one two is = (bytes_eq-Decides one two).0 is

some_same : {A : Type 0} → (x y : A) → Some x ≡ Some y → x ≡ y
some_same x y is = ap (λ o. unwrap_or o x) is

none_some : {A : Type 0} → (x : A) → None ≡ Some x → ⊥
none_some x is = grind arith

not_back : (b : Bool) → not b ≡ true → b ≡ false
not_back true is = sym is
not_back false is = refl

both_true : (a b : Bool) → (a && b) ≡ true → (a ≡ true) × (b ≡ true)
both_true true b is = (refl, is)
both_true false b is = grind arith

-- what an operator that is read was
pub record WasOp (text : List ℕ) (op : FilterOp) : Type 0 where
  pub known : IsKnown op
  pub spelled : text ≡ op_text op

was_op : (text : List ℕ) (op read : FilterOp) → IsKnown op → text ≡ op_text op → op ≡ read
    → WasOp text read
was_op text op read known spelled is =
    subst (λ (o : FilterOp). WasOp text o) is (record { known = known; spelled = spelled })

was_differs : (text : List ℕ) (read : FilterOp)
    → (if bytes_eq text (codes "!=") then Some Differs else None) ≡ Some read → WasOp text read
was_differs text read is =
    elim (bytes_eq text (codes "!=")) as (λ b. bytes_eq text (codes "!=") ≡ b
    → (if b then Some Differs else None) ≡ Some read → WasOp text read) [
      | true ↦
          λ same is.
          was_op text Differs read tt (bytes_same text (codes "!=") same)
          (some_same Differs read is)
      | false ↦ λ other is. absurd (none_some read is)
    ] refl is

op_was : (text : List ℕ) (read : FilterOp) → op_of text ≡ Some read → WasOp text read
op_was text read is =
    elim (bytes_eq text (codes "=")) as (λ b. bytes_eq text (codes "=") ≡ b
    → (if b then Some Equal else (if bytes_eq text (codes "!=") then Some Differs else None))
    ≡ Some read → WasOp text read) [
      | true ↦
          λ same is.
          was_op text Equal read tt (bytes_same text (codes "=") same) (some_same Equal read is)
      | false ↦ λ other is. was_differs text read is
    ] refl is

-- what an item that is read was
pub record WasItem (front text : List ℕ) (item : Filter) : Type 0 where
  pub name : IsFreeName item.name
  pub op : IsKnown item.op
  pub key : front ≡ item.name ++ op_text item.op
  pub value : text ≡ item.value
  pub no_backslash : list_any is_backslash text ≡ false

made : (free plain : Bool) (op : Option FilterOp) (make : FilterOp → Filter) (item : Filter)
    → (if free && plain then option_map make op else None) ≡ Some item
    → (free ≡ true) × (plain ≡ true) × ((o : FilterOp) × (op ≡ Some o) × (make o ≡ item))
made true true (Some o) make item is = (refl, refl, (o, refl, some_same (make o) item is))
made true true None make item is = absurd (none_some item is)
made true false op make item is = absurd (none_some item is)
made false plain op make item is = absurd (none_some item is)

free_back : (name : List ℕ) → is_free_name name ≡ true → (0 < length name)
    × (is_reserved name ≡ false)
free_back name free =
    let parts = both_true (nat_lt 0 (length name)) (not (is_reserved name)) free in
    (grind (arith, nat_tests, parts.0), not_back (is_reserved name) parts.1)

item_was : (key value : List ℕ) (item : Filter) → item_of key value ≡ Some item
    → WasItem key value item
item_was key value item is =
    let parts =
    made (is_free_name (front_name key)) (not (list_any is_backslash value))
    (op_of (behind_name key)) (λ op. record { name = front_name key; op = op; value = value })
    item is in
    let op = op_was (behind_name key) parts.2.0 parts.2.1 in
    let free = free_back (front_name key) parts.0 in
    subst (λ (read : Filter). WasItem key value read) parts.2.2 (record {
      name = record { is_name = front_is_name key free.0; free = free.1 };
      op = op.known;
      key = sym (take-append-drop (name_len key) key)
          ∙ ap (λ text. front_name key ++ text) op.spelled;
      value = refl;
      no_backslash = not_back (list_any is_backslash value) parts.1;
    })

-- what the first item of some pieces that are read was
pub record WasFirst (front value : List ℕ) (read : Option (List Filter)) (items : List Filter) :
    Type 0 where
  pub key : List ℕ
  pub item : Filter
  pub more : List Filter
  pub comma : front ≡ 44 ∷ key
  pub was : WasItem key value item
  pub rest : read ≡ Some more
  pub all : item ∷ more ≡ items

first_was : (front value : List ℕ) (read : Option (List Filter)) (items : List Filter)
    → option_and_then
    (λ key. option_and_then (λ item. option_and_then (λ more. Some (item ∷ more)) read)
    (item_of key value)) (behind 44 front) ≡ Some items
    → WasFirst front value read items
first_was front value read items is =
    option_and_then_some _ (behind 44 front) items is (λ key comma made.
    option_and_then_some _ (item_of key value) items made (λ item item_is more_is.
    option_and_then_some _ read items more_is (λ more rest all. record {
      key = key;
      item = item;
      more = more;
      comma = behind_back 44 front key comma (omega arith);
      was = item_was key value item item_is;
      rest = rest;
      all = some_same (item ∷ more) items all;
    })))

item_from_was : (key value : List ℕ) (item : Filter) → WasItem key value item → HasNoQuote value
    → IsItem item
item_from_was key value item was none = record {
  name = was.name;
  op = was.op;
  no_quote = ap (list_any is_quote) (sym was.value) ∙ none;
  no_backslash = ap (list_any is_backslash) (sym was.value) ∙ was.no_backslash;
}

item_joined : (front value rest : List ℕ) (key : List ℕ) (item : Filter) → front ≡ 44 ∷ key
    → WasItem key value item
    → front ++ 34 ∷ (value ++ 34 ∷ rest) ≡ (44 ∷ item_text item) ++ rest
item_joined front value rest key item comma was =
    rw (comma, was.key, was.value) (sym (item_text-append item rest))

-- the pieces, put together at the quotes, are the items
items_were : (pieces : List (List ℕ)) (items : List Filter) → AllByRecursion HasNoQuote pieces
    → items_of pieces ≡ Some items
    → (join_with_byte 34 pieces ≡ comma_items items ++ codes "}") × AllByRecursion IsItem items
items_were [] items none is = absurd (none_some items is)
items_were (last ∷ []) items none is =
    elim (bytes_eq last (codes "}")) as (λ b. bytes_eq last (codes "}") ≡ b
    → (if b then Some [] else None) ≡ Some items
    → (last ≡ comma_items items ++ codes "}") × AllByRecursion IsItem items) [
      | true ↦
          λ same is.
          subst (λ (read : List Filter). (last ≡ comma_items read ++ codes "}")
          × AllByRecursion IsItem read) (some_same [] items is)
          (bytes_same last (codes "}") same, tt)
      | false ↦ λ other is. absurd (none_some items is)
    ] refl is
items_were (front ∷ value ∷ []) items none is =
    let first = first_was front value None items is in
    absurd (none_some first.more first.rest)
items_were (front ∷ value ∷ piece ∷ more) items none is =
    let first = first_was front value (items_of (piece ∷ more)) items is in
    let rest = items_were (piece ∷ more) first.more none.1.1 first.rest in
    subst (λ (read : List Filter).
    (join_with_byte 34 (front ∷ value ∷ piece ∷ more) ≡ comma_items read ++ codes "}")
    × AllByRecursion IsItem read) first.all (
      rw rest.0
          (item_joined front value (comma_items first.more ++ codes "}") first.key first.item
          first.comma first.was)
          ∙ sym (append_assoc (44 ∷ item_text first.item) (comma_items first.more) (codes "}")),
      (item_from_was first.key value first.item first.was none.1.0, rest.1),
    )

behind_brace : (inner : List ℕ) (items : List Filter)
    → 44 ∷ inner ≡ comma_items items ++ codes "}" → inner ≡ join_with_byte 44 (map item_text items)
    ++ codes "}"
behind_brace inner [] same = absurd (omega (arith, ap (λ text. get_or text 0 0) same))
behind_brace inner (item ∷ more) same =
    ap (drop 1) (same ∙ ap (λ text. text ++ codes "}") (sym (comma_items-join item more)))

-- what stands between braces that are read
inner_was : (inner : List ℕ) (items : List Filter) → inner_filters inner ≡ Some items
    → (inner ≡ join_with_byte 44 (map item_text items) ++ codes "}") × AllByRecursion IsItem items
inner_was inner items is =
    elim (bytes_eq inner (codes "}")) as (λ b. bytes_eq inner (codes "}") ≡ b
    → (if b then Some [] else items_behind (44 ∷ inner)) ≡ Some items
    → (inner ≡ join_with_byte 44 (map item_text items) ++ codes "}")
    × AllByRecursion IsItem items) [
      | true ↦
          λ same is.
          subst (λ (read : List Filter).
          (inner ≡ join_with_byte 44 (map item_text read) ++ codes "}")
          × AllByRecursion IsItem read) (some_same [] items is)
          (bytes_same inner (codes "}") same, tt)
      | false ↦ λ other is.
          let were =
          items_were (slice_split is_quote (44 ∷ inner)) items (pieces_no_quote (44 ∷ inner))
          is in (
            behind_brace inner items (sym (join_with_byte-slice_split 34 (44 ∷ inner)) ∙ were.0),
            were.1,
          )
    ] refl is

-- what stands after a metric's name, where it is read: nothing, or braces
braces_was : (text : List ℕ) (items : List Filter) → braces_filters text ≡ Some items
    → ((text ≡ []) × (items ≡ [])) ⊎ ((text ≡ braces_text items) × AllByRecursion IsItem items)
braces_was [] items is = inl (refl, sym (some_same [] items is))
braces_was (char ∷ more) items is =
    let read : option_and_then inner_filters (behind 123 (char ∷ more)) ≡ Some items =
    rw not_empty at is in
    option_and_then_some inner_filters (behind 123 (char ∷ more)) items read
    (λ inner brace inner_is.
    let was = inner_was inner items inner_is in
    inr (
      behind_back 123 (char ∷ more) inner brace (omega arith)
          ∙ ap (λ text. 123 ∷ text) was.0,
      was.1,
    ))

empty_some : (text : List ℕ) → text ≡ [] → (length text == 0) ≡ false → ⊥
empty_some text empty some =
    let same : true ≡ false = ap (λ (list : List ℕ). length list == 0) (sym empty) ∙ some in
    grind arith

spells_braces : (text : List ℕ) (items filters : List Filter) → (length text == 0) ≡ false
    → braces_filters text ≡ Some items → items ≡ filters → Spells text (one_list filters)
spells_braces text items filters some is same =
    elim (braces_was text items is) [
      | inl empty ↦ absurd (empty_some text empty.0 some)
      | inr was ↦
          record {
            written = braces items;
            valid = was.1;
            spelled = was.0;
            gives = ap one_list (sym same);
          }
    ]

spells_named : (text name behind : List ℕ) (items filters : List Filter) → text ≡ name ++ behind
    → IsFreeName name → braces_filters behind ≡ Some items
    → metric_filter name ∷ items ≡ filters → Spells text (one_list filters)
spells_named text name behind items filters parts free is same =
    elim (braces_was behind items is) [
      | inl empty ↦ record {
        written = metric name;
        valid = free;
        spelled = parts ∙ ap (λ rest. name ++ rest) empty.0 ∙ append-nil name;
        gives = ap one_list (sym same ∙ ap (λ more. metric_filter name ∷ more) empty.1);
      }
      | inr was ↦
          record {
            written = both name items;
            valid = (free, was.1);
            spelled = parts
                ∙ ap (λ rest. name ++ rest) was.0;
            gives = ap one_list (sym same);
          }
    ]

-- the name of a metric's filters that are read
metric_was : (char : ℕ) (more : List ℕ) (first : List Filter)
    → metric_filters (char ∷ more) ≡ Some first
    → (is_reserved (char ∷ more) ≡ false) × (metric_filter (char ∷ more) ∷ [] ≡ first)
metric_was char more first is =
    let read : (if is_reserved (char ∷ more) then None else Some (metric_filter (char ∷ more) ∷ []))
    ≡ Some first = rw not_empty at is in
    elim (is_reserved (char ∷ more)) as (λ b. is_reserved (char ∷ more) ≡ b
    → (if b then None else Some (metric_filter (char ∷ more) ∷ [])) ≡ Some first
    → (is_reserved (char ∷ more) ≡ false) × (metric_filter (char ∷ more) ∷ [] ≡ first)) [
      | true ↦ λ is read. absurd (none_some first read)
      | false ↦ λ is read. (is, some_same (metric_filter (char ∷ more) ∷ []) first read)
    ] refl read

spells_parts : (text name behind : List ℕ) (filters : List Filter) → text ≡ name ++ behind
    → (length text == 0) ≡ false → (0 < length name → is_name name ≡ true)
    → filters_with name behind ≡ Some filters → Spells text (one_list filters)
spells_parts text [] behind filters parts some named is =
    option_and_then_some _ (braces_filters behind) filters is (λ items items_is same.
    spells_braces text items filters some (ap braces_filters parts ∙ items_is)
    (some_same items filters same))
spells_parts text (char ∷ more) behind filters parts some named is =
    option_and_then_some _ (metric_filters (char ∷ more)) filters is (λ first first_is rest.
    option_and_then_some _ (braces_filters behind) filters rest (λ items items_is same.
    let was = metric_was char more first first_is in
    spells_named text (char ∷ more) behind items filters parts
    (record { is_name = named (omega arith); free = was.0 }) items_is
    (ap (λ front. front ++ items) was.1 ∙ some_same (first ++ items) filters same)))

-- a text spells the selector of the filters that are read of it
pub Spells-filters_of : (text : List ℕ) (filters : List Filter) → filters_of text ≡ Some filters
    → Spells text (one_list filters)
Spells-filters_of text filters is =
    elim (length text == 0) as (λ b. (length text == 0) ≡ b
    → (if b then None else filters_with (front_name text) (behind_name text)) ≡ Some filters
    → Spells text (one_list filters)) [
      | true ↦ λ empty is. absurd (none_some filters is)
      | false ↦
          λ some is.
          spells_parts text (front_name text) (behind_name text) filters
          (sym (take-append-drop (name_len text) text)) some (front_is_name text) is
    ] refl is

-- and of a text that spells a selector nothing else is read
pub filters_of-Spells : (text : List ℕ) (read : Option (List Filter)) (selector : Selector)
    → read ≡ filters_of text → Spells text selector
    → option_map one_list read ≡ Some selector
filters_of-Spells text read selector is h =
    ap (option_map one_list) (is ∙ ap filters_of h.spelled ∙ filters_of-text h.written h.valid)
    ∙ ap Some (sym h.gives)
