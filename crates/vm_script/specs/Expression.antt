-- What an expression of the script's `query` asks for. (MetricsQL, "filters")
use Rattle.std.specs.Prelude.{◌≡◌, ℕ, ◌==◌, ◌&&◌, Bool, true, false, not, nat_lt, List, [], ◌∷◌, ◌++◌, length, take, drop, map, slice_index, codes, Option, Some, None, if◌then◌else◌}
use Rattle.std.specs.List.{AllByRecursion, list_any, slice_split, join_with_byte}
use Rattle.std.specs.Option.{option_map}
use Rattle.std.specs.Str.{bytes_eq, byte, str_eq_ignore_ascii_case}
use Rattle.vm_labels.specs.Name.{is_name, name_len}
use Rattle.vm_labels.specs.declared.selector.Filter.{Filter}
use Rattle.vm_labels.specs.declared.selector.FilterOp.{FilterOp}
use Rattle.vm_labels.specs.declared.selector.FilterOp.TheVariants.{Equal, Differs, Matches, MatchesNot}
use Rattle.vm_labels.specs.declared.selector.Selector.{Selector}
use Rattle.vm_script.specs.Chained.{◌>>=◌}

-- the words of the query language that are no names
abbrev pub reserved : List (List ℕ)
reserved =
    codes "default" ∷ codes "if" ∷ codes "ifnot" ∷ codes "or" ∷ codes "and" ∷ codes "unless"
    ∷ codes "bool" ∷ codes "on" ∷ codes "ignoring" ∷ codes "group_left" ∷ codes "group_right"
    ∷ codes "offset" ∷ codes "with" ∷ codes "by" ∷ codes "without" ∷ codes "keep_metric_names" ∷ []

-- whether a name is one of them, without regard to ASCII case
abbrev pub is_reserved : List ℕ → Bool
is_reserved name = list_any (str_eq_ignore_ascii_case name) reserved

-- the quote around a value
abbrev pub is_quote : ℕ → Bool
is_quote char = char == byte "\""

-- the backslash, which no value has
abbrev pub is_backslash : ℕ → Bool
is_backslash char = char == byte "\\"

-- a metric's name stands for the filter `__name__="name"`
abbrev pub metric_filter : List ℕ → Filter
metric_filter name = record { name = codes "__name__"; op = Equal; value = name }

-- the selector of one list of filters
abbrev pub one_list : List Filter → Selector
one_list filters = record { lists = filters ∷ [] }

-- How a selector is spelled.

-- an operator, as the query language writes it
abbrev pub op_text : FilterOp → List ℕ
op_text Equal = codes "="
op_text Differs = codes "!="
op_text Matches = codes "=~"
op_text MatchesNot = codes "!~"

-- `name="value"` or `name!="value"`
abbrev pub item_text : Filter → List ℕ
item_text item = item.name ++ op_text item.op ++ codes "\"" ++ item.value ++ codes "\""

-- the items parted by commas, in braces
abbrev pub braces_text : List Filter → List ℕ
braces_text items = codes "{" ++ join_with_byte (byte ",") (map item_text items) ++ codes "}"

-- a selector as it is written: a metric's name, or braces, or both
pub data Written : Type 0 where
  metric : List ℕ → Written
  braces : List Filter → Written
  both : List ℕ → List Filter → Written

-- the text of a selector that is written so
abbrev pub written_text : Written → List ℕ
written_text (metric name) = name
written_text (braces items) = braces_text items
written_text (both name items) = name ++ braces_text items

-- the filters in the order of the text
abbrev pub written_filters : Written → List Filter
written_filters (metric name) = metric_filter name ∷ []
written_filters (braces items) = items
written_filters (both name items) = metric_filter name ∷ items

-- a name that is no reserved word
pub record IsFreeName (name : List ℕ) : Type 0 where
  pub is_name : is_name name ≡ true
  pub free : is_reserved name ≡ false

-- Of the operators `=` and `!=` are read.
abbrev pub IsKnown : FilterOp → Type 0
IsKnown Equal = Unit {0}
IsKnown Differs = Unit {0}
IsKnown Matches = ⊥
IsKnown MatchesNot = ⊥

-- an item of the braces: its name is free, and its value has no quote and no backslash
pub record IsItem (item : Filter) : Type 0 where
  pub name : IsFreeName item.name
  pub op : IsKnown item.op
  pub no_quote : list_any is_quote item.value ≡ false
  pub no_backslash : list_any is_backslash item.value ≡ false

-- each name is free, and each item may stand there
abbrev pub IsWritten : Written → Type 0
IsWritten (metric name) = IsFreeName name
IsWritten (braces items) = AllByRecursion IsItem items
IsWritten (both name items) = IsFreeName name × AllByRecursion IsItem items

-- the text spells the selector
pub record Spells (text : List ℕ) (selector : Selector) : Type 0 where
  pub written : Written
  pub valid : IsWritten written
  pub spelled : text ≡ written_text written
  pub gives : selector ≡ one_list (written_filters written)

-- How a selector is read. That this is the selector which the text spells, and that each such text
-- is read, is a law, stated by the call that reads one.

-- the longest name at the front of a text, empty where none begins there
abbrev pub front_name : List ℕ → List ℕ
front_name text = take (name_len text) text

-- what stands after it
abbrev pub behind_name : List ℕ → List ℕ
behind_name text = drop (name_len text) text

-- the operator, where the whole text is one
abbrev pub op_of : List ℕ → Option FilterOp
op_of text =
    if bytes_eq text (codes "=") then Some Equal
    else (if bytes_eq text (codes "!=") then Some Differs
    else None)

-- whether a name stands there that is no reserved word
abbrev pub is_free_name : List ℕ → Bool
is_free_name name = nat_lt 0 (length name) && not (is_reserved name)

-- the filter of a name, a text and an operator
abbrev pub filter_with : List ℕ → List ℕ → FilterOp → Filter
filter_with name value op = record { name = name; op = op; value = value }

-- the filter of a name with its operator and of a value
abbrev pub item_of : List ℕ → List ℕ → Option Filter
item_of key value =
    if is_free_name (front_name key) && not (list_any is_backslash value)
    then option_map (filter_with (front_name key) value) (op_of (behind_name key)) else None

-- what stands after the first character, where it is this one
abbrev pub behind : ℕ → List ℕ → Option (List ℕ)
behind first text = if slice_index text 0 == first then Some (drop 1 text) else None

-- The filters of the pieces of a text cut at its quotes: before each value a comma, a name and an
-- operator, and last the brace.
abbrev pub items_of : List (List ℕ) → Option (List Filter)
items_of [] = None
items_of (last ∷ []) = if bytes_eq last (codes "}") then Some [] else None
items_of (front ∷ value ∷ more) = do
  key ← behind (byte ",") front
  item ← item_of key value
  items ← items_of more
  Some (item ∷ items)

-- the filters of what stands after an item
abbrev pub items_behind : List ℕ → Option (List Filter)
items_behind text = items_of (slice_split is_quote text)

-- The filters of what stands after the opening brace. With a comma put before it, the first item
-- is read as the others are.
abbrev pub inner_filters : List ℕ → Option (List Filter)
inner_filters inner =
    if bytes_eq inner (codes "}") then Some [] else items_behind (byte "," ∷ inner)

-- the filters of braces, none where nothing stands there
abbrev pub braces_filters : List ℕ → Option (List Filter)
braces_filters text =
    if length text == 0 then Some [] else (behind (byte "{") text >>= inner_filters)

-- the filter of a metric's name, none where no name stands there
abbrev pub metric_filters : List ℕ → Option (List Filter)
metric_filters name =
    if length name == 0 then Some []
    else (if is_reserved name then None
    else Some (metric_filter name ∷ []))

-- the filters of a metric's name, perhaps none, and of what stands after it
abbrev pub filters_with : List ℕ → List ℕ → Option (List Filter)
filters_with name behind = do
  first ← metric_filters name
  items ← braces_filters behind
  Some (first ++ items)

-- the filters of a text that isn't empty
abbrev pub filters_of : List ℕ → Option (List Filter)
filters_of text =
    if length text == 0 then None else filters_with (front_name text) (behind_name text)

-- the selector that a text spells, none where it spells none
abbrev pub selector_of : List ℕ → Option Selector
selector_of text = option_map one_list (filters_of text)
