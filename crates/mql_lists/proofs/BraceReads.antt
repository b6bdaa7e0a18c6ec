-- What the grammar says of braces is read.
use Rattle.std.specs.Prelude.{◌≡◌, ℕ, Bool, true, false, List, [], ◌∷◌, ◌++◌, Option, Some}
use Rattle.std.proofs.Common.{refl, ap, ◌∙◌, append_assoc}
use Rattle.mql_expr.specs.declared.item.Item.{Item}
use Rattle.mql_lists.specs.Words.{Word}
use Rattle.mql_lists.specs.Grammar.{OneItem, a_filter, a_name, OneList, last_item, last_comma, next_item, SomeLists, last_list, next_list, Braces, no_items, some_lists}
use Rattle.mql_lists.specs.Machines.{word_role, is_label, begins_item, at_first, behind_item, behind_name, after_or, with_item, with_list, named_item, braces_start, braces_step}
use Rattle.mql_lists.specs.Progress.{behind_step, leads}
use Rattle.mql_lists.specs.declared.braces.BracesReader.{BracesReader}
use Rattle.mql_lists.specs.declared.braces.Gathered.{Gathered}
use Rattle.mql_lists.specs.declared.braces.Heading.{Heading}
use Rattle.mql_lists.specs.declared.braces.Place.{Place}
use Rattle.mql_lists.specs.declared.braces.Place.TheVariants.{First, Wanted, AtName, BehindItem, AfterComma, AfterOr}
use Rattle.mql_lists.specs.declared.role.Role.{Role}
use Rattle.mql_lists.specs.declared.role.Role.TheVariants.{Free, Either, Reserved, Next, EndCurly}
use Rattle.mql_lists.proofs.RoleLaws.{role_free, role_either, role_value, role_next, role_curly, role_compare, label_role}

abbrev pub gathered : List (List Item) → List Item → Gathered
gathered lists items = record { lists = lists; items = items }

abbrev pub reader : Gathered → Place → BracesReader
reader found place = record { found = found; place = place }

-- what is read from a place
abbrev pub reads : List (List Item) → List Item → Place → List Word
    → Option (List (List Item) × List Word)
reads lists items place text = leads braces_step (reader (gathered lists items) place) text

-- ---- one item

-- what may stand after an item
abbrev follows : Role → Bool
follows Next = true
follows Either = true
follows EndCurly = true
follows _ = false

abbrev Follows : List Word → Type 0
Follows [] = ⊥
Follows (w ∷ rest) = follows (word_role w) ≡ true

-- a name is an item where such a word stands after it
same_turn : (found : Gathered) (head : Heading) (r : Role) → head.free ≡ true → follows r ≡ true
    → behind_name found head r ≡ behind_item (with_item found (named_item head)) r
same_turn found head Next free is = rw free refl
same_turn found head Either free is = rw free refl
same_turn found head EndCurly free is = rw free refl
same_turn found head _ free is = absurd (cc is)

name_item : (lists : List (List Item)) (items : List Item) (head : Heading) (behind : List Word)
    → head.free ≡ true
    → Follows behind
    → reads lists items (AtName head) behind
    ≡ reads lists (items ++ named_item head ∷ []) BehindItem behind
name_item lists items head [] free after = absurd after
name_item lists items head (w ∷ rest) free after =
    ap (λ turn. behind_step turn (λ next. leads braces_step next rest) rest)
    (same_turn (gathered lists items) head (word_role w) free after)

item_wanted : (lists : List (List Item)) (items : List Item) {text behind : List Word} {item : Item}
    → OneItem text behind item → Follows behind
    → reads lists items Wanted text ≡ reads lists (items ++ item ∷ []) BehindItem behind
item_wanted lists items (a_filter {op = op} name sign value label compares quoted) after =
    rw (label_role name label, role_compare sign op compares, role_value value quoted) refl
item_wanted lists items (a_name {rest = behind} name free) after =
    let head : Heading = record { at = name.at; name = name.text; free = true } in
    let named : reads lists items Wanted (name ∷ behind) ≡ reads lists items (AtName head) behind =
    rw (role_free name free) refl in
    named ∙ name_item lists items head behind refl after

item_comma : (lists : List (List Item)) (items : List Item) {text behind : List Word} {item : Item}
    → OneItem text behind item → Follows behind
    → reads lists items AfterComma text ≡ reads lists (items ++ item ∷ []) BehindItem behind
item_comma lists items (a_filter {rest = behind} {op = op} name sign value label compares quoted)
    after =
    by_role (word_role name) refl (label_role name label)
    ∙ item_wanted lists items (a_filter name sign value label compares quoted) after
  where
    by_role : (r : Role) → word_role name ≡ r → is_label r ≡ true
        → reads lists items AfterComma (name ∷ sign ∷ value ∷ behind)
        ≡ reads lists items Wanted (name ∷ sign ∷ value ∷ behind)
    by_role Free role is = rw (role, role_compare sign op compares) refl
    by_role Either role is = rw (role, role_compare sign op compares) refl
    by_role Reserved role is = rw (role, role_compare sign op compares) refl
    by_role _ role is = absurd (cc is)
item_comma lists items (a_name {rest = behind} name free) after =
    let head : Heading = record { at = name.at; name = name.text; free = true } in
    let named : reads lists items AfterComma (name ∷ behind)
    ≡ reads lists items (AtName head) behind = rw (role_free name free) refl in
    named ∙ name_item lists items head behind refl after

-- ---- a list

-- a comma before the end of a list changes nothing
abbrev Same : List Word → Type 0
Same behind = (lists : List (List Item)) (items : List Item)
    → reads lists items AfterComma behind ≡ reads lists items BehindItem behind

record ListRead (lists : List (List Item)) (items : List Item) (text behind : List Word)
    (list : List Item) : Type 0 where
  wanted : reads lists items Wanted text ≡ reads lists (items ++ list) BehindItem behind
  comma : reads lists items AfterComma text ≡ reads lists (items ++ list) BehindItem behind

list_read :
    (lists : List (List Item)) (items : List Item) {text behind : List Word} {list : List Item}
    → OneList text behind list → Follows behind → Same behind
    → ListRead lists items text behind list
list_read lists items (last_item one) after same =
    record { wanted = item_wanted lists items one after; comma = item_comma lists items one after }
list_read lists items (last_comma {rest = behind} {item = item} comma is one) after same =
    let next : Follows (comma ∷ behind) = ap follows (role_next comma is) in
    let all = items ++ item ∷ [] in
    let further : reads lists all BehindItem (comma ∷ behind) ≡ reads lists all AfterComma behind =
    rw (role_next comma is) refl in
    record {
      wanted = item_wanted lists items one next ∙ further ∙ same lists all;
      comma = item_comma lists items one next ∙ further ∙ same lists all;
    }
list_read lists items
    (next_item {more = more} {rest = behind} {item = item} {items = list} comma is one rest) after
    same =
    let next : Follows (comma ∷ more) = ap follows (role_next comma is) in
    let all = items ++ item ∷ [] in
    let further : reads lists all BehindItem (comma ∷ more) ≡ reads lists all AfterComma more =
    rw (role_next comma is) refl in
    let behind_them : reads lists all AfterComma more
    ≡ reads lists (items ++ item ∷ list) BehindItem behind =
    (list_read lists all rest after same).comma
    ∙ ap (λ i. reads lists i BehindItem behind) (append_assoc items (item ∷ []) list) in
    record {
      wanted = item_wanted lists items one next ∙ further ∙ behind_them;
      comma = item_comma lists items one next ∙ further ∙ behind_them;
    }

-- ---- lists

abbrev BeginsLabel : List Word → Type 0
BeginsLabel [] = ⊥
BeginsLabel (w ∷ rest) = is_label (word_role w) ≡ true

item_begins : {text behind : List Word} {item : Item} → OneItem text behind item → BeginsLabel text
item_begins (a_filter name sign value label compares quoted) = label_role name label
item_begins (a_name name free) = ap is_label (role_free name free)

list_begins : {text behind : List Word} {list : List Item} → OneList text behind list
    → BeginsLabel text
list_begins (last_item one) = item_begins one
list_begins (last_comma comma is one) = item_begins one
list_begins (next_item comma is one rest) = item_begins one

lists_begin : {text rest : List Word} {lists : List (List Item)} → SomeLists text rest lists
    → BeginsLabel text
lists_begin (last_list close is one) = list_begins one
lists_begin (next_list between is one more) = list_begins one

-- `or` after a comma parts two lists where a name stands after it
or_turn : (found : Gathered) (name : List ℕ) (w : Word) (r : Role) → is_label r ≡ true
    → after_or found name w r ≡ begins_item (with_list found) w r
or_turn found name w Free is = refl
or_turn found name w Either is = refl
or_turn found name w Reserved is = refl
or_turn found name w _ is = absurd (cc is)

or_parts : (lists : List (List Item)) (items : List Item) (name : List ℕ) (text : List Word)
    → BeginsLabel text
    → reads lists items (AfterOr name) text ≡ reads (lists ++ items ∷ []) [] Wanted text
or_parts lists items name [] begins = absurd begins
or_parts lists items name (w ∷ rest) begins =
    ap (λ turn. behind_step turn (λ next. leads braces_step next rest) rest)
    (or_turn (gathered lists items) name w (word_role w) begins)

first_turn : (found : Gathered) (w : Word) (r : Role) → is_label r ≡ true
    → at_first found w r ≡ begins_item found w r
first_turn found w Free is = refl
first_turn found w Either is = refl
first_turn found w Reserved is = refl
first_turn found w _ is = absurd (cc is)

first_wanted : (lists : List (List Item)) (items : List Item) (text : List Word) → BeginsLabel text
    → reads lists items First text ≡ reads lists items Wanted text
first_wanted lists items [] begins = absurd begins
first_wanted lists items (w ∷ rest) begins =
    ap (λ turn. behind_step turn (λ next. leads braces_step next rest) rest)
    (first_turn (gathered lists items) w (word_role w) begins)

lists_read : (lists : List (List Item)) {text rest : List Word} {more : List (List Item)}
    → SomeLists text rest more
    → reads lists [] Wanted text ≡ Some (lists ++ more, rest)
lists_read lists (last_list {rest = rest} {items = items} close is one) =
    let follows_it : Follows (close ∷ rest) = ap follows (role_curly close is) in
    let same : Same (close ∷ rest) = λ lists items. rw (role_curly close is) refl in
    let ends : reads lists items BehindItem (close ∷ rest) ≡ Some (lists ++ items ∷ [], rest) =
    rw (role_curly close is) refl in
    (list_read lists [] one follows_it same).wanted ∙ ends
lists_read lists
    (next_list {more = behind} {rest = rest} {items = items} {lists = more} between is one others) =
    let follows_it : Follows (between ∷ behind) = ap follows (role_either between is) in
    let begins : BeginsLabel behind = lists_begin others in
    let same : Same (between ∷ behind) =
    λ lists items.
    rw (role_either between is) (or_parts lists items between.text behind begins) in
    let parts : reads lists items BehindItem (between ∷ behind)
    ≡ reads (lists ++ items ∷ []) [] Wanted behind = rw (role_either between is) refl in
    (list_read lists [] one follows_it same).wanted ∙ parts
    ∙ lists_read (lists ++ items ∷ []) others
    ∙ ap (λ v. Some (v, rest)) (append_assoc lists (items ∷ []) more)

pub braces_read : (text rest : List Word) (lists : List (List Item)) → Braces text rest lists
    → leads braces_step braces_start text ≡ Some (lists, rest)
braces_read text rest lists are = go are
  where
    go : {text rest : List Word} {lists : List (List Item)} → Braces text rest lists
        → leads braces_step braces_start text ≡ Some (lists, rest)
    go (no_items close is) = rw (role_curly close is) refl
    go (some_lists {text = text} are) = first_wanted [] [] text (lists_begin are)
        ∙ lists_read [] are
