-- What is read of braces the grammar says.
use Rattle.std.specs.Prelude.{◌≡◌, ℕ, Bool, true, false, cond, List, [], ◌∷◌, ◌++◌, Some, None}
use Rattle.std.proofs.Common.{refl, ap, sym, subst, ◌∙◌, append-nil, append_assoc}
use Rattle.mql_lex.specs.declared.operator.Op.TheVariants.{Or}
use Rattle.mql_expr.specs.declared.item.Item.{Item}
use Rattle.mql_expr.specs.declared.item.Item.TheVariants.{Named}
use Rattle.mql_lists.specs.Words.{Word}
use Rattle.mql_lists.specs.Grammar.{IsA, IsLabel, Compares, OneItem, a_filter, a_name, last_item, last_comma, next_item, SomeLists, last_list, next_list, Braces, no_items, some_lists}
use Rattle.mql_lists.specs.Machines.{Turn, word_role, is_free, begins_item, at_first, behind_item, behind_name, behind_sign, after_comma, after_or, braces_at, with_item, with_list, named_item, filter_item, braces_start, braces_step}
use Rattle.mql_lists.specs.Progress.{behind_step, leads}
use Rattle.mql_lists.specs.Values.{value_of}
use Rattle.mql_lists.specs.declared.class.Class.TheVariants.{Identifier, Operator, Comma, CloseCurly}
use Rattle.mql_lists.specs.declared.braces.Begun.{Begun}
use Rattle.mql_lists.specs.declared.braces.Gathered.{Gathered}
use Rattle.mql_lists.specs.declared.braces.Heading.{Heading}
use Rattle.mql_lists.specs.declared.braces.Place.{Place}
use Rattle.mql_lists.specs.declared.braces.Place.TheVariants.{First, Wanted, AtName, AtSign, BehindItem, AfterComma, AfterOr}
use Rattle.mql_lists.specs.declared.role.Role.{Role}
use Rattle.mql_lists.specs.declared.role.Role.TheVariants.{Free, Either, Reserved, Compare, Value, Next, EndCurly}
use Rattle.mql_lists.proofs.RoleLaws.{free_says, either_says, compare_says, value_says, next_says, curly_says, label_says, answer, same_parts}
use Rattle.mql_lists.proofs.BraceReads.{reader}

-- ---- what may stand after each place

-- after a comma: the rest of the list, and more lists
data CommaTail : List Word → List Word → List Item → List (List Item) → Type 0 where
  comma_closed : {rest : List Word} (close : Word) → IsA CloseCurly close
      → CommaTail (close ∷ rest) rest [] []
  comma_parted : {text rest : List Word} {lists : List (List Item)} (between : Word)
      → IsA (Operator Or) between
      → SomeLists text rest lists → CommaTail (between ∷ text) rest [] lists
  comma_more : {text rest : List Word} {items : List Item} {lists : List (List Item)}
      → SomeLists text rest (items ∷ lists) → CommaTail text rest items lists

-- after an item
data ItemTail : List Word → List Word → List Item → List (List Item) → Type 0 where
  closed : {rest : List Word} (close : Word) → IsA CloseCurly close
      → ItemTail (close ∷ rest) rest [] []
  parted : {text rest : List Word} {lists : List (List Item)} (between : Word)
      → IsA (Operator Or) between
      → SomeLists text rest lists → ItemTail (between ∷ text) rest [] lists
  comma_behind :
      {text rest : List Word} {items : List Item} {lists : List (List Item)} (comma : Word)
      → IsA Comma comma → CommaTail text rest items lists → ItemTail (comma ∷ text) rest items lists

-- after the opening bracket
data FirstTail : List Word → List Word → List Item → List (List Item) → Type 0 where
  first_closed : {rest : List Word} (close : Word) → IsA CloseCurly close
      → FirstTail (close ∷ rest) rest [] []
  first_some : {text rest : List Word} {items : List Item} {lists : List (List Item)}
      → SomeLists text rest (items ∷ lists) → FirstTail text rest items lists

-- one item more in the first list
abbrev added : Item → List (List Item) → List (List Item)
added item [] = []
added item (items ∷ lists) = (item ∷ items) ∷ lists

with_more : {text more rest : List Word} {item : Item} {lists : List (List Item)} (comma : Word)
    → IsA Comma comma
    → OneItem text (comma ∷ more) item → SomeLists more rest lists
    → SomeLists text rest (added item lists)
with_more comma is one (last_list close ends list) =
    last_list close ends (next_item comma is one list)
with_more comma is one (next_list between parts list more) =
    next_list between parts (next_item comma is one list) more

with_comma :
    {text more rest : List Word} {item : Item} {items : List Item} {lists : List (List Item)}
    (comma : Word)
    → IsA Comma comma → OneItem text (comma ∷ more) item → CommaTail more rest items lists
    → SomeLists text rest ((item ∷ items) ∷ lists)
with_comma comma is one (comma_closed close ends) = last_list close ends (last_comma comma is one)
with_comma comma is one (comma_parted between parts more) =
    next_list between parts (last_comma comma is one) more
with_comma comma is one (comma_more some) = with_more comma is one some

with_one :
    {text behind rest : List Word} {item : Item} {items : List Item} {lists : List (List Item)}
    → OneItem text behind item → ItemTail behind rest items lists
    → SomeLists text rest ((item ∷ items) ∷ lists)
with_one one (closed close ends) = last_list close ends (last_item one)
with_one one (parted between parts more) = next_list between parts (last_item one) more
with_one one (comma_behind comma is tail) = with_comma comma is one tail

-- this word is the name that was read
record IsHead (head : Heading) (n : Word) : Type 0 where
  at : n.at ≡ head.at
  text : n.text ≡ head.name
  label : IsLabel n
  free : head.free ≡ true → IsA Identifier n

abbrev Tail : Place → List Word → List Word → List Item → List (List Item) → Type 0
Tail First text rest items lists = FirstTail text rest items lists
Tail Wanted text rest items lists = SomeLists text rest (items ∷ lists)
Tail (AtName head) text rest items lists = (n : Word) → IsHead head n
    → SomeLists (n ∷ text) rest (items ∷ lists)
Tail (AtSign begun) text rest items lists = (n sign : Word) → n.text ≡ begun.name → IsLabel n
    → Compares begun.op sign
    → SomeLists (n ∷ sign ∷ text) rest (items ∷ lists)
Tail BehindItem text rest items lists = ItemTail text rest items lists
Tail AfterComma text rest items lists = CommaTail text rest items lists
Tail (AfterOr name) text rest items lists = (n : Word) → n.text ≡ name → IsLabel n
    → IsA (Operator Or) n
    → CommaTail (n ∷ text) rest items lists

-- all lists are those that were found, with the rest of the last one, and more
record Found (place : Place) (found : Gathered) (text rest : List Word) (all : List (List Item)) :
    Type 0 where
  items : List Item
  lists : List (List Item)
  parts : all ≡ found.lists ++ ((found.items ++ items) ∷ lists)
  are : Tail place text rest items lists

-- ---- lists put together

one_item : (found : Gathered) (item : Item) (items : List Item) (lists : List (List Item))
    → found.lists ++ (((found.items ++ item ∷ []) ++ items) ∷ lists)
    ≡ found.lists ++ ((found.items ++ item ∷ items) ∷ lists)
one_item found item items lists =
    ap (λ i. found.lists ++ (i ∷ lists)) (append_assoc found.items (item ∷ []) items)

one_list : (found : Gathered) (lists : List (List Item))
    → (found.lists ++ found.items ∷ []) ++ lists ≡ found.lists ++ ((found.items ++ []) ∷ lists)
one_list found lists =
    append_assoc found.lists (found.items ∷ []) lists
    ∙ ap (λ i. found.lists ++ (i ∷ lists)) (sym (append-nil found.items))

found_end :
    (place : Place) (found : Gathered) (w : Word) (more rest : List Word) (all : List (List Item))
    → ((front : List Word) → Tail place (w ∷ front) front [] [])
    → answer (found.lists ++ found.items ∷ []) more ≡ answer all rest
    → Found place found (w ∷ more) rest all
found_end place found w more rest all tail is =
    let same = same_parts (found.lists ++ found.items ∷ []) all more rest is in
    record {
      items = [];
      lists = [];
      parts = sym same.0 ∙ ap (λ i. found.lists ++ i ∷ []) (sym (append-nil found.items));
      are = subst (λ r. Tail place (w ∷ more) r [] []) same.1 (tail more);
    }

-- ---- one word

-- what is known of the words after one
abbrev Behind : List Word → List Word → List (List Item) → Type 0
Behind more rest all = (place : Place) (found : Gathered)
    → leads braces_step (reader found place) more ≡ Some (all, rest)
    → Found place found more rest all

abbrev Reads : Turn → List Word → List Word → List (List Item) → Type 0
Reads turn more rest all =
    behind_step turn (λ next. leads braces_step next more) more ≡ Some (all, rest)

begun : (found : Gathered) (w : Word) (more rest : List Word) (all : List (List Item)) (free : Bool)
    → IsLabel w → (free ≡ true → IsA Identifier w) → Behind more rest all
    → leads braces_step (reader found (AtName (record { at = w.at; name = w.text; free = free })))
    more ≡ Some (all, rest)
    → Found Wanted found (w ∷ more) rest all
begun found w more rest all free label is_free behind is =
    let name = behind (AtName (record { at = w.at; name = w.text; free = free })) found is in
    record {
      items = name.items;
      lists = name.lists;
      parts = name.parts;
      are = name.are w (record { at = refl; text = refl; label = label; free = is_free });
    }

from_wanted :
    (found : Gathered) (w : Word) (more rest : List Word) (all : List (List Item)) (r : Role)
    → word_role w ≡ r
    → Behind more rest all → Reads (begins_item found w r) more rest all
    → Found Wanted found (w ∷ more) rest all
from_wanted found w more rest all Free role behind is =
    begun found w more rest all true (label_says w Free role refl) (λ _. free_says w role) behind is
from_wanted found w more rest all Either role behind is =
    begun found w more rest all false (label_says w Either role refl) (λ no. absurd (cc no)) behind
    is
from_wanted found w more rest all Reserved role behind is =
    begun found w more rest all false (label_says w Reserved role refl) (λ no. absurd (cc no))
    behind is
from_wanted found w more rest all _ role behind is = absurd (cc is)

first_from : (found : Gathered) (w : Word) (more rest : List Word) (all : List (List Item))
    → Found Wanted found (w ∷ more) rest all → Found First found (w ∷ more) rest all
first_from found w more rest all name =
    record { items = name.items; lists = name.lists; parts = name.parts; are = first_some name.are }

from_first :
    (found : Gathered) (w : Word) (more rest : List Word) (all : List (List Item)) (r : Role)
    → word_role w ≡ r
    → Behind more rest all → Reads (at_first found w r) more rest all
    → Found First found (w ∷ more) rest all
from_first found w more rest all EndCurly role behind is =
    found_end First found w more rest all (λ front. first_closed w (curly_says w role)) is
from_first found w more rest all Free role behind is =
    first_from found w more rest all (from_wanted found w more rest all Free role behind is)
from_first found w more rest all Either role behind is =
    first_from found w more rest all (from_wanted found w more rest all Either role behind is)
from_first found w more rest all Reserved role behind is =
    first_from found w more rest all (from_wanted found w more rest all Reserved role behind is)
from_first found w more rest all _ role behind is = absurd (cc is)

from_item :
    (found : Gathered) (w : Word) (more rest : List Word) (all : List (List Item)) (r : Role)
    → word_role w ≡ r
    → Behind more rest all → Reads (behind_item found r) more rest all
    → Found BehindItem found (w ∷ more) rest all
from_item found w more rest all Next role behind is =
    let tail = behind AfterComma found is in
    record {
      items = tail.items;
      lists = tail.lists;
      parts = tail.parts;
      are = comma_behind w (next_says w role) tail.are;
    }
from_item found w more rest all Either role behind is =
    let tail = behind Wanted (with_list found) is in
    record {
      items = [];
      lists = tail.items ∷ tail.lists;
      parts = tail.parts ∙ one_list found (tail.items ∷ tail.lists);
      are = parted w (either_says w role) tail.are;
    }
from_item found w more rest all EndCurly role behind is =
    found_end BehindItem found w more rest all (λ front. closed w (curly_says w role)) is
from_item found w more rest all _ role behind is = absurd (cc is)

comma_from : (found : Gathered) (w : Word) (more rest : List Word) (all : List (List Item))
    → Found Wanted found (w ∷ more) rest all → Found AfterComma found (w ∷ more) rest all
comma_from found w more rest all name =
    record { items = name.items; lists = name.lists; parts = name.parts; are = comma_more name.are }

from_comma :
    (found : Gathered) (w : Word) (more rest : List Word) (all : List (List Item)) (r : Role)
    → word_role w ≡ r
    → Behind more rest all → Reads (after_comma found w r) more rest all
    → Found AfterComma found (w ∷ more) rest all
from_comma found w more rest all Either role behind is =
    let tail = behind (AfterOr w.text) found is in
    record {
      items = tail.items;
      lists = tail.lists;
      parts = tail.parts;
      are = tail.are w refl (label_says w Either role refl) (either_says w role);
    }
from_comma found w more rest all EndCurly role behind is =
    found_end AfterComma found w more rest all (λ front. comma_closed w (curly_says w role)) is
from_comma found w more rest all Free role behind is =
    comma_from found w more rest all (from_wanted found w more rest all Free role behind is)
from_comma found w more rest all Reserved role behind is =
    comma_from found w more rest all (from_wanted found w more rest all Reserved role behind is)
from_comma found w more rest all _ role behind is = absurd (cc is)

-- `or` after a comma parted two lists
or_from :
    (name : List ℕ) (found : Gathered) (w : Word) (more rest : List Word) (all : List (List Item))
    → Found Wanted (with_list found) (w ∷ more) rest all
    → Found (AfterOr name) found (w ∷ more) rest all
or_from name found w more rest all tail = record {
  items = [];
  lists = tail.items ∷ tail.lists;
  parts = tail.parts ∙ one_list found (tail.items ∷ tail.lists);
  are = λ n text label is. comma_parted n is tail.are;
}

from_or :
    (name : List ℕ) (found : Gathered) (w : Word) (more rest : List Word) (all : List (List Item))
    (r : Role) → word_role w ≡ r
    → Behind more rest all → Reads (after_or found name w r) more rest all
    → Found (AfterOr name) found (w ∷ more) rest all
from_or name found w more rest all (Compare op) role behind is =
    let tail = behind (AtSign (record { name = name; op = op })) found is in
    record {
      items = tail.items;
      lists = tail.lists;
      parts = tail.parts;
      are = λ n text label is. comma_more (tail.are n w text label (compare_says w op role));
    }
from_or name found w more rest all Free role behind is =
    or_from name found w more rest all
    (from_wanted (with_list found) w more rest all Free role behind is)
from_or name found w more rest all Either role behind is =
    or_from name found w more rest all
    (from_wanted (with_list found) w more rest all Either role behind is)
from_or name found w more rest all Reserved role behind is =
    or_from name found w more rest all
    (from_wanted (with_list found) w more rest all Reserved role behind is)
from_or name found w more rest all _ role behind is = absurd (cc is)

from_sign :
    (begun : Begun) (found : Gathered) (w : Word) (more rest : List Word) (all : List (List Item))
    (r : Role) → word_role w ≡ r
    → Behind more rest all → Reads (behind_sign found begun w r) more rest all
    → Found (AtSign begun) found (w ∷ more) rest all
from_sign begun found w more rest all Value role behind is =
    let item = filter_item begun (value_of w.text) in
    let tail = behind BehindItem (with_item found item) is in
    record {
      items = item ∷ tail.items;
      lists = tail.lists;
      parts = tail.parts ∙ one_item found item tail.items tail.lists;
      are = λ n sign text label compares.
          let named : filter_item (record { name = n.text; op = begun.op }) (value_of w.text)
          ≡ item =
          ap (λ t. filter_item (record { name = t; op = begun.op }) (value_of w.text)) text in
          subst (λ i. SomeLists (n ∷ sign ∷ w ∷ more) rest ((i ∷ tail.items) ∷ tail.lists)) named
          (with_one (a_filter n sign w label compares (value_says w role)) tail.are);
    }
from_sign begun found w more rest all _ role behind is = absurd (cc is)

-- a name that is an item
name_from :
    (head : Heading) (found : Gathered) (w : Word) (more rest : List Word) (all : List (List Item))
    → head.free ≡ true
    → Found BehindItem (with_item found (named_item head)) (w ∷ more) rest all
    → Found (AtName head) found (w ∷ more) rest all
name_from head found w more rest all free tail = record {
  items = named_item head ∷ tail.items;
  lists = tail.lists;
  parts = tail.parts ∙ one_item found (named_item head) tail.items tail.lists;
  are = λ n is.
      let named : Named n.at n.text ≡ named_item head = ap (λ at. Named at n.text) is.at
      ∙ ap (λ t. Named head.at t) is.text in
      subst (λ i. SomeLists (n ∷ w ∷ more) rest ((i ∷ tail.items) ∷ tail.lists)) named
      (with_one (a_name n (is.free free)) tail.are);
}

from_free :
    (head : Heading) (found : Gathered) (w : Word) (more rest : List Word) (all : List (List Item))
    (r : Role) → word_role w ≡ r
    → (free : Bool) → head.free ≡ free → Behind more rest all
    → Reads (cond free (behind_item (with_item found (named_item head)) r) None) more rest all
    → Found (AtName head) found (w ∷ more) rest all
from_free head found w more rest all r role true free behind is =
    name_from head found w more rest all free
    (from_item (with_item found (named_item head)) w more rest all r role behind is)
from_free head found w more rest all r role false free behind is = absurd (cc is)

from_name :
    (head : Heading) (found : Gathered) (w : Word) (more rest : List Word) (all : List (List Item))
    (r : Role) → word_role w ≡ r
    → Behind more rest all → Reads (behind_name found head r) more rest all
    → Found (AtName head) found (w ∷ more) rest all
from_name head found w more rest all (Compare op) role behind is =
    let tail = behind (AtSign (record { name = head.name; op = op })) found is in
    record {
      items = tail.items;
      lists = tail.lists;
      parts = tail.parts;
      are = λ n is. tail.are n w is.text is.label (compare_says w op role);
    }
from_name head found w more rest all Next role behind is =
    from_free head found w more rest all Next role head.free refl behind is
from_name head found w more rest all Either role behind is =
    from_free head found w more rest all Either role head.free refl behind is
from_name head found w more rest all EndCurly role behind is =
    from_free head found w more rest all EndCurly role head.free refl behind is
from_name head found w more rest all r role behind is =
    from_free head found w more rest all r role head.free refl behind is

from_word :
    (place : Place) (found : Gathered) (w : Word) (more rest : List Word) (all : List (List Item))
    → Behind more rest all
    → Reads (braces_at place found w (word_role w)) more rest all
    → Found place found (w ∷ more) rest all
from_word First found w more rest all behind is =
    from_first found w more rest all (word_role w) refl behind is
from_word Wanted found w more rest all behind is =
    from_wanted found w more rest all (word_role w) refl behind is
from_word (AtName head) found w more rest all behind is =
    from_name head found w more rest all (word_role w) refl behind is
from_word (AtSign begun) found w more rest all behind is =
    from_sign begun found w more rest all (word_role w) refl behind is
from_word BehindItem found w more rest all behind is =
    from_item found w more rest all (word_role w) refl behind is
from_word AfterComma found w more rest all behind is =
    from_comma found w more rest all (word_role w) refl behind is
from_word (AfterOr name) found w more rest all behind is =
    from_or name found w more rest all (word_role w) refl behind is

from : (text rest : List Word) (all : List (List Item)) → Behind text rest all
from [] rest all place found is = absurd (cc is)
from (w ∷ more) rest all place found is =
    from_word place found w more rest all (from more rest all) is

with_first : {text rest : List Word} {items : List Item} {lists : List (List Item)}
    → FirstTail text rest items lists
    → Braces text rest (items ∷ lists)
with_first (first_closed close is) = no_items close is
with_first (first_some are) = some_lists are

pub braces_only : (text rest : List Word) (lists : List (List Item))
    → leads braces_step braces_start text ≡ Some (lists, rest)
    → Braces text rest lists
braces_only text rest lists is =
    let found = from text rest lists First (record { lists = []; items = [] }) is in
    subst (λ v. Braces text rest v) (sym found.parts) (with_first found.are)
