-- What is read of the words of strings and selectors.
use Rattle.std.specs.Prelude.{◌≡◌, ℕ, ◌-◌, ◌==◌, Bool, true, false, List, [], ◌∷◌, ◌++◌, length, take, map, flat_map, codes, Option, Some, None, if◌then◌else◌}
use Rattle.std.specs.List.{AllByRecursion}
use Rattle.std.proofs.Common.{refl, ap, sym, subst, ◌∙◌, append_assoc, length-append, arith}
use Rattle.std.proofs.Math.Seq.{take-append_seam}
use Rattle.std.proofs.lemmas.Bool.{eqb-true}
use Rattle.vm_labels.specs.Text.{escaped_byte}
use Rattle.vm_labels.specs.declared.selector.FilterOp.{FilterOp}
use Rattle.vm_labels.specs.declared.selector.FilterOp.TheVariants.{Matches, MatchesNot, Equal as EqualTo, Differs as DiffersFrom}
use Rattle.mql_lex.specs.declared.token.TokenKind.TheVariants.{Name, Mark, Str}
use Rattle.mql_expr.specs.Canonical.{Piece, blank, mark, named, parted, string_text, filter_op_text, item_pieces, list_pieces, select_pieces}
use Rattle.mql_laws.specs.Lexed.{HasItems, AreLists, IsSelect}
use Rattle.mql_expr.specs.Tree.{Tree, select}
use Rattle.mql_expr.specs.declared.item.Item.{Item}
use Rattle.mql_expr.specs.declared.item.Item.TheVariants.{Is, Named}
use Rattle.mql_lists.specs.Classes.{class_of_mark}
use Rattle.mql_lists.specs.Grammar.{Compares, OneItem, a_filter, a_name, OneList, last_item, next_item, SomeLists, last_list, next_list, Braces, no_items, some_lists}
use Rattle.mql_lists.specs.Values.{unescaped, between, value_of}
use Rattle.mql_lists.specs.Words.{Word}
use Rattle.mql_parse.specs.Grammar.{Primary, a_metric, a_selector, a_nameless}
use Rattle.mql_laws.specs.ReadBack.{Same, placeless_item, IsFreeIfAny, IsFreeItem}
use Rattle.mql_laws.proofs.ReadBackWords.{Stand, no_piece, a_blank, a_word, word_at, split, is_open_curly, is_close_curly, is_comma, is_or}

-- ---- strings

unescaped_byte : (b : ℕ) (rest : List ℕ)
    → unescaped false (escaped_byte b ++ rest) ≡ b ∷ unescaped false rest
unescaped_byte b rest = go (b == 92) (b == 34) (b == 10) refl refl refl
  where
    go : (x y z : Bool) → (b == 92) ≡ x → (b == 34) ≡ y → (b == 10) ≡ z
        → unescaped false
        ((if x then codes "\\\\" else if y then codes "\\\"" else if z then codes "\\n" else b ∷ [])
        ++ rest) ≡ b ∷ unescaped false rest
    go true y z p q r = ap (λ c. c ∷ unescaped false rest) (sym (eqb-true b 92 p))
    go false true z p q r = ap (λ c. c ∷ unescaped false rest) (sym (eqb-true b 34 q))
    go false false true p q r = ap (λ c. c ∷ unescaped false rest) (sym (eqb-true b 10 r))
    go false false false p q r =
        ap (λ (t : Bool). if t then unescaped true rest else b ∷ unescaped false rest) p

unescaped_all : (text : List ℕ) → unescaped false (flat_map escaped_byte text) ≡ text
unescaped_all [] = refl
unescaped_all (b ∷ bs) = unescaped_byte b (flat_map escaped_byte bs)
    ∙ ap (λ t. b ∷ t) (unescaped_all bs)

between_quotes : (inner : List ℕ) → between (34 ∷ (inner ++ 34 ∷ [])) ≡ inner
between_quotes inner =
    let count : length (34 ∷ (inner ++ 34 ∷ [])) - 2 ≡ length inner =
    omega (arith, length-append inner (34 ∷ [])) in
    ap (λ n. take n (inner ++ 34 ∷ [])) count ∙ take-append_seam inner (34 ∷ [])

-- a string says what it is of
pub string_says : (text : List ℕ) → value_of (string_text text) ≡ text
string_says text = ap (unescaped false) (between_quotes (flat_map escaped_byte text))
    ∙ unescaped_all text

-- ---- items

compares : (op : FilterOp) (at : ℕ) → Compares op (word_at at Mark (filter_op_text op))
unfolding class_of_mark
compares EqualTo at = refl
compares DiffersFrom at = refl
compares Matches at = refl
compares MatchesNot at = refl

record ItemRead (item : Item) (ws rest : List Word) : Type 0 where
  found : Item
  same : placeless_item found ≡ placeless_item item
  reads : OneItem ws rest found

item_back : (item : Item) → IsFreeItem item → (ws rest : List Word)
    → Stand (item_pieces item) ws rest → ItemRead item ws rest
item_back (Is filter) free ws rest (a_word at (a_word sign (a_word value no_piece))) = record {
  found = Is
      (record { name = filter.name; op = filter.op; value = value_of (string_text filter.value) });
  same = ap (λ (t : List ℕ). Is (record { name = filter.name; op = filter.op; value = t }))
      (string_says filter.value);
  reads = a_filter (word_at at Name filter.name) (word_at sign Mark (filter_op_text filter.op))
      (word_at value Str (string_text filter.value)) refl
      (compares filter.op sign) refl;
}
item_back (Named place name) free ws rest (a_word at no_piece) =
    record { found = Named at name; same = refl; reads = a_name (word_at at Name name) free }

-- ---- lists

abbrev more_items : List Item → List Piece
more_items items = flat_map (λ y. (mark (codes ",") ∷ []) ++ y) (map item_pieces items)

-- the items after the first
record ItemsBehind (items : List Item) (ws rest : List Word) : Type 0 where
  found : List Item
  same : map placeless_item found ≡ map placeless_item items
  onto : (text : List Word) (item : Item) → OneItem text ws item → OneList text rest (item ∷ found)

items_behind : (items : List Item) → AllByRecursion IsFreeItem items → (ws rest : List Word)
    → Stand (more_items items) ws rest → ItemsBehind items ws rest
items_behind [] free ws rest no_piece =
    record { found = []; same = refl; onto = λ text item reads. last_item reads }
items_behind (i ∷ items) free ws rest (a_word {ws = more} at all) =
    let s = split (item_pieces i) (more_items items) more rest all in
    let one = item_back i free.0 more s.mid s.front in
    let later = items_behind items free.1 s.mid rest s.behind in
    record {
      found = one.found ∷ later.found;
      same = ap (λ x. x ∷ map placeless_item later.found) one.same
          ∙ ap (λ xs. placeless_item i ∷ xs) later.same;
      onto = λ text item reads.
          next_item (word_at at Mark (codes ",")) (is_comma at) reads
          (later.onto more one.found one.reads);
    }

record ListRead (items : List Item) (ws rest : List Word) : Type 0 where
  found : List Item
  same : map placeless_item found ≡ map placeless_item items
  reads : OneList ws rest found

list_back : (i : Item) (items : List Item) → AllByRecursion IsFreeItem (i ∷ items)
    → (ws rest : List Word) → Stand (list_pieces (i ∷ items)) ws rest
    → ListRead (i ∷ items) ws rest
list_back i items free ws rest all =
    let s = split (item_pieces i) (more_items items) ws rest all in
    let one = item_back i free.0 ws s.mid s.front in
    let later = items_behind items free.1 s.mid rest s.behind in
    record {
      found = one.found ∷ later.found;
      same = ap (λ x. x ∷ map placeless_item later.found) one.same
          ∙ ap (λ xs. placeless_item i ∷ xs) later.same;
      reads = later.onto ws one.found one.reads;
    }

full_list : (items : List Item) → HasItems items → AllByRecursion IsFreeItem items
    → (ws rest : List Word) → Stand (list_pieces items) ws rest
    → ListRead items ws rest
full_list [] has free ws rest all = absurd has
full_list (i ∷ items) has free ws rest all = list_back i items free ws rest all

-- ---- braces

abbrev or_between : List Piece
or_between = blank ∷ named (codes "or") ∷ blank ∷ []

abbrev more_lists : List (List Item) → List Piece
more_lists lists = flat_map (λ y. or_between ++ y) (map list_pieces lists)

abbrev placeless_lists : List (List Item) → List (List Item)
placeless_lists = map (map placeless_item)

abbrev curly : List Piece
curly = mark (codes "}") ∷ []

record ListsBehind (lists : List (List Item)) (ws rest : List Word) : Type 0 where
  found : List (List Item)
  same : placeless_lists found ≡ placeless_lists lists
  onto : (text : List Word) (items : List Item) → OneList text ws items
      → SomeLists text rest (items ∷ found)

lists_behind : (lists : List (List Item)) → AllByRecursion HasItems lists
    → AllByRecursion (AllByRecursion IsFreeItem) lists → (ws rest : List Word)
    → Stand (more_lists lists ++ curly) ws rest → ListsBehind lists ws rest
lists_behind [] has free ws rest (a_word at no_piece) = record {
  found = [];
  same = refl;
  onto = λ text items reads. last_list (word_at at Mark (codes "}")) (is_close_curly at) reads;
}
lists_behind (l ∷ lists) has free ws rest (a_blank (a_word {ws = more} at (a_blank all))) =
    let s = split (list_pieces l) (more_lists lists ++ curly) more rest
    (subst (λ ps. Stand ps more rest) (append_assoc (list_pieces l) (more_lists lists) curly)
    all) in
    let one = full_list l has.0 free.0 more s.mid s.front in
    let later = lists_behind lists has.1 free.1 s.mid rest s.behind in
    record {
      found = one.found ∷ later.found;
      same = ap (λ x. x ∷ placeless_lists later.found) one.same
          ∙ ap (λ xs. map placeless_item l ∷ xs) later.same;
      onto = λ text items reads.
          next_list (word_at at Name (codes "or")) (is_or at) reads
          (later.onto more one.found one.reads);
    }

record BracesRead (lists : List (List Item)) (ws rest : List Word) : Type 0 where
  found : List (List Item)
  same : placeless_lists found ≡ placeless_lists lists
  reads : Braces ws rest found

later_lists : (items : List Item) (lists : List (List Item)) → AreLists (items ∷ lists)
    → AllByRecursion HasItems lists
later_lists items [] are = tt
later_lists items (other ∷ lists) are = are.1

-- after the opening brace
braces_back : (items : List Item) (lists : List (List Item)) → AreLists (items ∷ lists)
    → AllByRecursion (AllByRecursion IsFreeItem) (items ∷ lists)
    → (ws rest : List Word)
    → Stand (parted or_between (map list_pieces (items ∷ lists)) ++ curly) ws rest
    → BracesRead (items ∷ lists) ws rest
braces_back [] [] are free ws rest (a_word at no_piece) =
    record {
      found = [] ∷ [];
      same = refl;
      reads = no_items (word_at at Mark (codes "}")) (is_close_curly at);
    }
braces_back [] (other ∷ lists) are free ws rest all = absurd are.0
braces_back (i ∷ items) lists are free ws rest all =
    let first = list_pieces (i ∷ items) in
    let s = split first (more_lists lists ++ curly) ws rest
    (subst (λ ps. Stand ps ws rest) (append_assoc first (more_lists lists) curly) all) in
    let one = list_back i items free.0 ws s.mid s.front in
    let later = lists_behind lists (later_lists (i ∷ items) lists are) free.1 s.mid rest s.behind in
    record {
      found = one.found ∷ later.found;
      same = ap (λ x. x ∷ placeless_lists later.found) one.same
          ∙ ap (λ xs. map placeless_item (i ∷ items) ∷ xs) later.same;
      reads = some_lists (later.onto ws one.found one.reads);
    }

-- ---- selectors

-- an expression without an operator, a sign or a window
pub record PrimaryRead (t : Tree) (ws rest : List Word) : Type 0 where
  pub tree : Tree
  pub same : Same tree t
  pub reads : (n : ℕ) → Primary 0 n ws rest tree

pub select_back : (place : ℕ) (name : Option (List ℕ)) (lists : List (List Item))
    → IsSelect name lists → IsFreeIfAny name
    → AllByRecursion (AllByRecursion IsFreeItem) lists → (ws rest : List Word)
    → Stand (select_pieces name lists) ws rest
    → PrimaryRead (select place name lists) ws rest
select_back place None [] is named_so free ws rest all = absurd is
select_back place None (items ∷ lists) is named_so free ws rest (a_word {ws = more} at all) =
    let inside = braces_back items lists is free more rest all in
    record {
      tree = select at None inside.found;
      same = ap (select 0 None) inside.same;
      reads = λ n. a_nameless (word_at at Mark (codes "{")) (is_open_curly at) inside.reads;
    }
select_back place (Some name) [] is named_so free ws rest (a_word at no_piece) = record {
  tree = select at (Some name) [];
  same = refl;
  reads = λ n. a_metric (word_at at Name name) named_so;
}
select_back place (Some name) (items ∷ lists) is named_so free ws rest
    (a_word at (a_word {ws = more} open_at all)) =
    let inside = braces_back items lists is.1 free more rest all in
    record {
      tree = select at (Some name) inside.found;
      same = ap (select 0 (Some name)) inside.same;
      reads = λ n.
          a_selector (word_at at Name name) (word_at open_at Mark (codes "{")) named_so
          (is_open_curly open_at) inside.reads;
    }
