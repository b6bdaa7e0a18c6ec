-- The text of a tree has its words as tokens.
use Rattle.std.proofs.Common.{◌≡◌, ℕ, suc, Bool, true, false, not, ◌&&◌, ◌==◌, List, [], ◌∷◌, ◌++◌, map, codes, Option, Some, None, refl, ap, ◌∙◌, append_assoc, if◌then◌else◌, arith}
use Rattle.std.specs.Prelude.{flat_map, nat_lt}
use Rattle.std.specs.Char.{is_ascii_digit}
use Rattle.std.specs.List.{AllByRecursion, list_all}
use Rattle.std.proofs.lemmas.Bool.{eqb-true}
use Rattle.std.proofs.lemmas.Bool.Decides.{nat_tests}
use Rattle.vm_labels.specs.Name.{begins_name, is_name_byte}
use Rattle.vm_labels.specs.declared.selector.FilterOp.{FilterOp}
use Rattle.vm_labels.specs.declared.selector.FilterOp.TheVariants.{Matches, MatchesNot, Equal as EqualTo, Differs as DiffersFrom}
use Rattle.mql_lex.specs.Grammar.{is_blank}
use Rattle.mql_lex.specs.declared.group.Group.{Group}
use Rattle.mql_lex.specs.declared.group.Matching.{Matching}
use Rattle.mql_lex.specs.declared.group.MatchKind.{MatchKind}
use Rattle.mql_lex.specs.declared.group.MatchKind.TheVariants.{All, On, Ignoring}
use Rattle.mql_lex.specs.declared.group.Many.{Many}
use Rattle.mql_lex.specs.declared.group.Many.TheVariants.{One, Left, Right}
use Rattle.mql_lex.specs.declared.operator.Op.{Op}
use Rattle.mql_lex.specs.declared.operator.Op.TheVariants.{Default}
use Rattle.mql_lex.specs.declared.span.Span.{Span}
use Rattle.mql_lex.specs.declared.token.TokenKind.{TokenKind}
use Rattle.mql_lex.specs.declared.token.TokenKind.TheVariants.{Number, Duration, Str}
use Rattle.vm_decimal.specs.NumberText.{number_text}
use Rattle.mql_expr.specs.Canonical.{Piece, blank, word, mark, named, piece_text, text_of, when, parted, parted_names, names_pieces, string_text, filter_op_text, item_pieces, list_pieces, braces_pieces, select_pieces, span_pieces, window_pieces, offset_pieces, call_name, group_pieces, before_pieces, after_pieces, keep_pieces, op_piece, truth_pieces, modifier, kind_pieces, many_pieces, matching_pieces, operator_pieces, params_pieces, in_parentheses, operand, binding, pieces, arguments, bindings}
use Rattle.mql_expr.specs.Levels.{level_of, level_of_op}
use Rattle.mql_laws.specs.Lexed.{IsName, AreNames, IsItem, HasItems, AreLists, IsSelect, IsOptionalGroup, IsSpan, IsOptionalSpan, IsParam, IsPrinted, ArePrinted, AreBindings, PrintsItsWords}
use Rattle.mql_expr.specs.Spans.{is_negative, span_text}
use Rattle.mql_expr.specs.Tree.{Tree, Trees, Templates, number, string, select, ranged, call, binary, negate, with_templates, no_trees, next_tree, no_templates, next_template}
use Rattle.mql_expr.specs.declared.expr.Param.{Param}
use Rattle.mql_expr.specs.declared.item.Item.{Item}
use Rattle.mql_expr.specs.declared.item.Item.TheVariants.{Is, Named}
use Rattle.mql_laws.proofs.ApartLaws.{IsPiece, Apart, may_follow, tokens_at, apart_words, apart_append, texts_behind, Good, Starts, Joins, good_append, starts_append, Between, GoodStart, good_parted, good_all}
use Rattle.mql_laws.proofs.Cuts.{ends, ends_mark, ends_blank, is_end}
use Rattle.mql_laws.proofs.WordTexts.{name_is, call_name_is, mark_is, op_is, string_is, span_is, number_is, number_digit, Digit, duration_digit}

-- ---- single pieces

-- pieces that may stand before anything
abbrev Always : List Piece → Type 0
Always ps = (more : List ℕ) → Apart ps more

-- pieces that may stand before what no blank begins
abbrev BeforeStart : List Piece → Type 0
BeforeStart ps = (more : List ℕ) → ends_blank more ≡ true → Apart ps more

name_good : (text : List ℕ) → IsName text → Good (named text ∷ [])
name_good text is more end = (name_is text is, end, tt)

begins_no_blank : (b : ℕ) → begins_name b ≡ true → not (is_blank b) ≡ true
begins_no_blank b is = grind (arith, nat_tests)

digit_no_blank : (b : ℕ) → is_ascii_digit b ≡ true → not (is_blank b) ≡ true
digit_no_blank b is = grind (arith, nat_tests)

first_true : (x y : Bool) → (x && y) ≡ true → x ≡ true
first_true true y is = refl
first_true false y is = absurd (cc is)

name_starts : (text : List ℕ) → IsName text → Starts (named text ∷ [])
name_starts [] is more = absurd (cc is)
name_starts (b ∷ bs) is more =
    begins_no_blank b (first_true (begins_name b) (list_all is_name_byte (b ∷ bs)) is)

digit_starts : (kind : TokenKind) (text : List ℕ) → Digit text → Starts (word kind text ∷ [])
digit_starts kind text d more = ap (λ (t : List ℕ). ends_blank ((t ++ []) ++ more)) d.parts
    ∙ digit_no_blank d.byte d.is

comma_between : Between (mark (codes ",") ∷ [])
comma_between =
    record {
      apart = λ more end. (mark_is 6 (codes ",") refl (omega arith), refl, tt);
      cuts = λ more. refl;
    }

comma_blank_between : Between (mark (codes ",") ∷ blank ∷ [])
comma_blank_between =
    record {
      apart = λ more end. (mark_is 6 (codes ",") refl (omega arith), refl, (tt, end, tt));
      cuts = λ more. refl;
    }

or_between : Between (blank ∷ named (codes "or") ∷ blank ∷ [])
or_between =
    record {
      apart = λ more end. (tt, refl, ((omega arith, refl), refl, (tt, end, tt)));
      cuts = λ more. refl;
    }

-- ---- in parentheses, braces or brackets

rounded : (ps : List Piece) → Good ps → Always (mark (codes "(") ∷ ps ++ mark (codes ")") ∷ [])
rounded ps good more = (
  mark_is 0 (codes "(") refl (omega arith),
  refl,
  apart_append ps (mark (codes ")") ∷ []) more (good (41 ∷ more) refl)
      (mark_is 1 (codes ")") refl (omega arith), refl, tt),
)

curled : (ps : List Piece) → Good ps → Always (mark (codes "{") ∷ ps ++ mark (codes "}") ∷ [])
curled ps good more = (
  mark_is 2 (codes "{") refl (omega arith),
  refl,
  apart_append ps (mark (codes "}") ∷ []) more (good (125 ∷ more) refl)
      (mark_is 3 (codes "}") refl (omega arith), refl, tt),
)

squared : (ps : List Piece) → Good ps → Always (mark (codes "[") ∷ ps ++ mark (codes "]") ∷ [])
squared ps good more = (
  mark_is 4 (codes "[") refl (omega arith),
  refl,
  apart_append ps (mark (codes "]") ∷ []) more (good (93 ∷ more) refl)
      (mark_is 5 (codes "]") refl (omega arith), refl, tt),
)

-- ---- names

names_parts : (names : List (List ℕ)) → AreNames names
    → AllByRecursion GoodStart (map (λ name. named name ∷ []) names)
names_parts [] all = tt
names_parts (name ∷ names) all =
    ((name_good name all.0, name_starts name all.0), names_parts names all.1)

names_apart : (names : List (List ℕ)) → AreNames names → Always (names_pieces names)
names_apart names all =
    rounded (parted_names names)
    (good_all (mark (codes ",") ∷ []) comma_between (map (λ name. named name ∷ []) names)
    (names_parts names all))

params_parts : (params : List Param) → AllByRecursion IsParam params
    → AllByRecursion GoodStart (map (λ p. named p.name ∷ []) params)
params_parts [] all = tt
params_parts (p ∷ ps) all =
    ((name_good p.name all.0, name_starts p.name all.0), params_parts ps all.1)

params_good : (params : List Param) → AllByRecursion IsParam params → Good (params_pieces params)
params_good [] all more end = tt
params_good (p ∷ ps) all more end =
    rounded (parted (mark (codes ",") ∷ []) (map (λ q. named q.name ∷ []) (p ∷ ps)))
    (good_all (mark (codes ",") ∷ []) comma_between (map (λ q. named q.name ∷ []) (p ∷ ps))
    (params_parts (p ∷ ps) all)) more

params_joins : (params : List Param) → Joins (params_pieces params)
params_joins [] more end = end
params_joins (p ∷ ps) more end = refl

-- ---- selectors

filter_op_is : (op : FilterOp) → IsPiece (mark (filter_op_text op))
filter_op_is EqualTo = mark_is 7 (codes "=") refl (omega arith)
filter_op_is DiffersFrom = mark_is 11 (codes "!=") refl (omega arith)
filter_op_is Matches = mark_is 8 (codes "=~") refl (omega arith)
filter_op_is MatchesNot = mark_is 9 (codes "!~") refl (omega arith)

filter_op_cuts : (op : FilterOp) (more : List ℕ) → ends (filter_op_text op ++ more) ≡ true
filter_op_cuts EqualTo more = refl
filter_op_cuts DiffersFrom more = refl
filter_op_cuts Matches more = refl
filter_op_cuts MatchesNot more = refl

filter_op_cut : (op : FilterOp) (more : List ℕ) → ends_mark more ≡ true
    → may_follow (mark (filter_op_text op)) more ≡ true
filter_op_cut EqualTo more end = end
filter_op_cut DiffersFrom more end = end
filter_op_cut Matches more end = end
filter_op_cut MatchesNot more end = end

item_good : (item : Item) → IsItem item → Good (item_pieces item)
item_good (Named at name) is more end = name_good name is more end
item_good (Is filter) is more end = (
  name_is filter.name is,
  ap ends (append_assoc (filter_op_text filter.op) (string_text filter.value ++ []) more)
      ∙ filter_op_cuts filter.op ((string_text filter.value ++ []) ++ more),
  (
    filter_op_is filter.op,
    filter_op_cut filter.op ((string_text filter.value ++ []) ++ more) refl,
    (string_is filter.value, end, tt),
  ),
)

item_starts : (item : Item) → IsItem item → Starts (item_pieces item)
item_starts (Named at name) is more = name_starts name is more
item_starts (Is filter) is more =
    starts_append (named filter.name ∷ [])
    (mark (filter_op_text filter.op) ∷ word Str (string_text filter.value) ∷ [])
    (name_starts filter.name is) more

items_parts : (items : List Item) → AllByRecursion IsItem items
    → AllByRecursion GoodStart (map item_pieces items)
items_parts [] all = tt
items_parts (item ∷ items) all =
    ((item_good item all.0, item_starts item all.0), items_parts items all.1)

list_good : (items : List Item) → AllByRecursion IsItem items → Good (list_pieces items)
list_good items all =
    good_all (mark (codes ",") ∷ []) comma_between (map item_pieces items) (items_parts items all)

full_list : (items : List Item) → HasItems items → GoodStart (list_pieces items)
full_list [] has = absurd has
full_list (item ∷ items) has = (
  list_good (item ∷ items) has,
  starts_append (item_pieces item)
      (flat_map (λ y. (mark (codes ",") ∷ []) ++ y) (map item_pieces items))
      (item_starts item has.0),
)

lists_parts : (lists : List (List Item)) → AllByRecursion HasItems lists
    → AllByRecursion GoodStart (map list_pieces lists)
lists_parts [] all = tt
lists_parts (items ∷ lists) all = (full_list items all.0, lists_parts lists all.1)

lists_good : (items : List Item) (lists : List (List Item)) → AreLists (items ∷ lists)
    → Good (parted (blank ∷ named (codes "or") ∷ blank ∷ []) (map list_pieces (items ∷ lists)))
lists_good items [] all =
    good_parted (blank ∷ named (codes "or") ∷ blank ∷ []) or_between (list_pieces items) []
    (list_good items all) tt
lists_good items (other ∷ lists) all =
    good_parted (blank ∷ named (codes "or") ∷ blank ∷ []) or_between (list_pieces items)
    (map list_pieces (other ∷ lists)) (full_list items all.0).0
    (lists_parts (other ∷ lists) all.1)

braces_good : (lists : List (List Item)) → AreLists lists → Good (braces_pieces lists)
braces_good [] all more end = tt
braces_good (items ∷ lists) all more end =
    curled (parted (blank ∷ named (codes "or") ∷ blank ∷ []) (map list_pieces (items ∷ lists)))
    (lists_good items lists all) more

braces_joins : (lists : List (List Item)) → Joins (braces_pieces lists)
braces_joins [] more end = end
braces_joins (items ∷ lists) more end = refl

select_good : (name : Option (List ℕ)) (lists : List (List Item)) → IsSelect name lists
    → Good (select_pieces name lists)
select_good None [] is = absurd is
select_good None (items ∷ lists) is = braces_good (items ∷ lists) is
select_good (Some name) lists is =
    good_append (named name ∷ []) (braces_pieces lists) (name_good name is.0)
    (braces_good lists is.1) (braces_joins lists)

select_starts : (name : Option (List ℕ)) (lists : List (List Item)) → IsSelect name lists
    → Starts (select_pieces name lists)
select_starts None [] is more = absurd is
select_starts None (items ∷ lists) is more = refl
select_starts (Some name) lists is more =
    starts_append (named name ∷ []) (braces_pieces lists) (name_starts name is.0) more

-- ---- windows, offsets and groups

span_good : (span : Span) → IsSpan span → Good (span_pieces span)
span_good span is more end = go (is_negative span)
  where
    go : (b : Bool)
        → Apart (when b (mark (codes "-") ∷ []) ++ word Duration (span_text span) ∷ []) more
    go true = (mark_is 17 (codes "-") refl (omega arith), refl, (span_is span is, end, tt))
    go false = (span_is span is, end, tt)

span_starts : (span : Span) → IsSpan span → Starts (span_pieces span)
span_starts span is more = go (is_negative span)
  where
    go : (b : Bool)
        → ends_blank
        (text_of (when b (mark (codes "-") ∷ []) ++ word Duration (span_text span) ∷ []) ++ more)
        ≡ true
    go true = refl
    go false =
        digit_starts Duration (span_text span) (duration_digit (span_text span) (span_is span is).1)
        more

window_good : (window : Option Span) → IsOptionalSpan window → Good (window_pieces window)
window_good None is more end = tt
window_good (Some span) is more end = squared (span_pieces span) (span_good span is) more

window_joins : (window : Option Span) → Joins (window_pieces window)
window_joins None more end = end
window_joins (Some span) more end = refl

offset_good : (offset : Option Span) → IsOptionalSpan offset → Good (offset_pieces offset)
offset_good None is more end = tt
offset_good (Some span) is more end = (
  tt,
  refl,
  ((omega arith, refl), refl, (tt, span_starts span is more, span_good span is more end)),
)

offset_joins : (offset : Option Span) → Joins (offset_pieces offset)
offset_joins None more end = end
offset_joins (Some span) more end = refl

group_apart : (group : Group) → AreNames group.names → Always (group_pieces group)
group_apart group is more = go group.by
  where
    go : (b : Bool)
        → Apart (named (if b then codes "by" else codes "without") ∷ blank
        ∷ names_pieces group.names) more
    go true = ((omega arith, refl), refl, (tt, refl, names_apart group.names is more))
    go false = ((omega arith, refl), refl, (tt, refl, names_apart group.names is more))

group_starts : (group : Group) → Starts (group_pieces group)
group_starts group more = go group.by
  where
    go : (b : Bool)
        → ends_blank
        (text_of
        (named (if b then codes "by" else codes "without") ∷ blank ∷ names_pieces group.names)
        ++ more) ≡ true
    go true = refl
    go false = refl

before_apart : (before after : Option Group) → IsOptionalGroup before
    → BeforeStart (before_pieces before after)
before_apart (Some group) (Some other) is more end =
    apart_append (blank ∷ group_pieces group) (blank ∷ []) more
    (tt, group_starts group (32 ∷ more), group_apart group is (32 ∷ more)) (tt, end, tt)
before_apart None None is more end = tt
before_apart None (Some other) is more end = tt
before_apart (Some group) None is more end = tt

before_joins : (before after : Option Group) → Joins (before_pieces before after)
before_joins (Some group) (Some other) more end = refl
before_joins None None more end = end
before_joins None (Some other) more end = end
before_joins (Some group) None more end = end

behind_blank : (group : Group) → AreNames group.names → Good (blank ∷ group_pieces group)
behind_blank group is more end = (tt, group_starts group more, group_apart group is more)

after_good : (before after : Option Group) → IsOptionalGroup before → IsOptionalGroup after
    → Good (after_pieces before after)
after_good None None is too more end = tt
after_good (Some group) None is too more end = behind_blank group is more end
after_good None (Some group) is too more end = behind_blank group too more end
after_good (Some other) (Some group) is too more end = behind_blank group too more end

after_joins : (before after : Option Group) → Joins (after_pieces before after)
after_joins None None more end = end
after_joins (Some group) None more end = refl
after_joins None (Some group) more end = refl
after_joins (Some other) (Some group) more end = refl

keep_good : (keep : Bool) → Good (keep_pieces keep)
keep_good true more end = (tt, refl, ((omega arith, refl), end, tt))
keep_good false more end = tt

keep_joins : (keep : Bool) → Joins (keep_pieces keep)
keep_joins true more end = refl
keep_joins false more end = end

-- ---- operators

-- whether a blank is the first of a text
abbrev blank_first : List ℕ → Bool
blank_first [] = false
blank_first (b ∷ more) = b == 32

-- pieces that begin with a blank, or none where what follows does
abbrev Blanks : List Piece → Type 0
Blanks ps = (more : List ℕ) → blank_first more ≡ true → blank_first (text_of ps ++ more) ≡ true

blank_ends : (more : List ℕ) → blank_first more ≡ true → ends more ≡ true
blank_ends [] is = absurd (cc is)
blank_ends (b ∷ more) is = ap is_end (eqb-true b 32 is)

op_cut_blank : (op : Op) (more : List ℕ) → may_follow (op_piece op) (32 ∷ more) ≡ true
op_cut_blank Default more = refl
op_cut_blank _ more = refl

op_cut : (op : Op) (more : List ℕ) → blank_first more ≡ true → may_follow (op_piece op) more ≡ true
op_cut op [] is = absurd (cc is)
op_cut op (b ∷ more) is = ap (λ c. may_follow (op_piece op) (c ∷ more)) (eqb-true b 32 is)
    ∙ op_cut_blank op more

op_starts : (op : Op) (more : List ℕ) → ends_blank (piece_text (op_piece op) ++ more) ≡ true
op_starts Default more = refl
op_starts _ more = refl

truth_apart : (truth : Bool) (more : List ℕ) → blank_first more ≡ true
    → Apart (truth_pieces truth) more
truth_apart true more is = (tt, refl, ((omega arith, refl), blank_ends more is, tt))
truth_apart false more is = tt

truth_blanks : (truth : Bool) → Blanks (truth_pieces truth)
truth_blanks true more is = refl
truth_blanks false more is = is

modifier_apart : (text : List ℕ) (names : List (List ℕ)) → IsPiece (named text)
    → ((more : List ℕ) → ends_blank (text ++ more) ≡ true) → AreNames names
    → Always (modifier text names)
modifier_apart text names is starts all more = (
  tt,
  ap ends_blank (append_assoc text (text_of (names_pieces names)) more)
      ∙ starts (text_of (names_pieces names) ++ more),
  (is, refl, names_apart names all more),
)

kind_apart : (kind : MatchKind) (names : List (List ℕ)) → AreNames names
    → Always (kind_pieces kind names)
kind_apart All names all more = tt
kind_apart On names all more =
    modifier_apart (codes "on") names (omega arith, refl) (λ rest. refl) all more
kind_apart Ignoring names all more =
    modifier_apart (codes "ignoring") names (omega arith, refl) (λ rest. refl) all more

kind_blanks : (kind : MatchKind) (names : List (List ℕ)) → Blanks (kind_pieces kind names)
kind_blanks All names more is = is
kind_blanks On names more is = refl
kind_blanks Ignoring names more is = refl

many_apart : (many : Many) (names : List (List ℕ)) → AreNames names
    → Always (many_pieces many names)
many_apart One names all more = tt
many_apart Left names all more =
    modifier_apart (codes "group_left") names (omega arith, refl) (λ rest. refl) all more
many_apart Right names all more =
    modifier_apart (codes "group_right") names (omega arith, refl) (λ rest. refl) all more

many_blanks : (many : Many) (names : List (List ℕ)) → Blanks (many_pieces many names)
many_blanks One names more is = is
many_blanks Left names more is = refl
many_blanks Right names more is = refl

matching_apart : (m : Matching) → AreNames m.names → AreNames m.extra → Always (matching_pieces m)
matching_apart m names extra more =
    apart_append (kind_pieces m.kind m.names) (many_pieces m.many m.extra) more
    (kind_apart m.kind m.names names (text_of (many_pieces m.many m.extra) ++ more))
    (many_apart m.many m.extra extra more)

matching_blanks : (m : Matching) → Blanks (matching_pieces m)
matching_blanks m more is =
    ap blank_first (texts_behind (kind_pieces m.kind m.names) (many_pieces m.many m.extra) more)
    ∙ kind_blanks m.kind m.names (text_of (many_pieces m.many m.extra) ++ more)
    (many_blanks m.many m.extra more is)

operator_apart : (op : Op) (truth : Bool) (m : Matching) → AreNames m.names → AreNames m.extra
    → BeforeStart (operator_pieces op truth m)
operator_apart op truth m names extra more end =
    let behind = text_of (matching_pieces m) ++ 32 ∷ more in
    let blanks : blank_first behind ≡ true = matching_blanks m (32 ∷ more) refl in
    apart_append (blank ∷ op_piece op ∷ truth_pieces truth ++ matching_pieces m) (blank ∷ []) more
    (apart_append (blank ∷ op_piece op ∷ truth_pieces truth) (matching_pieces m) (32 ∷ more) (
      tt,
      ap ends_blank (append_assoc (piece_text (op_piece op)) (text_of (truth_pieces truth)) behind)
          ∙ op_starts op (text_of (truth_pieces truth) ++ behind),
      (
        op_is op,
        op_cut op (text_of (truth_pieces truth) ++ behind) (truth_blanks truth behind blanks),
        truth_apart truth behind blanks,
      ),
    )
    (matching_apart m names extra (32 ∷ more)))
    (tt, end, tt)

-- ---- trees

operand_good : (least level : ℕ) (ps : List Piece) → Good ps → Good (operand least level ps)
operand_good least level ps good more end = go (nat_lt level least)
  where
    go : (b : Bool) → Apart (if b then mark (codes "(") ∷ ps ++ mark (codes ")") ∷ [] else ps) more
    go true = rounded ps good more
    go false = good more end

operand_starts : (least level : ℕ) (ps : List Piece) → Starts ps → Starts (operand least level ps)
operand_starts least level ps starts more = go (nat_lt level least)
  where
    go : (b : Bool)
        → ends_blank
        (text_of (if b then mark (codes "(") ∷ ps ++ mark (codes ")") ∷ [] else ps) ++ more) ≡ true
    go true = refl
    go false = starts more

parts_apart : (parts : List (List Piece)) → AllByRecursion GoodStart parts
    → Always (in_parentheses parts)
parts_apart parts all =
    rounded (parted (mark (codes ",") ∷ blank ∷ []) parts)
    (good_all (mark (codes ",") ∷ blank ∷ []) comma_blank_between parts all)

-- the name of a call and its arguments
called_apart : (name : List ℕ) (before after : Option Group) (parts : List (List Piece))
    → IsName name → IsOptionalGroup before → AllByRecursion GoodStart parts
    → Always (named (call_name name) ∷ before_pieces before after ++ in_parentheses parts)
called_apart name before after parts is group all more =
    let behind = text_of (in_parentheses parts) ++ more in
    apart_append (named (call_name name) ∷ before_pieces before after) (in_parentheses parts) more (
      name_is (call_name name) (call_name_is name is),
      before_joins before after behind refl,
      before_apart before after group behind refl,
    )
    (parts_apart parts all more)

binding_good : (name : List ℕ) (params : List Param) (body : List Piece) → IsName name
    → AllByRecursion IsParam params → GoodStart body
    → GoodStart (binding name params body)
binding_good name params body is all good = (
  (λ more end.
      let behind = text_of (blank ∷ mark (codes "=") ∷ blank ∷ body) ++ more in
      apart_append (named name ∷ params_pieces params) (blank ∷ mark (codes "=") ∷ blank ∷ body)
      more
      (name_is name is, params_joins params behind refl, params_good params all behind refl) (
        tt,
        refl,
        (mark_is 7 (codes "=") refl (omega arith), refl, (tt, good.1 more, good.0 more end)),
      )),
  starts_append (named name ∷ params_pieces params) (blank ∷ mark (codes "=") ∷ blank ∷ body)
      (starts_append (named name ∷ []) (params_pieces params) (name_starts name is)),
)

mutual
  tree_good : (t : Tree) → IsPrinted t → Good (pieces t)
  tree_good (number at z) is more end = (number_is z is, end, tt)
  tree_good (string at text) is more end = (string_is text, end, tt)
  tree_good (select at name lists) is more end = select_good name lists is more end
  tree_good (ranged at inner window offset) is more end =
      let part = operand 10 (level_of inner) (pieces inner) in
      good_append (part ++ window_pieces window) (offset_pieces offset)
      (good_append part (window_pieces window)
      (operand_good 10 (level_of inner) (pieces inner) (tree_good inner is.0))
      (window_good window is.1) (window_joins window))
      (offset_good offset is.2) (offset_joins offset) more end
  tree_good (call at name args before after keep) is more end =
      let front = named (call_name name) ∷ before_pieces before after
      ++ in_parentheses (arguments args) in
      let always =
      called_apart name before after (arguments args) is.0 is.2 (args_parts args is.1) in
      good_append (front ++ after_pieces before after) (keep_pieces keep)
      (good_append front (after_pieces before after) (λ rest cut. always rest)
      (after_good before after is.2 is.3) (after_joins before after))
      (keep_good keep) (keep_joins keep) more end
  tree_good (binary at op truth m left right) is more end =
      let one = operand (level_of_op op) (level_of left) (pieces left) in
      let two = operand (suc (level_of_op op)) (level_of right) (pieces right) in
      let between = operator_pieces op truth m in
      let behind = text_of two ++ more in
      apart_append (one ++ between) two more
      (apart_append one between behind
      (operand_good (level_of_op op) (level_of left) (pieces left) (tree_good left is.0)
      (text_of between ++ behind) refl)
      (operator_apart op truth m is.2 is.3 behind
      (operand_starts (suc (level_of_op op)) (level_of right) (pieces right)
      (tree_starts right is.1) more)))
      (operand_good (suc (level_of_op op)) (level_of right) (pieces right) (tree_good right is.1)
      more end)
  tree_good (negate at inner) is more end = (
    mark_is 17 (codes "-") refl (omega arith),
    refl,
    operand_good 9 (level_of inner) (pieces inner) (tree_good inner is) more end,
  )
  tree_good (with_templates at ts body) is more end =
      let part = operand 1 (level_of body) (pieces body) in
      apart_append (named (codes "WITH") ∷ blank ∷ in_parentheses (bindings ts)) (blank ∷ part) more (
        (omega arith, refl),
        refl,
        (
          tt,
          refl,
          parts_apart (bindings ts) (bindings_parts ts is.0) (text_of (blank ∷ part) ++ more),
        ),
      ) (
        tt,
        operand_starts 1 (level_of body) (pieces body) (tree_starts body is.1) more,
        operand_good 1 (level_of body) (pieces body) (tree_good body is.1) more end,
      )

  tree_starts : (t : Tree) → IsPrinted t → Starts (pieces t)
  tree_starts (number at z) is more = digit_starts Number (number_text z) (number_digit z is) more
  tree_starts (string at text) is more = refl
  tree_starts (select at name lists) is more = select_starts name lists is more
  tree_starts (ranged at inner window offset) is more =
      let part = operand 10 (level_of inner) (pieces inner) in
      starts_append (part ++ window_pieces window) (offset_pieces offset)
      (starts_append part (window_pieces window)
      (operand_starts 10 (level_of inner) (pieces inner) (tree_starts inner is.0))) more
  tree_starts (call at name args before after keep) is more =
      let front = named (call_name name) ∷ before_pieces before after in
      let inside = in_parentheses (arguments args) in
      starts_append ((front ++ inside) ++ after_pieces before after) (keep_pieces keep)
      (starts_append (front ++ inside) (after_pieces before after)
      (starts_append front inside
      (starts_append (named (call_name name) ∷ []) (before_pieces before after)
      (name_starts (call_name name) (call_name_is name is.0))))) more
  tree_starts (binary at op truth m left right) is more =
      let one = operand (level_of_op op) (level_of left) (pieces left) in
      let two = operand (suc (level_of_op op)) (level_of right) (pieces right) in
      starts_append (one ++ operator_pieces op truth m) two
      (starts_append one (operator_pieces op truth m)
      (operand_starts (level_of_op op) (level_of left) (pieces left) (tree_starts left is.0)))
      more
  tree_starts (negate at inner) is more = refl
  tree_starts (with_templates at ts body) is more = refl

  args_parts : (ts : Trees) → ArePrinted ts → AllByRecursion GoodStart (arguments ts)
  args_parts no_trees is = tt
  args_parts (next_tree t ts) is = (
    (
      operand_good 1 (level_of t) (pieces t) (tree_good t is.0),
      operand_starts 1 (level_of t) (pieces t) (tree_starts t is.0),
    ),
    args_parts ts is.1,
  )

  bindings_parts : (ts : Templates) → AreBindings ts → AllByRecursion GoodStart (bindings ts)
  bindings_parts no_templates is = tt
  bindings_parts (next_template at name params body ts) is = (
    binding_good name params (operand 1 (level_of body) (pieces body)) is.0 is.1 (
      operand_good 1 (level_of body) (pieces body) (tree_good body is.2),
      operand_starts 1 (level_of body) (pieces body) (tree_starts body is.2),
    ),
    bindings_parts ts is.3,
  )

pub prints_its_words : PrintsItsWords
prints_its_words t is = (tokens_at 0 (pieces t), apart_words (pieces t) (tree_good t is [] refl))
