-- The numbers and durations of canonical text are within their limits.
use Rattle.std.specs.Prelude.{◌≡◌, ◌⊎◌, ℕ, suc, Bool, true, false, List, [], ◌∷◌, ◌++◌, map, flat_map, codes, Option, Some, None, is_some, ℤ, nat_lt, if◌then◌else◌, ⊤}
use Rattle.std.specs.List.{AllByRecursion}
use Rattle.std.proofs.Common.{ap, ◌∙◌, ⊎_elim}
use Rattle.vm_decimal.specs.NumberText.{number_text}
use Rattle.vm_decimal.proofs.PrintedTexts.{printed_read}
use Rattle.mql_lex.specs.declared.group.Group.{Group}
use Rattle.mql_lex.specs.declared.group.Many.{Many}
use Rattle.mql_lex.specs.declared.group.Many.TheVariants.{One, Left, Right}
use Rattle.mql_lex.specs.declared.group.MatchKind.{MatchKind}
use Rattle.mql_lex.specs.declared.group.MatchKind.TheVariants.{All, On, Ignoring}
use Rattle.mql_lex.specs.declared.group.Matching.{Matching}
use Rattle.mql_lex.specs.declared.operator.Op.{Op}
use Rattle.mql_lex.specs.declared.operator.Op.TheVariants.{Default}
use Rattle.mql_lex.specs.declared.span.Span.{Span}
use Rattle.mql_lex.specs.declared.token.TokenKind.{TokenKind}
use Rattle.mql_lex.specs.declared.token.TokenKind.TheVariants.{Number, Duration}
use Rattle.mql_expr.specs.Canonical.{Piece, blank, word, mark, named, when, parted, parted_names, names_pieces, item_pieces, list_pieces, braces_pieces, select_pieces, span_pieces, window_pieces, offset_pieces, call_name, group_pieces, before_pieces, after_pieces, keep_pieces, op_piece, truth_pieces, kind_pieces, many_pieces, matching_pieces, operator_pieces, params_pieces, in_parentheses, operand, binding, pieces, arguments, bindings}
use Rattle.mql_expr.specs.Levels.{level_of, level_of_op}
use Rattle.mql_laws.specs.Lexed.{IsNumber, IsPrinted, ArePrinted, AreBindings}
use Rattle.mql_expr.specs.Spans.{is_negative, span_text}
use Rattle.mql_expr.specs.Tree.{Tree, Trees, Templates, number, string, select, ranged, call, binary, negate, with_templates, no_trees, next_tree, no_templates, next_template}
use Rattle.mql_expr.specs.declared.expr.Param.{Param}
use Rattle.mql_expr.specs.declared.item.Item.{Item}
use Rattle.mql_expr.specs.declared.item.Item.TheVariants.{Is, Named}
use Rattle.mql_lists.specs.Words.{Word}
use Rattle.mql_laws.specs.ReadBack.{IsAhead, IsBack, IsRange, IsSaid, AreSaid, AreSaidBindings}
use Rattle.mql_parse.specs.Values.{number_of, or_none, length_of, is_short}
use Rattle.mql_laws.proofs.ReadBackSpans.{ahead_says, back_says}
use Rattle.mql_laws.proofs.ReadBackWords.{Stand, no_piece, a_blank, a_word}

-- a word that no limit refuses
abbrev pub KindFits : TokenKind → List ℕ → Type 0
KindFits Number text = is_some (number_of text) ≡ true
KindFits Duration text = is_short (length_of text) ≡ true
KindFits _ text = ⊤

abbrev pub WordFits : Word → Type 0
WordFits w = KindFits w.kind w.text

abbrev PieceFits : Piece → Type 0
PieceFits blank = ⊤
PieceFits (word kind text) = KindFits kind text

abbrev AreFit : List Piece → Type 0
AreFit = AllByRecursion PieceFits

abbrev EachFit : List (List Piece) → Type 0
EachFit = AllByRecursion AreFit

fit_append : (a b : List Piece) → AreFit a → AreFit b → AreFit (a ++ b)
fit_append [] b first second = second
fit_append (p ∷ a) b first second = (first.0, fit_append a b first.1 second)

fit_behind : (between : List Piece) → AreFit between → (xs : List (List Piece)) → EachFit xs
    → AreFit (flat_map (λ y. between ++ y) xs)
fit_behind between fit [] each = tt
fit_behind between fit (x ∷ xs) each =
    fit_append (between ++ x) (flat_map (λ y. between ++ y) xs) (fit_append between x fit each.0)
    (fit_behind between fit xs each.1)

fit_parted : (between : List Piece) → AreFit between → (xs : List (List Piece)) → EachFit xs
    → AreFit (parted between xs)
fit_parted between fit [] each = tt
fit_parted between fit (x ∷ xs) each =
    fit_append x (flat_map (λ y. between ++ y) xs) each.0 (fit_behind between fit xs each.1)

-- ---- parts

fit_names : (names : List (List ℕ)) → EachFit (map (λ name. named name ∷ []) names)
fit_names [] = tt
fit_names (name ∷ names) = ((tt, tt), fit_names names)

fit_listed : (names : List (List ℕ)) → AreFit (names_pieces names)
fit_listed names = (
  tt,
  fit_append (parted_names names) (mark (codes ")") ∷ [])
      (fit_parted (mark (codes ",") ∷ []) (tt, tt) (map (λ name. named name ∷ []) names)
      (fit_names names)) (tt, tt),
)

fit_each_param : (params : List Param) → EachFit (map (λ p. named p.name ∷ []) params)
fit_each_param [] = tt
fit_each_param (p ∷ ps) = ((tt, tt), fit_each_param ps)

fit_params : (params : List Param) → AreFit (params_pieces params)
fit_params [] = tt
fit_params (p ∷ ps) = (
  tt,
  fit_append (parted (mark (codes ",") ∷ []) (map (λ q. named q.name ∷ []) (p ∷ ps)))
      (mark (codes ")") ∷ [])
      (fit_parted (mark (codes ",") ∷ []) (tt, tt) (map (λ q. named q.name ∷ []) (p ∷ ps))
      (fit_each_param (p ∷ ps))) (tt, tt),
)

fit_item : (item : Item) → AreFit (item_pieces item)
fit_item (Is filter) = (tt, (tt, (tt, tt)))
fit_item (Named at name) = (tt, tt)

fit_items : (items : List Item) → EachFit (map item_pieces items)
fit_items [] = tt
fit_items (item ∷ items) = (fit_item item, fit_items items)

fit_lists : (lists : List (List Item)) → EachFit (map list_pieces lists)
fit_lists [] = tt
fit_lists (items ∷ lists) = (
  fit_parted (mark (codes ",") ∷ []) (tt, tt) (map item_pieces items) (fit_items items),
  fit_lists lists,
)

fit_braces : (lists : List (List Item)) → AreFit (braces_pieces lists)
fit_braces [] = tt
fit_braces (items ∷ lists) = (
  tt,
  fit_append (parted (blank ∷ named (codes "or") ∷ blank ∷ []) (map list_pieces (items ∷ lists)))
      (mark (codes "}") ∷ [])
      (fit_parted (blank ∷ named (codes "or") ∷ blank ∷ []) (tt, (tt, (tt, tt)))
      (map list_pieces (items ∷ lists)) (fit_lists (items ∷ lists))) (tt, tt),
)

fit_select : (name : Option (List ℕ)) (lists : List (List Item)) → AreFit (select_pieces name lists)
fit_select None lists = fit_braces lists
fit_select (Some name) lists = (tt, fit_braces lists)

ahead_fits : (span : Span) → IsAhead span → is_short (length_of (span_text span)) ≡ true
ahead_fits span is = ap (λ s. is_short (length_of (span_text s))) is.2
    ∙ ap is_short (ahead_says is.0 is.1) ∙ is.1

back_fits : (span : Span) → IsBack span → is_short (length_of (span_text span)) ≡ true
back_fits span is = ap (λ s. is_short (length_of (span_text s))) is.2
    ∙ ap is_short (back_says is.0 is.1) ∙ is.1

fit_span : (span : Span) → is_short (length_of (span_text span)) ≡ true → AreFit (span_pieces span)
fit_span span short = go (is_negative span)
  where
    go : (b : Bool) → AreFit (when b (mark (codes "-") ∷ []) ++ word Duration (span_text span) ∷ [])
    go true = (tt, (short, tt))
    go false = (short, tt)

fit_window : (span : Span) → IsAhead span → AreFit (window_pieces (Some span))
fit_window span is = (
  tt,
  fit_append (span_pieces span) (mark (codes "]") ∷ []) (fit_span span (ahead_fits span is))
      (tt, tt),
)

fit_offset : (span : Span) → IsAhead span ⊎ IsBack span → AreFit (offset_pieces (Some span))
fit_offset span is = (tt, (tt, (tt, fit_span span (⊎_elim (ahead_fits span) (back_fits span) is))))

fit_range : (window offset : Option Span) → IsRange window offset → AreFit (window_pieces window)
    × AreFit (offset_pieces offset)
fit_range None None is = absurd is
fit_range None (Some span) is = (tt, fit_offset span is)
fit_range (Some window) None is = (fit_window window is, tt)
fit_range (Some window) (Some span) is = (fit_window window is.0, fit_offset span is.1)

fit_group : (group : Group) → AreFit (group_pieces group)
fit_group group = (tt, (tt, fit_listed group.names))

fit_before : (before after : Option Group) → AreFit (before_pieces before after)
fit_before (Some group) (Some other) =
    fit_append (blank ∷ group_pieces group) (blank ∷ []) (tt, fit_group group) (tt, tt)
fit_before None None = tt
fit_before None (Some other) = tt
fit_before (Some group) None = tt

fit_after : (before after : Option Group) → AreFit (after_pieces before after)
fit_after None None = tt
fit_after (Some group) None = (tt, fit_group group)
fit_after None (Some group) = (tt, fit_group group)
fit_after (Some other) (Some group) = (tt, fit_group group)

fit_keep : (keep : Bool) → AreFit (keep_pieces keep)
fit_keep true = (tt, (tt, tt))
fit_keep false = tt

fit_op : (op : Op) → PieceFits (op_piece op)
fit_op Default = tt
fit_op _ = tt

fit_truth : (truth : Bool) → AreFit (truth_pieces truth)
fit_truth true = (tt, (tt, tt))
fit_truth false = tt

fit_kind : (kind : MatchKind) (names : List (List ℕ)) → AreFit (kind_pieces kind names)
fit_kind All names = tt
fit_kind On names = (tt, (tt, fit_listed names))
fit_kind Ignoring names = (tt, (tt, fit_listed names))

fit_many : (many : Many) (names : List (List ℕ)) → AreFit (many_pieces many names)
fit_many One names = tt
fit_many Left names = (tt, (tt, fit_listed names))
fit_many Right names = (tt, (tt, fit_listed names))

fit_operator : (op : Op) (truth : Bool) (m : Matching) → AreFit (operator_pieces op truth m)
fit_operator op truth m =
    fit_append (blank ∷ op_piece op ∷ (truth_pieces truth ++ matching_pieces m)) (blank ∷ []) (
      tt,
      (
        fit_op op,
        fit_append (truth_pieces truth) (matching_pieces m) (fit_truth truth)
            (fit_append (kind_pieces m.kind m.names) (many_pieces m.many m.extra)
            (fit_kind m.kind m.names) (fit_many m.many m.extra)),
      ),
    ) (tt, tt)

-- ---- trees

fit_operand : (least level : ℕ) (ps : List Piece) → AreFit ps → AreFit (operand least level ps)
fit_operand least level ps fit = go (nat_lt level least)
  where
    go : (b : Bool) → AreFit (if b then mark (codes "(") ∷ ps ++ mark (codes ")") ∷ [] else ps)
    go true = (tt, fit_append ps (mark (codes ")") ∷ []) fit (tt, tt))
    go false = fit

fit_rounds : (parts : List (List Piece)) → EachFit parts → AreFit (in_parentheses parts)
fit_rounds parts each = (
  tt,
  fit_append (parted (mark (codes ",") ∷ blank ∷ []) parts) (mark (codes ")") ∷ [])
      (fit_parted (mark (codes ",") ∷ blank ∷ []) (tt, (tt, tt)) parts each) (tt, tt),
)

number_fits : (z : ℤ) → IsNumber z → is_some (number_of (number_text z)) ≡ true
unfolding number_of
number_fits z is = ap (λ r. is_some (or_none r)) (printed_read z is.0)

fit_binding : (name : List ℕ) (params : List Param) (body : List Piece) → AreFit body
    → AreFit (binding name params body)
fit_binding name params body fit =
    fit_append (named name ∷ params_pieces params) (blank ∷ mark (codes "=") ∷ blank ∷ body)
    (tt, fit_params params) (tt, (tt, (tt, fit)))

mutual
  tree_fits : (t : Tree) → IsPrinted t → IsSaid t → AreFit (pieces t)
  tree_fits (number at z) is said = (number_fits z is, tt)
  tree_fits (string at text) is said = (tt, tt)
  tree_fits (select at name lists) is said = fit_select name lists
  tree_fits (ranged at inner window offset) is said =
      let part = operand 10 (level_of inner) (pieces inner) in
      let range = fit_range window offset said.1 in
      fit_append (part ++ window_pieces window) (offset_pieces offset)
      (fit_append part (window_pieces window)
      (fit_operand 10 (level_of inner) (pieces inner) (tree_fits inner is.0 said.0)) range.0)
      range.1
  tree_fits (call at name args before after keep) is said =
      let front = named (call_name name) ∷ before_pieces before after in
      let inside = in_parentheses (arguments args) in
      fit_append ((front ++ inside) ++ after_pieces before after) (keep_pieces keep)
      (fit_append (front ++ inside) (after_pieces before after)
      (fit_append front inside (tt, fit_before before after)
      (fit_rounds (arguments args) (args_fit args is.1 said.1))) (fit_after before after))
      (fit_keep keep)
  tree_fits (binary at op truth m left right) is said =
      let one = operand (level_of_op op) (level_of left) (pieces left) in
      let two = operand (suc (level_of_op op)) (level_of right) (pieces right) in
      fit_append (one ++ operator_pieces op truth m) two
      (fit_append one (operator_pieces op truth m)
      (fit_operand (level_of_op op) (level_of left) (pieces left) (tree_fits left is.0 said.0))
      (fit_operator op truth m))
      (fit_operand (suc (level_of_op op)) (level_of right) (pieces right)
      (tree_fits right is.1 said.1))
  tree_fits (negate at inner) is said =
      (tt, fit_operand 9 (level_of inner) (pieces inner) (tree_fits inner is said))
  tree_fits (with_templates at ts body) is said =
      fit_append (named (codes "WITH") ∷ blank ∷ in_parentheses (bindings ts))
      (blank ∷ operand 1 (level_of body) (pieces body))
      (tt, (tt, fit_rounds (bindings ts) (bindings_fit ts is.0 said.0)))
      (tt, fit_operand 1 (level_of body) (pieces body) (tree_fits body is.1 said.1))

  args_fit : (ts : Trees) → ArePrinted ts → AreSaid ts → EachFit (arguments ts)
  args_fit no_trees is said = tt
  args_fit (next_tree t ts) is said =
      (fit_operand 1 (level_of t) (pieces t) (tree_fits t is.0 said.0), args_fit ts is.1 said.1)

  bindings_fit : (ts : Templates) → AreBindings ts → AreSaidBindings ts → EachFit (bindings ts)
  bindings_fit no_templates is said = tt
  bindings_fit (next_template at name params body ts) is said = (
    fit_binding name params (operand 1 (level_of body) (pieces body))
        (fit_operand 1 (level_of body) (pieces body) (tree_fits body is.2 said.2)),
    bindings_fit ts is.3 said.3,
  )

-- ---- words

stand_fits : (ps : List Piece) (ws rest : List Word) → Stand ps ws rest → AreFit ps
    → AllByRecursion WordFits rest → AllByRecursion WordFits ws
stand_fits [] ws rest no_piece fit later = later
stand_fits (blank ∷ ps) ws rest (a_blank {ws = text} more) fit later =
    stand_fits ps text rest more fit.1 later
stand_fits (word kind spelling ∷ ps) ws rest (a_word {ws = text} at more) fit later =
    (fit.0, stand_fits ps text rest more fit.1 later)

pub words_fit : (t : Tree) → IsPrinted t → IsSaid t → (words : List Word)
    → Stand (pieces t) words [] → AllByRecursion WordFits words
words_fit t is said words all = stand_fits (pieces t) words [] all (tree_fits t is said) tt
