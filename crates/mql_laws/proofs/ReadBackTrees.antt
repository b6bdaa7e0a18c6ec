-- What is printed of a tree is read as the same tree.
use Rattle.std.specs.Prelude.{◌≡◌, ℕ, suc, ◌≤◌, Bool, true, false, List, [], ◌∷◌, ◌++◌, map, flat_map, codes, Option, Some, None, ℤ}
use Rattle.std.specs.List.{AllByRecursion}
use Rattle.std.proofs.Common.{refl, ap, ◌∙◌, arith}
use Rattle.vm_decimal.specs.NumberText.{number_text}
use Rattle.mql_lex.specs.declared.group.Group.{Group}
use Rattle.mql_lex.specs.declared.group.Matching.{Matching}
use Rattle.mql_lex.specs.declared.operator.Op.{Op}
use Rattle.mql_lex.specs.declared.span.Span.{Span}
use Rattle.mql_lex.specs.declared.token.TokenKind.TheVariants.{Name, Number, Str, Mark}
use Rattle.mql_expr.specs.Canonical.{Piece, blank, mark, parted, string_text, window_pieces, offset_pieces, call_name, before_pieces, after_pieces, keep_pieces, operator_pieces, params_pieces, in_parentheses, operand, binding, pieces, arguments, bindings}
use Rattle.mql_expr.specs.Levels.{level_of, level_of_op}
use Rattle.mql_laws.specs.Lexed.{IsNumber, IsPrinted, ArePrinted, AreBindings}
use Rattle.mql_expr.specs.Tree.{Tree, Trees, Templates, number, string, select, ranged, call, binary, negate, with_templates, no_trees, next_tree, no_templates, next_template, trees_of, TreeTemplate, templates_listed}
use Rattle.mql_expr.specs.declared.expr.Param.{Param}
use Rattle.mql_lists.specs.Values.{value_of}
use Rattle.mql_lists.specs.Words.{Word}
use Rattle.mql_lists.specs.declared.class.Class.{Class}
use Rattle.mql_parse.specs.Grammar.{Is, is_comparison, Reads, looser, an_operator, a_minus, a_postfix, a_with, a_number, a_string, a_call, Args, no_args, last_arg, next_arg, Template, a_template, Templates as GrammarTemplates, no_template, last_template, more_templates, Spells, GroupIfAny, KeepIfAny}
use Rattle.mql_laws.specs.ReadBack.{Same, placeless, placeless_trees, placeless_templates, placeless_param, first_group, last_group, IsFree, IsRange, IsMatching, IsSaid, AreSaid, AreSaidBindings}
use Rattle.mql_parse.specs.Values.{number_of, or_zero}
use Rattle.mql_laws.proofs.ReadBackItems.{string_says, select_back}
use Rattle.mql_laws.proofs.ReadBackNames.{call_name_free, call_name_again}
use Rattle.mql_laws.proofs.ReadBackWords.{Stand, no_piece, a_blank, a_word, word_at, split, is_open, is_close, is_comma, is_assign, is_minus, is_with, ParamsRead, params_back, before_back, after_back, keep_back, OperatorRead, operator_read, operator_back}
use Rattle.mql_laws.proofs.ReadBackLevels.{TreeRead, Back, at_any, few_levels, some_level, LevelRead, operand_back, primary_back}
use Rattle.mql_laws.proofs.ReadBackRanges.{outside, number_says, postfix_back}

-- ---- nodes of one part or two

number_back : (place : ℕ) (z : ℤ) → IsNumber z → Back (number place z)
number_back place z is ws rest (a_word at no_piece) = record {
  tree = number at (or_zero (number_of (number_text z)));
  same = ap (number 0) (number_says z is.0);
  reads = λ n. a_number (word_at at Number (number_text z)) refl (outside at);
}

string_back : (place : ℕ) (text : List ℕ) → Back (string place text)
string_back place text ws rest (a_word at no_piece) = record {
  tree = string at (value_of (string_text text));
  same = ap (string 0) (string_says text);
  reads = λ n. a_string (word_at at Str (string_text text)) refl;
}

negate_back : (place : ℕ) (inner : Tree) → Back inner → Back (negate place inner)
negate_back place inner inside ws rest (a_word {ws = more} at all) =
    let r = operand_back inner inside 9 (omega arith) (omega arith) more rest all in
    record {
      tree = negate at r.tree;
      same = ap (negate 0) r.same;
      reads = λ n.
          a_minus (word_at at Mark (codes "-")) (is_minus at) (outside at)
          (looser (r.reads (suc n)));
    }

ranged_back : (place : ℕ) (inner : Tree) (window offset : Option Span) → Back inner
    → IsRange window offset → Back (ranged place inner window offset)
ranged_back place inner window offset inside is ws rest all =
    let part = operand 10 (level_of inner) (pieces inner) in
    let s = split (part ++ window_pieces window) (offset_pieces offset) ws rest all in
    let first = split part (window_pieces window) ws s.mid s.front in
    let r = primary_back inner inside ws first.mid first.front in
    let behind = postfix_back window offset is first.mid s.mid rest first.behind s.behind in
    record {
      tree = ranged behind.at r.tree window offset;
      same = ap (λ x. ranged 0 x window offset) r.same;
      reads = λ n. a_postfix (r.reads n) behind.reads;
    }

module _ (place : ℕ) (op : Op) (truth : Bool) (m : Matching) (left right : Tree) where
  joined : (ws mid behind rest : List Word) → LevelRead left (level_of_op op) ws mid
      → OperatorRead op truth m behind mid
      → LevelRead right (suc (level_of_op op)) behind rest
      → TreeRead (binary place op truth m left right) ws rest
  joined ws mid behind rest a (operator_read w is word_behind mods) b = record {
    tree = binary w.at op truth m a.tree b.tree;
    same = ap (λ x. binary 0 op truth m x (placeless b.tree)) a.same
        ∙ ap (binary 0 op truth m (placeless left)) b.same;
    reads = λ n. an_operator w op (a.reads n) is word_behind mods (b.reads n);
  }

  binary_back : Back left → Back right → (truth ≡ true → is_comparison op ≡ true)
      → IsMatching m.kind m.names m.many m.extra
      → Back (binary place op truth m left right)
  binary_back on_left on_right compares is ws rest all =
      let level = level_of_op op in
      let low : level ≤ 8 = few_levels op in
      let one = operand level (level_of left) (pieces left) in
      let two = operand (suc level) (level_of right) (pieces right) in
      let s = split (one ++ operator_pieces op truth m) two ws rest all in
      let first = split one (operator_pieces op truth m) ws s.mid s.front in
      joined ws first.mid s.mid rest
      (operand_back left on_left level (omega arith) (some_level op) ws first.mid first.front)
      (operator_back op truth m compares is first.mid s.mid first.behind)
      (operand_back right on_right (suc level) (omega arith) (omega arith) s.mid rest s.behind)

-- ---- arguments

abbrev comma : List Piece
comma = mark (codes ",") ∷ blank ∷ []

abbrev behind_commas : List (List Piece) → List Piece
behind_commas parts = flat_map (λ y. comma ++ y) parts

-- the arguments after the first
record ArgsBehind (ts : Trees) (ws rest : List Word) : Type 0 where
  found : List Tree
  same : placeless_trees (trees_of found) ≡ placeless_trees ts
  onto : (n : ℕ) (text : List Word) (t : Tree) → Reads 0 n 0 false text ws t
      → Args 0 n text rest (t ∷ found)

abbrev BackBehind : Trees → Type 0
BackBehind ts = (ws rest : List Word) → Stand (behind_commas (arguments ts)) ws rest
    → ArgsBehind ts ws rest

no_args_behind : BackBehind no_trees
no_args_behind ws rest no_piece =
    record { found = []; same = refl; onto = λ n text t reads. last_arg reads }

more_args_behind : (t : Tree) (ts : Trees) → Back t → BackBehind ts → BackBehind (next_tree t ts)
more_args_behind t ts inside later ws rest (a_word {ws = more} at (a_blank all)) =
    let s = split (operand 1 (level_of t) (pieces t)) (behind_commas (arguments ts)) more rest
    all in
    let r = operand_back t inside 1 (omega arith) (omega arith) more s.mid s.front in
    let others = later s.mid rest s.behind in
    record {
      found = r.tree ∷ others.found;
      same = ap (λ x. next_tree x (placeless_trees (trees_of others.found))) r.same
          ∙ ap (next_tree (placeless t)) others.same;
      onto = λ n text u reads.
          next_arg (word_at at Mark (codes ",")) reads (is_comma at)
          (others.onto n more r.tree (looser (r.reads n)));
    }

record AllArgs (ts : Trees) (ws rest : List Word) : Type 0 where
  found : List Tree
  same : placeless_trees (trees_of found) ≡ placeless_trees ts
  reads : (n : ℕ) → Args 0 n ws rest found

abbrev BackArgs : Trees → Type 0
BackArgs ts = (ws rest : List Word) → Stand (parted comma (arguments ts)) ws rest
    → AllArgs ts ws rest

without_args : BackArgs no_trees
without_args ws rest no_piece = record { found = []; same = refl; reads = λ n. no_args }

with_args : (t : Tree) (ts : Trees) → Back t → BackBehind ts → BackArgs (next_tree t ts)
with_args t ts inside later ws rest all =
    let s = split (operand 1 (level_of t) (pieces t)) (behind_commas (arguments ts)) ws rest all in
    let r = operand_back t inside 1 (omega arith) (omega arith) ws s.mid s.front in
    let others = later s.mid rest s.behind in
    record {
      found = r.tree ∷ others.found;
      same = ap (λ x. next_tree x (placeless_trees (trees_of others.found))) r.same
          ∙ ap (next_tree (placeless t)) others.same;
      reads = λ n. others.onto n ws r.tree (looser (r.reads n));
    }

-- in parentheses
data ArgsRead (ts : Trees) (rest : List Word) : List Word → Type 0 where
  args_read : {inner : List Word} (p e : Word) (found : List Tree)
      → placeless_trees (trees_of found) ≡ placeless_trees ts → Is Class.OpenRound p
      → Is Class.CloseRound e → ((n : ℕ) → Args 0 n inner (e ∷ rest) found)
      → ArgsRead ts rest (p ∷ inner)

args_end : (ts : Trees) (at : ℕ) (inner mid rest : List Word) → AllArgs ts inner mid
    → Stand (mark (codes ")") ∷ []) mid rest
    → ArgsRead ts rest (word_at at Mark (codes "(") ∷ inner)
args_end ts at inner mid rest all (a_word end no_piece) =
    args_read (word_at at Mark (codes "(")) (word_at end Mark (codes ")")) all.found all.same
    (is_open at) (is_close end) all.reads

args_back : (ts : Trees) → BackArgs ts → (ws rest : List Word)
    → Stand (in_parentheses (arguments ts)) ws rest → ArgsRead ts rest ws
args_back ts inside ws rest (a_word {ws = more} at all) =
    let s = split (parted comma (arguments ts)) (mark (codes ")") ∷ []) more rest all in
    args_end ts at more s.mid rest (inside more s.mid s.front) s.behind

-- ---- calls

first_again : (before after : Option Group)
    → first_group (first_group before after) (last_group before after) ≡ first_group before after
first_again None None = refl
first_again None (Some group) = refl
first_again (Some group) None = refl
first_again (Some group) (Some other) = refl

last_again : (before after : Option Group)
    → last_group (first_group before after) (last_group before after) ≡ last_group before after
last_again None None = refl
last_again None (Some group) = refl
last_again (Some group) None = refl
last_again (Some group) (Some other) = refl

module _ (place : ℕ) (name : List ℕ) (ts : Trees) (before after : Option Group) (keep : Bool)
    (free : IsFree name) where
  called : (at : ℕ) (text mid behind last rest : List Word)
      → GroupIfAny text mid (first_group before after) → ArgsRead ts behind mid
      → GroupIfAny behind last (last_group before after) → KeepIfAny last rest keep
      → TreeRead (call place name ts before after keep) (word_at at Name (call_name name) ∷ text)
      rest
  called at text mid behind last rest group (args_read p e found same opens closes reads) other
      keeps =
      let front = first_group before after in
      let back_group = last_group before after in
      record {
        tree = call at (call_name name) (trees_of found) front back_group keep;
        same =
            ap (λ x.
            call 0 x (placeless_trees (trees_of found)) (first_group front back_group)
            (last_group front back_group) keep) (call_name_again name)
            ∙ ap (λ x.
            call 0 (call_name name) x (first_group front back_group) (last_group front back_group)
            keep) same
            ∙ ap (λ x.
            call 0 (call_name name) (placeless_trees ts) x (last_group front back_group) keep)
            (first_again before after)
            ∙ ap (λ x. call 0 (call_name name) (placeless_trees ts) front x keep)
            (last_again before after);
        reads = λ n.
            a_call (word_at at Name (call_name name)) p e (call_name_free name free) group opens
            (outside p.at) (reads (suc n)) closes other keeps;
      }

  call_back : BackArgs ts → Back (call place name ts before after keep)
  call_back inside ws rest (a_word {ws = more} at all) =
      let first = before_pieces before after in
      let args = in_parentheses (arguments ts) in
      let s = split ((first ++ args) ++ after_pieces before after) (keep_pieces keep) more rest
      all in
      let a = split (first ++ args) (after_pieces before after) more s.mid s.front in
      let b = split first args more a.mid a.front in
      called at more b.mid a.mid s.mid rest (before_back before after more b.mid b.front)
      (args_back ts inside b.mid a.mid b.behind)
      (after_back before after a.mid s.mid a.behind) (keep_back keep s.mid rest s.behind)

-- ---- templates

-- one template
record TemplateRead (name : List ℕ) (params : List Param) (body : Tree) (ws rest : List Word) :
    Type 0 where
  found : TreeTemplate
  same : (others more : Templates) → placeless_templates others ≡ more
      → placeless_templates (next_template found.at found.name found.params found.body others)
      ≡ next_template 0 name (map placeless_param params) (placeless body) more
  reads : (n : ℕ) → Template 0 n ws rest found

abbrev binding_pieces : List ℕ → List Param → Tree → List Piece
binding_pieces name params body = binding name params (operand 1 (level_of body) (pieces body))

module _ (name : List ℕ) (params : List Param) (body : Tree) (inside : Back body)
    (free : IsFree name) (all_free : AllByRecursion (λ p. IsFree p.name) params) where
  bound : (at : ℕ) (more mid rest : List Word) → ParamsRead params more mid
      → Stand (blank ∷ mark (codes "=") ∷ blank ∷ operand 1 (level_of body) (pieces body)) mid rest
      → TemplateRead name params body (word_at at Name name ∷ more) rest
  bound at more mid rest ps (a_blank (a_word {ws = behind} e (a_blank stands))) =
      let r = operand_back body inside 1 (omega arith) (omega arith) behind rest stands in
      record {
        found = record { at = at; name = name; params = ps.found; body = r.tree };
        same = λ others later is.
            ap (λ x. next_template 0 name x (placeless r.tree) (placeless_templates others)) ps.same
            ∙ ap (λ x.
            next_template 0 name (map placeless_param params) x (placeless_templates others)) r.same
            ∙ ap (next_template 0 name (map placeless_param params) (placeless body)) is;
        reads = λ n.
            a_template (word_at at Name name) (word_at e Mark (codes "=")) free ps.reads
            (is_assign e) (looser (r.reads n));
      }

  template_back : (ws rest : List Word) → Stand (binding_pieces name params body) ws rest
      → TemplateRead name params body ws rest
  template_back ws rest (a_word {ws = more} at all) =
      let s = split (params_pieces params)
      (blank ∷ mark (codes "=") ∷ blank ∷ operand 1 (level_of body) (pieces body)) more rest
      all in
      bound at more s.mid rest (params_back params all_free more s.mid s.front) s.behind

record TemplatesBehind (ts : Templates) (ws rest : List Word) : Type 0 where
  found : List TreeTemplate
  same : placeless_templates (templates_listed found) ≡ placeless_templates ts
  onto : (n : ℕ) (text : List Word) (t : TreeTemplate) → Template 0 n text ws t
      → GrammarTemplates 0 n text rest (t ∷ found)

abbrev BackBindings : Templates → Type 0
BackBindings ts = (ws rest : List Word) → Stand (behind_commas (bindings ts)) ws rest
    → TemplatesBehind ts ws rest

no_more_templates : BackBindings no_templates
no_more_templates ws rest no_piece =
    record { found = []; same = refl; onto = λ n text t reads. last_template reads }

record AllTemplates (ts : Templates) (ws rest : List Word) : Type 0 where
  found : List TreeTemplate
  same : placeless_templates (templates_listed found) ≡ placeless_templates ts
  reads : (n : ℕ) → GrammarTemplates 0 n ws rest found

abbrev BackTemplates : Templates → Type 0
BackTemplates ts = (ws rest : List Word) → Stand (parted comma (bindings ts)) ws rest
    → AllTemplates ts ws rest

without_templates : BackTemplates no_templates
without_templates ws rest no_piece = record { found = []; same = refl; reads = λ n. no_template }

module _ (place : ℕ) (name : List ℕ) (params : List Param) (body : Tree) (ts : Templates)
    (inside : Back body) (later : BackBindings ts)
    (free : IsFree name) (all_free : AllByRecursion (λ p. IsFree p.name) params) where
  more_templates_behind : BackBindings (next_template place name params body ts)
  more_templates_behind ws rest (a_word {ws = more} at (a_blank all)) =
      let s = split (binding_pieces name params body) (behind_commas (bindings ts)) more rest all in
      let r = template_back name params body inside free all_free more s.mid s.front in
      let others = later s.mid rest s.behind in
      record {
        found = r.found ∷ others.found;
        same = r.same (templates_listed others.found) (placeless_templates ts) others.same;
        onto = λ n text u reads.
            more_templates (word_at at Mark (codes ",")) reads (is_comma at)
            (others.onto n more r.found (r.reads n));
      }

  with_some_templates : BackTemplates (next_template place name params body ts)
  with_some_templates ws rest all =
      let s = split (binding_pieces name params body) (behind_commas (bindings ts)) ws rest all in
      let r = template_back name params body inside free all_free ws s.mid s.front in
      let others = later s.mid rest s.behind in
      record {
        found = r.found ∷ others.found;
        same = r.same (templates_listed others.found) (placeless_templates ts) others.same;
        reads = λ n. others.onto n ws r.found (r.reads n);
      }

module _ (place : ℕ) (ts : Templates) (body : Tree) (inside : BackTemplates ts)
    (in_body : Back body) where
  scoped : (at p : ℕ) (inner mid behind rest : List Word) → AllTemplates ts inner mid
      → Stand (mark (codes ")") ∷ []) mid behind
      → LevelRead body 1 behind rest
      → TreeRead (with_templates place ts body)
      (word_at at Name (codes "WITH") ∷ word_at p Mark (codes "(") ∷ inner) rest
  scoped at p inner mid behind rest all (a_word e no_piece) r = record {
    tree = with_templates at (templates_listed all.found) r.tree;
    same = ap (λ x. with_templates 0 x (placeless r.tree)) all.same
        ∙ ap (with_templates 0 (placeless_templates ts)) r.same;
    reads = λ n.
        a_with (word_at at Name (codes "WITH")) (word_at p Mark (codes "("))
        (word_at e Mark (codes ")")) (is_with at) (is_open p) (outside p)
        (all.reads (suc n)) (is_close e) (looser (r.reads n));
  }

  with_body : (at : ℕ) (more mid rest : List Word) → Stand (in_parentheses (bindings ts)) more mid
      → Stand (blank ∷ operand 1 (level_of body) (pieces body)) mid rest
      → TreeRead (with_templates place ts body) (word_at at Name (codes "WITH") ∷ more) rest
  with_body at more mid rest (a_word {ws = inner} p all) (a_blank stands) =
      let s = split (parted comma (bindings ts)) (mark (codes ")") ∷ []) inner mid all in
      scoped at p inner s.mid mid rest (inside inner s.mid s.front) s.behind
      (operand_back body in_body 1 (omega arith) (omega arith) mid rest stands)

  with_back : Back (with_templates place ts body)
  with_back ws rest (a_word {ws = more} at (a_blank all)) =
      let s = split (in_parentheses (bindings ts)) (blank ∷ operand 1 (level_of body) (pieces body))
      more rest all in
      with_body at more s.mid rest s.front s.behind

-- ---- all trees

mutual
  tree_back : (t : Tree) → IsPrinted t → IsSaid t → Back t
  tree_back (number at z) is said = number_back at z is
  tree_back (string at text) is said = string_back at text
  tree_back (select at name lists) is said = λ ws rest all.
      let r = select_back at name lists is said.0 said.1 ws rest all in
      record { tree = r.tree; same = r.same; reads = r.reads }
  tree_back (ranged at inner window offset) is said =
      ranged_back at inner window offset (tree_back inner is.0 said.0) said.1
  tree_back (call at name args before after keep) is said =
      call_back at name args before after keep said.0 (args_all args is.1 said.1)
  tree_back (binary at op truth m left right) is said =
      binary_back at op truth m left right (tree_back left is.0 said.0)
      (tree_back right is.1 said.1) said.2 said.3
  tree_back (negate at inner) is said = negate_back at inner (tree_back inner is said)
  tree_back (with_templates at ts body) is said =
      with_back at ts body (templates_all ts is.0 said.0) (tree_back body is.1 said.1)

  args_all : (ts : Trees) → ArePrinted ts → AreSaid ts → BackArgs ts
  args_all no_trees is said = without_args
  args_all (next_tree t ts) is said =
      with_args t ts (tree_back t is.0 said.0) (args_behind ts is.1 said.1)

  args_behind : (ts : Trees) → ArePrinted ts → AreSaid ts → BackBehind ts
  args_behind no_trees is said = no_args_behind
  args_behind (next_tree t ts) is said =
      more_args_behind t ts (tree_back t is.0 said.0) (args_behind ts is.1 said.1)

  templates_all : (ts : Templates) → AreBindings ts → AreSaidBindings ts → BackTemplates ts
  templates_all no_templates is said = without_templates
  templates_all (next_template at name params body ts) is said =
      with_some_templates at name params body ts (tree_back body is.2 said.2)
      (templates_behind ts is.3 said.3) said.0 said.1

  templates_behind : (ts : Templates) → AreBindings ts → AreSaidBindings ts → BackBindings ts
  templates_behind no_templates is said = no_more_templates
  templates_behind (next_template at name params body ts) is said =
      more_templates_behind at name params body ts (tree_back body is.2 said.2)
      (templates_behind ts is.3 said.3) said.0 said.1

-- the words of a tree's pieces spell the tree
pub record Spelled (t : Tree) (words : List Word) : Type 0 where
  pub tree : Tree
  pub same : Same tree t
  pub spells : Spells 0 words tree

pub words_back : (t : Tree) → IsPrinted t → IsSaid t → (words : List Word)
    → Stand (pieces t) words [] → Spelled t words
words_back t is said words all =
    let r = tree_back t is said words [] all in
    let any = at_any t 0 words [] r.tree (r.reads 0) in
    record { tree = r.tree; same = r.same; spells = (any.open_end, any.reads) }
