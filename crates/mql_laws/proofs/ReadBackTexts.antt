-- The same query has the same canonical text, and no other has it.
use Rattle.std.specs.Prelude.{◌≡◌, ℕ, suc, List, [], ◌∷◌, ◌++◌, map, codes, Option, Some, None}
use Rattle.std.specs.Option.{option_map_or}
use Rattle.std.proofs.Common.{refl, ap, sym, subst, ◌∙◌}
use Rattle.mql_lex.specs.Tokens.{AreTokens}
use Rattle.mql_lex.specs.declared.group.Group.{Group}
use Rattle.mql_lex.specs.declared.token.Token.{Token}
use Rattle.mql_lex.proofs.Outcomes.{one_list}
use Rattle.mql_expr.specs.Canonical.{blank, mark, named, text_of, parted, item_pieces, list_pieces, braces_pieces, window_pieces, offset_pieces, call_name, before_pieces, after_pieces, keep_pieces, operator_pieces, params_pieces, in_parentheses, operand, binding, pieces, arguments, bindings, canonical}
use Rattle.mql_expr.specs.Levels.{level_of, level_of_op}
use Rattle.mql_expr.specs.Tree.{Tree, Trees, Templates, number, string, select, ranged, call, binary, negate, with_templates, no_trees, next_tree, no_templates, next_template}
use Rattle.mql_expr.specs.declared.expr.Param.{Param}
use Rattle.mql_expr.specs.declared.item.Item.{Item}
use Rattle.mql_expr.specs.declared.item.Item.TheVariants.{Is, Named}
use Rattle.mql_lists.specs.Words.{words_of}
use Rattle.mql_parse.specs.Grammar.{Spells}
use Rattle.mql_laws.specs.ReadBack.{Same, placeless, placeless_trees, placeless_templates, placeless_item, placeless_param, first_group, last_group, ReadsBack, SameText, OneQuery}
use Rattle.mql_laws.proofs.ReadBackLaws.{said_is_read}
use Rattle.mql_laws.proofs.ReadBackNames.{call_name_again}
use Rattle.mql_parse.proofs.ReadingLaws.{one_tree}

-- ---- parts

same_item : (item : Item) → item_pieces (placeless_item item) ≡ item_pieces item
same_item (Is filter) = refl
same_item (Named at name) = refl

same_items : (items : List Item)
    → map item_pieces (map placeless_item items) ≡ map item_pieces items
same_items [] = refl
same_items (item ∷ items) =
    ap (λ x. x ∷ map item_pieces (map placeless_item items)) (same_item item)
    ∙ ap (λ xs. item_pieces item ∷ xs) (same_items items)

same_list : (items : List Item) → list_pieces (map placeless_item items) ≡ list_pieces items
same_list items = ap (parted (mark (codes ",") ∷ [])) (same_items items)

same_lists : (lists : List (List Item))
    → map list_pieces (map (map placeless_item) lists) ≡ map list_pieces lists
same_lists [] = refl
same_lists (items ∷ lists) =
    ap (λ x. x ∷ map list_pieces (map (map placeless_item) lists)) (same_list items)
    ∙ ap (λ xs. list_pieces items ∷ xs) (same_lists lists)

same_braces : (lists : List (List Item))
    → braces_pieces (map (map placeless_item) lists) ≡ braces_pieces lists
same_braces [] = refl
same_braces (items ∷ lists) =
    ap (λ xs. mark (codes "{") ∷ parted (blank ∷ named (codes "or") ∷ blank ∷ []) xs
    ++ mark (codes "}") ∷ []) (same_lists (items ∷ lists))

same_each_param : (params : List Param)
    → map (λ p. named p.name ∷ []) (map placeless_param params)
    ≡ map (λ p. named p.name ∷ []) params
same_each_param [] = refl
same_each_param (p ∷ ps) = ap (λ xs. (named p.name ∷ []) ∷ xs) (same_each_param ps)

same_params : (params : List Param)
    → params_pieces (map placeless_param params) ≡ params_pieces params
same_params [] = refl
same_params (p ∷ ps) =
    ap (λ xs. mark (codes "(") ∷ parted (mark (codes ",") ∷ []) xs ++ mark (codes ")") ∷ [])
    (same_each_param (p ∷ ps))

same_before : (before after : Option Group)
    → before_pieces (first_group before after) (last_group before after)
    ≡ before_pieces before after
same_before None None = refl
same_before None (Some group) = refl
same_before (Some group) None = refl
same_before (Some group) (Some other) = refl

same_after : (before after : Option Group)
    → after_pieces (first_group before after) (last_group before after) ≡ after_pieces before after
same_after None None = refl
same_after None (Some group) = refl
same_after (Some group) None = refl
same_after (Some group) (Some other) = refl

same_level : (t : Tree) → level_of (placeless t) ≡ level_of t
same_level (number at z) = refl
same_level (string at text) = refl
same_level (select at name lists) = refl
same_level (ranged at inner window offset) = refl
same_level (call at name args before after keep) = refl
same_level (binary at op truth m left right) = refl
same_level (negate at inner) = refl
same_level (with_templates at ts body) = refl

-- ---- trees

abbrev SamePieces : Tree → Type 0
SamePieces t = pieces (placeless t) ≡ pieces t

same_operand : (least : ℕ) (t : Tree) → SamePieces t
    → operand least (level_of (placeless t)) (pieces (placeless t))
    ≡ operand least (level_of t) (pieces t)
same_operand least t same = ap (λ l. operand least l (pieces (placeless t))) (same_level t)
    ∙ ap (operand least (level_of t)) same

mutual
  same_pieces : (t : Tree) → SamePieces t
  same_pieces (number at z) = refl
  same_pieces (string at text) = refl
  same_pieces (select at name lists) =
      ap (λ b. option_map_or (λ text. named text ∷ []) name [] ++ b) (same_braces lists)
  same_pieces (ranged at inner window offset) =
      ap (λ p. p ++ window_pieces window ++ offset_pieces offset)
      (same_operand 10 inner (same_pieces inner))
  same_pieces (call at name args before after keep) =
      let first = first_group before after in
      let last = last_group before after in
      ap (λ n. named n ∷ before_pieces first last
      ++ in_parentheses (arguments (placeless_trees args)) ++ after_pieces first last
      ++ keep_pieces keep) (call_name_again name)
      ∙ ap (λ p. named (call_name name) ∷ p ++ in_parentheses (arguments (placeless_trees args))
      ++ after_pieces first last ++ keep_pieces keep) (same_before before after)
      ∙ ap (λ p. named (call_name name) ∷ before_pieces before after ++ in_parentheses p
      ++ after_pieces first last ++ keep_pieces keep) (same_arguments args)
      ∙ ap (λ p. named (call_name name) ∷ before_pieces before after
      ++ in_parentheses (arguments args) ++ p ++ keep_pieces keep) (same_after before after)
  same_pieces (binary at op truth m left right) =
      ap (λ p. p ++ operator_pieces op truth m
      ++ operand (suc (level_of_op op)) (level_of (placeless right)) (pieces (placeless right)))
      (same_operand (level_of_op op) left (same_pieces left))
      ∙ ap (λ p. operand (level_of_op op) (level_of left) (pieces left)
      ++ operator_pieces op truth m ++ p)
      (same_operand (suc (level_of_op op)) right (same_pieces right))
  same_pieces (negate at inner) =
      ap (λ p. mark (codes "-") ∷ p) (same_operand 9 inner (same_pieces inner))
  same_pieces (with_templates at ts body) =
      ap (λ p. named (codes "WITH") ∷ blank ∷ in_parentheses p
      ++ blank ∷ operand 1 (level_of (placeless body)) (pieces (placeless body)))
      (same_bindings ts)
      ∙ ap (λ p. named (codes "WITH") ∷ blank ∷ in_parentheses (bindings ts) ++ blank ∷ p)
      (same_operand 1 body (same_pieces body))

  same_arguments : (ts : Trees) → arguments (placeless_trees ts) ≡ arguments ts
  same_arguments no_trees = refl
  same_arguments (next_tree t ts) =
      ap (λ p. p ∷ arguments (placeless_trees ts)) (same_operand 1 t (same_pieces t))
      ∙ ap (λ ps. operand 1 (level_of t) (pieces t) ∷ ps) (same_arguments ts)

  same_bindings : (ts : Templates) → bindings (placeless_templates ts) ≡ bindings ts
  same_bindings no_templates = refl
  same_bindings (next_template at name params body ts) =
      ap (λ p.
      (named name ∷ p
      ++ blank ∷ mark (codes "=") ∷ blank
      ∷ operand 1 (level_of (placeless body)) (pieces (placeless body)))
      ∷ bindings (placeless_templates ts))
      (same_params params)
      ∙ ap (λ p. binding name params p ∷ bindings (placeless_templates ts))
      (same_operand 1 body (same_pieces body))
      ∙ ap (λ ps. binding name params (operand 1 (level_of body) (pieces body)) ∷ ps)
      (same_bindings ts)

pub same_text : SameText
same_text t u same = ap text_of (sym (same_pieces t) ∙ ap pieces same ∙ same_pieces u)

-- ---- and back

pub one_query : OneQuery
one_query t u is said is_too said_too texts =
    let second = said_is_read u is_too said_too in
    go (canonical u) texts second.0 second.1 second.2
  where
    go : (text : List ℕ) → canonical t ≡ text → (tokens : List Token) → AreTokens text tokens
        → ReadsBack u (words_of text tokens) → Same t u
    go text same tokens are there =
        let here = said_is_read t is said in
        let list =
        one_list (canonical t) here.0 tokens here.1
        (subst (λ x. AreTokens x tokens) (sym same) are) in
        let words : words_of (canonical t) here.0 ≡ words_of text tokens =
        ap (words_of (canonical t)) list ∙ ap (λ x. words_of x tokens) same in
        let spells : Spells 0 (words_of text tokens) here.2.tree =
        subst (λ ws. Spells 0 ws here.2.tree) words here.2.spells in
        sym here.2.same
        ∙ ap placeless
        (one_tree 0 (words_of text tokens) here.2.tree there.tree spells there.spells)
        ∙ there.same
