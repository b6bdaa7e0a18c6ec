-- Words that stand for pieces, and what the parts without expressions read of them.
use Rattle.std.specs.Prelude.{◌≡◌, ℕ, Bool, true, false, List, [], ◌∷◌, ◌++◌, map, flat_map, codes, Option, Some, None, if◌then◌else◌}
use Rattle.std.specs.List.{AllByRecursion}
use Rattle.std.proofs.Common.{refl, ap, sym, subst}
use Rattle.mql_lex.specs.declared.group.Group.{Group}
use Rattle.mql_lex.specs.declared.group.Many.{Many}
use Rattle.mql_lex.specs.declared.group.Many.TheVariants.{One, Left, Right}
use Rattle.mql_lex.specs.declared.group.MatchKind.{MatchKind}
use Rattle.mql_lex.specs.declared.group.MatchKind.TheVariants.{All, On, Ignoring}
use Rattle.mql_lex.specs.declared.group.Matching.{Matching}
use Rattle.mql_lex.specs.declared.operator.Op.{Op}
use Rattle.mql_lex.specs.declared.operator.Op.TheVariants.{Default, If, IfNot, Or, And, Unless, Equal, Differs, AtMost, AtLeast, Below, Above, Add, Sub, Mul, Div, Rem}
use Rattle.mql_lex.specs.declared.token.Token.{Token}
use Rattle.mql_lex.specs.declared.token.TokenKind.{TokenKind}
use Rattle.mql_lex.specs.declared.token.TokenKind.TheVariants.{Name, Mark}
use Rattle.mql_expr.specs.Canonical.{Piece, blank, word, mark, named, names_pieces, group_pieces, before_pieces, after_pieces, keep_pieces, op_piece, truth_pieces, kind_pieces, many_pieces, matching_pieces, operator_pieces, params_pieces}
use Rattle.mql_laws.specs.Lexed.{words, spelled}
use Rattle.mql_expr.specs.declared.expr.Param.{Param}
use Rattle.mql_lists.specs.Classes.{class_of_name, class_of_mark}
use Rattle.mql_lists.specs.Grammar.{Names, no_names, last_name, next_name, some_params as the_params, SomeParams, last_param, next_param}
use Rattle.mql_lists.specs.Words.{Word, words_of}
use Rattle.mql_lists.specs.declared.class.Class.{Class}
use Rattle.mql_parse.specs.Grammar.{Is, is_comparison, ListedNames, in_parens, GroupIfAny, no_group, a_group, KeepIfAny, no_keep, a_keep, TruthIfAny, no_truth, a_truth, ManyIfAny, no_many, many_names, matching, Mods, no_mods, some_mods, ParamsIfAny, no_params, some_params}
use Rattle.mql_laws.specs.ReadBack.{first_group, last_group, placeless_param, IsFree, IsMany, IsMatching}

-- ---- words for pieces

abbrev pub word_at : ℕ → TokenKind → List ℕ → Word
word_at at kind text = record { kind = kind; text = text; at = at }

-- At the front of some words stand those of the pieces, and then the rest.
pub data Stand : List Piece → List Word → List Word → Type 0 where
  no_piece : {rest : List Word} → Stand [] rest rest
  a_blank : {ps : List Piece} {ws rest : List Word} → Stand ps ws rest → Stand (blank ∷ ps) ws rest
  a_word : {kind : TokenKind} {text : List ℕ} {ps : List Piece} {ws rest : List Word} (at : ℕ)
      → Stand ps ws rest
      → Stand (word kind text ∷ ps) (word_at at kind text ∷ ws) rest

-- the pieces of one list and then those of another
pub record Split (a b : List Piece) (ws rest : List Word) : Type 0 where
  pub mid : List Word
  pub front : Stand a ws mid
  pub behind : Stand b mid rest

pub split : (a b : List Piece) (ws rest : List Word) → Stand (a ++ b) ws rest → Split a b ws rest
split [] b ws rest all = record { mid = ws; front = no_piece; behind = all }
split (blank ∷ a) b ws rest (a_blank {ws = text} more) =
    let s = split a b text rest more in
    record { mid = s.mid; front = a_blank s.front; behind = s.behind }
split (word kind text ∷ a) b ws rest (a_word {ws = later} at more) =
    let s = split a b later rest more in
    record { mid = s.mid; front = a_word at s.front; behind = s.behind }

-- tokens that are the words of pieces
first_is : {A : Type 0} (x y : A) (xs ys : List A) → x ∷ xs ≡ y ∷ ys → x ≡ y
first_is {A} x y xs ys is = ap (λ (l : List A). elim l [ [] ↦ x | z ∷ zs ↦ z ]) is

rest_is : {A : Type 0} (x y : A) (xs ys : List A) → x ∷ xs ≡ y ∷ ys → xs ≡ ys
rest_is {A} x y xs ys is = ap (λ (l : List A). elim l [ [] ↦ xs | z ∷ zs ↦ zs ]) is

pub stands : (text : List ℕ) (ps : List Piece) (tokens : List Token)
    → map (spelled text) tokens ≡ words ps → Stand ps (words_of text tokens) []
stands text [] [] is = no_piece
stands text [] (t ∷ ts) is = absurd (cc is)
stands text (blank ∷ ps) tokens is = a_blank (stands text ps tokens is)
stands text (word kind spelling ∷ ps) [] is = absurd (cc is)
stands text (word kind spelling ∷ ps) (t ∷ ts) is =
    let here = first_is (spelled text t) (kind, spelling) (map (spelled text) ts) (words ps) is in
    let later =
    stands text ps ts
    (rest_is (spelled text t) (kind, spelling) (map (spelled text) ts) (words ps) is) in
    subst (λ (p : TokenKind × List ℕ). Stand (word p.0 p.1 ∷ ps) (words_of text (t ∷ ts)) []) here
    (a_word t.at later)

-- ---- classes of words

module _ (at : ℕ) where
  pub is_open : Is Class.OpenRound (word_at at Mark (codes "("))
  unfolding class_of_mark
  is_open = refl

  pub is_close : Is Class.CloseRound (word_at at Mark (codes ")"))
  unfolding class_of_mark
  is_close = refl

  pub is_open_curly : Is Class.OpenCurly (word_at at Mark (codes "{"))
  unfolding class_of_mark
  is_open_curly = refl

  pub is_close_curly : Is Class.CloseCurly (word_at at Mark (codes "}"))
  unfolding class_of_mark
  is_close_curly = refl

  pub is_open_square : Is Class.OpenSquare (word_at at Mark (codes "["))
  unfolding class_of_mark
  is_open_square = refl

  pub is_close_square : Is Class.CloseSquare (word_at at Mark (codes "]"))
  unfolding class_of_mark
  is_close_square = refl

  pub is_comma : Is Class.Comma (word_at at Mark (codes ","))
  unfolding class_of_mark
  is_comma = refl

  pub is_assign : Is Class.Assign (word_at at Mark (codes "="))
  unfolding class_of_mark
  is_assign = refl

  pub is_minus : Is (Class.Operator Op.Sub) (word_at at Mark (codes "-"))
  unfolding class_of_mark
  is_minus = refl

  pub is_with : Is Class.With (word_at at Name (codes "WITH"))
  unfolding class_of_name
  is_with = refl

  pub is_or : Is (Class.Operator Op.Or) (word_at at Name (codes "or"))
  unfolding class_of_name
  is_or = refl

  pub is_offset : Is Class.Offset (word_at at Name (codes "offset"))
  unfolding class_of_name
  is_offset = refl

  is_keep : Is Class.Keep (word_at at Name (codes "keep_metric_names"))
  unfolding class_of_name
  is_keep = refl

  is_truth : Is Class.Truth (word_at at Name (codes "bool"))
  unfolding class_of_name
  is_truth = refl

  is_on : Is (Class.Pairing On) (word_at at Name (codes "on"))
  unfolding class_of_name
  is_on = refl

  is_ignoring : Is (Class.Pairing Ignoring) (word_at at Name (codes "ignoring"))
  unfolding class_of_name
  is_ignoring = refl

  is_left : Is (Class.Joining Left) (word_at at Name (codes "group_left"))
  unfolding class_of_name
  is_left = refl

  is_right : Is (Class.Joining Right) (word_at at Name (codes "group_right"))
  unfolding class_of_name
  is_right = refl

  is_group : (by : Bool)
      → Is (Class.Grouping by) (word_at at Name (if by then codes "by" else codes "without"))
  unfolding class_of_name
  is_group true = refl
  is_group false = refl

-- ---- a word of a class, and then the pieces after it

pub data Led (class : Class) (ps : List Piece) (rest : List Word) : List Word → Type 0 where
  led : {more : List Word} (w : Word) → Is class w → Stand ps more rest
      → Led class ps rest (w ∷ more)

pub is_op : (op : Op) (ps : List Piece) (ws rest : List Word) → Stand (op_piece op ∷ ps) ws rest
    → Led (Class.Operator op) ps rest ws
unfolding class_of_name class_of_mark
is_op Default ps ws rest (a_word at more) = led (word_at at Name (codes "default")) refl more
is_op If ps ws rest (a_word at more) = led (word_at at Name (codes "if")) refl more
is_op IfNot ps ws rest (a_word at more) = led (word_at at Name (codes "ifnot")) refl more
is_op Or ps ws rest (a_word at more) = led (word_at at Name (codes "or")) refl more
is_op And ps ws rest (a_word at more) = led (word_at at Name (codes "and")) refl more
is_op Unless ps ws rest (a_word at more) = led (word_at at Name (codes "unless")) refl more
is_op Equal ps ws rest (a_word at more) = led (word_at at Mark (codes "==")) refl more
is_op Differs ps ws rest (a_word at more) = led (word_at at Mark (codes "!=")) refl more
is_op AtMost ps ws rest (a_word at more) = led (word_at at Mark (codes "<=")) refl more
is_op AtLeast ps ws rest (a_word at more) = led (word_at at Mark (codes ">=")) refl more
is_op Below ps ws rest (a_word at more) = led (word_at at Mark (codes "<")) refl more
is_op Above ps ws rest (a_word at more) = led (word_at at Mark (codes ">")) refl more
is_op Add ps ws rest (a_word at more) = led (word_at at Mark (codes "+")) refl more
is_op Sub ps ws rest (a_word at more) = led (word_at at Mark (codes "-")) refl more
is_op Mul ps ws rest (a_word at more) = led (word_at at Mark (codes "*")) refl more
is_op Div ps ws rest (a_word at more) = led (word_at at Mark (codes "/")) refl more
is_op Rem ps ws rest (a_word at more) = led (word_at at Mark (codes "%")) refl more

-- ---- names

-- the names after the first, up to the parenthesis
abbrev more_names : List (List ℕ) → List Piece
more_names names =
    flat_map (λ y. (mark (codes ",") ∷ []) ++ y) (map (λ name. named name ∷ []) names)

names_behind : (name : List ℕ) (names : List (List ℕ)) (ws rest : List Word)
    → Stand (named name ∷ (more_names names ++ mark (codes ")") ∷ [])) ws rest
    → Names ws rest (name ∷ names)
names_behind name [] ws rest (a_word at (a_word end no_piece)) =
    last_name (word_at at Name name) (word_at end Mark (codes ")")) refl (is_close end)
names_behind name (next ∷ names) ws rest (a_word at (a_word {ws = more} comma behind)) =
    next_name (word_at at Name name) (word_at comma Mark (codes ",")) refl (is_comma comma)
    (names_behind next names more rest behind)

-- with the parenthesis in front
pub names_back : (names : List (List ℕ)) (ws rest : List Word) → Stand (names_pieces names) ws rest
    → ListedNames ws rest names
names_back [] ws rest (a_word at (a_word end no_piece)) =
    in_parens (word_at at Mark (codes "(")) (is_open at)
    (no_names (word_at end Mark (codes ")")) (is_close end))
names_back (name ∷ names) ws rest (a_word {ws = more} at behind) =
    in_parens (word_at at Mark (codes "(")) (is_open at) (names_behind name names more rest behind)

-- ---- parameters

abbrev more_params : List Param → List Piece
more_params params =
    flat_map (λ y. (mark (codes ",") ∷ []) ++ y) (map (λ p. named p.name ∷ []) params)

abbrev AreFree : List Param → Type 0
AreFree = AllByRecursion (λ p. IsFree p.name)

record SomeRead (params : List Param) (ws rest : List Word) : Type 0 where
  found : List Param
  same : map placeless_param found ≡ map placeless_param params
  reads : SomeParams ws rest found

params_behind : (p : Param) (ps : List Param) → AreFree (p ∷ ps) → (ws rest : List Word)
    → Stand (named p.name ∷ (more_params ps ++ mark (codes ")") ∷ [])) ws rest
    → SomeRead (p ∷ ps) ws rest
params_behind p [] free ws rest (a_word at (a_word end no_piece)) = record {
  found = record { at = at; name = p.name } ∷ [];
  same = refl;
  reads = last_param (word_at at Name p.name) (word_at end Mark (codes ")")) free.0 (is_close end);
}
params_behind p (q ∷ ps) free ws rest (a_word at (a_word {ws = more} comma behind)) =
    let later = params_behind q ps free.1 more rest behind in
    record {
      found = record { at = at; name = p.name } ∷ later.found;
      same = ap (λ (l : List Param). placeless_param p ∷ l) later.same;
      reads = next_param (word_at at Name p.name) (word_at comma Mark (codes ",")) free.0
          (is_comma comma) later.reads;
    }

pub record ParamsRead (params : List Param) (ws rest : List Word) : Type 0 where
  pub found : List Param
  pub same : map placeless_param found ≡ map placeless_param params
  pub reads : ParamsIfAny ws rest found

pub params_back : (params : List Param) → AreFree params → (ws rest : List Word)
    → Stand (params_pieces params) ws rest → ParamsRead params ws rest
params_back [] free ws rest no_piece = record { found = []; same = refl; reads = no_params }
params_back (p ∷ ps) free ws rest (a_word {ws = more} at behind) =
    let some = params_behind p ps free more rest behind in
    record {
      found = some.found;
      same = some.same;
      reads = some_params (word_at at Mark (codes "(")) (is_open at) (the_params some.reads);
    }

-- ---- groups

-- a blank at the end is no word
without_blank : (P : List Word → Type 0) (mid rest : List Word) → Stand (blank ∷ []) mid rest
    → P mid → P rest
without_blank P mid rest (a_blank no_piece) holds = holds

group_back : (group : Group) (ws rest : List Word) → Stand (group_pieces group) ws rest
    → GroupIfAny ws rest (Some group)
group_back group ws rest (a_word {ws = more} at (a_blank names)) =
    a_group (word_at at Name (if group.by then codes "by" else codes "without")) group.by
    (is_group at group.by) (names_back group.names more rest names)

pub before_back : (before after : Option Group) (ws rest : List Word)
    → Stand (before_pieces before after) ws rest → GroupIfAny ws rest (first_group before after)
before_back (Some group) (Some other) ws rest (a_blank all) =
    let s = split (group_pieces group) (blank ∷ []) ws rest all in
    without_blank (λ end. GroupIfAny ws end (Some group)) s.mid rest s.behind
    (group_back group ws s.mid s.front)
before_back None None ws rest no_piece = no_group
before_back None (Some other) ws rest no_piece = no_group
before_back (Some group) None ws rest no_piece = no_group

pub after_back : (before after : Option Group) (ws rest : List Word)
    → Stand (after_pieces before after) ws rest → GroupIfAny ws rest (last_group before after)
after_back None None ws rest no_piece = no_group
after_back (Some group) None ws rest (a_blank all) = group_back group ws rest all
after_back None (Some group) ws rest (a_blank all) = group_back group ws rest all
after_back (Some other) (Some group) ws rest (a_blank all) = group_back group ws rest all

pub keep_back : (keep : Bool) (ws rest : List Word) → Stand (keep_pieces keep) ws rest
    → KeepIfAny ws rest keep
keep_back true ws rest (a_blank (a_word at no_piece)) =
    a_keep (word_at at Name (codes "keep_metric_names")) (is_keep at)
keep_back false ws rest no_piece = no_keep

-- ---- operators

truth_back : (op : Op) (truth : Bool) → (truth ≡ true → is_comparison op ≡ true)
    → (ws rest : List Word) → Stand (truth_pieces truth) ws rest
    → TruthIfAny op ws rest truth
truth_back op true compares ws rest (a_blank (a_word at no_piece)) =
    a_truth (word_at at Name (codes "bool")) (is_truth at) (compares refl)
truth_back op false compares ws rest no_piece = no_truth

many_back : (many : Many) (extra : List (List ℕ)) → IsMany many extra → (ws rest : List Word)
    → Stand (many_pieces many extra) ws rest
    → ManyIfAny ws rest many extra
many_back One extra is ws rest no_piece = subst (λ e. ManyIfAny rest rest One e) (sym is) no_many
many_back Left extra is ws rest (a_blank (a_word {ws = more} at names)) =
    many_names (word_at at Name (codes "group_left")) (is_left at)
    (names_back extra more rest names)
many_back Right extra is ws rest (a_blank (a_word {ws = more} at names)) =
    many_names (word_at at Name (codes "group_right")) (is_right at)
    (names_back extra more rest names)

no_match : (names : List (List ℕ)) (many : Many) (extra : List (List ℕ)) → names ≡ [] → many ≡ One
    → extra ≡ []
    → (ws rest : List Word) → Stand (many_pieces many extra) ws rest
    → Mods ws rest (matching All names many extra)
no_match names One extra none one apart ws rest no_piece =
    subst (λ n. Mods rest rest (matching All n One extra)) (sym none)
    (subst (λ e. Mods rest rest (matching All [] One e)) (sym apart) no_mods)
no_match names Left extra none one apart ws rest all = absurd (cc one)
no_match names Right extra none one apart ws rest all = absurd (cc one)

pub mods_back : (kind : MatchKind) (names : List (List ℕ)) (many : Many) (extra : List (List ℕ)) → IsMatching kind names many extra
    → (ws rest : List Word) → Stand (kind_pieces kind names ++ many_pieces many extra) ws rest
    → Mods ws rest (matching kind names many extra)
mods_back All names many extra is ws rest all = no_match names many extra is.0 is.1 is.2 ws rest all
mods_back On names many extra is ws rest (a_blank (a_word {ws = more} at all)) =
    let s = split (names_pieces names) (many_pieces many extra) more rest all in
    some_mods (word_at at Name (codes "on")) (is_on at) (names_back names more s.mid s.front)
    (many_back many extra is s.mid rest s.behind)
mods_back Ignoring names many extra is ws rest (a_blank (a_word {ws = more} at all)) =
    let s = split (names_pieces names) (many_pieces many extra) more rest all in
    some_mods (word_at at Name (codes "ignoring")) (is_ignoring at)
    (names_back names more s.mid s.front) (many_back many extra is s.mid rest s.behind)

-- an operator with what stands after it
pub data OperatorRead (op : Op) (truth : Bool) (m : Matching) (rest : List Word) : List Word
    → Type 0 where
  operator_read : {here mid : List Word} (w : Word) → Is (Class.Operator op) w
      → TruthIfAny op here mid truth → Mods mid rest m
      → OperatorRead op truth m rest (w ∷ here)

module _ (op : Op) (truth : Bool) (m : Matching) (compares : truth ≡ true → is_comparison op ≡ true)
    (is : IsMatching m.kind m.names m.many m.extra) where
  led_on : (ws rest : List Word)
      → Led (Class.Operator op) ((truth_pieces truth ++ matching_pieces m) ++ blank ∷ []) rest ws
      → OperatorRead op truth m rest ws
  led_on ws rest (led {more = more} w class all) =
      let s = split (truth_pieces truth ++ matching_pieces m) (blank ∷ []) more rest all in
      let parts = split (truth_pieces truth) (matching_pieces m) more s.mid s.front in
      operator_read w class (truth_back op truth compares more parts.mid parts.front)
      (without_blank (λ end. Mods parts.mid end m) s.mid rest s.behind
      (mods_back m.kind m.names m.many m.extra is parts.mid s.mid parts.behind))

  pub operator_back : (ws rest : List Word) → Stand (operator_pieces op truth m) ws rest
      → OperatorRead op truth m rest ws
  operator_back ws rest (a_blank all) =
      led_on ws rest
      (is_op op ((truth_pieces truth ++ matching_pieces m) ++ blank ∷ []) ws rest all)
