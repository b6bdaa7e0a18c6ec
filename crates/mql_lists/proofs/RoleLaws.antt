-- What a word is to the machines, and what it is to the grammar.
use Rattle.std.specs.Prelude.{◌≡◌, ℕ, not, Bool, true, false, cond, List, [], ◌∷◌, Option, Some, None, bytes_eq, codes}
use Rattle.std.specs.List.{list_all}
use Rattle.std.specs.Str.{str_eq_ignore_ascii_case}
use Rattle.std.proofs.Common.{refl, ap, subst, ◌∙◌}
use Rattle.std.proofs.lemmas.Bool.{and_parts}
use Rattle.mql_lex.specs.declared.token.TokenKind.{TokenKind}
use Rattle.mql_lex.specs.declared.token.TokenKind.TheVariants.{Name, Str, Mark}
use Rattle.mql_lex.specs.declared.operator.Op.{Op}
use Rattle.mql_lex.specs.declared.operator.Op.TheVariants.{Or, Differs}
use Rattle.vm_labels.specs.declared.selector.FilterOp.{FilterOp}
use Rattle.vm_labels.specs.declared.selector.FilterOp.TheVariants.{Equal}
use Rattle.mql_lists.specs.Words.{Word}
use Rattle.mql_lists.specs.Classes.{class_in, class_of_kind, class_of_name, class_of_mark, class_of_word, filter_op, mark_words, reserved_words}
use Rattle.mql_lists.specs.Grammar.{IsA, IsLabel, Compares}
use Rattle.mql_lists.specs.Machines.{role_of, role_of_operator, word_role, is_label}
use Rattle.mql_lists.specs.declared.class.Class.{Class}
use Rattle.mql_lists.specs.declared.class.Class.TheVariants.{Identifier, Quoted, Operator, Comma, CloseRound, CloseCurly, Strange, Assign, Like, Unlike}
use Rattle.mql_lists.specs.declared.role.Role.{Role}
use Rattle.mql_lists.specs.declared.role.Role.TheVariants.{Free, Either, Reserved, Compare, Value, Next, EndRound, EndCurly, Other}

-- ---- from the grammar to the machines

pub role_free : (w : Word) → IsA Identifier w → word_role w ≡ Free
unfolding word_role
role_free w is = ap role_of is

pub role_either : (w : Word) → IsA (Operator Or) w → word_role w ≡ Either
unfolding word_role
role_either w is = ap role_of is

pub role_value : (w : Word) → IsA Quoted w → word_role w ≡ Value
unfolding word_role
role_value w is = ap role_of is

pub role_next : (w : Word) → IsA Comma w → word_role w ≡ Next
unfolding word_role
role_next w is = ap role_of is

pub role_round : (w : Word) → IsA CloseRound w → word_role w ≡ EndRound
unfolding word_role
role_round w is = ap role_of is

pub role_curly : (w : Word) → IsA CloseCurly w → word_role w ≡ EndCurly
unfolding word_role
role_curly w is = ap role_of is

operator_compares : (o : Op) (op : FilterOp) → filter_op (Operator o) ≡ Some op
    → role_of_operator o ≡ Compare op
operator_compares Differs op is = cc
operator_compares _ op is = absurd (cc is)

class_compares : (c : Class) (op : FilterOp) → filter_op c ≡ Some op → role_of c ≡ Compare op
class_compares (Operator o) op is = operator_compares o op is
class_compares Assign op is = cc
class_compares Like op is = cc
class_compares Unlike op is = cc
class_compares _ op is = absurd (cc is)

pub role_compare : (w : Word) (op : FilterOp) → Compares op w → word_role w ≡ Compare op
unfolding word_role
role_compare w op is = class_compares (class_of_word w) op is

-- ---- from the machines to the grammar

abbrev ClassSays : Role → Class → Type 0
ClassSays Free c = c ≡ Identifier
ClassSays Either c = c ≡ Operator Or
ClassSays (Compare op) c = filter_op c ≡ Some op
ClassSays Value c = c ≡ Quoted
ClassSays Next c = c ≡ Comma
ClassSays EndRound c = c ≡ CloseRound
ClassSays EndCurly c = c ≡ CloseCurly
ClassSays Reserved c = c ≡ c
ClassSays Other c = c ≡ c

operator_says : (o : Op) → ClassSays (role_of_operator o) (Operator o)
operator_says Or = refl
operator_says _ = refl

class_says : (c : Class) → ClassSays (role_of c) c
class_says (Operator o) = operator_says o
class_says _ = refl

-- what the grammar calls a word of a role
pub says : (w : Word) (r : Role) → word_role w ≡ r → ClassSays r (class_of_word w)
unfolding word_role
says w r is = subst (λ r. ClassSays r (class_of_word w)) is (class_says (class_of_word w))

pub free_says : (w : Word) → word_role w ≡ Free → IsA Identifier w
free_says w is = says w Free is

pub either_says : (w : Word) → word_role w ≡ Either → IsA (Operator Or) w
either_says w is = says w Either is

pub compare_says : (w : Word) (op : FilterOp) → word_role w ≡ Compare op → Compares op w
compare_says w op is = says w (Compare op) is

pub value_says : (w : Word) → word_role w ≡ Value → IsA Quoted w
value_says w is = says w Value is

pub next_says : (w : Word) → word_role w ≡ Next → IsA Comma w
next_says w is = says w Next is

pub round_says : (w : Word) → word_role w ≡ EndRound → IsA CloseRound w
round_says w is = says w EndRound is

pub curly_says : (w : Word) → word_role w ≡ EndCurly → IsA CloseCurly w
curly_says w is = says w EndCurly is

-- ---- labels and strings by their kind

abbrev is_value : Role → Bool
is_value Value = true
is_value _ = false

-- what holds of each class of a table, and of the other one
in_table : (p : Class → Bool) (rows : List (List ℕ × Class)) (is : List ℕ → Bool) (other : Class)
    → list_all (λ row. p row.1) rows ≡ true → p other ≡ true → p (class_in rows is other) ≡ true
in_table p [] is other all last = last
in_table p (row ∷ rows) is other all last =
    let parts = and_parts (p row.1) (list_all (λ row. p row.1) rows) all in
    go (is row.0) parts.0 (in_table p rows is other parts.1 last)
  where
    go : (test : Bool) → p row.1 ≡ true → p (class_in rows is other) ≡ true
        → p (cond test row.1 (class_in rows is other)) ≡ true
    go true first more = first
    go false first more = more

name_label : (text : List ℕ) → is_label (role_of (class_of_name text)) ≡ true
unfolding class_of_name
name_label text =
    in_table (λ c. is_label (role_of c)) reserved_words (str_eq_ignore_ascii_case text) Identifier
    refl refl

mark_no_label : (text : List ℕ) → not (is_label (role_of (class_of_mark text))) ≡ true
unfolding class_of_mark
mark_no_label text =
    in_table (λ c. not (is_label (role_of c))) mark_words (bytes_eq text) Strange refl refl

mark_no_value : (text : List ℕ) → not (is_value (role_of (class_of_mark text))) ≡ true
unfolding class_of_mark
mark_no_value text =
    in_table (λ c. not (is_value (role_of c))) mark_words (bytes_eq text) Strange refl refl

pub label_role : (w : Word) → IsLabel w → is_label (word_role w) ≡ true
unfolding word_role
label_role w is = rw is (name_label w.text)

kind_label : (kind : TokenKind) (text : List ℕ)
    → is_label (role_of (class_of_kind kind text)) ≡ true → kind ≡ Name
kind_label Name text is = refl
kind_label Mark text is = absurd (cc (is, mark_no_label text))
kind_label _ text is = absurd (cc is)

pub label_says : (w : Word) (r : Role) → word_role w ≡ r → is_label r ≡ true → IsLabel w
unfolding word_role
label_says w r is label = kind_label w.kind w.text (ap is_label is ∙ label)

label_no_value : (r : Role) → is_label r ≡ true → r ≡ Value → ⊥
label_no_value Value label is = cc label
label_no_value _ label is = cc is

kind_value : (kind : TokenKind) (text : List ℕ) → role_of (class_of_kind kind text) ≡ Value
    → kind ≡ Str
kind_value Name text is =
    absurd (label_no_value (role_of (class_of_name text)) (name_label text) is)
kind_value Str text is = refl
kind_value Mark text is =
    let yes : is_value (role_of (class_of_mark text)) ≡ true = ap is_value is in
    absurd (cc (yes, mark_no_value text))
kind_value _ text is = absurd (cc is)

-- a value is a string
pub value_kind : (w : Word) → word_role w ≡ Value → w.kind ≡ Str
unfolding word_role
value_kind w is = kind_value w.kind w.text is

-- ---- words that end what was begun

abbrev pub answer : {A B : Type 0} → A → B → Option (A × B)
answer a b = Some (a, b)

pub same_parts : {A B : Type 0} (a b : A) (c d : B) → answer a c ≡ answer b d → (a ≡ b) × (c ≡ d)
same_parts {A} {B} a b c d is =
    let first : Option (A × B) → A = λ o. elim o [ None ↦ a | Some p ↦ p.0 ] in
    let second : Option (A × B) → B = λ o. elim o [ None ↦ c | Some p ↦ p.1 ] in
    (ap first is, ap second is)

abbrev pub mark_at : List ℕ → ℕ → Word
mark_at text at = record { kind = Mark; text = text; at = at }

abbrev pub string_at : ℕ → Word
string_at at = record { kind = Str; text = codes "\"\""; at = at }

abbrev pub name_at : ℕ → Word
name_at at = record { kind = Name; text = codes "a"; at = at }

pub round_mark : (at : ℕ) → word_role (mark_at (codes ")") at) ≡ EndRound
unfolding word_role class_of_mark
round_mark at = refl

pub curly_mark : (at : ℕ) → word_role (mark_at (codes "}") at) ≡ EndCurly
unfolding word_role class_of_mark
curly_mark at = refl

pub equals_mark : (at : ℕ) → word_role (mark_at (codes "=") at) ≡ Compare Equal
unfolding word_role class_of_mark
equals_mark at = refl

pub string_word : (at : ℕ) → word_role (string_at at) ≡ Value
unfolding word_role
string_word at = refl

pub name_word : (at : ℕ) → word_role (name_at at) ≡ Free
unfolding word_role class_of_name
name_word at = refl
