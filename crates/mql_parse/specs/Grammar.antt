-- The grammar of queries. (MetricsQL; PromQL)
--
-- Most words here say what stands at the front of a list of words, and hand on the rest, which
-- follows it. A quoted word of a rule is read without regard to ASCII case.
use Rattle.std.specs.Prelude.{◌≡◌, ℕ, suc, ◌<◌, Bool, true, false, List, [], ◌∷◌, Option, Some, None, is_some}
use Rattle.mql_lex.specs.declared.group.Group.{Group}
use Rattle.mql_lex.specs.declared.group.Many.{Many}
use Rattle.mql_lex.specs.declared.group.Many.TheVariants.{One}
use Rattle.mql_lex.specs.declared.group.MatchKind.{MatchKind}
use Rattle.mql_lex.specs.declared.group.MatchKind.TheVariants.{All}
use Rattle.mql_lex.specs.declared.group.Matching.{Matching}
use Rattle.mql_lex.specs.declared.operator.Op.{Op}
use Rattle.mql_lex.specs.declared.span.Span.{Span}
use Rattle.mql_expr.specs.Levels.{level_of_op as level}
use Rattle.mql_lists.specs.declared.class.Class.{Class}
use Rattle.mql_lists.specs.Words.{Word}
use Rattle.mql_lists.specs.Classes.{class_of_word}
use Rattle.mql_expr.specs.declared.item.Item.{Item}
use Rattle.mql_expr.specs.declared.expr.Param.{Param}
use Rattle.mql_lists.specs.Grammar.{Names, Params, Braces}
use Rattle.mql_expr.specs.Tree.{Tree, number, string, select, ranged, call, binary, negate, with_templates, trees_of, TreeTemplate, templates_listed}
use Rattle.mql_lists.specs.Values.{value_of}
use Rattle.mql_parse.specs.Values.{number_of, or_zero, length_of, is_short, ahead, back}

-- a word of this class
abbrev pub Is : Class → Word → Type 0
Is class w = class_of_word w ≡ class

-- ---- levels and limits

-- a comparison
abbrev pub is_comparison : Op → Bool
is_comparison Op.Equal = true
is_comparison Op.Differs = true
is_comparison Op.AtMost = true
is_comparison Op.AtLeast = true
is_comparison Op.Below = true
is_comparison Op.Above = true
is_comparison _ = false

-- how many levels may be open at a place
abbrev pub deepest : ℕ
deepest = 100

-- One more level may be opened. The limits bind the words of the text, which ends at `len`, and
-- not what might follow it.
abbrev pub MayOpen : (len opened at : ℕ) → Type 0
MayOpen len opened at = at < len → opened < deepest

-- The number is within its limits.
abbrev pub NumberFits : ℕ → Word → Type 0
NumberFits len w = w.at < len → is_some (number_of w.text) ≡ true

-- The duration is within its limits.
abbrev pub LengthFits : ℕ → Word → Type 0
LengthFits len w = w.at < len → is_short (length_of w.text) ≡ true

-- ---- groups, and what an operator may have after it

-- names in parentheses: '(' names ')'
pub data ListedNames : List Word → List Word → List (List ℕ) → Type 0 where
  in_parens : {text rest : List Word} {names : List (List ℕ)} (w : Word) → Is Class.OpenRound w
      → Names text rest names → ListedNames (w ∷ text) rest names

-- group ::= ('by' | 'without') '(' names ')', or nothing
pub data GroupIfAny : List Word → List Word → Option Group → Type 0 where
  no_group : {text : List Word} → GroupIfAny text text None
  a_group : {text rest : List Word} {names : List (List ℕ)} (w : Word) (by : Bool)
      → Is (Class.Grouping by) w → ListedNames text rest names
      → GroupIfAny (w ∷ text) rest (Some (record { by = by; names = names }))

-- 'keep_metric_names', or nothing
pub data KeepIfAny : List Word → List Word → Bool → Type 0 where
  no_keep : {text : List Word} → KeepIfAny text text false
  a_keep : {text : List Word} (w : Word) → Is Class.Keep w → KeepIfAny (w ∷ text) text true

-- 'bool', after a comparison alone, or nothing
pub data TruthIfAny (op : Op) : List Word → List Word → Bool → Type 0 where
  no_truth : {text : List Word} → TruthIfAny op text text false
  a_truth : {text : List Word} (w : Word) → Is Class.Truth w → is_comparison op ≡ true
      → TruthIfAny op (w ∷ text) text true

-- whether `(` comes next
abbrev pub begins_open : List Word → Bool
begins_open [] = false
begins_open (w ∷ more) = is_open (class_of_word w)
  where
    is_open : Class → Bool
    is_open Class.OpenRound = true
    is_open _ = false

-- many ::= ('group_left' | 'group_right') ('(' names ')')?, or nothing
-- A '(' after the word always opens the names.
pub data ManyIfAny : List Word → List Word → Many → List (List ℕ) → Type 0 where
  no_many : {text : List Word} → ManyIfAny text text One []
  a_many : {text : List Word} {many : Many} (w : Word) → Is (Class.Joining many) w
      → begins_open text ≡ false → ManyIfAny (w ∷ text) text many []
  many_names : {text rest : List Word} {many : Many} {names : List (List ℕ)} (w : Word)
      → Is (Class.Joining many) w → ListedNames text rest names
      → ManyIfAny (w ∷ text) rest many names

-- the modifiers of an operator
abbrev pub matching : MatchKind → List (List ℕ) → Many → List (List ℕ) → Matching
matching kind names many extra = record { kind = kind; names = names; many = many; extra = extra }

-- mods ::= (('on' | 'ignoring') '(' names ')' many?)?
pub data Mods : List Word → List Word → Matching → Type 0 where
  no_mods : {text : List Word} → Mods text text (matching All [] One [])
  some_mods :
      {text mid rest : List Word} {kind : MatchKind} {names extra : List (List ℕ)} {many : Many}
      (w : Word) → Is (Class.Pairing kind) w → ListedNames text mid names
      → ManyIfAny mid rest many extra → Mods (w ∷ text) rest (matching kind names many extra)

-- ---- windows and offsets

-- offset ::= 'offset' '-'? duration; the place is that of the word, the duration within its limits
pub data Offset (len : ℕ) : ℕ → List Word → List Word → Span → Type 0 where
  an_offset : {text : List Word} (w d : Word) → Is Class.Offset w → Is Class.Time d
      → LengthFits len d
      → Offset len w.at (w ∷ d ∷ text) text (ahead (length_of d.text))
  offset_back : {text : List Word} (w m d : Word) → Is Class.Offset w → Is (Class.Operator Op.Sub) m
      → Is Class.Time d → LengthFits len d
      → Offset len w.at (w ∷ m ∷ d ∷ text) text (back (length_of d.text))

-- offset, or nothing
pub data OffsetIfAny (len : ℕ) : List Word → List Word → Option Span → Type 0 where
  no_offset : {text : List Word} → OffsetIfAny len text text None
  some_offset : {at : ℕ} {text rest : List Word} {span : Span} → Offset len at text rest span
      → OffsetIfAny len text rest (Some span)

-- range ::= '[' duration ']' offset? | offset; the place is that of the first word
-- The duration is within its limits.
pub data Postfix (len : ℕ) : ℕ → List Word → List Word → (window offset : Option Span)
    → Type 0 where
  windowed : {text rest : List Word} {offset : Option Span} (w d e : Word) → Is Class.OpenSquare w
      → Is Class.Time d → LengthFits len d
      → Is Class.CloseSquare e → OffsetIfAny len text rest offset
      → Postfix len w.at (w ∷ d ∷ e ∷ text) rest (Some (ahead (length_of d.text))) offset
  not_windowed : {at : ℕ} {text rest : List Word} {span : Span} → Offset len at text rest span
      → Postfix len at text rest None (Some span)

-- ---- expressions

-- parameters in parentheses, '(' params ')', or nothing
pub data ParamsIfAny : List Word → List Word → List Param → Type 0 where
  no_params : {text : List Word} → ParamsIfAny text text []
  some_params : {text rest : List Word} {params : List Param} (w : Word) → Is Class.OpenRound w
      → Params text rest params → ParamsIfAny (w ∷ text) rest params

-- the levels of `unary` and of `postfix`
abbrev pub unary : ℕ
unary = 8

abbrev pub postfix : ℕ
postfix = 9

mutual
  -- An expression of a level, where so many brackets and signs are open. Levels 0 and 1 are `expr`,
  -- 2 to 7 are `l1` to `l6`, 8 is `unary` and 9 is `postfix`. `true` says that it ends in the body
  -- of a `with`, which reaches as far as it can.
  pub data Reads (len : ℕ) : (opened level : ℕ) → Bool → List Word → List Word → Tree → Type 0 where
    looser : {n l : ℕ} {o : Bool} {text rest : List Word} {t : Tree}
        → Reads len n (suc l) o text rest t → Reads len n l o text rest t
    -- expr ::= l1 ('default' mods l1)*
    -- l1 ::= l2 (('if' | 'ifnot') mods l2)*
    -- l2 ::= l3 ('or' mods l3)*
    -- l3 ::= l4 (('and' | 'unless') mods l4)*
    -- l4 ::= l5 (('==' | '!=' | '<=' | '>=' | '<' | '>') 'bool'? mods l5)*
    -- l5 ::= l6 (('+' | '-') mods l6)*
    -- l6 ::= unary (('*' | '/' | '%') mods unary)*
    -- All associate to the left. No left operand ends in the body of a `with`.
    an_operator :
        {n : ℕ} {o truth : Bool} {text here mid behind rest : List Word} {a b : Tree} {m : Matching}
        (w : Word) (op : Op)
        → Reads len n (level op) false text (w ∷ here) a → Is (Class.Operator op) w
        → TruthIfAny op here mid truth → Mods mid behind m
        → Reads len n (suc (level op)) o behind rest b
        → Reads len n (level op) o text rest (binary w.at op truth m a b)
    -- unary ::= ('-' | '+') unary | postfix; a sign opens a level for its operand
    a_minus : {n : ℕ} {o : Bool} {text rest : List Word} {t : Tree} (w : Word)
        → Is (Class.Operator Op.Sub) w → MayOpen len n w.at
        → Reads len (suc n) unary o text rest t
        → Reads len n unary o (w ∷ text) rest (negate w.at t)
    a_plus : {n : ℕ} {o : Bool} {text rest : List Word} {t : Tree} (w : Word)
        → Is (Class.Operator Op.Add) w → MayOpen len n w.at
        → Reads len (suc n) unary o text rest t → Reads len n unary o (w ∷ text) rest t
    -- postfix ::= primary range? | with
    a_primary : {n : ℕ} {text rest : List Word} {t : Tree} → Primary len n text rest t
        → Reads len n postfix false text rest t
    a_postfix : {n at : ℕ} {text mid rest : List Word} {t : Tree} {window offset : Option Span}
        → Primary len n text mid t
        → Postfix len at mid rest window offset
        → Reads len n postfix false text rest (ranged at t window offset)
    -- with ::= 'with' '(' templates ')' expr; the '(' opens a level up to the ')'
    a_with :
        {n : ℕ} {o : Bool} {text body rest : List Word} {ts : List TreeTemplate} {t : Tree}
        (w p e : Word) → Is Class.With w → Is Class.OpenRound p
        → MayOpen len n p.at → Templates len (suc n) text (e ∷ body) ts → Is Class.CloseRound e
        → Reads len n 0 o body rest t
        → Reads len n postfix true (w ∷ p ∷ text) rest (with_templates w.at (templates_listed ts) t)

  -- primary ::= number | string | '(' expr ')' | call | selector
  -- The number is within its limits. The '(' opens a level up to the ')'.
  pub data Primary (len : ℕ) : (opened : ℕ) → List Word → List Word → Tree → Type 0 where
    a_number : {n : ℕ} {rest : List Word} (w : Word) → Is Class.Numeral w → NumberFits len w
        → Primary len n (w ∷ rest) rest (number w.at (or_zero (number_of w.text)))
    a_string : {n : ℕ} {rest : List Word} (w : Word) → Is Class.Quoted w
        → Primary len n (w ∷ rest) rest (string w.at (value_of w.text))
    in_brackets : {n : ℕ} {o : Bool} {text rest : List Word} {t : Tree} (w e : Word)
        → Is Class.OpenRound w → MayOpen len n w.at
        → Reads len (suc n) 0 o text (e ∷ rest) t → Is Class.CloseRound e
        → Primary len n (w ∷ text) rest t
    -- call ::= identifier group? '(' args ')' group? 'keep_metric_names'?
    -- The '(' of the arguments opens a level up to the ')'.
    a_call :
        {n : ℕ} {text inner behind last rest : List Word} {args : List Tree} {before after :
        Option Group} {keep : Bool} (w p e : Word) → Is Class.Identifier w
        → GroupIfAny text (p ∷ inner) before → Is Class.OpenRound p → MayOpen len n p.at
        → Args len (suc n) inner (e ∷ behind) args → Is Class.CloseRound e
        → GroupIfAny behind last after → KeepIfAny last rest keep
        → Primary len n (w ∷ text) rest (call w.at w.text (trees_of args) before after keep)
    -- selector ::= identifier ('{' lists '}')? | '{' lists '}'
    a_metric : {n : ℕ} {rest : List Word} (w : Word) → Is Class.Identifier w
        → Primary len n (w ∷ rest) rest (select w.at (Some w.text) [])
    a_selector : {n : ℕ} {text rest : List Word} {lists : List (List Item)} (w b : Word)
        → Is Class.Identifier w → Is Class.OpenCurly b → Braces text rest lists
        → Primary len n (w ∷ b ∷ text) rest (select w.at (Some w.text) lists)
    a_nameless : {n : ℕ} {text rest : List Word} {lists : List (List Item)} (w : Word)
        → Is Class.OpenCurly w → Braces text rest lists
        → Primary len n (w ∷ text) rest (select w.at None lists)

  -- args ::= (expr (',' expr)* ','?)?
  pub data Args (len : ℕ) : (opened : ℕ) → List Word → List Word → List Tree → Type 0 where
    no_args : {n : ℕ} {text : List Word} → Args len n text text []
    last_arg : {n : ℕ} {o : Bool} {text rest : List Word} {t : Tree} → Reads len n 0 o text rest t
        → Args len n text rest (t ∷ [])
    next_arg : {n : ℕ} {o : Bool} {text mid rest : List Word} {t : Tree} {ts : List Tree} (w : Word)
        → Reads len n 0 o text (w ∷ mid) t → Is Class.Comma w
        → Args len n mid rest ts → Args len n text rest (t ∷ ts)

  -- template ::= identifier ('(' params ')')? '=' expr
  pub data Template (len : ℕ) : (opened : ℕ) → List Word → List Word → TreeTemplate → Type 0 where
    a_template :
        {n : ℕ} {o : Bool} {text mid rest : List Word} {params : List Param} {t : Tree} (w e : Word)
        → Is Class.Identifier w
        → ParamsIfAny text (e ∷ mid) params → Is Class.Assign e → Reads len n 0 o mid rest t
        → Template len n (w ∷ text) rest
        (record { at = w.at; name = w.text; params = params; body = t })

  -- templates ::= (template (',' template)* ','?)?
  pub data Templates (len : ℕ) : (opened : ℕ) → List Word → List Word → List TreeTemplate
      → Type 0 where
    no_template : {n : ℕ} {text : List Word} → Templates len n text text []
    last_template : {n : ℕ} {text rest : List Word} {t : TreeTemplate} → Template len n text rest t
        → Templates len n text rest (t ∷ [])
    more_templates :
        {n : ℕ} {text mid rest : List Word} {t : TreeTemplate} {ts : List TreeTemplate} (w : Word)
        → Template len n text (w ∷ mid) t
        → Is Class.Comma w → Templates len n mid rest ts → Templates len n text rest (t ∷ ts)

-- query ::= expr: the words are this expression, where the limits bind those in front of `len`
abbrev pub Spells : ℕ → List Word → Tree → Type 0
Spells len words t = (o : Bool) × Reads len 0 0 o words [] t

-- the words are an expression
abbrev pub IsExpr : ℕ → List Word → Type 0
IsExpr len words = (t : Tree) × Spells len words t

-- no limit binds
abbrev pub IsAnyExpr : List Word → Type 0
IsAnyExpr words = IsExpr 0 words
