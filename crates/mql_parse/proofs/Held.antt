-- What each state of the machine says of the words that were read.
use Rattle.std.specs.Prelude.{◌≡◌, ℕ, suc, ◌≤◌, Bool, false, List, [], ◌∷◌, Option, Some, None}
use Rattle.mql_lex.specs.declared.group.Group.{Group}
use Rattle.mql_lex.specs.declared.group.Many.{Many}
use Rattle.mql_lex.specs.declared.group.MatchKind.{MatchKind}
use Rattle.mql_lex.specs.declared.operator.Op.{Op}
use Rattle.mql_lex.specs.declared.span.Span.{Span}
use Rattle.mql_expr.specs.declared.expr.Param.{Param}
use Rattle.mql_expr.specs.Tree.{Tree, ranged, TreeTemplate}
use Rattle.mql_lists.specs.Words.{Word}
use Rattle.mql_lists.specs.Progress.{leads}
use Rattle.mql_lists.specs.Machines.{names_step, names_start, params_step, params_start, braces_step, braces_start}
use Rattle.mql_lists.specs.declared.class.Class.{Class}
use Rattle.mql_expr.specs.Levels.{level_of_op as level}
use Rattle.mql_parse.specs.Grammar.{Is, MayOpen, ListedNames, GroupIfAny, TruthIfAny, Mods, Offset, OffsetIfAny, ParamsIfAny, postfix, Reads, Primary, Args, Templates}
use Rattle.mql_parse.specs.Machine.{State, at, Frame, in_parens, in_minus, in_plus, in_operator, in_args, in_template, in_body, Before, opened, wanted, named, grouped, called, regrouped, names_wanted, in_names, in_braces, primary, window_wanted, window_read, windowed, offset_wanted, offset_back, complete, operated, compared, matched, many_read, with_read, template_wanted, template_named, in_params, template_headed, Purpose, before_args, after_args, matched_by, taken_over, Call, Head, Joint, Scope, call_of, head_of}
use Rattle.mql_parse.proofs.ToRead.{wants, with_args, with_more}

-- a name and its group, in front of the arguments
pub data HeadRead : Call → List Word → List Word → Type 0 where
  head_read : {text rest : List Word} {before : Option Group} (w : Word) → Is Class.Identifier w
      → GroupIfAny text rest before
      → HeadRead (record { at = w.at; name = w.text; args = []; before = before; after = None })
      (w ∷ text) rest

-- a call up to its `)`
pub data CallRead (len n : ℕ) : Call → List Word → List Word → Type 0 where
  call_read :
      {text inner behind : List Word} {args : List Tree} {before : Option Group} (w p e : Word)
      → Is Class.Identifier w
      → GroupIfAny text (p ∷ inner) before → Is Class.OpenRound p → MayOpen len n p.at
      → Args len (suc n) inner (e ∷ behind) args → Is Class.CloseRound e
      → CallRead len n
      (record { at = w.at; name = w.text; args = args; before = before; after = None }) (w ∷ text)
      behind

-- and its group
pub data RegroupedRead (len n : ℕ) : Call → List Word → List Word → Type 0 where
  regrouped_read : {c : Call} {text mid rest : List Word} {after : Option Group}
      → CallRead len n c text mid → GroupIfAny mid rest after
      → RegroupedRead len n
      (record { at = c.at; name = c.name; args = c.args; before = c.before; after = after }) text
      rest

-- a call among its arguments, where more of them are read as a list
abbrev pub InArgs : (len n : ℕ) → Call → List Word → List Word → Type 0
InArgs len n c text mid = (ts : List Tree) (e : Word) (behind : List Word)
    → Args len (suc n) mid (e ∷ behind) ts → Is Class.CloseRound e
    → CallRead len n (with_args c ts) text behind

-- a `with` up to its `)`, and among its templates
pub data WithRead (len n : ℕ) : Scope → List Word → List Word → Type 0 where
  whole_with : {text body : List Word} {ts : List TreeTemplate} (w p e : Word) → Is Class.With w
      → Is Class.OpenRound p → MayOpen len n p.at
      → Templates len (suc n) text (e ∷ body) ts → Is Class.CloseRound e
      → WithRead len n (record { at = w.at; templates = ts }) (w ∷ p ∷ text) body

abbrev pub InTemplates : (len n : ℕ) → Scope → List Word → List Word → Type 0
InTemplates len n scope text mid = (ts : List TreeTemplate) (e : Word) (body : List Word)
    → Templates len (suc n) mid (e ∷ body) ts → Is Class.CloseRound e
    → WithRead len n (with_more scope ts) text body

-- a template's name and parameters
pub data TemplateHead : Head → List Param → List Word → List Word → Type 0 where
  template_head : {text rest : List Word} {ps : List Param} (w : Word) → Is Class.Identifier w
      → ParamsIfAny text rest ps → TemplateHead (head_of w) ps (w ∷ text) rest

-- a left operand and its operator, and with `bool`
pub data OperatorRead (len : ℕ) (fs : List Frame) : Joint → List Word → List Word → Type 0 where
  operator_read : {text here : List Word} {a : Tree} (w : Word) (op : Op)
      → Reads len (opened fs) (level op) false text (w ∷ here) a
      → Is (Class.Operator op) w → wants fs ≤ level op
      → OperatorRead len fs (record { at = w.at; op = op; truth = false; operand = a }) text here

pub data JointRead (len : ℕ) (fs : List Frame) : Joint → List Word → List Word → Type 0 where
  joint_read : {text here mid : List Word} {a : Tree} {truth : Bool} (w : Word) (op : Op)
      → Reads len (opened fs) (level op) false text (w ∷ here) a
      → Is (Class.Operator op) w → wants fs ≤ level op → TruthIfAny op here mid truth
      → JointRead len fs (record { at = w.at; op = op; truth = truth; operand = a }) text mid

-- and its names
pub data MatchRead (len : ℕ) (fs : List Frame) (j : Joint) (kind : MatchKind)
    (names : List (List ℕ)) : List Word → List Word → Type 0 where
  match_read : {text here rest : List Word} (v : Word) → JointRead len fs j text (v ∷ here)
      → Is (Class.Pairing kind) v → ListedNames here rest names
      → MatchRead len fs j kind names text rest

-- a word that wants names
pub data PurposeRead (len : ℕ) (fs : List Frame) : Purpose → List Word → List Word → Type 0 where
  for_before : {mid : List Word} (w v : Word) (by : Bool) → Is Class.Identifier w
      → Is (Class.Grouping by) v
      → PurposeRead len fs (before_args (call_of (head_of w)) by) (w ∷ v ∷ mid) mid
  for_after : {c : Call} {text mid : List Word} (v : Word) (by : Bool)
      → CallRead len (opened fs) c text (v ∷ mid) → Is (Class.Grouping by) v
      → PurposeRead len fs (after_args c by) text mid
  for_match : {j : Joint} {text mid : List Word} (v : Word) (kind : MatchKind)
      → JointRead len fs j text (v ∷ mid) → Is (Class.Pairing kind) v
      → PurposeRead len fs (matched_by j kind) text mid
  for_many :
      {j : Joint} {kind : MatchKind} {names : List (List ℕ)} {text mid : List Word} (v : Word)
      (side : Many) → MatchRead len fs j kind names text (v ∷ mid)
      → Is (Class.Joining side) v → PurposeRead len fs (taken_over j kind names side) text mid

-- the front of a selector with braces
pub data BraceHead : ℕ → Option (List ℕ) → List Word → List Word → Type 0 where
  no_name : {inner : List Word} (w : Word) → Is Class.OpenCurly w
      → BraceHead w.at None (w ∷ inner) inner
  a_name : {inner : List Word} (w b : Word) → Is Class.Identifier w → Is Class.OpenCurly b
      → BraceHead w.at (Some w.text) (w ∷ b ∷ inner) inner

-- From the front of the whole text these frames were opened, and an expression is wanted at `text`.
abbrev pub Built : (len : ℕ) (whole : List Word) → List Frame → List Word → Type 0
Built len whole [] text = text ≡ whole
Built len whole (in_parens ∷ fs) text = (w : Word) × Is Class.OpenRound w
    × MayOpen len (opened fs) w.at × Built len whole fs (w ∷ text)
Built len whole (in_minus place ∷ fs) text =
    (w : Word) × Is (Class.Operator Op.Sub) w × MayOpen len (opened fs) w.at × (place ≡ w.at)
    × Built len whole fs (w ∷ text)
Built len whole (in_plus ∷ fs) text = (w : Word) × Is (Class.Operator Op.Add) w
    × MayOpen len (opened fs) w.at × Built len whole fs (w ∷ text)
Built len whole (in_operator j m ∷ fs) text = (start : List Word) × (mid : List Word)
    × JointRead len fs j start mid × Mods mid text m × Built len whole fs start
Built len whole (in_args c ∷ fs) text = (start : List Word) × InArgs len (opened fs) c start text
    × Built len whole fs start
Built len whole (in_template scope h ps ∷ fs) text =
    (start : List Word) × (mid : List Word) × (e : Word)
    × InTemplates len (opened fs) scope start mid × TemplateHead h ps mid (e ∷ text)
    × Is Class.Assign e
    × Built len whole fs start
Built len whole (in_body scope ∷ fs) text = (start : List Word)
    × WithRead len (opened fs) scope start text × Built len whole fs start

-- What a window or an offset lacks makes an expression with what stands before it.
abbrev pub Offsets : (len n : ℕ) → (place : ℕ) → Tree → Option Span → (at : ℕ) → List Word
    → List Word → Type 0
Offsets len n place t window at text mid = (rest : List Word) (span : Span)
    → Offset len at mid rest span
    → Reads len n postfix false text rest (ranged place t window (Some span))

abbrev pub Windowed : (len n : ℕ) → (place : ℕ) → Tree → Span → List Word → List Word → Type 0
Windowed len n place t span text mid = (rest : List Word) (offset : Option Span)
    → OffsetIfAny len mid rest offset
    → Reads len n postfix false text rest (ranged place t (Some span) offset)

abbrev pub Held : (len : ℕ) (whole : List Word) (fs : List Frame) → Before → List Word → Type 0
Held len whole fs wanted rest = Built len whole fs rest
Held len whole fs (named h) rest = (w : Word) × (h ≡ head_of w) × Is Class.Identifier w
    × Built len whole fs (w ∷ rest)
Held len whole fs (grouped c) rest = (start : List Word) × HeadRead c start rest
    × Built len whole fs start
Held len whole fs (called c) rest = (start : List Word) × CallRead len (opened fs) c start rest
    × Built len whole fs start
Held len whole fs (regrouped c) rest = (start : List Word)
    × RegroupedRead len (opened fs) c start rest × Built len whole fs start
Held len whole fs (names_wanted p) rest = (start : List Word) × PurposeRead len fs p start rest
    × Built len whole fs start
Held len whole fs (in_names p s) rest =
    (start : List Word) × (w : Word) × (inner : List Word) × PurposeRead len fs p start (w ∷ inner)
    × Is Class.OpenRound w
    × (leads names_step names_start inner ≡ leads names_step s rest) × Built len whole fs start
Held len whole fs (in_braces place name s) rest =
    (start : List Word) × (inner : List Word) × BraceHead place name start inner
    × (leads braces_step braces_start inner ≡ leads braces_step s rest)
    × Built len whole fs start
Held len whole fs (primary t) rest = (start : List Word) × Primary len (opened fs) start rest t
    × Built len whole fs start
Held len whole fs (window_wanted place t) rest =
    (start : List Word) × (w : Word) × Primary len (opened fs) start (w ∷ rest) t
    × Is Class.OpenSquare w × (place ≡ w.at) × Built len whole fs start
Held len whole fs (window_read place t span) rest =
    (start : List Word)
    × ((e : Word) (more : List Word) → rest ≡ e ∷ more → Is Class.CloseSquare e
    → Windowed len (opened fs) place t span start more)
    × Built len whole fs start
Held len whole fs (windowed place t span) rest = (start : List Word)
    × Windowed len (opened fs) place t span start rest × Built len whole fs start
Held len whole fs (offset_wanted place t window) rest =
    (start : List Word) × (w : Word) × Is Class.Offset w
    × Offsets len (opened fs) place t window w.at start (w ∷ rest) × Built len whole fs start
Held len whole fs (offset_back place t window) rest =
    (start : List Word) × (w : Word) × (m : Word) × Is Class.Offset w × Is (Class.Operator Op.Sub) m
    × Offsets len (opened fs) place t window w.at start (w ∷ m ∷ rest) × Built len whole fs start
Held len whole fs (complete t) rest = (start : List Word)
    × Reads len (opened fs) postfix false start rest t × Built len whole fs start
Held len whole fs (operated j) rest = (start : List Word) × OperatorRead len fs j start rest
    × Built len whole fs start
Held len whole fs (compared j) rest = (start : List Word) × JointRead len fs j start rest
    × Built len whole fs start
Held len whole fs (matched j kind names) rest = (start : List Word)
    × MatchRead len fs j kind names start rest × Built len whole fs start
Held len whole fs (many_read j kind names side) rest =
    (start : List Word) × (v : Word) × MatchRead len fs j kind names start (v ∷ rest)
    × Is (Class.Joining side) v × Built len whole fs start
Held len whole fs (with_read place) rest = (w : Word) × (place ≡ w.at) × Is Class.With w
    × Built len whole fs (w ∷ rest)
Held len whole fs (template_wanted scope) rest = (start : List Word)
    × InTemplates len (opened fs) scope start rest × Built len whole fs start
Held len whole fs (template_named scope h) rest =
    (start : List Word) × (w : Word) × InTemplates len (opened fs) scope start (w ∷ rest)
    × (h ≡ head_of w) × Is Class.Identifier w × Built len whole fs start
Held len whole fs (in_params scope h s) rest =
    (start : List Word) × (w : Word) × (p : Word) × (inner : List Word)
    × InTemplates len (opened fs) scope start (w ∷ p ∷ inner) × (h ≡ head_of w)
    × Is Class.Identifier w × Is Class.OpenRound p
    × (leads params_step params_start inner ≡ leads params_step s rest) × Built len whole fs start
Held len whole fs (template_headed scope h ps) rest =
    (start : List Word) × (mid : List Word) × InTemplates len (opened fs) scope start mid
    × TemplateHead h ps mid rest × Built len whole fs start

abbrev pub HeldAt : (len : ℕ) (whole : List Word) → State → List Word → Type 0
HeldAt len whole s rest = Held len whole s.frames s.before rest
