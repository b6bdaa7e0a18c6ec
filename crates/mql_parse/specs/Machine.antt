-- A machine that reads a query, one word at a time. That it reads what `specs/Grammar.antt` says is
-- proved.
use Rattle.std.specs.Prelude.{ℕ, suc, ◌==◌, nat_lt, nat_le, Bool, true, false, List, [], ◌∷◌, ◌++◌, Option, Some, None, is_some, Result, Ok, Err, if◌then◌else◌}
use Rattle.mql_lex.specs.declared.group.Group.{Group}
use Rattle.mql_lex.specs.declared.group.Many.{Many}
use Rattle.mql_lex.specs.declared.group.Many.TheVariants.{One}
use Rattle.mql_lex.specs.declared.group.MatchKind.{MatchKind}
use Rattle.mql_lex.specs.declared.group.MatchKind.TheVariants.{All}
use Rattle.mql_lex.specs.declared.group.Matching.{Matching}
use Rattle.mql_lex.specs.declared.operator.Op.{Op}
use Rattle.mql_lex.specs.declared.span.Span.{Span}
use Rattle.mql_lists.specs.declared.class.Class.{Class}
use Rattle.mql_lists.specs.Words.{Word}
use Rattle.mql_lists.specs.Classes.{class_of_word}
use Rattle.mql_expr.specs.declared.expr.Param.{Param}
use Rattle.mql_lists.specs.declared.progress.Progress.{Progress}
use Rattle.mql_lists.specs.declared.progress.Progress.TheVariants.{Goes, Done}
use Rattle.mql_lists.specs.declared.names.NamesReader.{NamesReader}
use Rattle.mql_lists.specs.Machines.{names_start, names_step, params_start, params_step, braces_start, braces_step}
use Rattle.mql_lists.specs.declared.params.ParamsReader.{ParamsReader}
use Rattle.mql_lists.specs.declared.braces.BracesReader.{BracesReader}
use Rattle.mql_expr.specs.Tree.{Tree, number, string, select, ranged, call, binary, negate, with_templates, trees_of, TreeTemplate, templates_listed}
use Rattle.mql_lists.specs.Values.{value_of}
use Rattle.mql_parse.specs.Values.{number_of, or_zero, length_of, is_short, ahead, back}
use Rattle.mql_parse.specs.declared.fault.Wrong.{Wrong}
use Rattle.mql_parse.specs.declared.fault.Wrong.TheVariants.{Unexpected, TooDeep, NumberTooWide}
use Rattle.mql_expr.specs.Levels.{level_of_op as level}
use Rattle.mql_parse.specs.Grammar.{is_comparison, deepest, matching}

-- a call as far as it was read
pub record Call : Type 0 where
  pub at : ℕ
  pub name : List ℕ
  pub args : List Tree
  pub before : Option Group
  pub after : Option Group

-- an operator and its left operand
pub record Joint : Type 0 where
  pub at : ℕ
  pub op : Op
  pub truth : Bool
  pub operand : Tree

-- a `with` and its templates so far
pub record Scope : Type 0 where
  pub at : ℕ
  pub templates : List TreeTemplate

-- the head of a template
pub record Head : Type 0 where
  pub at : ℕ
  pub name : List ℕ

-- what an expression stands in, as far as it was read
pub data Frame : Type 0 where
  in_parens : Frame
  in_minus : (at : ℕ) → Frame
  in_plus : Frame
  in_operator : Joint → Matching → Frame
  in_args : Call → Frame
  in_template : Scope → Head → List Param → Frame
  in_body : Scope → Frame

-- what names in parentheses are for
pub data Purpose : Type 0 where
  before_args : Call → Bool → Purpose
  after_args : Call → Bool → Purpose
  matched_by : Joint → MatchKind → Purpose
  taken_over : Joint → MatchKind → List (List ℕ) → Many → Purpose

-- what stands right before the next word
pub data Before : Type 0 where
  -- An expression is wanted.
  wanted : Before
  -- a name
  named : Head → Before
  -- a call with its group, before its arguments
  grouped : Call → Before
  -- a call after its arguments
  called : Call → Before
  -- a call with the group after it
  regrouped : Call → Before
  -- a word that wants names in parentheses, and among these names
  names_wanted : Purpose → Before
  in_names : Purpose → NamesReader → Before
  -- in the braces of a selector
  in_braces : (at : ℕ) → Option (List ℕ) → BracesReader → Before
  -- an expression that may take a window or an offset, and the parts of these
  primary : Tree → Before
  window_wanted : (at : ℕ) → Tree → Before
  window_read : (at : ℕ) → Tree → Span → Before
  windowed : (at : ℕ) → Tree → Span → Before
  offset_wanted : (at : ℕ) → Tree → Option Span → Before
  offset_back : (at : ℕ) → Tree → Option Span → Before
  -- an expression that takes neither
  complete : Tree → Before
  -- an operator, with what may stand after it
  operated : Joint → Before
  compared : Joint → Before
  matched : Joint → MatchKind → List (List ℕ) → Before
  many_read : Joint → MatchKind → List (List ℕ) → Many → Before
  -- a `with`, and the parts of its templates
  with_read : (at : ℕ) → Before
  template_wanted : Scope → Before
  template_named : Scope → Head → Before
  in_params : Scope → Head → ParamsReader → Before
  template_headed : Scope → Head → List Param → Before

-- what is open, the innermost first, and what stands right before the next word
pub record State : Type 0 where
  pub frames : List Frame
  pub before : Before

-- this state
abbrev pub at : List Frame → Before → State
at frames before = record { frames = frames; before = before }

-- a move to this state
abbrev pub reached : State → Result State Wrong
reached s = Ok s

-- a move to this state where the test holds, else the fault
abbrev pub only : Bool → Wrong → State → Result State Wrong
only true wrong s = Ok s
only false wrong s = Err wrong

-- ---- levels

-- whether a frame is a level
abbrev pub opens : Frame → Bool
opens in_parens = true
opens (in_minus _) = true
opens in_plus = true
opens (in_args _) = true
opens (in_template _ _ _) = true
opens (in_operator _ _) = false
opens (in_body _) = false

-- how many levels are open
abbrev pub opened : List Frame → ℕ
opened [] = 0
opened (f ∷ fs) = if opens f then suc (opened fs) else opened fs

-- a limit that binds within the text alone
abbrev pub fits : (within under : Bool) → Bool
fits true under = under
fits false under = true

-- where a word at this place may open one more
abbrev pub opening : (len place : ℕ) → List Frame → State → Result State Wrong
opening len place fs s = only (fits (nat_lt place len) (nat_lt (opened fs) deepest)) TooDeep s

-- ---- operands

-- an operator with both operands
abbrev pub joined : Joint → Matching → Tree → Tree
joined j m t = binary j.at j.op j.truth m j.operand t

-- a call as an expression
abbrev pub calling : Call → Bool → Tree
calling c keep = call c.at c.name (trees_of c.args) c.before c.after keep

-- frames and the expression that stands in them
pub record Reduced : Type 0 where
  pub frames : List Frame
  pub tree : Tree

-- Whether an operator of this level ends a frame. Level 0 ends all that need no closing bracket.
abbrev pub ends : ℕ → Frame → Bool
ends k (in_minus _) = true
ends k in_plus = true
ends k (in_operator j m) = nat_le k (level j.op)
ends k (in_body _) = k == 0
ends k _ = false

-- whether it ends the innermost
abbrev pub first_ends : ℕ → List Frame → Bool
first_ends k [] = false
first_ends k (f ∷ fs) = ends k f

-- what an expression and the frame that it ends make
abbrev pub ended : Frame → Tree → Tree
ended (in_minus place) t = negate place t
ended (in_operator j m) t = joined j m t
ended (in_body scope) t = with_templates scope.at (templates_listed scope.templates) t
ended _ t = t

-- the frames that an operator of this level leaves, and the expression that stands in them
abbrev pub reduce : ℕ → List Frame → Tree → Reduced
reduce k [] t = record { frames = []; tree = t }
reduce k (f ∷ fs) t = if ends k f then reduce k fs (ended f t)
    else record { frames = f ∷ fs; tree = t }

-- after an operator
abbrev pub operate : Reduced → (here : ℕ) → Op → State
operate r here op =
    at r.frames (operated (record { at = here; op = op; truth = false; operand = r.tree }))

-- a call with one more argument
abbrev pub one_more : Call → Tree → Call
one_more c t =
    record { at = c.at; name = c.name; args = c.args ++ t ∷ []; before = c.before; after = c.after }

-- a `with` with one more template
abbrev pub with_one_more : Scope → Head → List Param → Tree → Scope
with_one_more s h ps t =
    record {
      at = s.at;
      templates = s.templates
          ++ record { at = h.at; name = h.name; params = ps; body = t } ∷ [];
    }

-- after `)`
abbrev pub close_frame : List Frame → Tree → Result State Wrong
close_frame (in_parens ∷ fs) t = Ok (at fs (primary t))
close_frame (in_args c ∷ fs) t = Ok (at fs (called (one_more c t)))
close_frame (in_template s h ps ∷ fs) t = Ok (at (in_body (with_one_more s h ps t) ∷ fs) wanted)
close_frame _ t = Err Unexpected

-- the same of frames that were reduced
abbrev pub close : Reduced → Result State Wrong
close r = close_frame r.frames r.tree

-- after `,`
abbrev pub continue_frame : List Frame → Tree → Result State Wrong
continue_frame (in_args c ∷ fs) t = Ok (at (in_args (one_more c t) ∷ fs) wanted)
continue_frame (in_template s h ps ∷ fs) t = Ok (at fs (template_wanted (with_one_more s h ps t)))
continue_frame _ t = Err Unexpected

-- the same of frames that were reduced
abbrev pub continue : Reduced → Result State Wrong
continue r = continue_frame r.frames r.tree

-- what comes of an expression where the text ends
abbrev pub end_frame : List Frame → Tree → Option Tree
end_frame [] t = Some t
end_frame (f ∷ fs) t = None

-- the same of frames that were reduced
abbrev pub end : Reduced → Option Tree
end r = end_frame r.frames r.tree

-- ---- moves

-- after an expression with all that belongs to it: an operator, `)` or `,`
abbrev pub go_on : List Frame → Tree → (here : ℕ) → Class → Result State Wrong
go_on fs t here (Class.Operator op) = Ok (operate (reduce (level op) fs t) here op)
go_on fs t here Class.CloseRound = close (reduce 0 fs t)
go_on fs t here Class.Comma = continue (reduce 0 fs t)
go_on fs t here _ = Err Unexpected

-- after a window
abbrev pub by_window : List Frame → (at : ℕ) → Tree → Span → (here : ℕ) → Class → Result State Wrong
by_window fs place t span here Class.Offset = Ok (at fs (offset_wanted place t (Some span)))
by_window fs place t span here c = go_on fs (ranged place t (Some span) None) here c

-- after an expression that may take a window or an offset
abbrev pub by_primary : List Frame → Tree → (here : ℕ) → Class → Result State Wrong
by_primary fs t here Class.OpenSquare = Ok (at fs (window_wanted here t))
by_primary fs t here Class.Offset = Ok (at fs (offset_wanted here t None))
by_primary fs t here c = go_on fs t here c

-- after a call and the group that follows it
abbrev pub by_regrouped : List Frame → Call → (here : ℕ) → Class → Result State Wrong
by_regrouped fs c here Class.Keep = Ok (at fs (primary (calling c true)))
by_regrouped fs c here class = by_primary fs (calling c false) here class

-- after the arguments of a call
abbrev pub by_called : List Frame → Call → (here : ℕ) → Class → Result State Wrong
by_called fs c here (Class.Grouping by) = Ok (at fs (names_wanted (after_args c by)))
by_called fs c here class = by_regrouped fs c here class

-- a call that begins with a name
abbrev pub call_of : Head → Call
call_of h = record { at = h.at; name = h.name; args = []; before = None; after = None }

-- a name as a selector
abbrev pub metric : Head → Tree
metric h = select h.at (Some h.name) []

-- after a name
abbrev pub by_named : (len : ℕ) → List Frame → Head → (here : ℕ) → Class → Result State Wrong
by_named len fs h here Class.OpenRound = opening len here fs (at (in_args (call_of h) ∷ fs) wanted)
by_named len fs h here Class.OpenCurly = Ok (at fs (in_braces h.at (Some h.name) braces_start))
by_named len fs h here (Class.Grouping by) = Ok (at fs (names_wanted (before_args (call_of h) by)))
by_named len fs h here c = by_primary fs (metric h) here c

-- after the `)` of arguments, where none stands before it
abbrev pub no_more : List Frame → Result State Wrong
no_more (in_args c ∷ fs) = Ok (at fs (called c))
no_more _ = Err Unexpected

-- a name at its place
abbrev pub head_of : Word → Head
head_of w = record { at = w.at; name = w.text }

-- where an expression is wanted
abbrev pub by_wanted : (len : ℕ) → List Frame → Word → Class → Result State Wrong
by_wanted len fs w Class.Numeral =
    only (fits (nat_lt w.at len) (is_some (number_of w.text))) NumberTooWide
    (at fs (primary (number w.at (or_zero (number_of w.text)))))
by_wanted len fs w Class.Quoted = Ok (at fs (primary (string w.at (value_of w.text))))
by_wanted len fs w Class.Identifier = Ok (at fs (named (head_of w)))
by_wanted len fs w Class.OpenCurly = Ok (at fs (in_braces w.at None braces_start))
by_wanted len fs w Class.OpenRound = opening len w.at fs (at (in_parens ∷ fs) wanted)
by_wanted len fs w Class.CloseRound = no_more fs
by_wanted len fs w Class.With = Ok (at fs (with_read w.at))
by_wanted len fs w (Class.Operator Op.Sub) = opening len w.at fs (at (in_minus w.at ∷ fs) wanted)
by_wanted len fs w (Class.Operator Op.Add) = opening len w.at fs (at (in_plus ∷ fs) wanted)
by_wanted len fs w _ = Err Unexpected

-- where a duration is wanted
abbrev pub measured : (len : ℕ) → Word → State → Result State Wrong
measured len w s = only (fits (nat_lt w.at len) (is_short (length_of w.text))) NumberTooWide s

-- after `[`
abbrev pub by_window_wanted : (len : ℕ) → List Frame → (place : ℕ) → Tree → Word → Class
    → Result State Wrong
by_window_wanted len fs place t w Class.Time =
    measured len w (at fs (window_read place t (ahead (length_of w.text))))
by_window_wanted len fs place t w _ = Err Unexpected

-- after `[` and a duration
abbrev pub by_window_read : List Frame → (place : ℕ) → Tree → Span → Class → Result State Wrong
by_window_read fs place t span Class.CloseSquare = Ok (at fs (windowed place t span))
by_window_read fs place t span _ = Err Unexpected

-- after `offset`
abbrev pub by_offset_wanted : (len : ℕ) → List Frame → (place : ℕ) → Tree → Option Span → Word
    → Class → Result State Wrong
by_offset_wanted len fs place t window w Class.Time =
    measured len w (at fs (complete (ranged place t window (Some (ahead (length_of w.text))))))
by_offset_wanted len fs place t window w (Class.Operator Op.Sub) =
    Ok (at fs (offset_back place t window))
by_offset_wanted len fs place t window w _ = Err Unexpected

-- after `offset -`
abbrev pub by_offset_back : (len : ℕ) → List Frame → (place : ℕ) → Tree → Option Span → Word → Class
    → Result State Wrong
by_offset_back len fs place t window w Class.Time =
    measured len w (at fs (complete (ranged place t window (Some (back (length_of w.text))))))
by_offset_back len fs place t window w _ = Err Unexpected

-- after an operator with all that belongs to it
abbrev pub joining : List Frame → Joint → Matching → List Frame
joining fs j m = in_operator j m ∷ fs

-- after `group_left` or `group_right`
abbrev pub by_many : (len : ℕ) → List Frame → Joint → MatchKind → List (List ℕ) → Many → Word
    → Class → Result State Wrong
by_many len fs j kind names side w Class.OpenRound =
    Ok (at fs (in_names (taken_over j kind names side) names_start))
by_many len fs j kind names side w c =
    by_wanted len (joining fs j (matching kind names side [])) w c

-- after the names of `on` or `ignoring`
abbrev pub by_matched : (len : ℕ) → List Frame → Joint → MatchKind → List (List ℕ) → Word → Class
    → Result State Wrong
by_matched len fs j kind names w (Class.Joining side) = Ok (at fs (many_read j kind names side))
by_matched len fs j kind names w c = by_wanted len (joining fs j (matching kind names One [])) w c

-- after an operator and `bool`, where one may stand
abbrev pub by_compared : (len : ℕ) → List Frame → Joint → Word → Class → Result State Wrong
by_compared len fs j w (Class.Pairing kind) = Ok (at fs (names_wanted (matched_by j kind)))
by_compared len fs j w c = by_wanted len (joining fs j (matching All [] One [])) w c

-- an operator with `bool`
abbrev pub true_joint : Joint → Joint
true_joint j = record { at = j.at; op = j.op; truth = true; operand = j.operand }

-- after an operator
abbrev pub by_operated : (len : ℕ) → List Frame → Joint → Word → Class → Result State Wrong
by_operated len fs j w Class.Truth =
    only (is_comparison j.op) Unexpected (at fs (compared (true_joint j)))
by_operated len fs j w c = by_compared len fs j w c

-- where names in parentheses are wanted
abbrev pub by_names_wanted : List Frame → Purpose → Class → Result State Wrong
by_names_wanted fs p Class.OpenRound = Ok (at fs (in_names p names_start))
by_names_wanted fs p _ = Err Unexpected

-- after names in parentheses
abbrev pub named_for : List Frame → Purpose → List (List ℕ) → State
named_for fs (before_args c by) names =
    at fs (grouped
    (record {
      at = c.at;
      name = c.name;
      args = c.args;
      before = Some (record { by = by; names = names });
      after = c.after;
    }))
named_for fs (after_args c by) names =
    at fs (regrouped
    (record {
      at = c.at;
      name = c.name;
      args = c.args;
      before = c.before;
      after = Some (record { by = by; names = names });
    }))
named_for fs (matched_by j kind) names = at fs (matched j kind names)
named_for fs (taken_over j kind by_names side) names =
    at (joining fs j (matching kind by_names side names)) wanted

-- one step of the machine of a part, whose state stands in one of this machine
abbrev pub within_part : {S V : Type 0} → (S → State) → (V → State) → Option (Progress S V)
    → Result State Wrong
within_part on off None = Err Unexpected
within_part on off (Some (Goes s)) = Ok (on s)
within_part on off (Some (Done v)) = Ok (off v)

-- after a call with its group, before its arguments
abbrev pub by_grouped : (len : ℕ) → List Frame → Call → (here : ℕ) → Class → Result State Wrong
by_grouped len fs c here Class.OpenRound = opening len here fs (at (in_args c ∷ fs) wanted)
by_grouped len fs c here _ = Err Unexpected

-- after `with`
abbrev pub by_with_read : (len : ℕ) → List Frame → (place : ℕ) → (here : ℕ) → Class
    → Result State Wrong
by_with_read len fs place here Class.OpenRound =
    opening len here fs (at fs (template_wanted (record { at = place; templates = [] })))
by_with_read len fs place here _ = Err Unexpected

-- where a template or `)` is wanted
abbrev pub by_template_wanted : List Frame → Scope → Word → Class → Result State Wrong
by_template_wanted fs s w Class.Identifier = Ok (at fs (template_named s (head_of w)))
by_template_wanted fs s w Class.CloseRound = Ok (at (in_body s ∷ fs) wanted)
by_template_wanted fs s w _ = Err Unexpected

-- after the name and the parameters of a template
abbrev pub by_template_headed : List Frame → Scope → Head → List Param → Class → Result State Wrong
by_template_headed fs s h ps Class.Assign = Ok (at (in_template s h ps ∷ fs) wanted)
by_template_headed fs s h ps _ = Err Unexpected

-- after the name of a template
abbrev pub by_template_named : List Frame → Scope → Head → Class → Result State Wrong
by_template_named fs s h Class.OpenRound = Ok (at fs (in_params s h params_start))
by_template_named fs s h c = by_template_headed fs s h [] c

-- what a word leads to, or what is wrong with it
abbrev pub by : (len : ℕ) → List Frame → Before → Word → Class → Result State Wrong
by len fs wanted w c = by_wanted len fs w c
by len fs (named h) w c = by_named len fs h w.at c
by len fs (grouped x) w c = by_grouped len fs x w.at c
by len fs (called x) w c = by_called fs x w.at c
by len fs (regrouped x) w c = by_regrouped fs x w.at c
by len fs (names_wanted p) w c = by_names_wanted fs p c
by len fs (in_names p s) w c =
    within_part (λ t. at fs (in_names p t)) (named_for fs p) (names_step s w)
by len fs (in_braces place name s) w c =
    within_part (λ t. at fs (in_braces place name t))
    (λ lists. at fs (primary (select place name lists))) (braces_step s w)
by len fs (primary t) w c = by_primary fs t w.at c
by len fs (window_wanted place t) w c = by_window_wanted len fs place t w c
by len fs (window_read place t span) w c = by_window_read fs place t span c
by len fs (windowed place t span) w c = by_window fs place t span w.at c
by len fs (offset_wanted place t window) w c = by_offset_wanted len fs place t window w c
by len fs (offset_back place t window) w c = by_offset_back len fs place t window w c
by len fs (complete t) w c = go_on fs t w.at c
by len fs (operated j) w c = by_operated len fs j w c
by len fs (compared j) w c = by_compared len fs j w c
by len fs (matched j kind names) w c = by_matched len fs j kind names w c
by len fs (many_read j kind names side) w c = by_many len fs j kind names side w c
by len fs (with_read place) w c = by_with_read len fs place w.at c
by len fs (template_wanted s) w c = by_template_wanted fs s w c
by len fs (template_named s h) w c = by_template_named fs s h c
by len fs (in_params s h state) w c =
    within_part (λ t. at fs (in_params s h t)) (λ ps. at fs (template_headed s h ps))
    (params_step state w)
by len fs (template_headed s h ps) w c = by_template_headed fs s h ps c

-- the state that a move leads to, none where it fails
abbrev pub moved : Result State Wrong → Option State
moved (Ok s) = Some s
moved (Err wrong) = None

-- one step, none where it fails
abbrev pub step : (len : ℕ) → State → Word → Option State
step len s w = moved (by len s.frames s.before w (class_of_word w))

-- the expression that stands before the next word, where one may end there
abbrev pub standing : Before → Option Tree
standing (named h) = Some (metric h)
standing (called c) = Some (calling c false)
standing (regrouped c) = Some (calling c false)
standing (primary t) = Some t
standing (windowed place t span) = Some (ranged place t (Some span) None)
standing (complete t) = Some t
standing _ = None

-- what comes of that expression where the text ends
abbrev pub end_with : List Frame → Option Tree → Option Tree
end_with fs None = None
end_with fs (Some t) = end (reduce 0 fs t)

-- the expression that the words are, where they end in this state
abbrev pub final_of : State → Option Tree
final_of s = end_with s.frames (standing s.before)

-- Nothing is open, and an expression is wanted.
abbrev pub start : State
start = at [] wanted
