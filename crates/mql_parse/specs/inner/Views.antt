-- The machine's state as contracts see it: expressions as trees.
use Rattle.std.specs.Prelude.{◌≡◌, ℕ, List, map, Result, Ok, Err, ⊤}
use Rattle.mql_expr.specs.Tree.{tree, template}
use Rattle.mql_parse.specs.Machine.{State, at, Frame, in_parens, in_minus, in_plus, in_operator, in_args, in_template, in_body, Before, wanted, named, grouped, called, regrouped, names_wanted, in_names, in_braces, primary, window_wanted, window_read, windowed, offset_wanted, offset_back, complete, operated, compared, matched, many_read, with_read, template_wanted, template_named, in_params, template_headed, Purpose, before_args, after_args, matched_by, taken_over, Call, Head, Joint, Scope}
use Rattle.mql_parse.specs.declared.fault.Wrong.{Wrong}
use Rattle.mql_parse.specs.declared.fault.StepError.{StepError}
use Rattle.mql_parse.specs.declared.fault.StepError.TheVariants.{Memory, Refused}
use Rattle.mql_parse.specs.declared.parse_fault.ParseFault.{ParseFault}
use Rattle.mql_parse.specs.declared.state.Calling.{Calling}
use Rattle.mql_parse.specs.declared.state.Heading.{Heading}
use Rattle.mql_parse.specs.declared.state.Last.{Last}
use Rattle.mql_parse.specs.declared.state.Joining.{Joining}
use Rattle.mql_parse.specs.declared.state.Measuring.{Measuring}
use Rattle.mql_parse.specs.declared.state.NamesFor.{NamesFor}
use Rattle.mql_parse.specs.declared.state.Open.{Open}
use Rattle.mql_parse.specs.declared.state.Pending.{Pending}
use Rattle.mql_parse.specs.declared.state.Scoping.{Scoping}
use Rattle.mql_parse.specs.declared.state.Templating.{Templating}

-- a name at its place
abbrev pub the_head : Heading → Head
the_head h = record { at = h.at; name = h.name }

-- a call as far as it was read
abbrev pub the_call : Calling → Call
the_call c =
    record { at = c.at; name = c.name; args = map tree c.args; before = c.before; after = c.after }

-- an operator and its left operand
abbrev pub the_joint : Pending → Joint
the_joint p = record { at = p.at; op = p.op; truth = p.truth; operand = tree p.left }

-- a `with` and its templates so far
abbrev pub the_scope : Scoping → Scope
the_scope s = record { at = s.at; templates = map template s.templates }

-- what an expression stands in
abbrev pub the_frame : Open → Frame
the_frame Open.Round = in_parens
the_frame (Open.Negating place) = in_minus place
the_frame Open.Adding = in_plus
the_frame (Open.Operating p m) = in_operator (the_joint p) m
the_frame (Open.Calling c) = in_args (the_call c)
the_frame (Open.Defining s h ps) = in_template (the_scope s) (the_head h) ps
the_frame (Open.Scoped s) = in_body (the_scope s)

-- the frames of a stack, the innermost first
abbrev pub the_frames : List Open → List Frame
the_frames opens = map the_frame opens

-- what names in parentheses are for
abbrev pub the_purpose : NamesFor → Purpose
the_purpose (NamesFor.GroupBefore c by) = before_args (the_call c) by
the_purpose (NamesFor.GroupAfter c by) = after_args (the_call c) by
the_purpose (NamesFor.Pairs p kind) = matched_by (the_joint p) kind
the_purpose (NamesFor.Taken p) = taken_over (the_joint p.pending) p.kind p.names p.many

-- how far a window or an offset was read
abbrev pub the_measuring : Measuring → Before
the_measuring (Measuring.WindowWanted r) = window_wanted r.at (tree r.inner)
the_measuring (Measuring.WindowRead r span) = window_read r.at (tree r.inner) span
the_measuring (Measuring.Windowed r span) = windowed r.at (tree r.inner) span
the_measuring (Measuring.OffsetWanted r window) = offset_wanted r.at (tree r.inner) window
the_measuring (Measuring.OffsetBack r window) = offset_back r.at (tree r.inner) window

-- how far an operator was read
abbrev pub the_joining : Joining → Before
the_joining (Joining.Operator p) = operated (the_joint p)
the_joining (Joining.Compared p) = compared (the_joint p)
the_joining (Joining.Matched p) = matched (the_joint p.pending) p.kind p.names
the_joining (Joining.Widened p) = many_read (the_joint p.pending) p.kind p.names p.many

-- how far the templates of a `with` were read
abbrev pub the_templating : Templating → Before
the_templating (Templating.With place) = with_read place
the_templating (Templating.Wanted s) = template_wanted (the_scope s)
the_templating (Templating.Name s h) = template_named (the_scope s) (the_head h)
the_templating (Templating.InParams s h state) = in_params (the_scope s) (the_head h) state
the_templating (Templating.Head s h ps) = template_headed (the_scope s) (the_head h) ps

-- what stands right before the next word
abbrev pub the_before : Last → Before
the_before Last.Nothing = wanted
the_before (Last.Name h) = named (the_head h)
the_before (Last.Grouped c) = grouped (the_call c)
the_before (Last.Called c) = called (the_call c)
the_before (Last.Regrouped c) = regrouped (the_call c)
the_before (Last.NamesWanted p) = names_wanted (the_purpose p)
the_before (Last.InNames p s) = in_names (the_purpose p) s
the_before (Last.InBraces place name s) = in_braces place name s
the_before (Last.Primary e) = primary (tree e)
the_before (Last.Measuring m) = the_measuring m
the_before (Last.Complete e) = complete (tree e)
the_before (Last.Joining j) = the_joining j
the_before (Last.Templating t) = the_templating t

-- the fault of a token at a place
abbrev pub the_fault : StepError → ℕ → ParseFault
the_fault Memory place = ParseFault.Memory
the_fault (Refused Wrong.Unexpected) place = ParseFault.Unexpected place
the_fault (Refused Wrong.TooDeep) place = ParseFault.TooDeep place
the_fault (Refused Wrong.NumberTooWide) place = ParseFault.NumberTooWide place

-- A step is that of the machine, unless memory runs out.
abbrev pub Steps : Result Last StepError → List Open → Result State Wrong → Type 0
Steps (Ok last) stack move = move ≡ Ok (at (the_frames stack) (the_before last))
Steps (Err Memory) stack move = ⊤
Steps (Err (Refused wrong)) stack move = move ≡ Err wrong
