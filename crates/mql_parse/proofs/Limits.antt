-- How a step depends on the limits.
use Rattle.std.specs.Prelude.{◌≡◌, ℕ, nat_lt, Bool, true, false, List, [], ◌∷◌, Option, Some, None, is_some, Result, Ok, Err, option_and_then}
use Rattle.std.proofs.Common.{refl, ap, ◌∙◌, arith}
use Rattle.std.proofs.lemmas.Bool.Decides.{nat_tests}
use Rattle.vm_base.specs.Run.{run}
use Rattle.mql_lex.specs.declared.operator.Op.{Op}
use Rattle.mql_lex.specs.declared.group.MatchKind.{MatchKind}
use Rattle.mql_lex.specs.declared.group.Many.{Many}
use Rattle.mql_lex.specs.declared.span.Span.{Span}
use Rattle.mql_expr.specs.Tree.{Tree, ranged}
use Rattle.mql_lists.specs.Words.{Word}
use Rattle.mql_lists.specs.Classes.{class_of_word}
use Rattle.mql_lists.specs.declared.class.Class.{Class}
use Rattle.mql_lists.specs.declared.progress.Progress.{Progress}
use Rattle.mql_lists.specs.declared.progress.Progress.TheVariants.{Goes, Done}
use Rattle.mql_parse.specs.Values.{number_of, length_of, is_short}
use Rattle.mql_lex.specs.declared.group.Many.TheVariants.{One}
use Rattle.mql_lex.specs.declared.group.MatchKind.TheVariants.{All}
use Rattle.mql_parse.specs.Grammar.{deepest, is_comparison, matching}
use Rattle.mql_parse.specs.Faults.{is_measure}
use Rattle.mql_parse.specs.Machine.{State, at, moved, Frame, in_parens, in_minus, in_plus, in_operator, in_args, in_template, in_body, Before, step, by, opened, opening, only, fits, reduce, close_frame, continue_frame, go_on, primary, complete, windowed, window_wanted, window_read, offset_wanted, offset_back, named, called, regrouped, grouped, names_wanted, in_names, in_braces, in_params, many_read, matched, with_read, template_wanted, template_named, template_headed, Purpose, Call, Head, Joint, Scope, calling, metric, wanted, operated, compared, no_more, within_part, by_wanted, by_named, by_called, by_regrouped, by_primary, by_grouped, by_compared, by_many, by_matched, by_operated, by_with_read, by_names_wanted, by_template_named, by_template_headed, by_template_wanted, by_window, by_window_wanted, by_window_read, by_offset_wanted, by_offset_back, joining, measured}
use Rattle.mql_parse.specs.declared.fault.Wrong.{Wrong}
use Rattle.mql_parse.specs.declared.fault.Wrong.TheVariants.{Unexpected, TooDeep, NumberTooWide}

-- without limits a step goes on that goes on with them, or that they alone refuse
pub record GoesFree (measure : Bool) (c : Class) (free : Result State Wrong) : Type 0 where
  pub to : State
  pub goes : free ≡ Ok to
  pub kind : is_measure c ≡ measure

abbrev pub Loosens : Class → Result State Wrong → Result State Wrong → Type 0
Loosens c (Ok s) free = free ≡ Ok s
Loosens c (Err Unexpected) free = free ≡ Err Unexpected
Loosens c (Err TooDeep) free = GoesFree false c free
Loosens c (Err NumberTooWide) free = GoesFree true c free

nothing_inside : (place : ℕ) → nat_lt place 0 ≡ false
nothing_inside place = grind (arith, nat_tests)

allowed_free : (place : ℕ) (test : Bool) (wrong : Wrong) (s : State)
    → only (fits (nat_lt place 0) test) wrong s ≡ Ok s
allowed_free place test wrong s = ap (λ i. only (fits i test) wrong s) (nothing_inside place)

depth_loosens : (c : Class) (t : Bool) (s : State) (free : Result State Wrong)
    → is_measure c ≡ false → free ≡ Ok s → Loosens c (only t TooDeep s) free
depth_loosens c true s free kind is = is
depth_loosens c false s free kind is = record { to = s; goes = is; kind = kind }

width_loosens : (c : Class) (t : Bool) (s : State) (free : Result State Wrong) → is_measure c ≡ true
    → free ≡ Ok s → Loosens c (only t NumberTooWide s) free
width_loosens c true s free kind is = is
width_loosens c false s free kind is = record { to = s; goes = is; kind = kind }

opening_loosens : (c : Class) (len place : ℕ) (fs : List Frame) (s : State) → is_measure c ≡ false
    → Loosens c (opening len place fs s) (opening 0 place fs s)
opening_loosens c len place fs s kind =
    depth_loosens c (fits (nat_lt place len) (nat_lt (opened fs) deepest)) s (opening 0 place fs s)
    kind (allowed_free place (nat_lt (opened fs) deepest) TooDeep s)

measured_loosens : (len : ℕ) (w : Word) (s : State)
    → Loosens Class.Time (measured len w s) (measured 0 w s)
measured_loosens len w s =
    width_loosens Class.Time (fits (nat_lt w.at len) (is_short (length_of w.text))) s
    (measured 0 w s) refl (allowed_free w.at (is_short (length_of w.text)) NumberTooWide s)

close_loosens : (c : Class) (fs : List Frame) (t : Tree)
    → Loosens c (close_frame fs t) (close_frame fs t)
close_loosens c [] t = refl
close_loosens c (in_parens ∷ fs) t = refl
close_loosens c (in_args x ∷ fs) t = refl
close_loosens c (in_template s h ps ∷ fs) t = refl
close_loosens c (in_minus place ∷ fs) t = refl
close_loosens c (in_plus ∷ fs) t = refl
close_loosens c (in_operator j m ∷ fs) t = refl
close_loosens c (in_body s ∷ fs) t = refl

continue_loosens : (c : Class) (fs : List Frame) (t : Tree)
    → Loosens c (continue_frame fs t) (continue_frame fs t)
continue_loosens c [] t = refl
continue_loosens c (in_parens ∷ fs) t = refl
continue_loosens c (in_args x ∷ fs) t = refl
continue_loosens c (in_template s h ps ∷ fs) t = refl
continue_loosens c (in_minus place ∷ fs) t = refl
continue_loosens c (in_plus ∷ fs) t = refl
continue_loosens c (in_operator j m ∷ fs) t = refl
continue_loosens c (in_body s ∷ fs) t = refl

no_more_loosens : (c : Class) (fs : List Frame) → Loosens c (no_more fs) (no_more fs)
no_more_loosens c [] = refl
no_more_loosens c (in_args x ∷ fs) = refl
no_more_loosens c (in_parens ∷ fs) = refl
no_more_loosens c (in_template s h ps ∷ fs) = refl
no_more_loosens c (in_minus place ∷ fs) = refl
no_more_loosens c (in_plus ∷ fs) = refl
no_more_loosens c (in_operator j m ∷ fs) = refl
no_more_loosens c (in_body s ∷ fs) = refl

module _ (w : Word) where
  go_on_loosens : (fs : List Frame) (t : Tree) (c : Class)
      → Loosens c (go_on fs t w.at c) (go_on fs t w.at c)
  go_on_loosens fs t (Class.Operator op) = refl
  go_on_loosens fs t Class.CloseRound =
      close_loosens Class.CloseRound (reduce 0 fs t).frames (reduce 0 fs t).tree
  go_on_loosens fs t Class.Comma =
      continue_loosens Class.Comma (reduce 0 fs t).frames (reduce 0 fs t).tree
  go_on_loosens fs t _ = refl

  primary_loosens : (fs : List Frame) (t : Tree) (c : Class)
      → Loosens c (by_primary fs t w.at c) (by_primary fs t w.at c)
  primary_loosens fs t Class.OpenSquare = refl
  primary_loosens fs t Class.Offset = refl
  primary_loosens fs t c = go_on_loosens fs t c

  window_loosens : (fs : List Frame) (place : ℕ) (t : Tree) (span : Span) (c : Class)
      → Loosens c (by_window fs place t span w.at c) (by_window fs place t span w.at c)
  window_loosens fs place t span Class.Offset = refl
  window_loosens fs place t span c = go_on_loosens fs (ranged place t (Some span) None) c

  regrouped_loosens : (fs : List Frame) (x : Call) (c : Class)
      → Loosens c (by_regrouped fs x w.at c) (by_regrouped fs x w.at c)
  regrouped_loosens fs x Class.Keep = refl
  regrouped_loosens fs x c = primary_loosens fs (calling x false) c

  called_loosens : (fs : List Frame) (x : Call) (c : Class)
      → Loosens c (by_called fs x w.at c) (by_called fs x w.at c)
  called_loosens fs x (Class.Grouping by_word) = refl
  called_loosens fs x c = regrouped_loosens fs x c

  named_loosens : (len : ℕ) (fs : List Frame) (h : Head) (c : Class)
      → Loosens c (by_named len fs h w.at c) (by_named 0 fs h w.at c)
  named_loosens len fs h Class.OpenRound = opening_loosens Class.OpenRound len w.at fs _ refl
  named_loosens len fs h Class.OpenCurly = refl
  named_loosens len fs h (Class.Grouping by_word) = refl
  named_loosens len fs h c = primary_loosens fs (metric h) c

  wanted_loosens : (len : ℕ) (fs : List Frame) (c : Class)
      → Loosens c (by_wanted len fs w c) (by_wanted 0 fs w c)
  wanted_loosens len fs Class.Numeral =
      width_loosens Class.Numeral (fits (nat_lt w.at len) (is_some (number_of w.text))) _ _ refl
      (allowed_free w.at (is_some (number_of w.text)) NumberTooWide _)
  wanted_loosens len fs Class.Quoted = refl
  wanted_loosens len fs Class.Identifier = refl
  wanted_loosens len fs Class.OpenCurly = refl
  wanted_loosens len fs Class.OpenRound = opening_loosens Class.OpenRound len w.at fs _ refl
  wanted_loosens len fs Class.CloseRound = no_more_loosens Class.CloseRound fs
  wanted_loosens len fs Class.With = refl
  wanted_loosens len fs (Class.Operator Op.Sub) =
      opening_loosens (Class.Operator Op.Sub) len w.at fs _ refl
  wanted_loosens len fs (Class.Operator Op.Add) =
      opening_loosens (Class.Operator Op.Add) len w.at fs _ refl
  wanted_loosens len fs _ = refl

  many_loosens :
      (len : ℕ) (fs : List Frame) (j : Joint) (kind : MatchKind) (names : List (List ℕ))
      (side : Many) (c : Class)
      → Loosens c (by_many len fs j kind names side w c) (by_many 0 fs j kind names side w c)
  many_loosens len fs j kind names side Class.OpenRound = refl
  many_loosens len fs j kind names side c =
      wanted_loosens len (joining fs j (matching kind names side [])) c

  matched_loosens :
      (len : ℕ) (fs : List Frame) (j : Joint) (kind : MatchKind) (names : List (List ℕ)) (c : Class)
      → Loosens c (by_matched len fs j kind names w c) (by_matched 0 fs j kind names w c)
  matched_loosens len fs j kind names (Class.Joining side) = refl
  matched_loosens len fs j kind names c =
      wanted_loosens len (joining fs j (matching kind names One [])) c

  compared_loosens : (len : ℕ) (fs : List Frame) (j : Joint) (c : Class)
      → Loosens c (by_compared len fs j w c) (by_compared 0 fs j w c)
  compared_loosens len fs j (Class.Pairing kind) = refl
  compared_loosens len fs j c = wanted_loosens len (joining fs j (matching All [] One [])) c

  test_loosens : (c : Class) (t : Bool) (s : State)
      → Loosens c (only t Unexpected s) (only t Unexpected s)
  test_loosens c true s = refl
  test_loosens c false s = refl

  operated_loosens : (len : ℕ) (fs : List Frame) (j : Joint) (c : Class)
      → Loosens c (by_operated len fs j w c) (by_operated 0 fs j w c)
  operated_loosens len fs j Class.Truth = test_loosens Class.Truth (is_comparison j.op) _
  operated_loosens len fs j c = compared_loosens len fs j c

  part_loosens :
      {S V : Type 0} (c : Class) (into : S → State) (off : V → State) (o : Option (Progress S V))
      → Loosens c (within_part into off o) (within_part into off o)
  part_loosens c into off None = refl
  part_loosens c into off (Some (Goes s)) = refl
  part_loosens c into off (Some (Done v)) = refl

  grouped_loosens : (len : ℕ) (fs : List Frame) (x : Call) (c : Class)
      → Loosens c (by_grouped len fs x w.at c) (by_grouped 0 fs x w.at c)
  grouped_loosens len fs x Class.OpenRound = opening_loosens Class.OpenRound len w.at fs _ refl
  grouped_loosens len fs x _ = refl

  with_loosens : (len : ℕ) (fs : List Frame) (place : ℕ) (c : Class)
      → Loosens c (by_with_read len fs place w.at c) (by_with_read 0 fs place w.at c)
  with_loosens len fs place Class.OpenRound = opening_loosens Class.OpenRound len w.at fs _ refl
  with_loosens len fs place _ = refl

  window_wanted_loosens : (len : ℕ) (fs : List Frame) (place : ℕ) (t : Tree) (c : Class)
      → Loosens c (by_window_wanted len fs place t w c) (by_window_wanted 0 fs place t w c)
  window_wanted_loosens len fs place t Class.Time = measured_loosens len w _
  window_wanted_loosens len fs place t _ = refl

  window_read_loosens : (fs : List Frame) (place : ℕ) (t : Tree) (span : Span) (c : Class)
      → Loosens c (by_window_read fs place t span c) (by_window_read fs place t span c)
  window_read_loosens fs place t span Class.CloseSquare = refl
  window_read_loosens fs place t span _ = refl

  offset_loosens :
      (len : ℕ) (fs : List Frame) (place : ℕ) (t : Tree) (window : Option Span) (c : Class)
      → Loosens c (by_offset_wanted len fs place t window w c)
      (by_offset_wanted 0 fs place t window w c)
  offset_loosens len fs place t window Class.Time = measured_loosens len w _
  offset_loosens len fs place t window (Class.Operator Op.Sub) = refl
  offset_loosens len fs place t window _ = refl

  back_loosens :
      (len : ℕ) (fs : List Frame) (place : ℕ) (t : Tree) (window : Option Span) (c : Class)
      → Loosens c (by_offset_back len fs place t window w c)
      (by_offset_back 0 fs place t window w c)
  back_loosens len fs place t window Class.Time = measured_loosens len w _
  back_loosens len fs place t window _ = refl

  names_wanted_loosens : (fs : List Frame) (p : Purpose) (c : Class)
      → Loosens c (by_names_wanted fs p c) (by_names_wanted fs p c)
  names_wanted_loosens fs p Class.OpenRound = refl
  names_wanted_loosens fs p _ = refl

  templates_loosens : (fs : List Frame) (s : Scope) (c : Class)
      → Loosens c (by_template_wanted fs s w c) (by_template_wanted fs s w c)
  templates_loosens fs s Class.Identifier = refl
  templates_loosens fs s Class.CloseRound = refl
  templates_loosens fs s _ = refl

  headed_loosens :
      (fs : List Frame) (s : Scope) (h : Head)
      (ps : List Rattle.mql_expr.specs.declared.expr.Param.Param) (c : Class)
      → Loosens c (by_template_headed fs s h ps c) (by_template_headed fs s h ps c)
  headed_loosens fs s h ps Class.Assign = refl
  headed_loosens fs s h ps _ = refl

  template_loosens : (fs : List Frame) (s : Scope) (h : Head) (c : Class)
      → Loosens c (by_template_named fs s h c) (by_template_named fs s h c)
  template_loosens fs s h Class.OpenRound = refl
  template_loosens fs s h c = headed_loosens fs s h [] c

  pub step_loosens : (len : ℕ) (fs : List Frame) (b : Before) (c : Class)
      → Loosens c (by len fs b w c) (by 0 fs b w c)
  step_loosens len fs wanted c = wanted_loosens len fs c
  step_loosens len fs (named h) c = named_loosens len fs h c
  step_loosens len fs (grouped x) c = grouped_loosens len fs x c
  step_loosens len fs (called x) c = called_loosens fs x c
  step_loosens len fs (regrouped x) c = regrouped_loosens fs x c
  step_loosens len fs (names_wanted p) c = names_wanted_loosens fs p c
  step_loosens len fs (in_names p s) c = part_loosens c _ _ _
  step_loosens len fs (in_braces place name s) c = part_loosens c _ _ _
  step_loosens len fs (primary t) c = primary_loosens fs t c
  step_loosens len fs (window_wanted place t) c = window_wanted_loosens len fs place t c
  step_loosens len fs (window_read place t span) c = window_read_loosens fs place t span c
  step_loosens len fs (windowed place t span) c = window_loosens fs place t span c
  step_loosens len fs (offset_wanted place t window) c = offset_loosens len fs place t window c
  step_loosens len fs (offset_back place t window) c = back_loosens len fs place t window c
  step_loosens len fs (complete t) c = go_on_loosens fs t c
  step_loosens len fs (operated j) c = operated_loosens len fs j c
  step_loosens len fs (compared j) c = compared_loosens len fs j c
  step_loosens len fs (matched j kind names) c = matched_loosens len fs j kind names c
  step_loosens len fs (many_read j kind names side) c = many_loosens len fs j kind names side c
  step_loosens len fs (with_read place) c = with_loosens len fs place c
  step_loosens len fs (template_wanted s) c = templates_loosens fs s c
  step_loosens len fs (template_named s h) c = template_loosens fs s h c
  step_loosens len fs (in_params s h state) c = part_loosens c _ _ _
  step_loosens len fs (template_headed s h ps) c = headed_loosens fs s h ps c

-- the same words are read without limits
pub run_free : (len : ℕ) (s t : State) (front : List Word) → run (step len) s front ≡ Some t
    → run (step 0) s front ≡ Some t
run_free len s t [] there = there
run_free len s t (w ∷ front) there =
    go (by len s.frames s.before w (class_of_word w)) (by 0 s.frames s.before w (class_of_word w))
    (step_loosens w len s.frames s.before (class_of_word w)) there (λ u. run_free len u t front)
  where
    go : (limited free : Result State Wrong) → Loosens (class_of_word w) limited free
        → option_and_then (λ u. run (step len) u front) (moved limited) ≡ Some t
        → ((u : State) → run (step len) u front ≡ Some t → run (step 0) u front ≡ Some t)
        → option_and_then (λ u. run (step 0) u front) (moved free) ≡ Some t
    go (Ok u) free loosens there more =
        ap (λ r. option_and_then (λ v. run (step 0) v front) (moved r)) loosens ∙ more u there
    go (Err wrong) free loosens there more = absurd (cc there)
