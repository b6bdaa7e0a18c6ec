-- From each state of the machine some words go on to the end of an expression.
use Rattle.std.specs.Prelude.{◌≡◌, ℕ, nat_lt, Bool, true, false, List, [], ◌∷◌, ◌++◌, codes, Option, Some, None, Ok}
use Rattle.std.proofs.Common.{refl, ap, subst, ◌∙◌, arith, append-nil}
use Rattle.std.proofs.lemmas.Bool.Decides.{nat_tests}
use Rattle.std.specs.Option.{option_map}
use Rattle.vm_base.specs.Run.{IsRead}
use Rattle.mql_lex.specs.declared.token.TokenKind.{TokenKind}
use Rattle.mql_lex.specs.declared.token.TokenKind.TheVariants.{Number, Duration, Mark}
use Rattle.mql_lex.specs.declared.group.Matching.{Matching}
use Rattle.mql_lex.specs.declared.group.Many.TheVariants.{One}
use Rattle.mql_lex.specs.declared.group.MatchKind.TheVariants.{All}
use Rattle.mql_lex.specs.declared.span.Span.{Span}
use Rattle.mql_expr.specs.declared.expr.Param.{Param}
use Rattle.mql_lists.specs.Laws.{GoesOn}
use Rattle.mql_lists.specs.declared.names.NamesReader.{NamesReader}
use Rattle.mql_expr.specs.Tree.{Tree, number, negate, with_templates, templates_listed, select, ranged}
use Rattle.mql_lists.specs.Words.{Word}
use Rattle.mql_lists.specs.Classes.{class_of_word, class_of_mark}
use Rattle.mql_lists.specs.Progress.{leads, behind_step}
use Rattle.mql_lists.specs.Machines.{names_step, names_start, params_step, braces_step}
use Rattle.mql_lists.specs.declared.class.Class.{Class}
use Rattle.mql_lists.specs.declared.progress.Progress.{Progress}
use Rattle.mql_lists.specs.declared.progress.Progress.TheVariants.{Goes, Done}
use Rattle.mql_parse.specs.Values.{number_of, or_zero, length_of, is_short, ahead, back}
use Rattle.mql_parse.specs.Grammar.{Is, deepest, matching}
use Rattle.mql_parse.specs.Machine.{State, at, moved, Frame, in_parens, in_minus, in_plus, in_operator, in_args, in_template, in_body, Before, step, by, final_of, opened, opening, only, fits, reduce, close, end, primary, complete, windowed, window_wanted, window_read, offset_wanted, offset_back, named, called, regrouped, grouped, names_wanted, in_names, in_braces, in_params, many_read, matched, with_read, template_wanted, template_named, template_headed, Purpose, before_args, after_args, matched_by, taken_over, named_for, Call, Head, Joint, Scope, calling, metric, joined, wanted, operated, compared, one_more, with_one_more, measured, within_part}
use Rattle.mql_parse.specs.declared.fault.Wrong.TheVariants.{TooDeep, NumberTooWide}
use Rattle.mql_parse.proofs.Moves.{Yields, on, part}
use Rattle.mql_parse.proofs.Parts.{names_viable, params_viable, braces_viable}
use Rattle.mql_parse.proofs.ToRead.{through}

-- a word after the end of the text
abbrev beyond : ℕ → TokenKind → List ℕ → Word
beyond len kind text = record { kind = kind; text = text; at = len }

abbrev closer : ℕ → Word
closer len = beyond len Mark (codes ")")

closer_is : (len : ℕ) → Is Class.CloseRound (closer len)
unfolding class_of_mark
closer_is len = refl

abbrev opener : ℕ → Word
opener len = beyond len Mark (codes "(")

opener_is : (len : ℕ) → Is Class.OpenRound (opener len)
unfolding class_of_mark
opener_is len = refl

abbrev square_closer : ℕ → Word
square_closer len = beyond len Mark (codes "]")

square_closer_is : (len : ℕ) → Is Class.CloseSquare (square_closer len)
unfolding class_of_mark
square_closer_is len = refl

abbrev assigner : ℕ → Word
assigner len = beyond len Mark (codes "=")

assigner_is : (len : ℕ) → Is Class.Assign (assigner len)
unfolding class_of_mark
assigner_is len = refl

abbrev one : ℕ → Word
one len = beyond len Number (codes "1")

abbrev time : ℕ → Word
time len = beyond len Duration (codes "1s")

-- more words after those that a part's machine read
leads_more :
    {S V : Type 0} (machine : S → Word → Option (Progress S V)) (s : S) (text left rest : List Word)
    (v : V) → leads machine s text ≡ Some (v, left)
    → leads machine s (text ++ rest) ≡ Some (v, left ++ rest)
leads_more machine s [] left rest v there = absurd (cc there)
leads_more {S} {V} machine s (w ∷ text) left rest v there =
    go (machine s w) there (λ t. leads_more machine t text left rest v)
  where
    go : (o : Option (Progress S V))
        → behind_step o (λ t. leads machine t text) text ≡ Some (v, left)
        → ((t : S) → leads machine t text ≡ Some (v, left)
        → leads machine t (text ++ rest) ≡ Some (v, left ++ rest))
        → behind_step o (λ t. leads machine t (text ++ rest)) (text ++ rest)
        ≡ Some (v, left ++ rest)
    go None there more = absurd (cc there)
    go (Some (Goes t)) there more = more t there
    go (Some (Done u)) there more =
        ap (λ (o : Option (V × List Word)). option_map (λ p. (p.0, p.1 ++ rest)) o) there

-- some words lead from this state to the end
pub record Ending (len : ℕ) (s : State) : Type 0 where
  pub words : List Word
  pub tree : Tree
  pub yields : Yields len s words tree

-- limits don't bind there
free : (len : ℕ) (test : Bool) → fits (nat_lt len len) test ≡ true
free len test = let no : nat_lt len len ≡ false =
    grind (arith, nat_tests) in ap (λ i. fits i test) no

module _ (len : ℕ) where
  before_word : (s u : State) (w : Word) → step len s w ≡ Some u → Ending len u → Ending len s
  before_word s u w move more =
      record {
        words = w ∷ more.words;
        tree = more.tree;
        yields = on len s u w more.words more.tree move more.yields;
      }

  before_class : (fs : List Frame) (b : Before) (u : State) (w : Word) (c : Class) → Is c w
      → by len fs b w c ≡ Ok u → Ending len u → Ending len (at fs b)
  before_class fs b u w c is move more =
      before_word (at fs b) u w (ap (λ x. moved (by len fs b w x)) is ∙ ap moved move) more

  open_free : (fs : List Frame) (s : State) → opening len len fs s ≡ Ok s
  open_free fs s = ap (λ t. only t TooDeep s) (free len (nat_lt (opened fs) deepest))

  a_one : Tree
  a_one = number len (or_zero (number_of (codes "1")))

  one_free : (fs : List Frame)
      → by len fs wanted (one len) Class.Numeral
      ≡ Ok (at fs (primary (number len (or_zero (number_of (codes "1"))))))
  one_free fs =
      ap (λ t.
      only t NumberTooWide (at fs (primary (number len (or_zero (number_of (codes "1")))))))
      (free len (Rattle.std.specs.Prelude.is_some (number_of (codes "1"))))

  -- the brackets that are open are closed
  shut : (fs : List Frame) (t : Tree) (s : State)
      → ((w : Word) → Is Class.CloseRound w → step len s w ≡ moved (close (reduce 0 fs t)))
      → final_of s ≡ end (reduce 0 fs t) → Ending len s
  shut [] t s closes ends = record { words = []; tree = t; yields = ends }
  shut (in_minus place ∷ fs) t s closes ends = shut fs (negate place t) s closes ends
  shut (in_plus ∷ fs) t s closes ends = shut fs t s closes ends
  shut (in_operator j m ∷ fs) t s closes ends =
      let same = through 0 j m fs t (omega arith) in
      shut fs (joined j m t) s (λ w is. closes w is ∙ ap (λ r. moved (close r)) same)
      (ends ∙ ap end same)
  shut (in_body scope ∷ fs) t s closes ends =
      shut fs (with_templates scope.at (templates_listed scope.templates) t) s closes ends
  shut (in_parens ∷ fs) t s closes ends =
      before_word s (at fs (primary t)) (closer len) (closes (closer len) (closer_is len))
      (shut fs t (at fs (primary t)) (λ w is. ap (λ c. moved (by len fs (primary t) w c)) is) refl)
  shut (in_args c ∷ fs) t s closes ends =
      let x = one_more c t in
      before_word s (at fs (called x)) (closer len) (closes (closer len) (closer_is len))
      (shut fs (calling x false) (at fs (called x))
      (λ w is. ap (λ c. moved (by len fs (called x) w c)) is) refl)
  shut (in_template scope h ps ∷ fs) t s closes ends =
      let new = with_one_more scope h ps t in
      let gs = in_body new ∷ fs in
      let n = number len (or_zero (number_of (codes "1"))) in
      before_word s (at gs wanted) (closer len) (closes (closer len) (closer_is len))
      (before_class gs wanted (at gs (primary n)) (one len) Class.Numeral refl (one_free gs)
      (shut fs (with_templates new.at (templates_listed new.templates) n) (at gs (primary n))
      (λ w is. ap (λ c. moved (by len gs (primary n) w c)) is) refl))

  wanted_ends : (fs : List Frame) → Ending len (at fs wanted)
  wanted_ends fs =
      let n = number len (or_zero (number_of (codes "1"))) in
      before_class fs wanted (at fs (primary n)) (one len) Class.Numeral refl (one_free fs)
      (shut fs n (at fs (primary n)) (λ w is. ap (λ c. moved (by len fs (primary n) w c)) is) refl)

  joined_ends : (fs : List Frame) (b : Before) (j : Joint) (m : Matching)
      → by len fs b (one len) Class.Numeral
      ≡ by len (in_operator j m ∷ fs) wanted (one len) Class.Numeral → Ending len (at fs b)
  joined_ends fs b j m same =
      let gs = in_operator j m ∷ fs in
      let n = number len (or_zero (number_of (codes "1"))) in
      before_class fs b (at gs (primary n)) (one len) Class.Numeral refl (same ∙ one_free gs)
      (shut gs n (at gs (primary n)) (λ w is. ap (λ c. moved (by len gs (primary n) w c)) is) refl)

  -- through a part
  part_ends :
      {S V : Type 0} (machine : S → Word → Option (Progress S V)) (into : S → State)
      (off : V → State)
      → ((s : S) (w : Word)
      → by len (into s).frames (into s).before w (class_of_word w)
      ≡ within_part into off (machine s w))
      → (s : S) → GoesOn machine s len [] → ((v : V) → Ending len (off v)) → Ending len (into s)
  part_ends machine into off moves s goes ends =
      let more = ends goes.value in
      let short : leads machine s goes.more ≡ Some (goes.value, []) =
      subst (λ words. leads machine s words ≡ Some (goes.value, [])) (append-nil goes.more)
      goes.ends in
      record {
        words = goes.more ++ more.words;
        tree = more.tree;
        yields =
            part len machine into off moves s (goes.more ++ more.words) more.words goes.value
            more.tree (leads_more machine s goes.more [] more.words goes.value short) more.yields;
      }

  arguments_end : (fs : List Frame) (c : Call) → Ending len (at fs (grouped c))
  arguments_end fs c =
      before_class fs (grouped c) (at (in_args c ∷ fs) wanted) (opener len) Class.OpenRound
      (opener_is len) (open_free fs (at (in_args c ∷ fs) wanted)) (wanted_ends (in_args c ∷ fs))

  complete_ends : (fs : List Frame) (t : Tree) → Ending len (at fs (complete t))
  complete_ends fs t =
      shut fs t (at fs (complete t)) (λ w is. ap (λ c. moved (by len fs (complete t) w c)) is) refl

  primary_ends : (fs : List Frame) (t : Tree) → Ending len (at fs (primary t))
  primary_ends fs t =
      shut fs t (at fs (primary t)) (λ w is. ap (λ c. moved (by len fs (primary t) w c)) is) refl

  called_ends : (fs : List Frame) (x : Call) → Ending len (at fs (called x))
  called_ends fs x =
      shut fs (calling x false) (at fs (called x))
      (λ w is. ap (λ c. moved (by len fs (called x) w c)) is) refl

  regrouped_ends : (fs : List Frame) (x : Call) → Ending len (at fs (regrouped x))
  regrouped_ends fs x =
      shut fs (calling x false) (at fs (regrouped x))
      (λ w is. ap (λ c. moved (by len fs (regrouped x) w c)) is) refl

  named_ends : (fs : List Frame) (h : Head) → Ending len (at fs (named h))
  named_ends fs h =
      shut fs (metric h) (at fs (named h)) (λ w is. ap (λ c. moved (by len fs (named h) w c)) is)
      refl

  windowed_ends : (fs : List Frame) (place : ℕ) (t : Tree) (span : Span)
      → Ending len (at fs (windowed place t span))
  windowed_ends fs place t span =
      shut fs (ranged place t (Some span) None) (at fs (windowed place t span))
      (λ w is. ap (λ c. moved (by len fs (windowed place t span) w c)) is) refl

  named_for_ends : (fs : List Frame) (p : Purpose) (names : List (List ℕ))
      → Ending len (named_for fs p names)
  named_for_ends fs (before_args c by_word) names =
      arguments_end fs
      (record {
        at = c.at;
        name = c.name;
        args = c.args;
        before = Some (record { by = by_word; names = names });
        after = c.after;
      })
  named_for_ends fs (after_args c by_word) names =
      regrouped_ends fs
      (record {
        at = c.at;
        name = c.name;
        args = c.args;
        before = c.before;
        after = Some (record { by = by_word; names = names });
      })
  named_for_ends fs (matched_by j kind) names =
      joined_ends fs (matched j kind names) j (matching kind names One []) refl
  named_for_ends fs (taken_over j kind by_names side) names =
      wanted_ends (in_operator j (matching kind by_names side names) ∷ fs)

  names_end : (fs : List Frame) (p : Purpose) (s : NamesReader) → Ending len (at fs (in_names p s))
  names_end fs p s =
      part_ends names_step (λ t. at fs (in_names p t)) (named_for fs p) (λ s w. refl) s
      (names_viable len s) (named_for_ends fs p)

  measured_free : (w : Word) (s : State) → w.at ≡ len → measured len w s ≡ Ok s
  measured_free w s same =
      ap (λ t. only t NumberTooWide s)
      (ap (λ place. fits (nat_lt place len) (is_short (length_of w.text))) same
      ∙ free len (is_short (length_of w.text)))

  body_ends : (fs : List Frame) (scope : Scope) → Ending len (at fs (template_wanted scope))
  body_ends fs scope =
      before_class fs (template_wanted scope) (at (in_body scope ∷ fs) wanted) (closer len)
      Class.CloseRound (closer_is len) refl (wanted_ends (in_body scope ∷ fs))

  headed_ends : (fs : List Frame) (scope : Scope) (h : Head) (ps : List Param)
      → Ending len (at fs (template_headed scope h ps))
  headed_ends fs scope h ps =
      before_class fs (template_headed scope h ps) (at (in_template scope h ps ∷ fs) wanted)
      (assigner len) Class.Assign (assigner_is len) refl
      (wanted_ends (in_template scope h ps ∷ fs))

  ending : (fs : List Frame) (b : Before) → Ending len (at fs b)
  ending fs wanted = wanted_ends fs
  ending fs (named h) = named_ends fs h
  ending fs (grouped c) = arguments_end fs c
  ending fs (called c) = called_ends fs c
  ending fs (regrouped c) = regrouped_ends fs c
  ending fs (names_wanted p) =
      before_class fs (names_wanted p) (at fs (in_names p names_start)) (opener len) Class.OpenRound
      (opener_is len) refl (names_end fs p names_start)
  ending fs (in_names p s) = names_end fs p s
  ending fs (in_braces place name s) =
      part_ends braces_step (λ t. at fs (in_braces place name t))
      (λ lists. at fs (primary (select place name lists))) (λ s w. refl) s (braces_viable len s)
      (λ lists. primary_ends fs (select place name lists))
  ending fs (primary t) = primary_ends fs t
  ending fs (window_wanted place t) =
      let span = ahead (length_of (codes "1s")) in
      before_class fs (window_wanted place t) (at fs (window_read place t span)) (time len)
      Class.Time refl (measured_free (time len) (at fs (window_read place t span)) refl)
      (before_class fs (window_read place t span) (at fs (windowed place t span))
      (square_closer len) Class.CloseSquare (square_closer_is len) refl
      (windowed_ends fs place t span))
  ending fs (window_read place t span) =
      before_class fs (window_read place t span) (at fs (windowed place t span)) (square_closer len)
      Class.CloseSquare (square_closer_is len) refl (windowed_ends fs place t span)
  ending fs (windowed place t span) = windowed_ends fs place t span
  ending fs (offset_wanted place t window) =
      let new = ranged place t window (Some (ahead (length_of (codes "1s")))) in
      before_class fs (offset_wanted place t window) (at fs (complete new)) (time len) Class.Time
      refl (measured_free (time len) (at fs (complete new)) refl) (complete_ends fs new)
  ending fs (offset_back place t window) =
      let new = ranged place t window (Some (back (length_of (codes "1s")))) in
      before_class fs (offset_back place t window) (at fs (complete new)) (time len) Class.Time refl
      (measured_free (time len) (at fs (complete new)) refl) (complete_ends fs new)
  ending fs (complete t) = complete_ends fs t
  ending fs (operated j) = joined_ends fs (operated j) j (matching All [] One []) refl
  ending fs (compared j) = joined_ends fs (compared j) j (matching All [] One []) refl
  ending fs (matched j kind names) =
      joined_ends fs (matched j kind names) j (matching kind names One []) refl
  ending fs (many_read j kind names side) =
      joined_ends fs (many_read j kind names side) j (matching kind names side []) refl
  ending fs (with_read place) =
      let scope : Scope = record { at = place; templates = [] } in
      before_class fs (with_read place) (at fs (template_wanted scope)) (opener len) Class.OpenRound
      (opener_is len) (open_free fs (at fs (template_wanted scope))) (body_ends fs scope)
  ending fs (template_wanted scope) = body_ends fs scope
  ending fs (template_named scope h) =
      before_class fs (template_named scope h) (at (in_template scope h [] ∷ fs) wanted)
      (assigner len) Class.Assign (assigner_is len) refl
      (wanted_ends (in_template scope h [] ∷ fs))
  ending fs (in_params scope h s) =
      part_ends params_step (λ t. at fs (in_params scope h t))
      (λ ps. at fs (template_headed scope h ps)) (λ s w. refl) s (params_viable len s)
      (headed_ends fs scope h)
  ending fs (template_headed scope h ps) = headed_ends fs scope h ps

  pub viable : (s : State) → (more : List Word) × IsRead (step len) final_of s more
  viable s = let e = ending s.frames s.before in (e.words, (e.tree, e.yields))
