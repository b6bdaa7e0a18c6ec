-- What is in the grammar is read by the machine.
use Rattle.std.specs.Prelude.{◌≡◌, ℕ, suc, ◌<◌, ◌≤◌, ◌==◌, nat_lt, nat_le, Bool, true, false, List, [], ◌∷◌, ◌++◌, Option, Some, None, is_some, Ok, option_and_then}
use Rattle.std.proofs.Common.{refl, ap, sym, subst, ◌∙◌, arith, append_assoc, append-nil}
use Rattle.std.proofs.lemmas.Bool.Decides.{nat_tests}
use Rattle.vm_base.specs.Run.{run}
use Rattle.mql_lex.specs.declared.group.Group.{Group}
use Rattle.mql_lex.specs.declared.group.Many.{Many}
use Rattle.mql_lex.specs.declared.group.Many.TheVariants.{One}
use Rattle.mql_lex.specs.declared.group.MatchKind.{MatchKind}
use Rattle.mql_lex.specs.declared.group.MatchKind.TheVariants.{All}
use Rattle.mql_lex.specs.declared.group.Matching.{Matching}
use Rattle.mql_lex.specs.declared.operator.Op.{Op}
use Rattle.mql_lex.specs.declared.span.Span.{Span}
use Rattle.mql_lists.specs.declared.class.Class.{Class}
use Rattle.mql_lists.specs.Words.{Word}
use Rattle.mql_lists.specs.Values.{value_of}
use Rattle.mql_lists.specs.Classes.{class_of_word}
use Rattle.mql_expr.specs.declared.item.Item.{Item}
use Rattle.mql_expr.specs.declared.expr.Param.{Param}
use Rattle.mql_expr.specs.Tree.{Tree, number, string, select, ranged, negate, with_templates, templates_listed, TreeTemplate}
use Rattle.mql_lists.specs.Machines.{names_start, names_step, params_start, params_step, braces_start, braces_step}
use Rattle.mql_lists.specs.Grammar.{Braces}
use Rattle.mql_parse.specs.Values.{number_of, or_zero, length_of, is_short, ahead, back}
use Rattle.mql_expr.specs.Levels.{level_of_op as level}
use Rattle.mql_parse.specs.Grammar.{Is, deepest, MayOpen, LengthFits, ListedNames, in_parens as parens, GroupIfAny, no_group, a_group, KeepIfAny, no_keep, a_keep, TruthIfAny, no_truth, a_truth, begins_open, ManyIfAny, no_many, a_many, many_names, matching, Mods, no_mods, some_mods, Offset, an_offset, offset_back as a_back, OffsetIfAny, no_offset, some_offset, Postfix, windowed as a_window, not_windowed, ParamsIfAny, no_params, some_params, unary, postfix, Reads, looser, an_operator, a_minus, a_plus, a_primary, a_postfix, a_with, Primary, a_number, a_string, in_brackets, a_call, a_metric, a_selector, a_nameless, Args, no_args, last_arg, next_arg, Template, a_template, Templates, no_template, last_template, more_templates}
use Rattle.mql_parse.specs.declared.fault.Wrong.TheVariants.{Unexpected, TooDeep, NumberTooWide}
use Rattle.mql_parse.specs.Machine.{State, at, moved, Frame, in_parens, in_minus, in_plus, in_operator, in_args, in_template, in_body, Before, step, by, final_of, opened, opening, only, fits, reduce, operate, close, continue, end, go_on, primary, complete, windowed, window_wanted, window_read, offset_wanted, offset_back, named, called, regrouped, grouped, names_wanted, in_names, in_braces, in_params, many_read, matched, with_read, template_wanted, template_named, template_headed, Purpose, before_args, after_args, matched_by, taken_over, named_for, Call, Head, Joint, Scope, calling, call_of, head_of, metric, joined, wanted, operated, compared, true_joint, by_wanted, by_compared, by_many, by_matched, by_operated, by_template_named, by_template_headed, by_window, joining, one_more, measured}
use Rattle.mql_parse.proofs.Moves.{Yields, on, on_class, like, primary_like, named_like, regrouped_like, called_like, part}
use Rattle.mql_parse.proofs.Parts.{names_read, params_read, braces_read}

-- ---- limits

under : (len n place : ℕ) → MayOpen len n place → fits (nat_lt place len) (nat_lt n deepest) ≡ true
under len n place may = go (nat_lt place len) refl
  where
    go : (inside : Bool) → nat_lt place len ≡ inside → fits inside (nat_lt n deepest) ≡ true
    go true is = let within : place < len = grind (arith, nat_tests) in let few : n < deepest =
        may within in grind (arith, nat_tests)
    go false is = refl

bound : (len place : ℕ) (test : Bool) → (place < len → test ≡ true)
    → fits (nat_lt place len) test ≡ true
bound len place test holds = go (nat_lt place len) refl
  where
    go : (inside : Bool) → nat_lt place len ≡ inside → fits inside test ≡ true
    go true is = let within : place < len = grind (arith, nat_tests) in holds within
    go false is = refl

open_move : (len n place : ℕ) (fs : List Frame) (s : State) → opened fs ≡ n → MayOpen len n place
    → opening len place fs s ≡ Ok s
open_move len n place fs s levels may =
    ap (λ k. only (fits (nat_lt place len) (nat_lt k deepest)) TooDeep s) levels
    ∙ ap (λ t. only t TooDeep s) (under len n place may)

measured_move : (len : ℕ) (w : Word) (s : State) → LengthFits len w → measured len w s ≡ Ok s
measured_move len w s fit =
    ap (λ t. only t NumberTooWide s) (bound len w.at (is_short (length_of w.text)) fit)

-- ---- parts

module _ (len : ℕ) (fs : List Frame) {r : Tree} where
  names_go : (p : Purpose) {text rest : List Word} {names : List (List ℕ)}
      → ListedNames text rest names → (b : Before)
      → ((w : Word) (text : List Word) → Is Class.OpenRound w
      → Yields len (at fs (in_names p names_start)) text r → Yields len (at fs b) (w ∷ text) r)
      → Yields len (named_for fs p names) rest r → Yields len (at fs b) text r
  names_go p (parens {text = text} {rest = rest} {names = names} w is names_there) b opens reads =
      opens w text is
      (part len names_step (λ t. at fs (in_names p t)) (named_for fs p) (λ s w. refl) names_start
      text rest names r (names_read names_there) reads)

  wanted_names : (p : Purpose) {text rest : List Word} {names : List (List ℕ)}
      → ListedNames text rest names
      → Yields len (named_for fs p names) rest r → Yields len (at fs (names_wanted p)) text r
  wanted_names p names reads =
      names_go p names (names_wanted p)
      (λ w text is go.
      on_class len fs (names_wanted p) Class.OpenRound (at fs (in_names p names_start)) w text r
      is refl go) reads

  braces_go :
      (place : ℕ) (name : Option (List ℕ)) {text rest : List Word} {lists : List (List Item)}
      → Braces text rest lists
      → Yields len (at fs (primary (select place name lists))) rest r
      → Yields len (at fs (in_braces place name braces_start)) text r
  braces_go place name {text = text} {rest = rest} {lists = lists} there reads =
      part len braces_step (λ t. at fs (in_braces place name t))
      (λ v. at fs (primary (select place name v))) (λ s w. refl) braces_start text rest lists r
      (braces_read there) reads

  -- after an operator
  truth_go : (j : Joint) {text rest : List Word} {truth : Bool} → TruthIfAny j.op text rest truth
      → Yields len
      (at fs (compared (record { at = j.at; op = j.op; truth = truth; operand = j.operand }))) rest
      r
      → j.truth ≡ false → Yields len (at fs (operated j)) text r
  truth_go j (no_truth {text = text}) reads plain =
      like len (at fs (operated j)) (at fs (compared j))
      (record { moves = λ w u. go w u (class_of_word w); ends = λ t is. is }) text r
      (subst (λ v.
      Yields len
      (at fs (compared (record { at = j.at; op = j.op; truth = v; operand = j.operand }))) text
      r) (sym plain) reads)
    where
      go : (w : Word) (u : State) (c : Class) → moved (by_compared len fs j w c) ≡ Some u
          → moved (by_operated len fs j w c) ≡ Some u
      go w u Class.Truth is = absurd (cc is)
      go w u _ is = is
  truth_go j (a_truth {text = text} w is compares) reads plain =
      on_class len fs (operated j) Class.Truth (at fs (compared (true_joint j))) w text r is
      (ap (λ t. only t Unexpected (at fs (compared (true_joint j)))) compares) reads

  -- where no `(` follows
  many_plain :
      (j : Joint) (kind : MatchKind) (names : List (List ℕ)) (side : Many) (text : List Word)
      → begins_open text ≡ false
      → Yields len (at (in_operator j (matching kind names side []) ∷ fs) wanted) text r
      → Yields len (at fs (many_read j kind names side)) text r
  many_plain j kind names side [] no_open reads = absurd (cc reads)
  many_plain j kind names side (w ∷ text) no_open reads =
      ap (λ o. option_and_then final_of (option_and_then (λ t. run (step len) t text) (moved o)))
      (same (class_of_word w) refl) ∙ reads
    where
      same : (c : Class) → class_of_word w ≡ c
          → by_many len fs j kind names side w c
          ≡ by_wanted len (joining fs j (matching kind names side [])) w c
      same Class.OpenRound is = let opens : begins_open (w ∷ text) ≡ true =
          rw is refl in absurd (cc (opens, no_open))
      same _ is = refl

  many_word :
      (j : Joint) (kind : MatchKind) (names : List (List ℕ)) (side : Many) (w : Word)
      (text : List Word) → Is (Class.Joining side) w
      → Yields len (at fs (many_read j kind names side)) text r
      → Yields len (at fs (matched j kind names)) (w ∷ text) r
  many_word j kind names side w text is reads =
      on_class len fs (matched j kind names) (Class.Joining side)
      (at fs (many_read j kind names side)) w text r is refl reads

  many_go :
      (j : Joint) (kind : MatchKind)
      (names : List (List ℕ)) {text rest : List Word} {side : Many} {extra : List (List ℕ)}
      → ManyIfAny text rest side extra
      → Yields len (at (in_operator j (matching kind names side extra) ∷ fs) wanted) rest r
      → Yields len (at fs (matched j kind names)) text r
  many_go j kind names (no_many {text = text}) reads =
      like len (at fs (matched j kind names))
      (at (in_operator j (matching kind names One []) ∷ fs) wanted)
      (record { moves = λ w u. go w u (class_of_word w); ends = λ t is. absurd (cc is) }) text r
      reads
    where
      go : (w : Word) (u : State) (c : Class)
          → moved (by_wanted len (joining fs j (matching kind names One [])) w c) ≡ Some u
          → moved (by_matched len fs j kind names w c) ≡ Some u
      go w u (Class.Joining side) is = absurd (cc is)
      go w u _ is = is
  many_go j kind names (a_many {text = text} {many = side} w is no_open) reads =
      many_word j kind names side w text is (many_plain j kind names side text no_open reads)
  many_go j kind names (many_names {text = text} {many = side} w is extra) reads =
      many_word j kind names side w text is
      (names_go (taken_over j kind names side) extra (many_read j kind names side)
      (λ v more is_open go.
      on_class len fs (many_read j kind names side) Class.OpenRound
      (at fs (in_names (taken_over j kind names side) names_start)) v more r is_open refl go)
      reads)

  mods_go : (j : Joint) {text rest : List Word} {m : Matching} → Mods text rest m
      → Yields len (at (in_operator j m ∷ fs) wanted) rest r
      → Yields len (at fs (compared j)) text r
  mods_go j (no_mods {text = text}) reads =
      like len (at fs (compared j)) (at (in_operator j (matching All [] One []) ∷ fs) wanted)
      (record { moves = λ w u. go w u (class_of_word w); ends = λ t is. absurd (cc is) }) text r
      reads
    where
      go : (w : Word) (u : State) (c : Class)
          → moved (by_wanted len (joining fs j (matching All [] One [])) w c) ≡ Some u
          → moved (by_compared len fs j w c) ≡ Some u
      go w u (Class.Pairing kind) is = absurd (cc is)
      go w u _ is = is
  mods_go j (some_mods {text = text} {kind = kind} {names = names} w is listed more) reads =
      on_class len fs (compared j) (Class.Pairing kind) (at fs (names_wanted (matched_by j kind))) w
      text r is refl
      (wanted_names (matched_by j kind) listed (many_go j kind names more reads))

  -- after a call
  keep_go : (c : Call) {text rest : List Word} {keep : Bool} → KeepIfAny text rest keep
      → Yields len (at fs (primary (calling c keep))) rest r
      → Yields len (at fs (regrouped c)) text r
  keep_go c (no_keep {text = text}) reads =
      like len (at fs (regrouped c)) (at fs (primary (calling c false))) (regrouped_like len fs c)
      text r reads
  keep_go c (a_keep {text = text} w is) reads =
      on_class len fs (regrouped c) Class.Keep (at fs (primary (calling c true))) w text r is refl
      reads

  after_go : (c : Call) {text rest : List Word} {after : Option Group} → GroupIfAny text rest after
      → Yields len
      (at fs (regrouped
      (record { at = c.at; name = c.name; args = c.args; before = c.before; after = after }))) rest
      r
      → c.after ≡ None → Yields len (at fs (called c)) text r
  after_go c (no_group {text = text}) reads plain =
      like len (at fs (called c)) (at fs (regrouped c)) (called_like len fs c) text r
      (subst (λ g.
      Yields len
      (at fs (regrouped
      (record { at = c.at; name = c.name; args = c.args; before = c.before; after = g }))) text
      r) (sym plain) reads)
  after_go c (a_group {text = text} w by_word is names) reads plain =
      on_class len fs (called c) (Class.Grouping by_word)
      (at fs (names_wanted (after_args c by_word))) w text r is refl
      (wanted_names (after_args c by_word) names reads)

  -- a name, and a group where one stands, before `(`
  before_go : (h : Head) {text rest : List Word} {before : Option Group}
      → GroupIfAny text rest before → (p : Word) (inner : List Word) → rest ≡ p ∷ inner
      → ((b : Before)
      → ((w : Word)
      → by len fs b w Class.OpenRound
      ≡ opening len w.at fs
      (at (in_args (record { at = h.at; name = h.name; args = []; before = before; after = None })
      ∷ fs) wanted))
      → Yields len (at fs b) (p ∷ inner) r)
      → Yields len (at fs (named h)) text r
  before_go h (no_group {text = text}) p inner same opens =
      subst (λ words. Yields len (at fs (named h)) words r) (sym same) (opens (named h) (λ w. refl))
  before_go h (a_group {text = text} {rest = rest} {names = names} w by_word is listed) p inner same
      opens =
      let c : Call =
      record {
        at = h.at;
        name = h.name;
        args = [];
        before = Some (record { by = by_word; names = names });
        after = None;
      } in
      on_class len fs (named h) (Class.Grouping by_word)
      (at fs (names_wanted (before_args (call_of h) by_word))) w text r is refl
      (wanted_names (before_args (call_of h) by_word) listed
      (subst (λ words. Yields len (at fs (grouped c)) words r) (sym same)
      (opens (grouped c) (λ w. refl))))

  -- windows and offsets
  offset_go :
      (t : Tree) (window : Option Span)
      (b : Before) {place : ℕ} {text rest : List Word} {span : Span}
      → Offset len place text rest span
      → (where_ : ℕ)
      → ((w : Word) (text : List Word) → Is Class.Offset w → w.at ≡ place
      → Yields len (at fs (offset_wanted where_ t window)) text r
      → Yields len (at fs b) (w ∷ text) r)
      → Yields len (at fs (complete (ranged where_ t window (Some span)))) rest r
      → Yields len (at fs b) text r
  offset_go t window b (an_offset {text = text} w d is is_d fit) where_ begins reads =
      begins w (d ∷ text) is refl
      (on_class len fs (offset_wanted where_ t window) Class.Time
      (at fs (complete (ranged where_ t window (Some (ahead (length_of d.text)))))) d text r
      is_d
      (measured_move len d
      (at fs (complete (ranged where_ t window (Some (ahead (length_of d.text)))))) fit) reads)
  offset_go t window b (a_back {text = text} w m d is is_m is_d fit) where_ begins reads =
      begins w (m ∷ d ∷ text) is refl
      (on_class len fs (offset_wanted where_ t window) (Class.Operator Op.Sub)
      (at fs (offset_back where_ t window)) m (d ∷ text) r is_m refl
      (on_class len fs (offset_back where_ t window) Class.Time
      (at fs (complete (ranged where_ t window (Some (back (length_of d.text)))))) d text r is_d
      (measured_move len d
      (at fs (complete (ranged where_ t window (Some (back (length_of d.text)))))) fit) reads))

  windowed_go : (place : ℕ) (t : Tree) (span : Span) {text rest : List Word} {offset : Option Span}
      → OffsetIfAny len text rest offset
      → Yields len (at fs (complete (ranged place t (Some span) offset))) rest r
      → Yields len (at fs (windowed place t span)) text r
  windowed_go place t span (no_offset {text = text}) reads =
      like len (at fs (windowed place t span)) (at fs (complete (ranged place t (Some span) None)))
      (record { moves = λ w u. go w u (class_of_word w); ends = λ t is. is }) text r reads
    where
      go : (w : Word) (u : State) (c : Class)
          → moved (go_on fs (ranged place t (Some span) None) w.at c) ≡ Some u
          → moved (by_window fs place t span w.at c) ≡ Some u
      go w u Class.Offset is = absurd (cc is)
      go w u _ is = is
  windowed_go place t span (some_offset x) reads =
      offset_go t (Some span) (windowed place t span) x place
      (λ w text is _ go.
      on_class len fs (windowed place t span) Class.Offset
      (at fs (offset_wanted place t (Some span))) w text r is refl go) reads

  postfix_go : (t : Tree) {place : ℕ} {text rest : List Word} {window offset : Option Span}
      → Postfix len place text rest window offset
      → Yields len (at fs (complete (ranged place t window offset))) rest r
      → Yields len (at fs (primary t)) text r
  postfix_go t (a_window {text = text} {offset = offset} w d e is is_d fit is_e more) reads =
      on_class len fs (primary t) Class.OpenSquare (at fs (window_wanted w.at t)) w (d ∷ e ∷ text) r
      is refl
      (on_class len fs (window_wanted w.at t) Class.Time
      (at fs (window_read w.at t (ahead (length_of d.text)))) d (e ∷ text) r is_d
      (measured_move len d (at fs (window_read w.at t (ahead (length_of d.text)))) fit)
      (on_class len fs (window_read w.at t (ahead (length_of d.text))) Class.CloseSquare
      (at fs (windowed w.at t (ahead (length_of d.text)))) e text r is_e refl
      (windowed_go w.at t (ahead (length_of d.text)) more reads)))
  postfix_go t (not_windowed {at = place} x) reads =
      offset_go t None (primary t) x place
      (λ w text is same go.
      on_class len fs (primary t) Class.Offset (at fs (offset_wanted w.at t None)) w text r is
      refl
      (subst (λ p. Yields len (at fs (offset_wanted p t None)) text r) (sym same) go)) reads

  params_go : (s : Scope) (h : Head) {text rest : List Word} {ps : List Param}
      → ParamsIfAny text rest ps
      → Yields len (at fs (template_headed s h ps)) rest r
      → Yields len (at fs (template_named s h)) text r
  params_go s h (no_params {text = text}) reads =
      like len (at fs (template_named s h)) (at fs (template_headed s h []))
      (record { moves = λ w u. go w u (class_of_word w); ends = λ t is. absurd (cc is) }) text r
      reads
    where
      go : (w : Word) (u : State) (c : Class) → moved (by_template_headed fs s h [] c) ≡ Some u
          → moved (by_template_named fs s h c) ≡ Some u
      go w u Class.OpenRound is = absurd (cc is)
      go w u _ is = is
  params_go s h (some_params {text = text} {rest = rest} {params = ps} w is there) reads =
      on_class len fs (template_named s h) Class.OpenRound (at fs (in_params s h params_start)) w
      text r is refl
      (part len params_step (λ t. at fs (in_params s h t)) (λ v. at fs (template_headed s h v))
      (λ s w. refl) params_start text rest ps r (params_read there) reads)

-- ---- expressions

-- the level of the operand that is wanted
abbrev pub wants : List Frame → ℕ
wants [] = 0
wants (in_operator j m ∷ fs) = suc (level j.op)
wants (in_minus place ∷ fs) = unary
wants (in_plus ∷ fs) = unary
wants (_ ∷ fs) = 0

-- What later words see of a state after an expression of a level: operators no tighter than it,
-- where one may follow, `)`, `,` and the end.
pub record After (len l : ℕ) (o : Bool) (fs : List Frame) (t : Tree) (s : State) : Type 0 where
  pub operators : (w : Word) (op : Op) → Is (Class.Operator op) w → level op ≤ l → o ≡ false
      → step len s w ≡ Some (operate (reduce (level op) fs t) w.at op)
  pub closes : (w : Word) → Is Class.CloseRound w → step len s w ≡ moved (close (reduce 0 fs t))
  pub continues : (w : Word) → Is Class.Comma w → step len s w ≡ moved (continue (reduce 0 fs t))
  pub ends : final_of s ≡ end (reduce 0 fs t)

module _ (len l : ℕ) (fs : List Frame) (t : Tree) where
  complete_after : After len l false fs t (at fs (complete t))
  complete_after = record {
    operators = λ w op is le no. ap (λ c. moved (go_on fs t w.at c)) is;
    closes = λ w is. ap (λ c. moved (go_on fs t w.at c)) is;
    continues = λ w is. ap (λ c. moved (go_on fs t w.at c)) is;
    ends = refl;
  }

looser_after : (len l : ℕ) (o : Bool) (fs : List Frame) (t : Tree) (s : State)
    → After len (suc l) o fs t s → After len l o fs t s
looser_after len l o fs t s after = record {
  operators = λ w op is le no. let less : level op ≤ suc l =
      omega arith in after.operators w op is less no;
  closes = after.closes;
  continues = after.continues;
  ends = after.ends;
}

-- an operator of a level ends the frames that bind as tightly
pub through : (k : ℕ) (j : Joint) (m : Matching) (fs : List Frame) (t : Tree) → k ≤ level j.op
    → reduce k (in_operator j m ∷ fs) t ≡ reduce k fs (joined j m t)
through k j m fs t le = let yes : nat_le k (level j.op) ≡ true =
    grind (arith, nat_tests) in rw yes refl

joined_after :
    (len : ℕ) (o : Bool) (j : Joint) (m : Matching) (fs : List Frame) (t : Tree) (s : State)
    → After len (suc (level j.op)) o (in_operator j m ∷ fs) t s
    → After len (level j.op) o fs (joined j m t) s
joined_after len o j m fs t s after = record {
  operators = λ w op is le no.
      let less : level op ≤ suc (level j.op) = omega arith in
      after.operators w op is less no
      ∙ ap (λ r. Some (operate r w.at op)) (through (level op) j m fs t le);
  closes = λ w is. after.closes w is ∙ ap (λ r. moved (close r)) (through 0 j m fs t (omega arith));
  continues = λ w is. after.continues w is
      ∙ ap (λ r. moved (continue r)) (through 0 j m fs t (omega arith));
  ends = after.ends ∙ ap end (through 0 j m fs t (omega arith));
}

minus_after : (len l place : ℕ) (o : Bool) (fs : List Frame) (t : Tree) (s : State)
    → After len l o (in_minus place ∷ fs) t s → After len l o fs (negate place t) s
minus_after len l place o fs t s after =
    record {
      operators = after.operators;
      closes = after.closes;
      continues = after.continues;
      ends = after.ends;
    }

plus_after : (len l : ℕ) (o : Bool) (fs : List Frame) (t : Tree) (s : State)
    → After len l o (in_plus ∷ fs) t s → After len l o fs t s
plus_after len l o fs t s after =
    record {
      operators = after.operators;
      closes = after.closes;
      continues = after.continues;
      ends = after.ends;
    }

body_after : (len l m : ℕ) (o : Bool) (scope : Scope) (fs : List Frame) (t : Tree) (s : State)
    → After len l o (in_body scope ∷ fs) t s
    → After len m true fs (with_templates scope.at (templates_listed scope.templates) t) s
body_after len l m o scope fs t s after = record {
  operators = λ w op is le no. absurd (cc no);
  closes = after.closes;
  continues = after.continues;
  ends = after.ends;
}

-- what an operator's left operand stands in stays
stays : (k : ℕ) (fs : List Frame) (t : Tree) → wants fs ≤ k → 0 < k → k ≤ 7
    → reduce k fs t ≡ record { frames = fs; tree = t }
stays k [] t le some few = refl
stays k (in_operator j m ∷ fs) t le some few = let no : nat_le k (level j.op) ≡ false =
    grind (arith, nat_tests) in rw no refl
stays k (in_minus place ∷ fs) t le some few = absurd (omega arith)
stays k (in_plus ∷ fs) t le some few = absurd (omega arith)
stays k (in_body scope ∷ fs) t le some few = let no : (k == 0) ≡ false =
    grind (arith, nat_tests) in rw no refl
stays k (in_parens ∷ fs) t le some few = refl
stays k (in_args c ∷ fs) t le some few = refl
stays k (in_template scope h ps ∷ fs) t le some few = refl

pub level_some : (op : Op) → 0 < level op
level_some Op.Default = omega arith
level_some Op.If = omega arith
level_some Op.IfNot = omega arith
level_some Op.Or = omega arith
level_some Op.And = omega arith
level_some Op.Unless = omega arith
level_some _ = omega arith

pub level_most : (op : Op) → level op ≤ 7
level_most Op.Default = omega arith
level_most Op.If = omega arith
level_most Op.IfNot = omega arith
level_most Op.Or = omega arith
level_most Op.And = omega arith
level_most Op.Unless = omega arith
level_most _ = omega arith

-- a call with more arguments, and a `with` with more templates
abbrev pub with_args : Call → List Tree → Call
with_args c ts =
    record { at = c.at; name = c.name; args = c.args ++ ts; before = c.before; after = c.after }

abbrev pub with_more : Scope → List TreeTemplate → Scope
with_more s ts = record { at = s.at; templates = s.templates ++ ts }

pub no_more_args : (c : Call) → with_args c [] ≡ c
no_more_args c =
    ap (λ ts. record { at = c.at; name = c.name; args = ts; before = c.before; after = c.after })
    (append-nil c.args)

pub one_more_arg : (c : Call) (t : Tree) (ts : List Tree)
    → with_args (one_more c t) ts ≡ with_args c (t ∷ ts)
one_more_arg c t ts =
    ap (λ us. record { at = c.at; name = c.name; args = us; before = c.before; after = c.after })
    (append_assoc c.args (t ∷ []) ts)

pub no_more_templates : (s : Scope) → with_more s [] ≡ s
no_more_templates s = ap (λ ts. record { at = s.at; templates = ts }) (append-nil s.templates)

pub one_more_template : (s : Scope) (t : TreeTemplate) (ts : List TreeTemplate)
    → with_more (with_more s (t ∷ [])) ts ≡ with_more s (t ∷ ts)
one_more_template s t ts =
    ap (λ us. record { at = s.at; templates = us }) (append_assoc s.templates (t ∷ []) ts)

-- what later words see of a state after a template
record AfterTemplate (len : ℕ) (fs : List Frame) (scope : Scope) (t : TreeTemplate) (s : State) :
    Type 0 where
  pub closes : (w : Word) → Is Class.CloseRound w
      → step len s w ≡ Some (at (in_body (with_more scope (t ∷ [])) ∷ fs) wanted)
  pub continues : (w : Word) → Is Class.Comma w
      → step len s w ≡ Some (at fs (template_wanted (with_more scope (t ∷ []))))

mutual
  pub expr_read : {len n l : ℕ} {o : Bool} {text rest : List Word} {t : Tree}
      → Reads len n l o text rest t → (fs : List Frame) → opened fs ≡ n → wants fs ≤ l
      → (r : Tree) → ((s : State) → After len l o fs t s → Yields len s rest r)
      → Yields len (at fs wanted) text r
  expr_read {len = len} (looser {l = l} {o = o} {t = t} x) fs levels le r next =
      expr_read x fs levels (omega arith) r (λ s after. next s (looser_after len l o fs t s after))
  expr_read {len = len}
      (an_operator {o = o} {truth = truth} {here = here} {a = a} {b = b} {m = m} w op x is truths
      mods y) fs levels le r next =
      let j : Joint = record { at = w.at; op = op; truth = truth; operand = a } in
      let j₀ : Joint = record { at = w.at; op = op; truth = false; operand = a } in
      let right =
      expr_read y (in_operator j m ∷ fs) levels (omega arith) r
      (λ s after. next s (joined_after len o j m fs b s after)) in
      let behind : Yields len (at fs (operated j₀)) here r =
      truth_go len fs j₀ truths (mods_go len fs j mods right) refl in
      let same = stays (level op) fs a le (level_some op) (level_most op) in
      expr_read x fs levels le r
      (λ s after.
      on len s (operate (reduce (level op) fs a) w.at op) w here r
      (after.operators w op is (omega arith) refl)
      (subst (λ q. Yields len (operate q w.at op) here r) (sym same) behind))
  expr_read {len = len} (a_minus {n = n} {o = o} {text = text} {t = t} w is may x) fs levels le r
      next =
      on_class len fs wanted (Class.Operator Op.Sub) (at (in_minus w.at ∷ fs) wanted) w text r is
      (open_move len n w.at fs (at (in_minus w.at ∷ fs) wanted) levels may)
      (expr_read x (in_minus w.at ∷ fs) (ap suc levels) (omega arith) r
      (λ s after. next s (minus_after len unary w.at o fs t s after)))
  expr_read {len = len} (a_plus {n = n} {o = o} {text = text} {t = t} w is may x) fs levels le r
      next =
      on_class len fs wanted (Class.Operator Op.Add) (at (in_plus ∷ fs) wanted) w text r is
      (open_move len n w.at fs (at (in_plus ∷ fs) wanted) levels may)
      (expr_read x (in_plus ∷ fs) (ap suc levels) (omega arith) r
      (λ s after. next s (plus_after len unary o fs t s after)))
  expr_read {len = len} (a_primary {rest = rest} {t = t} x) fs levels le r next =
      primary_read x fs levels r
      (like len (at fs (primary t)) (at fs (complete t)) (primary_like len fs t) rest r
      (next (at fs (complete t)) (complete_after len postfix fs t)))
  expr_read {len = len} (a_postfix {at = place} {t = t} {window = window} {offset = offset} x more)
      fs levels le r next =
      primary_read x fs levels r
      (postfix_go len fs t more
      (next (at fs (complete (ranged place t window offset)))
      (complete_after len postfix fs (ranged place t window offset))))
  expr_read {len = len}
      (a_with {n = n} {o = o} {text = text} {body = body} {ts = ts} {t = t} w p e is is_p may
      templates is_e x) fs levels le r next =
      let none : Scope = record { at = w.at; templates = [] } in
      let all : Scope = record { at = w.at; templates = ts } in
      on_class len fs wanted Class.With (at fs (with_read w.at)) w (p ∷ text) r is refl
      (on_class len fs (with_read w.at) Class.OpenRound (at fs (template_wanted none)) p text r is_p
      (open_move len n p.at fs (at fs (template_wanted none)) levels may)
      (templates_read templates fs none (ap suc levels) r e body refl is_e
      (expr_read x (in_body all ∷ fs) levels (omega arith) r
      (λ s after. next s (body_after len 0 postfix o all fs t s after)))))

  primary_read : {len n : ℕ} {text rest : List Word} {t : Tree} → Primary len n text rest t
      → (fs : List Frame) → opened fs ≡ n
      → (r : Tree) → Yields len (at fs (primary t)) rest r → Yields len (at fs wanted) text r
  primary_read {len = len} (a_number {rest = rest} w is fit) fs levels r reads =
      on_class len fs wanted Class.Numeral
      (at fs (primary (number w.at (or_zero (number_of w.text))))) w rest r is
      (ap (λ t. only t NumberTooWide (at fs (primary (number w.at (or_zero (number_of w.text))))))
      (bound len w.at (is_some (number_of w.text)) fit)) reads
  primary_read {len = len} (a_string {rest = rest} w is) fs levels r reads =
      on_class len fs wanted Class.Quoted (at fs (primary (string w.at (value_of w.text)))) w rest r
      is refl reads
  primary_read {len = len}
      (in_brackets {n = n} {o = o} {text = text} {rest = rest} {t = t} w e is may x is_e) fs levels
      r reads =
      on_class len fs wanted Class.OpenRound (at (in_parens ∷ fs) wanted) w text r is
      (open_move len n w.at fs (at (in_parens ∷ fs) wanted) levels may)
      (expr_read x (in_parens ∷ fs) (ap suc levels) (omega arith) r
      (λ s after. on len s (at fs (primary t)) e rest r (after.closes e is_e) reads))
  primary_read {len = len}
      (a_call {n = n} {text = text} {inner = inner} {behind = behind} {args = args} {before = before} {after = after} {keep = keep} w p e is group is_p may xs is_e group_after keeps) fs levels r reads =
      let h : Head = head_of w in
      let c : Call =
      record { at = w.at; name = w.text; args = []; before = before; after = None } in
      on_class len fs wanted Class.Identifier (at fs (named h)) w text r is refl
      (before_go len fs h group p inner refl
      (λ b move.
      on_class len fs b Class.OpenRound (at (in_args c ∷ fs) wanted) p inner r is_p
      (move p ∙ open_move len n p.at fs (at (in_args c ∷ fs) wanted) levels may)
      (args_read xs fs c (ap suc levels) r e behind refl is_e
      (after_go len fs (with_args c args) group_after
      (keep_go len fs
      (record { at = w.at; name = w.text; args = args; before = before; after = after }) keeps
      reads) refl))))
  primary_read {len = len} (a_metric {rest = rest} w is) fs levels r reads =
      on_class len fs wanted Class.Identifier (at fs (named (head_of w))) w rest r is refl
      (like len (at fs (named (head_of w))) (at fs (primary (metric (head_of w))))
      (named_like len fs (head_of w)) rest r reads)
  primary_read {len = len} (a_selector {text = text} w b is is_b braces) fs levels r reads =
      on_class len fs wanted Class.Identifier (at fs (named (head_of w))) w (b ∷ text) r is refl
      (on_class len fs (named (head_of w)) Class.OpenCurly
      (at fs (in_braces w.at (Some w.text) braces_start)) b text r is_b refl
      (braces_go len fs w.at (Some w.text) braces reads))
  primary_read {len = len} (a_nameless {text = text} w is braces) fs levels r reads =
      on_class len fs wanted Class.OpenCurly (at fs (in_braces w.at None braces_start)) w text r is
      refl (braces_go len fs w.at None braces reads)

  args_read : {len n : ℕ} {text rest : List Word} {ts : List Tree} → Args len n text rest ts
      → (fs : List Frame) (c : Call) → suc (opened fs) ≡ n
      → (r : Tree) (e : Word) (behind : List Word) → rest ≡ e ∷ behind → Is Class.CloseRound e
      → Yields len (at fs (called (with_args c ts))) behind r
      → Yields len (at (in_args c ∷ fs) wanted) text r
  args_read {len = len} (no_args {text = text}) fs c levels r e behind same is reads =
      subst (λ words. Yields len (at (in_args c ∷ fs) wanted) words r) (sym same)
      (on_class len (in_args c ∷ fs) wanted Class.CloseRound (at fs (called c)) e behind r is refl
      (subst (λ d. Yields len (at fs (called d)) behind r) (no_more_args c) reads))
  args_read {len = len} (last_arg {rest = rest} {t = t} x) fs c levels r e behind same is reads =
      expr_read x (in_args c ∷ fs) levels (omega arith) r
      (λ s after.
      subst (λ words. Yields len s words r) (sym same)
      (on len s (at fs (called (one_more c t))) e behind r (after.closes e is) reads))
  args_read {len = len} (next_arg {mid = mid} {t = t} {ts = ts} w x is_w more) fs c levels r e
      behind same is reads =
      expr_read x (in_args c ∷ fs) levels (omega arith) r
      (λ s after.
      on len s (at (in_args (one_more c t) ∷ fs) wanted) w mid r (after.continues w is_w)
      (args_read more fs (one_more c t) levels r e behind same is
      (subst (λ d. Yields len (at fs (called d)) behind r) (sym (one_more_arg c t ts)) reads)))

  template_read : {len n : ℕ} {text rest : List Word} {t : TreeTemplate}
      → Template len n text rest t → (fs : List Frame) (scope : Scope) → suc (opened fs) ≡ n
      → (r : Tree) → ((s : State) → AfterTemplate len fs scope t s → Yields len s rest r)
      → Yields len (at fs (template_wanted scope)) text r
  template_read {len = len}
      (a_template {text = text} {mid = mid} {params = ps} {t = t} w e is params is_e x) fs scope
      levels r next =
      let h : Head = head_of w in
      on_class len fs (template_wanted scope) Class.Identifier (at fs (template_named scope h)) w
      text r is refl
      (params_go len fs scope h params
      (on_class len fs (template_headed scope h ps) Class.Assign
      (at (in_template scope h ps ∷ fs) wanted) e mid r is_e refl
      (expr_read x (in_template scope h ps ∷ fs) levels (omega arith) r
      (λ s after. next s (record { closes = after.closes; continues = after.continues })))))

  templates_read : {len n : ℕ} {text rest : List Word} {ts : List TreeTemplate}
      → Templates len n text rest ts → (fs : List Frame) (scope : Scope) → suc (opened fs) ≡ n
      → (r : Tree) (e : Word) (behind : List Word) → rest ≡ e ∷ behind → Is Class.CloseRound e
      → Yields len (at (in_body (with_more scope ts) ∷ fs) wanted) behind r
      → Yields len (at fs (template_wanted scope)) text r
  templates_read {len = len} (no_template {text = text}) fs scope levels r e behind same is reads =
      subst (λ words. Yields len (at fs (template_wanted scope)) words r) (sym same)
      (on_class len fs (template_wanted scope) Class.CloseRound (at (in_body scope ∷ fs) wanted) e
      behind r is refl
      (subst (λ d. Yields len (at (in_body d ∷ fs) wanted) behind r) (no_more_templates scope)
      reads))
  templates_read {len = len} (last_template {t = t} x) fs scope levels r e behind same is reads =
      template_read x fs scope levels r
      (λ s after.
      subst (λ words. Yields len s words r) (sym same)
      (on len s (at (in_body (with_more scope (t ∷ [])) ∷ fs) wanted) e behind r
      (after.closes e is) reads))
  templates_read {len = len} (more_templates {mid = mid} {t = t} {ts = ts} w x is_w more) fs scope
      levels r e behind same is reads =
      template_read x fs scope levels r
      (λ s after.
      on len s (at fs (template_wanted (with_more scope (t ∷ [])))) w mid r
      (after.continues w is_w)
      (templates_read more fs (with_more scope (t ∷ [])) levels r e behind same is
      (subst (λ d. Yields len (at (in_body d ∷ fs) wanted) behind r)
      (sym (one_more_template scope t ts)) reads)))
