-- What the machine reads is in the grammar.
use Rattle.std.specs.Prelude.{◌≡◌, ℕ, zero, suc, ◌<◌, ◌≤◌, ◌==◌, nat_lt, nat_le, Bool, true, false, List, [], ◌∷◌, Option, Some, None, is_some, Result, Ok, Err, if◌then◌else◌}
use Rattle.std.proofs.Common.{refl, ap, sym, subst, ◌∙◌, arith, ⊎_elim}
use Rattle.std.proofs.lemmas.Bool.{cases_lt}
use Rattle.std.proofs.lemmas.Bool.Decides.{nat_tests}
use Rattle.mql_lex.specs.declared.group.Many.{Many}
use Rattle.mql_lex.specs.declared.group.Many.TheVariants.{One}
use Rattle.mql_lex.specs.declared.group.MatchKind.{MatchKind}
use Rattle.mql_lex.specs.declared.group.MatchKind.TheVariants.{All}
use Rattle.mql_lex.specs.declared.group.Matching.{Matching}
use Rattle.mql_lex.specs.declared.operator.Op.{Op}
use Rattle.mql_lex.specs.declared.span.Span.{Span}
use Rattle.mql_expr.specs.declared.item.Item.{Item}
use Rattle.mql_expr.specs.declared.expr.Param.{Param}
use Rattle.mql_expr.specs.Tree.{Tree, number, string, select, ranged, negate, with_templates, templates_listed, TreeTemplate}
use Rattle.mql_lists.specs.Words.{Word}
use Rattle.mql_lists.specs.Values.{value_of}
use Rattle.mql_lists.specs.Classes.{class_of_word}
use Rattle.mql_lists.specs.Progress.{leads, behind_step}
use Rattle.mql_lists.specs.Machines.{names_step, names_start, params_step, params_start, braces_step, braces_start}
use Rattle.mql_lists.specs.declared.class.Class.{Class}
use Rattle.mql_lists.specs.declared.progress.Progress.{Progress}
use Rattle.mql_lists.specs.declared.progress.Progress.TheVariants.{Goes, Done}
use Rattle.mql_parse.specs.Values.{number_of, or_zero, length_of, is_short, ahead, back}
use Rattle.mql_expr.specs.Levels.{level_of_op as level}
use Rattle.mql_parse.specs.Grammar.{Is, is_comparison, deepest, MayOpen, LengthFits, ListedNames, in_parens as parens, GroupIfAny, no_group, a_group, KeepIfAny, no_keep, a_keep, TruthIfAny, no_truth, a_truth, begins_open, ManyIfAny, no_many, a_many, many_names, matching, Mods, no_mods, some_mods, Offset, an_offset, offset_back as a_back, no_offset, some_offset, windowed as a_window, not_windowed, ParamsIfAny, no_params, some_params, unary, postfix, Reads, looser, an_operator, a_minus, a_plus, a_primary, a_postfix, a_with, Primary, a_number, a_string, in_brackets, a_call, a_metric, a_selector, a_nameless, no_args, last_arg, next_arg, Template, a_template, no_template, last_template, more_templates, Spells}
use Rattle.mql_parse.specs.declared.fault.Wrong.{Wrong}
use Rattle.mql_parse.specs.declared.fault.Wrong.TheVariants.{Unexpected, TooDeep, NumberTooWide}
use Rattle.mql_parse.specs.Machine.{State, at, moved, reached, Frame, in_parens, in_minus, in_plus, in_operator, in_args, in_template, in_body, Before, by, standing, end_with, end_frame, close_frame, continue_frame, opened, opening, only, fits, reduce, Reduced, operate, end, go_on, primary, complete, windowed, window_wanted, window_read, offset_wanted, offset_back, named, called, regrouped, grouped, names_wanted, in_names, in_braces, in_params, many_read, matched, with_read, template_wanted, template_named, template_headed, Purpose, before_args, after_args, matched_by, taken_over, named_for, Call, Head, Joint, Scope, calling, call_of, head_of, metric, joined, wanted, operated, compared, true_joint, no_more, within_part, by_wanted, by_named, by_called, by_regrouped, by_primary, by_grouped, by_compared, by_many, by_matched, by_operated, by_with_read, by_names_wanted, by_template_named, by_template_headed, by_template_wanted, by_window, by_window_wanted, by_window_read, by_offset_wanted, by_offset_back, one_more, with_one_more, measured}
use Rattle.mql_parse.proofs.Moves.{Yields, Moves}
use Rattle.mql_parse.proofs.Parts.{names_from, params_from, braces_from}
use Rattle.mql_parse.proofs.ToRead.{wants, level_some, level_most, no_more_args, one_more_arg, no_more_templates, one_more_template}
use Rattle.mql_parse.proofs.Held.{HeadRead, head_read, CallRead, call_read, RegroupedRead, regrouped_read, InArgs, WithRead, whole_with, InTemplates, TemplateHead, template_head, OperatorRead, operator_read, JointRead, joint_read, MatchRead, match_read, PurposeRead, for_before, for_after, for_match, for_many, BraceHead, no_name, a_name, Built, Offsets, Windowed, Held, HeldAt}

-- ---- tests

-- a move that a test allows
allowed : (t : Bool) (wrong : Wrong) (s u : State) → only t wrong s ≡ Ok u → t ≡ true
allowed true wrong s u is = refl
allowed false wrong s u is = absurd (cc is)

allowed_to : (t : Bool) (wrong : Wrong) (s u : State) → only t wrong s ≡ Ok u → s ≡ u
allowed_to true wrong s u is = cc
allowed_to false wrong s u is = absurd (cc is)

landed : (len : ℕ) (whole : List Word) (s u : State) (rest : List Word) → reached s ≡ reached u
    → HeldAt len whole s rest → HeldAt len whole u rest
landed len whole s u rest is held = let same : s ≡ u =
    cc in subst (λ v. HeldAt len whole v rest) same held

inside_holds : (len place : ℕ) (test : Bool) → fits (nat_lt place len) test ≡ true → place < len
    → test ≡ true
inside_holds len place test is within = let yes : nat_lt place len ≡ true =
    grind (arith, nat_tests) in ap (λ i. fits i test) (sym yes) ∙ is

may_open : (len place : ℕ) (fs : List Frame) (s u : State) → opening len place fs s ≡ Ok u
    → MayOpen len (opened fs) place
may_open len place fs s u is within =
    let few : nat_lt (opened fs) deepest ≡ true =
    inside_holds len place (nat_lt (opened fs) deepest)
    (allowed (fits (nat_lt place len) (nat_lt (opened fs) deepest)) TooDeep s u is) within in
    grind (arith, nat_tests)

-- ---- reducing

wants_most : (fs : List Frame) → wants fs ≤ unary
wants_most [] = omega arith
wants_most (in_operator j m ∷ fs) = let most = level_most j.op in omega arith
wants_most (in_minus place ∷ fs) = omega arith
wants_most (in_plus ∷ fs) = omega arith
wants_most (_ ∷ fs) = omega arith

-- an expression of a level is one of each looser level
down : {len n : ℕ} {o : Bool} {text rest : List Word} {t : Tree} (l k : ℕ) → k ≤ l
    → Reads len n l o text rest t → Reads len n k o text rest t
down {len} {n} {o} {text} {rest} {t} zero k le x = let same : 0 ≡ k =
    omega arith in subst (λ l. Reads len n l o text rest t) same x
down {len} {n} {o} {text} {rest} {t} (suc l) k le x =
    ⊎_elim (λ less. let lower : k ≤ l = omega arith in down l k lower (looser x))
    (λ more. let same : suc l ≡ k = omega arith in subst (λ m. Reads len n m o text rest t) same x)
    (cases_lt k (suc l))

record Reducing (len : ℕ) (whole : List Word) (k : ℕ) (r : Reduced) (rest : List Word) :
    Type 0 where
  pub start : List Word
  pub o : Bool
  pub built : Built len whole r.frames start
  pub reads : Reads len (opened r.frames) k o start rest r.tree
  pub low : wants r.frames ≤ k
  pub tail : 0 < k → o ≡ false

join : {len : ℕ} {fs : List Frame} {j : Joint} {m : Matching} {o : Bool} {start mid text rest :
    List Word} {t : Tree} → JointRead len fs j start mid → Mods mid text m
    → Reads len (opened fs) (suc (level j.op)) o text rest t
    → Reads len (opened fs) (level j.op) o start rest (joined j m t)
join (joint_read w op x is low truths) mods y = an_operator w op x is truths mods y

joint_low : {len : ℕ} {fs : List Frame} {j : Joint} {start mid : List Word}
    → JointRead len fs j start mid → wants fs ≤ level j.op
joint_low (joint_read w op x is low truths) = low

into_body : {len n : ℕ} {scope : Scope} {o : Bool} {start text rest : List Word} {t : Tree}
    → WithRead len n scope start text → Reads len n 0 o text rest t
    → Reads len n postfix true start rest
    (with_templates scope.at (templates_listed scope.templates) t)
into_body (whole_with w p e is is_p may ts is_e) x = a_with w p e is is_p may ts is_e x

headed :
    {len n : ℕ} {h : Head} {ps : List Param} {o : Bool} {text behind mid rest : List Word} {t :
    Tree} (e : Word) → TemplateHead h ps text behind → behind ≡ e ∷ mid
    → Is Class.Assign e → Reads len n 0 o mid rest t
    → Template len n text rest (record { at = h.at; name = h.name; params = ps; body = t })
headed {ps = ps} e (template_head {text = text} w is params) same is_e reads =
    a_template w e is (subst (λ words. ParamsIfAny text words ps) same params) is_e reads

-- calls
whole_call : {len n : ℕ} {c : Call} {text mid rest : List Word} {keep : Bool}
    → RegroupedRead len n c text mid → KeepIfAny mid rest keep
    → Primary len n text rest (calling c keep)
whole_call (regrouped_read (call_read w p e is group is_p may xs is_e) after) keeps =
    a_call w p e is group is_p may xs is_e after keeps

ungrouped : {len n : ℕ} {c : Call} {text rest : List Word} → CallRead len n c text rest
    → RegroupedRead len n c text rest
ungrouped (call_read w p e is group is_p may xs is_e) =
    regrouped_read (call_read w p e is group is_p may xs is_e) no_group

args_begin : {len n : ℕ} {c : Call} {text behind inner : List Word} (p : Word)
    → HeadRead c text behind → behind ≡ p ∷ inner → Is Class.OpenRound p → MayOpen len n p.at
    → InArgs len n c text inner
args_begin {inner = inner} p (head_read {text = text} {before = before} w is group) same is_p may ts
    e behind xs is_e =
    call_read w p e is (subst (λ words. GroupIfAny text words before) same group) is_p may xs is_e

named_head : (h : Head) (w : Word) (rest : List Word) → h ≡ head_of w → Is Class.Identifier w
    → HeadRead (call_of h) (w ∷ rest) rest
named_head h w rest same is =
    subst (λ g. HeadRead (call_of g) (w ∷ rest) rest) (sym same) (head_read w is no_group)

-- operators
truthless : {len : ℕ} {fs : List Frame} {j : Joint} {start here : List Word}
    → OperatorRead len fs j start here → JointRead len fs j start here
truthless (operator_read w op x is low) = joint_read w op x is low no_truth

truthful : {len : ℕ} {fs : List Frame} {j : Joint} {start here rest : List Word} (w : Word)
    → OperatorRead len fs j start here → here ≡ w ∷ rest → Is Class.Truth w
    → is_comparison j.op ≡ true → JointRead len fs (true_joint j) start rest
truthful {len} {rest = rest} w (operator_read v op x is low) same is_w compares =
    joint_read v op x is low
    (subst (λ words. TruthIfAny op words rest true) (sym same) (a_truth w is_w compares))

-- selectors
whole_selector :
    {len n : ℕ} {place : ℕ} {name : Option (List ℕ)} {start inner rest : List Word} {lists :
    List (List Item)} → BraceHead place name start inner
    → Rattle.mql_lists.specs.Grammar.Braces inner rest lists
    → Primary len n start rest (select place name lists)
whole_selector (no_name w is) braces = a_nameless w is braces
whole_selector (a_name w b is is_b) braces = a_selector w b is is_b braces

-- a step of a part's machine
part_kept :
    {S V : Type 0} (machine : S → Word → Option (Progress S V)) (start s : S) (w : Word)
    (inner rest : List Word) (into : S → State) (off : V → State) (u : State) (P : State → Type 0)
    → leads machine start inner ≡ leads machine s (w ∷ rest)
    → within_part into off (machine s w) ≡ Ok u
    → ((t : S) → leads machine start inner ≡ leads machine t rest → P (into t))
    → ((v : V) → leads machine start inner ≡ Some (v, rest) → P (off v)) → P u
part_kept {S} {V} machine start s w inner rest into off u P history move goes_on ends =
    go (machine s w) history move
  where
    go : (o : Option (Progress S V))
        → leads machine start inner ≡ behind_step o (λ t. leads machine t rest) rest
        → within_part into off o ≡ Ok u → P u
    go None history move = absurd (cc move)
    go (Some (Goes t)) history move = let same : into t ≡ u =
        cc move in subst P same (goes_on t history)
    go (Some (Done v)) history move = let same : off v ≡ u =
        cc move in subst P same (ends v history)

module _ (len : ℕ) (whole : List Word) where
  stopped : (k l : ℕ) (o : Bool) (fs : List Frame) (t : Tree) (start rest : List Word) → k ≤ l
      → wants fs ≤ k → (0 < k → o ≡ false) → Built len whole fs start
      → Reads len (opened fs) l o start rest t
      → Reducing len whole k (record { frames = fs; tree = t }) rest
  stopped k l o fs t start rest le low tail built reads =
      record {
        start = start;
        o = o;
        built = built;
        reads = down l k le reads;
        low = low;
        tail = tail;
      }

  reducing : (k l : ℕ) (o : Bool) (fs : List Frame) (t : Tree) (start rest : List Word) → k ≤ 7
      → k ≤ l → wants fs ≤ l → (0 < k → o ≡ false) → Built len whole fs start
      → Reads len (opened fs) l o start rest t → Reducing len whole k (reduce k fs t) rest
  reducing k l o [] t start rest few le low tail built reads =
      stopped k l o [] t start rest le (omega arith) tail built reads
  reducing k l o (in_minus place ∷ fs) t start rest few le low tail (w, is, may, same, built)
      reads =
      let negated : Reads len (opened fs) unary o (w ∷ start) rest (negate place t) =
      subst (λ p. Reads len (opened fs) unary o (w ∷ start) rest (negate p t)) (sym same)
      (a_minus w is may (down l unary low reads)) in
      reducing k unary o fs (negate place t) (w ∷ start) rest few (omega arith) (wants_most fs) tail
      built negated
  reducing k l o (in_plus ∷ fs) t start rest few le low tail (w, is, may, built) reads =
      reducing k unary o fs t (w ∷ start) rest few (omega arith) (wants_most fs) tail built
      (a_plus w is may (down l unary low reads))
  reducing k l o (in_operator j m ∷ fs) t start rest few le low tail
      (first, mid, joint, mods, built) reads =
      go (nat_le k (level j.op)) refl
      (λ below.
      reducing k (level j.op) o fs (joined j m t) first rest few below (joint_low joint) tail
      built (join joint mods (down l (suc (level j.op)) low reads)))
    where
      go : (b : Bool) → nat_le k (level j.op) ≡ b
          → (k ≤ level j.op → Reducing len whole k (reduce k fs (joined j m t)) rest)
          → Reducing len whole k
          (if b then reduce k fs (joined j m t)
          else (record { frames = in_operator j m ∷ fs; tree = t })) rest
      go true is more = more (grind (arith, nat_tests))
      go false is more =
          let above : level j.op < k = grind (arith, nat_tests) in
          stopped k l o (in_operator j m ∷ fs) t start rest le (omega arith) tail
          (first, mid, joint, mods, built) reads
  reducing k l o (in_body scope ∷ fs) t start rest few le low tail (first, head, built) reads =
      go (k == 0) refl
      (λ none.
      reducing k postfix true fs (with_templates scope.at (templates_listed scope.templates) t)
      first rest few (omega arith)
      (let most = wants_most fs in omega arith) (λ some. absurd (omega arith)) built
      (into_body head (down l 0 (omega arith) reads)))
    where
      go : (b : Bool) → (k == 0) ≡ b
          → (k ≡ 0
          → Reducing len whole k
          (reduce k fs (with_templates scope.at (templates_listed scope.templates) t)) rest)
          → Reducing len whole k
          (if b then reduce k fs (with_templates scope.at (templates_listed scope.templates) t)
          else (record { frames = in_body scope ∷ fs; tree = t })) rest
      go true is more = more (grind (arith, nat_tests))
      go false is more =
          stopped k l o (in_body scope ∷ fs) t start rest le (omega arith) tail (first, head, built)
          reads
  reducing k l o (in_parens ∷ fs) t start rest few le low tail built reads =
      stopped k l o (in_parens ∷ fs) t start rest le (omega arith) tail built reads
  reducing k l o (in_args c ∷ fs) t start rest few le low tail built reads =
      stopped k l o (in_args c ∷ fs) t start rest le (omega arith) tail built reads
  reducing k l o (in_template scope h ps ∷ fs) t start rest few le low tail built reads =
      stopped k l o (in_template scope h ps ∷ fs) t start rest le (omega arith) tail built reads

  -- ---- after an expression

  kept_close :
      (fs : List Frame) (o : Bool) (t : Tree) (start : List Word) (w : Word) (rest : List Word)
      (u : State) → Built len whole fs start
      → Reads len (opened fs) 0 o start (w ∷ rest) t → Is Class.CloseRound w
      → close_frame fs t ≡ Ok u → HeldAt len whole u rest
  kept_close (in_parens ∷ fs) o t start w rest u (p, is_p, may, built) reads is move =
      landed len whole (at fs (primary t)) u rest move
      (p ∷ start, in_brackets p w is_p may reads is, built)
  kept_close (in_args c ∷ fs) o t start w rest u (first, args, built) reads is move =
      landed len whole (at fs (called (one_more c t))) u rest move
      (first, args (t ∷ []) w rest (last_arg reads) is, built)
  kept_close (in_template scope h ps ∷ fs) o t start w rest u
      (first, mid, e, templates, head, is_e, built) reads is move =
      landed len whole (at (in_body (with_one_more scope h ps t) ∷ fs) wanted) u rest move (
        first,
        templates (record { at = h.at; name = h.name; params = ps; body = t } ∷ []) w rest
            (last_template (headed e head refl is_e reads)) is,
        built,
      )
  kept_close [] o t start w rest u built reads is move = absurd (cc move)
  kept_close (in_minus place ∷ fs) o t start w rest u built reads is move = absurd (cc move)
  kept_close (in_plus ∷ fs) o t start w rest u built reads is move = absurd (cc move)
  kept_close (in_operator j m ∷ fs) o t start w rest u built reads is move = absurd (cc move)
  kept_close (in_body scope ∷ fs) o t start w rest u built reads is move = absurd (cc move)

  kept_continue :
      (fs : List Frame) (o : Bool) (t : Tree) (start : List Word) (w : Word) (rest : List Word)
      (u : State) → Built len whole fs start
      → Reads len (opened fs) 0 o start (w ∷ rest) t → Is Class.Comma w → continue_frame fs t ≡ Ok u
      → HeldAt len whole u rest
  kept_continue (in_args c ∷ fs) o t start w rest u (first, args, built) reads is move =
      landed len whole (at (in_args (one_more c t) ∷ fs) wanted) u rest move (
        first,
        (λ ts e behind more is_e.
            subst (λ d. CallRead len (opened fs) d first behind) (sym (one_more_arg c t ts))
            (args (t ∷ ts) e behind (next_arg w reads is more) is_e)),
        built,
      )
  kept_continue (in_template scope h ps ∷ fs) o t start w rest u
      (first, mid, e, templates, head, is_e, built) reads is move =
      let new : TreeTemplate = record { at = h.at; name = h.name; params = ps; body = t } in
      landed len whole (at fs (template_wanted (with_one_more scope h ps t))) u rest move (
        first,
        (λ ts c body more is_c.
            subst (λ d. WithRead len (opened fs) d first body)
            (sym (one_more_template scope new ts))
            (templates (new ∷ ts) c body (more_templates w (headed e head refl is_e reads) is more)
            is_c)),
        built,
      )
  kept_continue [] o t start w rest u built reads is move = absurd (cc move)
  kept_continue (in_parens ∷ fs) o t start w rest u built reads is move = absurd (cc move)
  kept_continue (in_minus place ∷ fs) o t start w rest u built reads is move = absurd (cc move)
  kept_continue (in_plus ∷ fs) o t start w rest u built reads is move = absurd (cc move)
  kept_continue (in_operator j m ∷ fs) o t start w rest u built reads is move = absurd (cc move)
  kept_continue (in_body scope ∷ fs) o t start w rest u built reads is move = absurd (cc move)

  kept_go_on :
      (fs : List Frame) (t : Tree) (start : List Word) (w : Word) (rest : List Word) (u : State)
      → Reads len (opened fs) postfix false start (w ∷ rest) t
      → Built len whole fs start → (c : Class) → Is c w → go_on fs t w.at c ≡ Ok u
      → HeldAt len whole u rest
  kept_go_on fs t start w rest u reads built (Class.Operator op) is move =
      let most = wants_most fs in
      let less = level_most op in
      let r = reducing (level op) postfix false fs t start (w ∷ rest) less (omega arith)
      (omega arith) (λ some. refl) built reads in
      let plain = r.tail (level_some op) in
      landed len whole (operate (reduce (level op) fs t) w.at op) u rest move (
        r.start,
        operator_read w op
            (subst (λ o.
            Reads len (opened (reduce (level op) fs t).frames) (level op) o r.start (w ∷ rest)
            (reduce (level op) fs t).tree) plain r.reads) is r.low,
        r.built,
      )
  kept_go_on fs t start w rest u reads built Class.CloseRound is move =
      let most = wants_most fs in
      let r = reducing 0 postfix false fs t start (w ∷ rest) (omega arith) (omega arith)
      (omega arith) (λ some. refl) built reads in
      kept_close (reduce 0 fs t).frames r.o (reduce 0 fs t).tree r.start w rest u r.built r.reads is
      move
  kept_go_on fs t start w rest u reads built Class.Comma is move =
      let most = wants_most fs in
      let r = reducing 0 postfix false fs t start (w ∷ rest) (omega arith) (omega arith)
      (omega arith) (λ some. refl) built reads in
      kept_continue (reduce 0 fs t).frames r.o (reduce 0 fs t).tree r.start w rest u r.built r.reads
      is move
  kept_go_on fs t start w rest u reads built _ is move = absurd (cc move)

  kept_primary :
      (fs : List Frame) (t : Tree) (start : List Word) (w : Word) (rest : List Word) (u : State)
      → Primary len (opened fs) start (w ∷ rest) t
      → Built len whole fs start → (c : Class) → Is c w → by_primary fs t w.at c ≡ Ok u
      → HeldAt len whole u rest
  kept_primary fs t start w rest u x built Class.OpenSquare is move =
      landed len whole (at fs (window_wanted w.at t)) u rest move (start, w, x, is, refl, built)
  kept_primary fs t start w rest u x built Class.Offset is move =
      landed len whole (at fs (offset_wanted w.at t None)) u rest move
      (start, w, is, (λ more span off. a_postfix x (not_windowed off)), built)
  kept_primary fs t start w rest u x built c is move =
      kept_go_on fs t start w rest u (a_primary x) built c is move

  kept_regrouped :
      (fs : List Frame) (x : Call) (start : List Word) (w : Word) (rest : List Word) (u : State)
      → RegroupedRead len (opened fs) x start (w ∷ rest)
      → Built len whole fs start → (c : Class) → Is c w → by_regrouped fs x w.at c ≡ Ok u
      → HeldAt len whole u rest
  kept_regrouped fs x start w rest u read built Class.Keep is move =
      landed len whole (at fs (primary (calling x true))) u rest move
      (start, whole_call read (a_keep w is), built)
  kept_regrouped fs x start w rest u read built c is move =
      kept_primary fs (calling x false) start w rest u (whole_call read no_keep) built c is move

  kept_called :
      (fs : List Frame) (x : Call) (start : List Word) (w : Word) (rest : List Word) (u : State)
      → CallRead len (opened fs) x start (w ∷ rest)
      → Built len whole fs start → (c : Class) → Is c w → by_called fs x w.at c ≡ Ok u
      → HeldAt len whole u rest
  kept_called fs x start w rest u read built (Class.Grouping by_word) is move =
      landed len whole (at fs (names_wanted (after_args x by_word))) u rest move
      (start, for_after w by_word read is, built)
  kept_called fs x start w rest u read built c is move =
      kept_regrouped fs x start w rest u (ungrouped read) built c is move

  kept_named : (fs : List Frame) (h : Head) (v w : Word) (rest : List Word) (u : State)
      → h ≡ head_of v → Is Class.Identifier v → Built len whole fs (v ∷ w ∷ rest)
      → (c : Class) → Is c w → by_named len fs h w.at c ≡ Ok u → HeldAt len whole u rest
  kept_named fs h v w rest u same is_v built Class.OpenRound is move =
      let new : State = at (in_args (call_of h) ∷ fs) wanted in
      let may = may_open len w.at fs new u move in
      let to : reached new ≡ reached u =
      ap reached
      (allowed_to (fits (nat_lt w.at len) (nat_lt (opened fs) deepest)) TooDeep new u move) in
      landed len whole new u rest to
      (v ∷ w ∷ rest, args_begin w (named_head h v (w ∷ rest) same is_v) refl is may, built)
  kept_named fs h v w rest u same is_v built Class.OpenCurly is move =
      landed len whole (at fs (in_braces h.at (Some h.name) braces_start)) u rest move (
        v ∷ w ∷ rest,
        rest,
        subst (λ g. BraceHead g.at (Some g.name) (v ∷ w ∷ rest) rest) (sym same)
            (a_name v w is_v is),
        refl,
        built,
      )
  kept_named fs h v w rest u same is_v built (Class.Grouping by_word) is move =
      landed len whole (at fs (names_wanted (before_args (call_of h) by_word))) u rest move (
        v ∷ w ∷ rest,
        subst (λ g. PurposeRead len fs (before_args (call_of g) by_word) (v ∷ w ∷ rest) rest)
            (sym same) (for_before v w by_word is_v is),
        built,
      )
  kept_named fs h v w rest u same is_v built c is move =
      kept_primary fs (metric h) (v ∷ w ∷ rest) w rest u
      (subst (λ g. Primary len (opened fs) (v ∷ w ∷ rest) (w ∷ rest) (metric g)) (sym same)
      (a_metric v is_v)) built c is move

  kept_grouped :
      (fs : List Frame) (x : Call) (start : List Word) (w : Word) (rest : List Word) (u : State)
      → HeadRead x start (w ∷ rest) → Built len whole fs start
      → (c : Class) → Is c w → by_grouped len fs x w.at c ≡ Ok u → HeldAt len whole u rest
  kept_grouped fs x start w rest u head built Class.OpenRound is move =
      let new : State = at (in_args x ∷ fs) wanted in
      let may = may_open len w.at fs new u move in
      let to : reached new ≡ reached u =
      ap reached
      (allowed_to (fits (nat_lt w.at len) (nat_lt (opened fs) deepest)) TooDeep new u move) in
      landed len whole new u rest to (start, args_begin w head refl is may, built)
  kept_grouped fs x start w rest u head built _ is move = absurd (cc move)

  -- ---- where an expression is wanted

  kept_no_more : (fs : List Frame) (w : Word) (rest : List Word) (u : State)
      → Built len whole fs (w ∷ rest) → Is Class.CloseRound w → no_more fs ≡ Ok u
      → HeldAt len whole u rest
  kept_no_more (in_args c ∷ fs) w rest u (start, args, built) is move =
      landed len whole (at fs (called c)) u rest move (
        start,
        subst (λ d. CallRead len (opened fs) d start rest) (no_more_args c)
            (args [] w rest no_args is),
        built,
      )
  kept_no_more [] w rest u built is move = absurd (cc move)
  kept_no_more (in_parens ∷ fs) w rest u built is move = absurd (cc move)
  kept_no_more (in_minus place ∷ fs) w rest u built is move = absurd (cc move)
  kept_no_more (in_plus ∷ fs) w rest u built is move = absurd (cc move)
  kept_no_more (in_operator j m ∷ fs) w rest u built is move = absurd (cc move)
  kept_no_more (in_template scope h ps ∷ fs) w rest u built is move = absurd (cc move)
  kept_no_more (in_body scope ∷ fs) w rest u built is move = absurd (cc move)

  kept_wanted : (fs : List Frame) (w : Word) (rest : List Word) (u : State)
      → Built len whole fs (w ∷ rest) → (c : Class) → Is c w → by_wanted len fs w c ≡ Ok u
      → HeldAt len whole u rest
  kept_wanted fs w rest u built Class.Numeral is move =
      let new : State = at fs (primary (number w.at (or_zero (number_of w.text)))) in
      let test = fits (nat_lt w.at len) (is_some (number_of w.text)) in
      let to : reached new ≡ reached u = ap reached (allowed_to test NumberTooWide new u move) in
      landed len whole new u rest to (
        w ∷ rest,
        a_number w is
            (inside_holds len w.at (is_some (number_of w.text))
            (allowed test NumberTooWide new u move)),
        built,
      )
  kept_wanted fs w rest u built Class.Quoted is move =
      landed len whole (at fs (primary (string w.at (value_of w.text)))) u rest move
      (w ∷ rest, a_string w is, built)
  kept_wanted fs w rest u built Class.Identifier is move =
      landed len whole (at fs (named (head_of w))) u rest move (w, refl, is, built)
  kept_wanted fs w rest u built Class.OpenCurly is move =
      landed len whole (at fs (in_braces w.at None braces_start)) u rest move
      (w ∷ rest, rest, no_name w is, refl, built)
  kept_wanted fs w rest u built Class.OpenRound is move =
      let new : State = at (in_parens ∷ fs) wanted in
      let to : reached new ≡ reached u =
      ap reached
      (allowed_to (fits (nat_lt w.at len) (nat_lt (opened fs) deepest)) TooDeep new u move) in
      landed len whole new u rest to (w, is, may_open len w.at fs new u move, built)
  kept_wanted fs w rest u built Class.CloseRound is move = kept_no_more fs w rest u built is move
  kept_wanted fs w rest u built Class.With is move =
      landed len whole (at fs (with_read w.at)) u rest move (w, refl, is, built)
  kept_wanted fs w rest u built (Class.Operator Op.Sub) is move =
      let new : State = at (in_minus w.at ∷ fs) wanted in
      let to : reached new ≡ reached u =
      ap reached
      (allowed_to (fits (nat_lt w.at len) (nat_lt (opened fs) deepest)) TooDeep new u move) in
      landed len whole new u rest to (w, is, may_open len w.at fs new u move, refl, built)
  kept_wanted fs w rest u built (Class.Operator Op.Add) is move =
      let new : State = at (in_plus ∷ fs) wanted in
      let to : reached new ≡ reached u =
      ap reached
      (allowed_to (fits (nat_lt w.at len) (nat_lt (opened fs) deepest)) TooDeep new u move) in
      landed len whole new u rest to (w, is, may_open len w.at fs new u move, built)
  kept_wanted fs w rest u built _ is move = absurd (cc move)

  -- ---- after an operator

  kept_compared :
      (fs : List Frame) (j : Joint) (start : List Word) (w : Word) (rest : List Word) (u : State)
      → JointRead len fs j start (w ∷ rest) → Built len whole fs start
      → (c : Class) → Is c w → by_compared len fs j w c ≡ Ok u → HeldAt len whole u rest
  kept_compared fs j start w rest u joint built (Class.Pairing kind) is move =
      landed len whole (at fs (names_wanted (matched_by j kind))) u rest move
      (start, for_match w kind joint is, built)
  kept_compared fs j start w rest u joint built c is move =
      kept_wanted (in_operator j (matching All [] One []) ∷ fs) w rest u
      (start, w ∷ rest, joint, no_mods, built) c is move

  kept_operated :
      (fs : List Frame) (j : Joint) (start : List Word) (w : Word) (rest : List Word) (u : State)
      → OperatorRead len fs j start (w ∷ rest) → Built len whole fs start
      → (c : Class) → Is c w → by_operated len fs j w c ≡ Ok u → HeldAt len whole u rest
  kept_operated fs j start w rest u operator built Class.Truth is move =
      let new : State = at fs (compared (true_joint j)) in
      let to : reached new ≡ reached u =
      ap reached (allowed_to (is_comparison j.op) Unexpected new u move) in
      landed len whole new u rest to (
        start,
        truthful w operator refl is (allowed (is_comparison j.op) Unexpected new u move),
        built,
      )
  kept_operated fs j start w rest u operator built c is move =
      kept_compared fs j start w rest u (truthless operator) built c is move

  match_built :
      {fs : List Frame} {j : Joint} {kind : MatchKind} {names extra : List (List ℕ)} {side :
      Many} {start behind rest : List Word}
      → MatchRead len fs j kind names start behind → ManyIfAny behind rest side extra
      → Built len whole fs start
      → Built len whole (in_operator j (matching kind names side extra) ∷ fs) rest
  match_built {start = start} (match_read {here = here} v joint is listed) more built =
      (start, v ∷ here, joint, some_mods v is listed more, built)

  kept_matched :
      (fs : List Frame) (j : Joint) (kind : MatchKind) (names : List (List ℕ)) (start : List Word)
      (w : Word) (rest : List Word) (u : State)
      → MatchRead len fs j kind names start (w ∷ rest) → Built len whole fs start
      → (c : Class) → Is c w → by_matched len fs j kind names w c ≡ Ok u → HeldAt len whole u rest
  kept_matched fs j kind names start w rest u read built (Class.Joining side) is move =
      landed len whole (at fs (many_read j kind names side)) u rest move (start, w, read, is, built)
  kept_matched fs j kind names start w rest u read built c is move =
      kept_wanted (in_operator j (matching kind names One []) ∷ fs) w rest u
      (match_built read no_many built) c is move

  kept_many :
      (fs : List Frame) (j : Joint) (kind : MatchKind) (names : List (List ℕ)) (side : Many)
      (start : List Word) (v w : Word) (rest : List Word) (u : State)
      → MatchRead len fs j kind names start (v ∷ w ∷ rest) → Is (Class.Joining side) v
      → Built len whole fs start
      → (c : Class) → Is c w → by_many len fs j kind names side w c ≡ Ok u → HeldAt len whole u rest
  kept_many fs j kind names side start v w rest u read is_v built Class.OpenRound is move =
      landed len whole (at fs (in_names (taken_over j kind names side) names_start)) u rest move
      (start, w, rest, for_many v side read is_v, is, refl, built)
  kept_many fs j kind names side start v w rest u read is_v built c is move =
      let no_open : begins_open (w ∷ rest) ≡ false = rw is refl in
      kept_wanted (in_operator j (matching kind names side []) ∷ fs) w rest u
      (match_built read (a_many v is_v no_open) built) c is move

  -- names were read
  kept_purpose :
      {fs : List Frame} {p : Purpose} {start mid rest : List Word} {names : List (List ℕ)}
      → PurposeRead len fs p start mid → ListedNames mid rest names
      → Built len whole fs start → HeldAt len whole (named_for fs p names) rest
  kept_purpose (for_before {mid = mid} w v by_word is is_v) listed built =
      (w ∷ v ∷ mid, head_read w is (a_group v by_word is_v listed), built)
  kept_purpose {start = start} (for_after v by_word read is) listed built =
      (start, regrouped_read read (a_group v by_word is listed), built)
  kept_purpose {start = start} (for_match v kind joint is) listed built =
      (start, match_read v joint is listed, built)
  kept_purpose {start = start} (for_many v side read is) listed built =
      match_built read (many_names v is listed) built

  -- ---- windows and offsets

  length_fits : (w : Word) (s u : State) → measured len w s ≡ Ok u → LengthFits len w
  length_fits w s u move =
      inside_holds len w.at (is_short (length_of w.text))
      (allowed (fits (nat_lt w.at len) (is_short (length_of w.text))) NumberTooWide s u move)

  length_to : (w : Word) (s u : State) → measured len w s ≡ Ok u → reached s ≡ reached u
  length_to w s u move =
      ap reached
      (allowed_to (fits (nat_lt w.at len) (is_short (length_of w.text))) NumberTooWide s u move)

  kept_window_wanted :
      (fs : List Frame) (place : ℕ) (t : Tree) (start : List Word) (v w : Word) (rest : List Word)
      (u : State)
      → Primary len (opened fs) start (v ∷ w ∷ rest) t → Is Class.OpenSquare v → place ≡ v.at
      → Built len whole fs start
      → (c : Class) → Is c w → by_window_wanted len fs place t w c ≡ Ok u → HeldAt len whole u rest
  kept_window_wanted fs place t start v w rest u x is_v same built Class.Time is move =
      let new : State = at fs (window_read place t (ahead (length_of w.text))) in
      let fit = length_fits w new u move in
      landed len whole new u rest (length_to w new u move) (
        start,
        (λ e more rest_is is_e last offset off.
            let x' = subst (λ words. Primary len (opened fs) start (v ∷ w ∷ words) t) rest_is x in
            subst (λ p.
            Reads len (opened fs) postfix false start last
            (ranged p t (Some (ahead (length_of w.text))) offset)) (sym same)
            (a_postfix x' (a_window v w e is_v is fit is_e off))),
        built,
      )
  kept_window_wanted fs place t start v w rest u x is_v same built _ is move = absurd (cc move)

  kept_window_read :
      (fs : List Frame) (place : ℕ) (t : Tree) (span : Span) (start : List Word) (w : Word)
      (rest : List Word) (u : State)
      → ((e : Word) (more : List Word) → w ∷ rest ≡ e ∷ more → Is Class.CloseSquare e
      → Windowed len (opened fs) place t span start more) → Built len whole fs start
      → (c : Class) → Is c w → by_window_read fs place t span c ≡ Ok u → HeldAt len whole u rest
  kept_window_read fs place t span start w rest u read built Class.CloseSquare is move =
      landed len whole (at fs (windowed place t span)) u rest move
      (start, read w rest refl is, built)
  kept_window_read fs place t span start w rest u read built _ is move = absurd (cc move)

  kept_window :
      (fs : List Frame) (place : ℕ) (t : Tree) (span : Span) (start : List Word) (w : Word)
      (rest : List Word) (u : State)
      → Windowed len (opened fs) place t span start (w ∷ rest) → Built len whole fs start
      → (c : Class) → Is c w → by_window fs place t span w.at c ≡ Ok u → HeldAt len whole u rest
  kept_window fs place t span start w rest u read built Class.Offset is move =
      landed len whole (at fs (offset_wanted place t (Some span))) u rest move
      (start, w, is, (λ more s off. read more (Some s) (some_offset off)), built)
  kept_window fs place t span start w rest u read built c is move =
      kept_go_on fs (ranged place t (Some span) None) start w rest u
      (read (w ∷ rest) None no_offset) built c is move

  kept_offset_wanted :
      (fs : List Frame) (place : ℕ) (t : Tree) (window : Option Span) (start : List Word)
      (v w : Word) (rest : List Word) (u : State)
      → Is Class.Offset v → Offsets len (opened fs) place t window v.at start (v ∷ w ∷ rest)
      → Built len whole fs start
      → (c : Class) → Is c w → by_offset_wanted len fs place t window w c ≡ Ok u
      → HeldAt len whole u rest
  kept_offset_wanted fs place t window start v w rest u is_v read built Class.Time is move =
      let new : State =
      at fs (complete (ranged place t window (Some (ahead (length_of w.text))))) in
      landed len whole new u rest (length_to w new u move) (
        start,
        read rest (ahead (length_of w.text))
            (an_offset v w is_v is (length_fits w new u move)),
        built,
      )
  kept_offset_wanted fs place t window start v w rest u is_v read built (Class.Operator Op.Sub) is
      move =
      landed len whole (at fs (offset_back place t window)) u rest move
      (start, v, w, is_v, is, read, built)
  kept_offset_wanted fs place t window start v w rest u is_v read built _ is move = absurd (cc move)

  kept_offset_back :
      (fs : List Frame) (place : ℕ) (t : Tree) (window : Option Span) (start : List Word)
      (v m w : Word) (rest : List Word) (u : State)
      → Is Class.Offset v → Is (Class.Operator Op.Sub) m
      → Offsets len (opened fs) place t window v.at start (v ∷ m ∷ w ∷ rest)
      → Built len whole fs start
      → (c : Class) → Is c w → by_offset_back len fs place t window w c ≡ Ok u
      → HeldAt len whole u rest
  kept_offset_back fs place t window start v m w rest u is_v is_m read built Class.Time is move =
      let new : State = at fs (complete (ranged place t window (Some (back (length_of w.text))))) in
      landed len whole new u rest (length_to w new u move) (
        start,
        read rest (back (length_of w.text))
            (a_back v m w is_v is_m is (length_fits w new u move)),
        built,
      )
  kept_offset_back fs place t window start v m w rest u is_v is_m read built _ is move =
      absurd (cc move)

  -- ---- templates

  kept_with_read : (fs : List Frame) (place : ℕ) (v w : Word) (rest : List Word) (u : State)
      → place ≡ v.at → Is Class.With v → Built len whole fs (v ∷ w ∷ rest)
      → (c : Class) → Is c w → by_with_read len fs place w.at c ≡ Ok u → HeldAt len whole u rest
  kept_with_read fs place v w rest u same is_v built Class.OpenRound is move =
      let new : State = at fs (template_wanted (record { at = place; templates = [] })) in
      let may = may_open len w.at fs new u move in
      let to : reached new ≡ reached u =
      ap reached
      (allowed_to (fits (nat_lt w.at len) (nat_lt (opened fs) deepest)) TooDeep new u move) in
      landed len whole new u rest to (
        v ∷ w ∷ rest,
        (λ ts e body more is_e.
            subst (λ p.
            WithRead len (opened fs) (record { at = p; templates = ts }) (v ∷ w ∷ rest) body)
            (sym same) (whole_with v w e is_v is may more is_e)),
        built,
      )
  kept_with_read fs place v w rest u same is_v built _ is move = absurd (cc move)

  kept_template_wanted :
      (fs : List Frame) (scope : Scope) (start : List Word) (w : Word) (rest : List Word)
      (u : State)
      → InTemplates len (opened fs) scope start (w ∷ rest) → Built len whole fs start
      → (c : Class) → Is c w → by_template_wanted fs scope w c ≡ Ok u → HeldAt len whole u rest
  kept_template_wanted fs scope start w rest u read built Class.Identifier is move =
      landed len whole (at fs (template_named scope (head_of w))) u rest move
      (start, w, read, refl, is, built)
  kept_template_wanted fs scope start w rest u read built Class.CloseRound is move =
      landed len whole (at (in_body scope ∷ fs) wanted) u rest move (
        start,
        subst (λ d. WithRead len (opened fs) d start rest) (no_more_templates scope)
            (read [] w rest no_template is),
        built,
      )
  kept_template_wanted fs scope start w rest u read built _ is move = absurd (cc move)

  kept_template_headed :
      (fs : List Frame) (scope : Scope) (h : Head) (ps : List Param) (start mid : List Word)
      (w : Word) (rest : List Word) (u : State)
      → InTemplates len (opened fs) scope start mid → TemplateHead h ps mid (w ∷ rest)
      → Built len whole fs start
      → (c : Class) → Is c w → by_template_headed fs scope h ps c ≡ Ok u → HeldAt len whole u rest
  kept_template_headed fs scope h ps start mid w rest u read head built Class.Assign is move =
      landed len whole (at (in_template scope h ps ∷ fs) wanted) u rest move
      (start, mid, w, read, head, is, built)
  kept_template_headed fs scope h ps start mid w rest u read head built _ is move = absurd (cc move)

  kept_template_named :
      (fs : List Frame) (scope : Scope) (h : Head) (start : List Word) (v w : Word)
      (rest : List Word) (u : State)
      → InTemplates len (opened fs) scope start (v ∷ w ∷ rest) → h ≡ head_of v
      → Is Class.Identifier v → Built len whole fs start
      → (c : Class) → Is c w → by_template_named fs scope h c ≡ Ok u → HeldAt len whole u rest
  kept_template_named fs scope h start v w rest u read same is_v built Class.OpenRound is move =
      landed len whole (at fs (in_params scope h params_start)) u rest move
      (start, v, w, rest, read, same, is_v, is, refl, built)
  kept_template_named fs scope h start v w rest u read same is_v built c is move =
      kept_template_headed fs scope h [] start (v ∷ w ∷ rest) w rest u read
      (subst (λ g. TemplateHead g [] (v ∷ w ∷ rest) (w ∷ rest)) (sym same)
      (template_head v is_v no_params)) built c is move

  -- ---- one step

  kept : (fs : List Frame) (b : Before) (w : Word) (rest : List Word) (u : State)
      → Held len whole fs b (w ∷ rest) → by len fs b w (class_of_word w) ≡ Ok u
      → HeldAt len whole u rest
  kept fs wanted w rest u built move = kept_wanted fs w rest u built (class_of_word w) refl move
  kept fs (named h) w rest u (v, same, is_v, built) move =
      kept_named fs h v w rest u same is_v built (class_of_word w) refl move
  kept fs (grouped x) w rest u (start, head, built) move =
      kept_grouped fs x start w rest u head built (class_of_word w) refl move
  kept fs (called x) w rest u (start, read, built) move =
      kept_called fs x start w rest u read built (class_of_word w) refl move
  kept fs (regrouped x) w rest u (start, read, built) move =
      kept_regrouped fs x start w rest u read built (class_of_word w) refl move
  kept fs (names_wanted p) w rest u (start, read, built) move = go (class_of_word w) refl move
    where
      go : (c : Class) → Is c w → Rattle.mql_parse.specs.Machine.by_names_wanted fs p c ≡ Ok u
          → HeldAt len whole u rest
      go Class.OpenRound is move =
          landed len whole (at fs (in_names p names_start)) u rest move
          (start, w, rest, read, is, refl, built)
      go _ is move = absurd (cc move)
  kept fs (in_names p s) w rest u (start, v, inner, read, is_v, history, built) move =
      part_kept names_step names_start s w inner rest (λ t. at fs (in_names p t)) (named_for fs p) u
      (λ q. HeldAt len whole q rest) history move
      (λ t more. (start, v, inner, read, is_v, more, built))
      (λ names more. kept_purpose read (parens v is_v (names_from more)) built)
  kept fs (in_braces place name s) w rest u (start, inner, head, history, built) move =
      part_kept braces_step braces_start s w inner rest (λ t. at fs (in_braces place name t))
      (λ lists. at fs (primary (select place name lists))) u
      (λ q. HeldAt len whole q rest) history move
      (λ t more. (start, inner, head, more, built))
      (λ lists more. (start, whole_selector head (braces_from more), built))
  kept fs (primary t) w rest u (start, x, built) move =
      kept_primary fs t start w rest u x built (class_of_word w) refl move
  kept fs (window_wanted place t) w rest u (start, v, x, is_v, same, built) move =
      kept_window_wanted fs place t start v w rest u x is_v same built (class_of_word w) refl move
  kept fs (window_read place t span) w rest u (start, read, built) move =
      kept_window_read fs place t span start w rest u read built (class_of_word w) refl move
  kept fs (windowed place t span) w rest u (start, read, built) move =
      kept_window fs place t span start w rest u read built (class_of_word w) refl move
  kept fs (offset_wanted place t window) w rest u (start, v, is_v, read, built) move =
      kept_offset_wanted fs place t window start v w rest u is_v read built (class_of_word w) refl
      move
  kept fs (offset_back place t window) w rest u (start, v, m, is_v, is_m, read, built) move =
      kept_offset_back fs place t window start v m w rest u is_v is_m read built (class_of_word w)
      refl move
  kept fs (complete t) w rest u (start, reads, built) move =
      kept_go_on fs t start w rest u reads built (class_of_word w) refl move
  kept fs (operated j) w rest u (start, read, built) move =
      kept_operated fs j start w rest u read built (class_of_word w) refl move
  kept fs (compared j) w rest u (start, read, built) move =
      kept_compared fs j start w rest u read built (class_of_word w) refl move
  kept fs (matched j kind names) w rest u (start, read, built) move =
      kept_matched fs j kind names start w rest u read built (class_of_word w) refl move
  kept fs (many_read j kind names side) w rest u (start, v, read, is_v, built) move =
      kept_many fs j kind names side start v w rest u read is_v built (class_of_word w) refl move
  kept fs (with_read place) w rest u (v, same, is_v, built) move =
      kept_with_read fs place v w rest u same is_v built (class_of_word w) refl move
  kept fs (template_wanted scope) w rest u (start, read, built) move =
      kept_template_wanted fs scope start w rest u read built (class_of_word w) refl move
  kept fs (template_named scope h) w rest u (start, v, read, same, is_v, built) move =
      kept_template_named fs scope h start v w rest u read same is_v built (class_of_word w) refl
      move
  kept fs (in_params scope h s) w rest u
      (start, v, p, inner, read, same, is_v, is_p, history, built) move =
      part_kept params_step params_start s w inner rest (λ t. at fs (in_params scope h t))
      (λ ps. at fs (template_headed scope h ps)) u
      (λ q. HeldAt len whole q rest) history move
      (λ t more. (start, v, p, inner, read, same, is_v, is_p, more, built))
      (λ ps more. (
        start,
        v ∷ p ∷ inner,
        read,
        subst (λ g. TemplateHead g ps (v ∷ p ∷ inner) rest) (sym same)
            (template_head v is_v (some_params p is_p (params_from more))),
        built,
      ))
  kept fs (template_headed scope h ps) w rest u (start, mid, read, head, built) move =
      kept_template_headed fs scope h ps start mid w rest u read head built (class_of_word w) refl
      move

  -- ---- the end

  ended : (fs : List Frame) (t r : Tree) (start : List Word)
      → Reads len (opened fs) postfix false start [] t → Built len whole fs start
      → end (reduce 0 fs t) ≡ Some r
      → Spells len whole r
  ended fs t r start reads built is =
      let most = wants_most fs in
      let q = reducing 0 postfix false fs t start [] (omega arith) (omega arith) (omega arith)
      (λ some. refl) built reads in
      go (reduce 0 fs t).frames (reduce 0 fs t).tree q.start q.o q.built q.reads is
    where
      go : (gs : List Frame) (s : Tree) (first : List Word) (o : Bool) → Built len whole gs first
          → Reads len (opened gs) 0 o first [] s → end_frame gs s ≡ Some r
          → Spells len whole r
      go [] s first o built reads is =
          let same : s ≡ r = cc in (
            o,
            subst (λ x. Reads len 0 0 o whole [] x) same
                (subst (λ words. Reads len 0 0 o words [] s) built reads),
          )
      go (g ∷ gs) s first o built reads is = absurd (cc is)

  finished : (fs : List Frame) (b : Before) (r : Tree) → Held len whole fs b []
      → end_with fs (standing b) ≡ Some r → Spells len whole r
  finished fs (named h) r (v, same, is_v, built) is =
      ended fs (metric h) r (v ∷ [])
      (subst (λ g. Reads len (opened fs) postfix false (v ∷ []) [] (metric g)) (sym same)
      (a_primary (a_metric v is_v))) built is
  finished fs (called x) r (start, read, built) is =
      ended fs (calling x false) r start (a_primary (whole_call (ungrouped read) no_keep)) built is
  finished fs (regrouped x) r (start, read, built) is =
      ended fs (calling x false) r start (a_primary (whole_call read no_keep)) built is
  finished fs (primary t) r (start, x, built) is = ended fs t r start (a_primary x) built is
  finished fs (windowed place t span) r (start, read, built) is =
      ended fs (ranged place t (Some span) None) r start (read [] None no_offset) built is
  finished fs (complete t) r (start, reads, built) is = ended fs t r start reads built is
  finished fs _ r held is = absurd (cc is)

  pub from_read : (s : State) (rest : List Word) (r : Tree) → HeldAt len whole s rest
      → Yields len s rest r → Spells len whole r
  from_read s [] r held reads = finished s.frames s.before r held reads
  from_read s (w ∷ rest) r held reads =
      go (by len s.frames s.before w (class_of_word w)) refl reads (λ u. from_read u rest r)
    where
      go : (o : Result State Wrong) → by len s.frames s.before w (class_of_word w) ≡ o
          → Moves len (moved o) rest r
          → ((u : State) → HeldAt len whole u rest → Yields len u rest r → Spells len whole r)
          → Spells len whole r
      go (Err wrong) is moves more = absurd (cc moves)
      go (Ok u) is moves more = more u (kept s.frames s.before w rest u held is) moves
