-- The machine's moves.
use Rattle.std.specs.Prelude.{◌≡◌, ℕ, false, List, [], ◌∷◌, Option, Some, None, Ok, option_and_then}
use Rattle.std.proofs.Common.{refl, ap, sym, subst, ◌∙◌}
use Rattle.std.specs.Option.{option_map_or}
use Rattle.vm_base.specs.Run.{run, result}
use Rattle.mql_lists.specs.declared.class.Class.{Class}
use Rattle.mql_lists.specs.Words.{Word}
use Rattle.mql_lists.specs.Classes.{class_of_word}
use Rattle.mql_lists.specs.declared.progress.Progress.{Progress}
use Rattle.mql_lists.specs.declared.progress.Progress.TheVariants.{Goes, Done}
use Rattle.mql_lists.specs.Progress.{leads, behind_step}
use Rattle.mql_expr.specs.Tree.{Tree}
use Rattle.mql_parse.specs.Grammar.{Is}
use Rattle.mql_parse.specs.Machine.{State, at, moved, Frame, Before, step, by, final_of, go_on, within_part, primary, complete, named, called, regrouped, Call, Head, calling, metric, by_primary, by_named, by_called, by_regrouped}

-- the machine reads the text from here to its end, as this expression
abbrev pub Yields : ℕ → State → List Word → Tree → Type 0
Yields len s text r = result (step len) final_of s text ≡ Some r

-- the same of a text after one move
abbrev pub Moves : ℕ → Option State → List Word → Tree → Type 0
Moves len next text r =
    option_and_then final_of (option_and_then (λ t. run (step len) t text) next) ≡ Some r

pub on : (len : ℕ) (s u : State) (w : Word) (text : List Word) (r : Tree) → step len s w ≡ Some u
    → Yields len u text r → Yields len s (w ∷ text) r
on len s u w text r move reads =
    ap (λ o. option_and_then final_of (option_and_then (λ t. run (step len) t text) o)) move ∙ reads

pub on_class :
    (len : ℕ) (fs : List Frame) (b : Before) (c : Class) (u : State) (w : Word) (text : List Word)
    (r : Tree) → Is c w → by len fs b w c ≡ Ok u
    → Yields len u text r → Yields len (at fs b) (w ∷ text) r
on_class len fs b c u w text r is move reads =
    on len (at fs b) u w text r (ap (λ x. moved (by len fs b w x)) is ∙ ap moved move) reads

-- one state goes on wherever another does, to the same
pub record Like (len : ℕ) (s p : State) : Type 0 where
  pub moves : (w : Word) (u : State) → step len p w ≡ Some u → step len s w ≡ Some u
  pub ends : (t : Tree) → final_of p ≡ Some t → final_of s ≡ Some t

pub like : (len : ℕ) (s p : State) → Like len s p → (text : List Word) (r : Tree)
    → Yields len p text r → Yields len s text r
like len s p is [] r reads = is.ends r reads
like len s p is (w ∷ text) r reads = go (step len p w) refl reads
  where
    go : (o : Option State) → step len p w ≡ o → Moves len o text r → Yields len s (w ∷ text) r
    go None there moves = absurd (cc moves)
    go (Some u) there moves = on len s u w text r (is.moves w u there) moves

module _ (len : ℕ) (fs : List Frame) where
  pub primary_like : (t : Tree) → Like len (at fs (primary t)) (at fs (complete t))
  primary_like t = record { moves = λ w u. go w u (class_of_word w); ends = λ r is. is }
    where
      go : (w : Word) (u : State) (c : Class) → moved (go_on fs t w.at c) ≡ Some u
          → moved (by_primary fs t w.at c) ≡ Some u
      go w u Class.OpenSquare is = absurd (cc is)
      go w u Class.Offset is = absurd (cc is)
      go w u _ is = is

  pub named_like : (h : Head) → Like len (at fs (named h)) (at fs (primary (metric h)))
  named_like h = record { moves = λ w u. go w u (class_of_word w); ends = λ r is. is }
    where
      go : (w : Word) (u : State) (c : Class) → moved (by_primary fs (metric h) w.at c) ≡ Some u
          → moved (by_named len fs h w.at c) ≡ Some u
      go w u Class.OpenRound is = absurd (cc is)
      go w u Class.OpenCurly is = absurd (cc is)
      go w u (Class.Grouping by) is = absurd (cc is)
      go w u _ is = is

  pub regrouped_like : (c : Call)
      → Like len (at fs (regrouped c)) (at fs (primary (calling c false)))
  regrouped_like c = record { moves = λ w u. go w u (class_of_word w); ends = λ r is. is }
    where
      go : (w : Word) (u : State) (class : Class)
          → moved (by_primary fs (calling c false) w.at class) ≡ Some u
          → moved (by_regrouped fs c w.at class) ≡ Some u
      go w u Class.Keep is = absurd (cc is)
      go w u _ is = is

  pub called_like : (c : Call) → Like len (at fs (called c)) (at fs (regrouped c))
  called_like c = record { moves = λ w u. go w u (class_of_word w); ends = λ r is. is }
    where
      go : (w : Word) (u : State) (class : Class) → moved (by_regrouped fs c w.at class) ≡ Some u
          → moved (by_called fs c w.at class) ≡ Some u
      go w u (Class.Grouping by) is = absurd (cc is)
      go w u _ is = is

abbrev paired : {V : Type 0} → V → List Word → Option (V × List Word)
paired v rest = Some (v, rest)

values_same : {V : Type 0} → (u v : V) (text rest : List Word) → paired u text ≡ paired v rest
    → u ≡ v
values_same {V} u v text rest is =
    ap (λ (o : Option (V × List Word)). option_map_or (λ p. p.0) o u) is

rests_same : {V : Type 0} → (u v : V) (text rest : List Word) → paired u text ≡ paired v rest
    → text ≡ rest
rests_same {V} u v text rest is =
    ap (λ (o : Option (V × List Word)). option_map_or (λ p. p.1) o text) is

-- a part's machine within this one
pub part :
    {S V : Type 0} (len : ℕ) (machine : S → Word → Option (Progress S V)) (into : S → State)
    (off : V → State)
    → ((s : S) (w : Word)
    → by len (into s).frames (into s).before w (class_of_word w)
    ≡ within_part into off (machine s w))
    → (s : S) (text rest : List Word) (v : V) (r : Tree) → leads machine s text ≡ Some (v, rest)
    → Yields len (off v) rest r → Yields len (into s) text r
part len machine into off moves s [] rest v r leads_there reads = absurd (cc leads_there)
part {S} {V} len machine into off moves s (w ∷ text) rest v r leads_there reads =
    go (machine s w) refl leads_there (λ t. part len machine into off moves t text rest v r)
  where
    go : (o : Option (Progress S V)) → machine s w ≡ o
        → behind_step o (λ t. leads machine t text) text ≡ Some (v, rest)
        → ((t : S) → leads machine t text ≡ Some (v, rest) → Yields len (off v) rest r
        → Yields len (into t) text r)
        → Yields len (into s) (w ∷ text) r
    go None is there more = absurd (cc there)
    go (Some (Goes t)) is there more =
        on len (into s) (into t) w text r (ap moved (moves s w ∙ ap (within_part into off) is))
        (more t there reads)
    go (Some (Done u)) is there more =
        on len (into s) (off u) w text r (ap moved (moves s w ∙ ap (within_part into off) is))
        (same there)
      where
        same : paired u text ≡ paired v rest → Yields len (off u) text r
        same pair =
            let values = values_same u v text rest pair in
            let rests = rests_same u v text rest pair in
            subst (λ x. Yields len (off x) text r) (sym values)
            (subst (λ t. Yields len (off v) t r) (sym rests) reads)
