-- The machine reads expressions and nothing else, and stops at the first wrong word of others.
use Rattle.std.specs.Prelude.{◌≡◌, ℕ, suc, ◌+◌, Bool, true, false, List, [], ◌∷◌, ◌++◌, length, take, Some, None, Err, option_and_then}
use Rattle.std.proofs.Common.{refl, ap, sym, subst, ◌∙◌, arith, length-append}
use Rattle.std.proofs.Math.Seq.{take-append-add}
use Rattle.vm_base.specs.FirstWrong.{Begins, FirstWrong}
use Rattle.vm_base.specs.Run.{run, result, IsRead}
use Rattle.vm_base.proofs.RunLaws.{run-append, stuck_at, short_at, Begins-reached, FirstWrong-same}
use Rattle.mql_expr.specs.Tree.{Tree}
use Rattle.mql_lists.specs.Words.{Word}
use Rattle.mql_lists.specs.Classes.{class_of_word}
use Rattle.mql_parse.specs.Faults.{place_of, is_measure, measures_at, IsUnexpected, IsBeyond}
use Rattle.mql_parse.specs.Grammar.{Spells, IsExpr, IsAnyExpr}
use Rattle.mql_parse.specs.Machine.{State, moved, step, by, final_of, start}
use Rattle.mql_parse.specs.declared.fault.Wrong.{Wrong}
use Rattle.mql_parse.specs.declared.fault.Wrong.TheVariants.{Unexpected, TooDeep, NumberTooWide}
use Rattle.mql_parse.proofs.FromRead.{from_read}
use Rattle.mql_parse.proofs.Limits.{GoesFree, Loosens, step_loosens, run_free}
use Rattle.mql_parse.proofs.ToRead.{expr_read}
use Rattle.mql_parse.proofs.Viable.{viable}

-- both directions
pub spells_read : (len : ℕ) (words : List Word) (t : Tree) → Spells len words t
    → result (step len) final_of start words ≡ Some t
spells_read len words t (o, reads) = expr_read reads [] refl (omega arith) t (λ s after. after.ends)

pub read_spells : (len : ℕ) (words : List Word) (t : Tree)
    → result (step len) final_of start words ≡ Some t → Spells len words t
read_spells len words t reads = from_read len words start words t refl reads

-- words are one expression at most
pub one_tree : (len : ℕ) (words : List Word) (t u : Tree) → Spells len words t → Spells len words u
    → t ≡ u
one_tree len words t u first second =
    let a = spells_read len words t first in
    let b = spells_read len words u second in
    cc (a, b)

module _ (len : ℕ) where
  to_expr : (words : List Word) → IsRead (step len) final_of start words → IsExpr len words
  to_expr words is = (is.0, read_spells len words is.0 is.1)

  from_expr : (words : List Word) → IsExpr len words → IsRead (step len) final_of start words
  from_expr words is = (is.0, spells_read len words is.0 is.1)

  stuck_first : (front rest : List Word) (s : State) (w : Word)
      → run (step len) start front ≡ Some s → step len s w ≡ None
      → FirstWrong (IsExpr len) (front ++ (w ∷ rest)) (length front)
  stuck_first front rest s w there stuck =
      FirstWrong-same to_expr from_expr (front ++ (w ∷ rest)) (length front)
      (stuck_at (step len) final_of start (viable len) front rest s w there stuck)

  short_first : (words : List Word) (s : State) → run (step len) start words ≡ Some s
      → final_of s ≡ None → FirstWrong (IsExpr len) words (length words)
  short_first words s there none =
      FirstWrong-same to_expr from_expr words (length words)
      (short_at (step len) final_of start (viable len) words s there none)

-- places and kinds after a front
place_behind : (len : ℕ) (front rest : List Word) (w : Word)
    → w.at ≡ place_of len (front ++ (w ∷ rest)) (length front)
place_behind len [] rest w = refl
place_behind len (v ∷ front) rest w = place_behind len front rest w

place_end : (len : ℕ) (words : List Word) → len ≡ place_of len words (length words)
place_end len [] = refl
place_end len (w ∷ words) = place_end len words

kind_behind : (front rest : List Word) (w : Word)
    → measures_at (front ++ (w ∷ rest)) (length front) ≡ is_measure (class_of_word w)
kind_behind [] rest w = refl
kind_behind (v ∷ front) rest w = kind_behind front rest w

take_one_more : (front rest : List Word) (w : Word)
    → take (suc (length front)) (front ++ (w ∷ rest)) ≡ front ++ (w ∷ [])
take_one_more front rest w =
    let next : suc (length front) ≡ length front + 1 = omega arith in
    ap (λ n. take n (front ++ (w ∷ rest))) next ∙ take-append-add front (w ∷ rest) 1

-- without limits one more word begins an expression
begins_free : (len : ℕ) (front rest : List Word) (s u : State) (w : Word)
    → run (step len) start front ≡ Some s → step 0 s w ≡ Some u
    → Begins IsAnyExpr (take (suc (length front)) (front ++ (w ∷ rest)))
begins_free len front rest s u w there move =
    let so_far = run_free len start s front there in
    let reached : run (step 0) start (front ++ (w ∷ [])) ≡ Some u =
    run-append (step 0) final_of start front (w ∷ [])
    ∙ ap (option_and_then (λ t. run (step 0) t (w ∷ []))) so_far
    ∙ ap (option_and_then (λ t. run (step 0) t [])) move in
    let goes = Begins-reached (step 0) final_of start (viable 0) (front ++ (w ∷ [])) u reached in
    subst (Begins IsAnyExpr) (sym (take_one_more front rest w))
    (goes.0, to_expr 0 ((front ++ (w ∷ [])) ++ goes.0) goes.1)

module _ (len : ℕ) (front rest : List Word) (s : State) (w : Word)
    (there : run (step len) start front ≡ Some s) where
  pub unexpected_there : by len s.frames s.before w (class_of_word w) ≡ Err Unexpected
      → IsUnexpected len (front ++ (w ∷ rest)) w.at
  unexpected_there is =
      let free : by 0 s.frames s.before w (class_of_word w) ≡ Err Unexpected =
      subst (λ r. Loosens (class_of_word w) r (by 0 s.frames s.before w (class_of_word w))) is
      (step_loosens w len s.frames s.before (class_of_word w)) in
      record {
        index = length front;
        place = place_behind len front rest w;
        first = stuck_first len front rest s w there (ap moved is);
        without_limits =
            stuck_first 0 front rest s w (run_free len start s front there) (ap moved free);
      }

  beyond_there : (measure : Bool) (wrong : Wrong)
      → by len s.frames s.before w (class_of_word w) ≡ Err wrong
      → GoesFree measure (class_of_word w) (by 0 s.frames s.before w (class_of_word w))
      → IsBeyond measure len (front ++ (w ∷ rest)) w.at
  beyond_there measure wrong is free =
      let whole : length (front ++ (w ∷ rest)) ≡ length front + suc (length rest) =
      length-append front (w ∷ rest) in
      record {
        index = length front;
        place = place_behind len front rest w;
        inside = omega arith;
        first = stuck_first len front rest s w there (ap moved is);
        without_limits = begins_free len front rest s free.to w there (ap moved free.goes);
        kind = kind_behind front rest w ∙ free.kind;
      }

  pub deep_there : by len s.frames s.before w (class_of_word w) ≡ Err TooDeep
      → IsBeyond false len (front ++ (w ∷ rest)) w.at
  deep_there is =
      beyond_there false TooDeep is
      (subst (λ r. Loosens (class_of_word w) r (by 0 s.frames s.before w (class_of_word w))) is
      (step_loosens w len s.frames s.before (class_of_word w)))

  pub wide_there : by len s.frames s.before w (class_of_word w) ≡ Err NumberTooWide
      → IsBeyond true len (front ++ (w ∷ rest)) w.at
  wide_there is =
      beyond_there true NumberTooWide is
      (subst (λ r. Loosens (class_of_word w) r (by 0 s.frames s.before w (class_of_word w))) is
      (step_loosens w len s.frames s.before (class_of_word w)))

pub short_there : (len : ℕ) (words : List Word) (s : State) → run (step len) start words ≡ Some s
    → final_of s ≡ None → IsUnexpected len words len
short_there len words s there none = record {
  index = length words;
  place = place_end len words;
  first = short_first len words s there none;
  without_limits = short_first 0 words s (run_free len start s words there) none;
}

pub whole_there : (len : ℕ) (words : List Word) (s : State) (t : Tree)
    → run (step len) start words ≡ Some s → final_of s ≡ Some t → Spells len words t
whole_there len words s t there ends =
    read_spells len words t (ap (option_and_then final_of) there ∙ ends)
