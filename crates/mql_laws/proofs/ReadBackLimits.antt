-- A number or a duration that is within its limits is refused by none of them.
use Rattle.std.specs.Prelude.{◌≡◌, ℕ, zero, suc, ◌<◌, nat_lt, Bool, true, false, List, [], ◌∷◌, ◌+◌, ◌++◌, length, take, Option, Some, None, is_some, Result, Ok, Err, option_and_then}
use Rattle.std.specs.List.{AllByRecursion}
use Rattle.std.proofs.Common.{refl, ap, sym, subst, ◌∙◌, arith, length-append}
use Rattle.std.proofs.Math.Seq.{take-append_seam, take-append-add}
use Rattle.vm_base.specs.FirstWrong.{Begins, FirstWrong}
use Rattle.vm_base.specs.Run.{run, result}
use Rattle.vm_base.proofs.RunLaws.{run-append, Begins-reached}
use Rattle.mql_lex.specs.declared.token.TokenKind.{TokenKind}
use Rattle.mql_lex.specs.declared.token.TokenKind.TheVariants.{Name, Number, Duration, Str, Mark}
use Rattle.mql_expr.specs.Tree.{Tree}
use Rattle.mql_lists.specs.Words.{Word}
use Rattle.mql_lists.specs.Classes.{class_of_kind, class_of_word}
use Rattle.mql_lists.specs.declared.class.Class.{Class}
use Rattle.mql_lists.specs.declared.progress.Progress.{Progress}
use Rattle.mql_lists.specs.declared.progress.Progress.TheVariants.{Goes, Done}
use Rattle.mql_parse.specs.Faults.{is_measure, measures_at, IsBeyond}
use Rattle.mql_parse.specs.Grammar.{Spells, IsExpr, IsAnyExpr}
use Rattle.mql_parse.specs.Machine.{State, moved, step, by, final_of, start, Frame, Before, wanted, in_names, in_braces, window_wanted, offset_wanted, offset_back, operated, compared, matched, many_read, in_params, only, fits, by_wanted, within_part}
use Rattle.mql_parse.specs.Values.{number_of, length_of, is_short}
use Rattle.mql_parse.specs.declared.fault.Wrong.{Wrong}
use Rattle.mql_parse.specs.declared.fault.Wrong.TheVariants.{Unexpected, TooDeep, NumberTooWide}
use Rattle.mql_parse.proofs.Limits.{Loosens, step_loosens, run_free}
use Rattle.mql_laws.proofs.ReadBackFits.{KindFits, WordFits}
use Rattle.mql_laws.proofs.ReadBackSaid.{name_class, mark_class}
use Rattle.mql_parse.proofs.ReadingLaws.{spells_read, read_spells}
use Rattle.mql_parse.proofs.Viable.{viable}

-- ---- no such answer at a word that fits

abbrev is_wide : Result State Wrong → Bool
is_wide (Err NumberTooWide) = true
is_wide _ = false

fits_not_wide : (within test : Bool) (s : State) → test ≡ true
    → is_wide (only (fits within test) NumberTooWide s) ≡ false
fits_not_wide true test s holds = ap (λ t. is_wide (only t NumberTooWide s)) holds
fits_not_wide false test s holds = refl

part_not_wide : {S V : Type 0} (into : S → State) (off : V → State) (o : Option (Progress S V))
    → is_wide (within_part into off o) ≡ false
part_not_wide into off None = refl
part_not_wide into off (Some (Goes s)) = refl
part_not_wide into off (Some (Done v)) = refl

module _ (len : ℕ) (w : Word) where
  numeral_wanted : (fs : List Frame) → is_some (number_of w.text) ≡ true
      → is_wide (by_wanted len fs w Class.Numeral) ≡ false
  numeral_wanted fs holds = fits_not_wide (nat_lt w.at len) (is_some (number_of w.text)) _ holds

  numeral_fits : (fs : List Frame) (b : Before) → is_some (number_of w.text) ≡ true
      → is_wide (by len fs b w Class.Numeral) ≡ false
  numeral_fits fs wanted holds = numeral_wanted fs holds
  numeral_fits fs (operated j) holds = numeral_wanted _ holds
  numeral_fits fs (compared j) holds = numeral_wanted _ holds
  numeral_fits fs (matched j kind names) holds = numeral_wanted _ holds
  numeral_fits fs (many_read j kind names side) holds = numeral_wanted _ holds
  numeral_fits fs (in_names p s) holds = part_not_wide _ _ _
  numeral_fits fs (in_braces place name s) holds = part_not_wide _ _ _
  numeral_fits fs (in_params s h state) holds = part_not_wide _ _ _
  numeral_fits fs _ holds = refl

  time_fits : (fs : List Frame) (b : Before) → is_short (length_of w.text) ≡ true
      → is_wide (by len fs b w Class.Time) ≡ false
  time_fits fs (window_wanted place t) holds =
      fits_not_wide (nat_lt w.at len) (is_short (length_of w.text)) _ holds
  time_fits fs (offset_wanted place t window) holds =
      fits_not_wide (nat_lt w.at len) (is_short (length_of w.text)) _ holds
  time_fits fs (offset_back place t window) holds =
      fits_not_wide (nat_lt w.at len) (is_short (length_of w.text)) _ holds
  time_fits fs (in_names p s) holds = part_not_wide _ _ _
  time_fits fs (in_braces place name s) holds = part_not_wide _ _ _
  time_fits fs (in_params s h state) holds = part_not_wide _ _ _
  time_fits fs _ holds = refl

abbrev no_measure : Class → Bool
no_measure Class.Numeral = false
no_measure Class.Time = false
no_measure _ = true

measures_not : (c : Class) → no_measure c ≡ true → is_measure c ≡ true → ⊥
measures_not Class.Numeral apart is = cc apart
measures_not Class.Time apart is = cc apart
measures_not _ apart is = cc is

measure_fits : (len : ℕ) (fs : List Frame) (b : Before) (w : Word) → WordFits w
    → is_measure (class_of_word w) ≡ true
    → is_wide (by len fs b w (class_of_word w)) ≡ false
measure_fits len fs b w = go w.kind
  where
    go : (kind : TokenKind) → KindFits kind w.text → is_measure (class_of_kind kind w.text) ≡ true
        → is_wide (by len fs b w (class_of_kind kind w.text)) ≡ false
    go Name fit is =
        absurd (measures_not (class_of_kind Name w.text) (name_class no_measure w.text refl refl)
        is)
    go Number fit is = numeral_fits len w fs b fit
    go Duration fit is = time_fits len w fs b fit
    go Str fit is = absurd (cc is)
    go Mark fit is =
        absurd (measures_not (class_of_kind Mark w.text) (mark_class no_measure w.text refl refl)
        is)

-- ---- words that begin an expression are gone through

record Reached (len : ℕ) (front : List Word) : Type 0 where
  state : State
  there : run (step len) start front ≡ Some state

reached : (len : ℕ) (front : List Word) → Begins (IsExpr len) front → Reached len front
reached len front goes =
    let more = goes.0 in
    let t = goes.1.0 in
    let read : result (step len) final_of start (front ++ more) ≡ Some t =
    spells_read len (front ++ more) t goes.1.1 in
    go (run (step len) start front) refl t
    (ap (option_and_then final_of) (sym (run-append (step len) final_of start front more))
    ∙ read)
  where
    go : (o : Option State) → run (step len) start front ≡ o → (t : Tree)
        → option_and_then final_of (option_and_then (λ s. run (step len) s goes.0) o) ≡ Some t
        → Reached len front
    go None is t read = absurd (cc read)
    go (Some s) is t read = record { state = s; there = is }

one_further : (front rest : List Word) (w : Word)
    → take (suc (length front)) (front ++ (w ∷ rest)) ≡ front ++ (w ∷ [])
one_further front rest w =
    let next : suc (length front) ≡ length front + 1 = omega arith in
    ap (λ n. take n (front ++ (w ∷ rest))) next ∙ take-append-add front (w ∷ rest) 1

kind_there : (front rest : List Word) (w : Word)
    → measures_at (front ++ (w ∷ rest)) (length front) ≡ is_measure (class_of_word w)
kind_there [] rest w = refl
kind_there (v ∷ front) rest w = kind_there front rest w

module _ (len : ℕ) (front rest : List Word) (w : Word) where
  -- one word after some that were gone through
  further : (limit : ℕ) (s u : State) → run (step limit) start front ≡ Some s
      → step limit s w ≡ Some u → run (step limit) start (front ++ (w ∷ [])) ≡ Some u
  further limit s u there move =
      run-append (step limit) final_of start front (w ∷ [])
      ∙ ap (option_and_then (λ t. run (step limit) t (w ∷ []))) there
      ∙ ap (option_and_then (λ t. run (step limit) t [])) move

  moves_free : (s u : State) → run (step 0) start front ≡ Some s
      → run (step 0) start (front ++ (w ∷ [])) ≡ Some u → step 0 s w ≡ Some u
  moves_free s u there all =
      go (step 0 s w)
      (sym (run-append (step 0) final_of start front (w ∷ [])
      ∙ ap (option_and_then (λ t. run (step 0) t (w ∷ []))) there) ∙ all)
    where
      go : (o : Option State) → option_and_then (λ t. run (step 0) t []) o ≡ Some u → o ≡ Some u
      go None is = is
      go (Some v) is = is

  never_wide : WordFits w → FirstWrong (IsExpr len) (front ++ (w ∷ rest)) (length front)
      → Begins IsAnyExpr (take (suc (length front)) (front ++ (w ∷ rest)))
      → measures_at (front ++ (w ∷ rest)) (length front) ≡ true → ⊥
  never_wide fit first free measures =
      let at_front =
      reached len front
      (subst (Begins (IsExpr len)) (take-append_seam front (w ∷ rest)) first.begins) in
      let behind =
      reached 0 (front ++ (w ∷ []))
      (subst (Begins IsAnyExpr) (one_further front rest w) free) in
      let s = at_front.state in
      let move =
      moves_free s behind.state (run_free len start s front at_front.there) behind.there in
      let measure : is_measure (class_of_word w) ≡ true = sym (kind_there front rest w)
      ∙ measures in
      go s behind.state at_front.there move measure
      (measure_fits len s.frames s.before w fit measure)
      (by len s.frames s.before w (class_of_word w)) refl
      (by 0 s.frames s.before w (class_of_word w)) refl
      (step_loosens w len s.frames s.before (class_of_word w))
    where
      go : (s u : State) → run (step len) start front ≡ Some s → step 0 s w ≡ Some u
          → is_measure (class_of_word w) ≡ true
          → is_wide (by len s.frames s.before w (class_of_word w)) ≡ false
          → (limited : Result State Wrong) → by len s.frames s.before w (class_of_word w) ≡ limited
          → (unlimited : Result State Wrong)
          → by 0 s.frames s.before w (class_of_word w) ≡ unlimited
          → Loosens (class_of_word w) limited unlimited → ⊥
      go s u there move measure narrow (Ok v) is unlimited also loosens =
          let all = further len s v there (ap moved is) in
          let goes =
          Begins-reached (step len) final_of start (viable len) (front ++ (w ∷ [])) v all in
          let begins : Begins (IsExpr len) (front ++ (w ∷ [])) =
          (goes.0, (goes.1.0, read_spells len ((front ++ (w ∷ [])) ++ goes.0) goes.1.0 goes.1.1)) in
          first.wrong (omega (arith, length-append front (w ∷ rest)))
          (subst (Begins (IsExpr len)) (sym (one_further front rest w)) begins)
      go s u there move measure narrow (Err Unexpected) is unlimited also loosens =
          cc (ap moved (also ∙ loosens), move)
      go s u there move measure narrow (Err TooDeep) is unlimited also loosens =
          cc (loosens.kind, measure)
      go s u there move measure narrow (Err NumberTooWide) is unlimited also loosens =
          cc (ap is_wide is, narrow)

-- ---- a word somewhere

record Cut (words : List Word) (index : ℕ) : Type 0 where
  front : List Word
  word : Word
  rest : List Word
  parts : words ≡ front ++ (word ∷ rest)
  here : index ≡ length front

cut : (words : List Word) (index : ℕ) → index < length words → Cut words index
cut [] index low = absurd (omega arith)
cut (w ∷ words) zero low = record { front = []; word = w; rest = words; parts = refl; here = refl }
cut (w ∷ words) (suc index) low =
    let c = cut words index (omega arith) in
    record {
      front = w ∷ c.front;
      word = c.word;
      rest = c.rest;
      parts = ap (λ ws. w ∷ ws) c.parts;
      here = ap suc c.here;
    }

word_fits : (front rest : List Word) (w : Word) → AllByRecursion WordFits (front ++ (w ∷ rest))
    → WordFits w
word_fits [] rest w all = all.0
word_fits (v ∷ front) rest w all = word_fits front rest w all.1

pub no_number_beyond : (words : List Word) → AllByRecursion WordFits words → (len at : ℕ)
    → IsBeyond true len words at → ⊥
no_number_beyond words fit len at beyond =
    let c = cut words beyond.index beyond.inside in
    let here = c.here in
    never_wide len c.front c.rest c.word
    (word_fits c.front c.rest c.word (subst (AllByRecursion WordFits) c.parts fit))
    (subst (λ n. FirstWrong (IsExpr len) (c.front ++ (c.word ∷ c.rest)) n) here
    (subst (λ ws. FirstWrong (IsExpr len) ws beyond.index) c.parts beyond.first))
    (subst (λ n. Begins IsAnyExpr (take (suc n) (c.front ++ (c.word ∷ c.rest)))) here
    (subst (λ ws. Begins IsAnyExpr (take (suc beyond.index) ws)) c.parts beyond.without_limits))
    (subst (λ n. measures_at (c.front ++ (c.word ∷ c.rest)) n ≡ true) here
    (subst (λ ws. measures_at ws beyond.index ≡ true) c.parts beyond.kind))

-- ---- what is read with limits is read without

pub spells_free : (len : ℕ) (words : List Word) (t : Tree) → Spells len words t → Spells 0 words t
spells_free len words t spells =
    go (run (step len) start words) refl (spells_read len words t spells)
  where
    go : (o : Option State) → run (step len) start words ≡ o → option_and_then final_of o ≡ Some t
        → Spells 0 words t
    go None is ends = absurd (cc ends)
    go (Some s) is ends =
        read_spells 0 words t (ap (option_and_then final_of) (run_free len start s words is) ∙ ends)
