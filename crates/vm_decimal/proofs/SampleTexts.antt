-- What holds of every text of a sample's value, for the proofs of those who read longer texts.
use Rattle.std.specs.Prelude.{◌≡◌, ℕ, ◌≤◌, ◌==◌, ◌&&◌, ◌||◌, not, nat_lt, Bool, true, false, List, [], ◌∷◌, ◌++◌, length, Option, Some, None, Err, option_and_then}
use Rattle.std.specs.Char.{to_ascii_lowercase}
use Rattle.std.specs.List.{AllByRecursion, list_all}
use Rattle.std.specs.Str.{str_to_ascii_lowercase}
use Rattle.std.proofs.Common.{refl, arith, sym, ap, ◌∙◌, ⊎_elim}
use Rattle.std.proofs.lemmas.Bool.Decides.{nat_tests}
use Rattle.vm_base.specs.FirstWrong.{Begins}
use Rattle.vm_base.specs.Run.{run}
use Rattle.vm_base.proofs.RunLaws.{none_wrong}
use Rattle.vm_decimal.specs.Spelled.{Spelled, IsNumber}
use Rattle.vm_decimal.specs.NumberMachine.{symbol_of, next, State, step, final, start}
use Rattle.vm_decimal.specs.SampleText.{IsSampleText}
use Rattle.vm_decimal.specs.SampleReading.{sample_reading}
use Rattle.vm_decimal.specs.Words.{IsOneOf, no_numbers}
use Rattle.vm_decimal.specs.declared.number_machine.Phase.{Phase}
use Rattle.vm_decimal.specs.declared.number_machine.Phase.TheVariants.{Start, Signed, Whole, Bare, Fraction, Marked, MarkSigned, Power}
use Rattle.vm_decimal.specs.declared.number_machine.Symbol.TheVariants.{Other}
use Rattle.vm_decimal.specs.declared.sample_text.NumFault.TheVariants.{NotANumber}
use Rattle.vm_decimal.proofs.SampleReadings.{answers}
use Rattle.vm_decimal.proofs.Spellings.{number_read}

-- a fault's place lies in the text or at its end
pub wrong_within : (text : List ℕ) (at : ℕ) → sample_reading text ≡ Err (NotANumber at)
    → at ≤ length text
wrong_within text at is = ((answers text (Err (NotANumber at))).0 is).within

-- a text that is one has no such fault
pub never_wrong : (text : List ℕ) (at : ℕ) → IsSampleText text
    → sample_reading text ≡ Err (NotANumber at) → ⊥
never_wrong text at is wrong =
    none_wrong IsSampleText text at is ((answers text (Err (NotANumber at))).0 wrong)

and_true : (a b : Bool) → (a && b) ≡ true → (a ≡ true) × (b ≡ true)
and_true true b both = (refl, both)
and_true false b both = absurd (cc both)

-- it isn't empty
pub not_empty : IsSampleText [] → ⊥
not_empty is =
    ⊎_elim
    (λ number. let read = number_read [] number.0 number.1 in absurd (cc read))
    (λ none. no_empty_word no_numbers refl none)
    is
  where
    no_empty_word : (words : List (List ℕ)) → list_all (λ word. nat_lt 0 (length word)) words ≡ true
        → IsOneOf words [] → ⊥
    no_empty_word [] some is = absurd is
    no_empty_word (word ∷ words) some is =
        let both =
        and_true (nat_lt 0 (length word)) (list_all (λ w. nat_lt 0 (length w)) words) some in
        ⊎_elim
        (λ first.
        let none : length word ≡ 0 = ap length (sym first) in
        grind (arith, nat_tests))
        (λ more. no_empty_word words both.1 more)
        is

-- no byte of it is a blank

abbrev pub IsNoBlank : ℕ → Type 0
IsNoBlank b = (b ≡ 32 → ⊥) × (b ≡ 9 → ⊥)

abbrev pub HasNoBlank : List ℕ → Type 0
HasNoBlank = AllByRecursion IsNoBlank

other_symbol : (phase : Phase) → next phase Other ≡ None
other_symbol Start = refl
other_symbol Signed = refl
other_symbol Whole = refl
other_symbol Bare = refl
other_symbol Fraction = refl
other_symbol Marked = refl
other_symbol MarkSigned = refl
other_symbol Power = refl

blank_stops : (s : State) (b : ℕ) → symbol_of b ≡ Other → step s b ≡ None
blank_stops s b other = rw (other, other_symbol s.phase) refl

read_no_blank : (s t : State) (text : List ℕ) → run step s text ≡ Some t → HasNoBlank text
read_no_blank s t [] reads = tt
read_no_blank s t (b ∷ bs) reads = go (step s b) refl reads (λ u. read_no_blank u t bs)
  where
    go : (found : Option State) → step s b ≡ found
        → option_and_then (λ u. run step u bs) found ≡ Some t
        → ((u : State) → run step u bs ≡ Some t → HasNoBlank bs) → HasNoBlank (b ∷ bs)
    go None found reads rest = absurd (cc reads)
    go (Some u) found reads rest =
        let other : symbol_of b ≡ Other → ⊥ = λ is. absurd (cc (blank_stops s b is, found)) in
        ((λ space. other (ap symbol_of space), λ tab. other (ap symbol_of tab)), rest u reads)

no_blank_before : (front more : List ℕ) → HasNoBlank (front ++ more) → HasNoBlank front
no_blank_before [] more all = tt
no_blank_before (b ∷ front) more all = (all.0, no_blank_before front more all.1)

number_no_blank : (text : List ℕ) (spelled : Spelled) → IsNumber text spelled → HasNoBlank text
number_no_blank text spelled is = go (run step start text) refl (number_read text spelled is)
  where
    go : (found : Option State) → run step start text ≡ found
        → option_and_then final found ≡ Some spelled
        → HasNoBlank text
    go None found reads = absurd (cc reads)
    go (Some s) found reads = read_no_blank start s text found

-- whether a byte is no blank
abbrev is_no_blank : ℕ → Bool
is_no_blank b = not (b == 32 || b == 9)

word_no_blank : (word text : List ℕ) → list_all is_no_blank word ≡ true
    → str_to_ascii_lowercase text ≡ word → HasNoBlank text
word_no_blank word [] all is = tt
word_no_blank [] (b ∷ bs) all is = absurd (cc is)
word_no_blank (w ∷ word) (b ∷ bs) all is =
    let both = and_true (is_no_blank w) (list_all is_no_blank word) all in
    let first : to_ascii_lowercase b ≡ w = cc is in
    let rest : str_to_ascii_lowercase bs ≡ word = cc is in
    let no_space : w ≡ 32 → ⊥ = λ space. grind (arith, nat_tests) in
    let no_tab : w ≡ 9 → ⊥ = λ tab. grind (arith, nat_tests) in (
      (
        λ space. no_space (sym first ∙ ap to_ascii_lowercase space),
        λ tab. no_tab (sym first ∙ ap to_ascii_lowercase tab),
      ),
      word_no_blank word bs both.1 rest,
    )

words_no_blank : (words : List (List ℕ)) (text : List ℕ)
    → list_all (list_all is_no_blank) words ≡ true
    → IsOneOf words text → HasNoBlank text
words_no_blank [] text all is = absurd is
words_no_blank (word ∷ words) text all is =
    let both = and_true (list_all is_no_blank word) (list_all (list_all is_no_blank) words) all in
    ⊎_elim
    (λ first. word_no_blank word text both.0 first)
    (λ more. words_no_blank words text both.1 more)
    is

pub no_blank : (text : List ℕ) → IsSampleText text → HasNoBlank text
no_blank text is =
    ⊎_elim
    (λ number. number_no_blank text number.0 number.1)
    (λ none. words_no_blank no_numbers text refl none)
    is

-- nor of what begins one
pub no_blank_begins : (text : List ℕ) → Begins IsSampleText text → HasNoBlank text
no_blank_begins text goes = no_blank_before text goes.0 (no_blank (text ++ goes.0) goes.1)
