-- What the text of a sample's value says, for the proofs of those who use it.
use Rattle.std.specs.Prelude.{◌≡◌, ◌↔◌, ℕ, ◌≤◌, ℤ, Bool, true, false, List, [], ◌∷◌, codes, Option, Some, None, Result, Ok, Err}
use Rattle.std.specs.Char.{to_ascii_lowercase}
use Rattle.std.specs.Str.{str_to_ascii_lowercase}
use Rattle.std.proofs.Common.{refl, arith, ap, subst, inl, inr, ⊎_elim}
use Rattle.std.proofs.Math.Path.{fun_ext}
use Rattle.std.proofs.lemmas.Bool.Decides.{nat_tests}
use Rattle.vm_base.specs.FirstWrong.{FirstWrong}
use Rattle.vm_base.specs.Run.{reading, behind_one}
use Rattle.vm_base.proofs.RunLaws.{FirstWrong-either, one_place, none_wrong}
use Rattle.vm_decimal.specs.Spelled.{Spelled, IsNumber, IsAnyNumber}
use Rattle.vm_decimal.specs.NumberMachine.{symbol_of, step, final}
use Rattle.vm_decimal.specs.Rounded.{sample_value}
use Rattle.vm_decimal.specs.SampleText.{IsSampleText, Says, IsReader}
use Rattle.vm_decimal.specs.SampleReading.{number_reading, valued, value_reading, no_number_reading, sample_reading}
use Rattle.vm_decimal.specs.Words.{IsNoNumber, no_numbers}
use Rattle.vm_decimal.specs.WordPlaces.{wrong_among}
use Rattle.vm_decimal.specs.declared.number_machine.Symbol.TheVariants.{Sign, Other}
use Rattle.vm_decimal.specs.declared.sample_text.SampleText.{SampleText}
use Rattle.vm_decimal.specs.declared.sample_text.SampleText.TheVariants.{Value, NoNumber}
use Rattle.vm_decimal.specs.declared.sample_text.NumFault.{NumFault}
use Rattle.vm_decimal.specs.declared.sample_text.NumFault.TheVariants.{NotANumber, TooWide}
use Rattle.vm_decimal.proofs.NumberReadings.{number_reading-number, number_from_reading, number_wrong, one_spelling}
use Rattle.vm_decimal.proofs.Spellings.{at_phase, opened}
use Rattle.vm_decimal.proofs.WordLaws.{no_number_is, no_number_wrong}

-- no text says both a number and that there is none

letter_other : (b l : ℕ) → 105 ≤ l → l ≤ 110 → to_ascii_lowercase b ≡ l → symbol_of b ≡ Other
letter_other b l low high is = grind (arith, nat_tests)

letter_front : (sign n : Bool) (text more : List ℕ) (l : ℕ) → 105 ≤ l → l ≤ 110
    → str_to_ascii_lowercase text ≡ l ∷ more
    → reading step final (at_phase (opened sign) n 0 0 false 0) text ≡ Err 0
letter_front sign n [] more l low high is = absurd (cc is)
letter_front true n (b ∷ bs) more l low high is =
    let first : to_ascii_lowercase b ≡ l = cc is in
    rw (letter_other b l low high first) refl
letter_front false n (b ∷ bs) more l low high is =
    let first : to_ascii_lowercase b ≡ l = cc is in
    rw (letter_other b l low high first) refl

plus_symbol : (b : ℕ) → to_ascii_lowercase b ≡ 43 → symbol_of b ≡ Sign false
plus_symbol b is = grind (arith, nat_tests)

minus_symbol : (b : ℕ) → to_ascii_lowercase b ≡ 45 → symbol_of b ≡ Sign true
minus_symbol b is = grind (arith, nat_tests)

signed_front : (n : Bool) (text more : List ℕ) (s l : ℕ)
    → ((b : ℕ) → to_ascii_lowercase b ≡ s → symbol_of b ≡ Sign n) → 105 ≤ l → l ≤ 110
    → str_to_ascii_lowercase text ≡ s ∷ l ∷ more → number_reading text ≡ Err 1
signed_front n [] more s l sign low high is = absurd (cc is)
signed_front n (b ∷ bs) more s l sign low high is =
    let first : to_ascii_lowercase b ≡ s = cc is in
    let rest : str_to_ascii_lowercase bs ≡ l ∷ more = cc is in
    rw (sign b first) (ap behind_one (letter_front true n bs more l low high rest))

abbrev NotRead : List ℕ → Type 0
NotRead text = (at : ℕ) × (number_reading text ≡ Err at)

letters : (text more : List ℕ) (l : ℕ) → 105 ≤ l → l ≤ 110 → str_to_ascii_lowercase text ≡ l ∷ more
    → NotRead text
letters text more l low high is = (0, letter_front false false text more l low high is)

plus_letters : (text more : List ℕ) → str_to_ascii_lowercase text ≡ 43 ∷ 105 ∷ more → NotRead text
plus_letters text more is =
    (1, signed_front false text more 43 105 plus_symbol (omega arith) (omega arith) is)

minus_letters : (text more : List ℕ) → str_to_ascii_lowercase text ≡ 45 ∷ 105 ∷ more → NotRead text
minus_letters text more is =
    (1, signed_front true text more 45 105 minus_symbol (omega arith) (omega arith) is)

-- a text that says that there is no number is none
pub no_number_read : (text : List ℕ) → IsNoNumber text → NotRead text
no_number_read text =
    ⊎_elim
    (λ nan. letters text (codes "an") 110 (omega arith) (omega arith) nan)
    (⊎_elim
    (λ inf. letters text (codes "nf") 105 (omega arith) (omega arith) inf)
    (⊎_elim
    (λ infinity. letters text (codes "nfinity") 105 (omega arith) (omega arith) infinity)
    (⊎_elim
    (λ inf. plus_letters text (codes "nf") inf)
    (⊎_elim
    (λ infinity. plus_letters text (codes "nfinity") infinity)
    (⊎_elim
    (λ inf. minus_letters text (codes "nf") inf)
    (⊎_elim
    (λ infinity. minus_letters text (codes "nfinity") infinity)
    (λ none. absurd none)))))))

apart : (text : List ℕ) (spelled : Spelled) → IsNumber text spelled → IsNoNumber text → ⊥
apart text spelled is none =
    let read = number_reading-number text spelled is in
    let not_read = (no_number_read text none).1 in
    cc (read, not_read)

-- what is computed is what the grammar says
pub says : (text : List ℕ) → Says text (sample_reading text)
unfolding sample_reading
says text = go (number_reading text) refl
  where
    number : (spelled : Spelled) → IsNumber text spelled → (found : Option ℤ)
        → sample_value spelled ≡ found
        → Says text (value_reading text (Ok found))
    number spelled is (Some z) found = (spelled, is, found)
    number spelled is None found = (spelled, is, found)

    other : (at : ℕ) → number_reading text ≡ Err at → (far : Option ℕ)
        → wrong_among no_numbers text ≡ far
        → Says text (no_number_reading at far)
    other at reads None found = no_number_is text found
    other at reads (Some far) found =
        FirstWrong-either IsAnyNumber IsNoNumber text at far (number_wrong text at reads)
        (no_number_wrong text far found)

    go : (found : Result Spelled ℕ) → number_reading text ≡ found
        → Says text (value_reading text (valued found))
    go (Ok spelled) reads =
        number spelled (number_from_reading text spelled reads) (sample_value spelled) refl
    go (Err at) reads = other at reads (wrong_among no_numbers text) refl

-- a text has one reading
pub one_reading : (text : List ℕ) (one other : Result SampleText NumFault) → Says text one
    → Says text other
    → one ≡ other
one_reading text (Ok (Value z)) (Ok (Value y)) is is_other =
    let same : is.0 ≡ is_other.0 = one_spelling text is.0 is_other.0 is.1 is_other.1 in
    let value : sample_value is.0 ≡ sample_value is_other.0 = ap sample_value same in
    cc (is.2, is_other.2, value)
one_reading text (Ok (Value z)) (Ok NoNumber) is is_other = absurd (apart text is.0 is.1 is_other)
one_reading text (Ok (Value z)) (Err TooWide) is is_other =
    let same : is.0 ≡ is_other.0 = one_spelling text is.0 is_other.0 is.1 is_other.1 in
    let value : sample_value is.0 ≡ sample_value is_other.0 = ap sample_value same in
    absurd (cc (is.2, is_other.2, value))
one_reading text (Ok (Value z)) (Err (NotANumber at)) is is_other =
    absurd (none_wrong IsSampleText text at (inl (is.0, is.1)) is_other)
one_reading text (Ok NoNumber) (Ok (Value y)) is is_other =
    absurd (apart text is_other.0 is_other.1 is)
one_reading text (Ok NoNumber) (Ok NoNumber) is is_other = refl
one_reading text (Ok NoNumber) (Err TooWide) is is_other =
    absurd (apart text is_other.0 is_other.1 is)
one_reading text (Ok NoNumber) (Err (NotANumber at)) is is_other =
    absurd (none_wrong IsSampleText text at (inr is) is_other)
one_reading text (Err TooWide) (Ok (Value y)) is is_other =
    let same : is.0 ≡ is_other.0 = one_spelling text is.0 is_other.0 is.1 is_other.1 in
    let value : sample_value is.0 ≡ sample_value is_other.0 = ap sample_value same in
    absurd (cc (is.2, is_other.2, value))
one_reading text (Err TooWide) (Ok NoNumber) is is_other = absurd (apart text is.0 is.1 is_other)
one_reading text (Err TooWide) (Err TooWide) is is_other = refl
one_reading text (Err TooWide) (Err (NotANumber at)) is is_other =
    absurd (none_wrong IsSampleText text at (inl (is.0, is.1)) is_other)
one_reading text (Err (NotANumber at)) (Ok (Value y)) is is_other =
    absurd (none_wrong IsSampleText text at (inl (is_other.0, is_other.1)) is)
one_reading text (Err (NotANumber at)) (Ok NoNumber) is is_other =
    absurd (none_wrong IsSampleText text at (inr is_other) is)
one_reading text (Err (NotANumber at)) (Err TooWide) is is_other =
    absurd (none_wrong IsSampleText text at (inl (is_other.0, is_other.1)) is)
one_reading text (Err (NotANumber at)) (Err (NotANumber far)) is is_other =
    ap (λ n. Err (NotANumber n)) (one_place IsSampleText text at far is is_other)

-- so an answer comes exactly where the grammar says it
pub answers : (text : List ℕ) (answer : Result SampleText NumFault)
    → (sample_reading text ≡ answer) ↔ Says text answer
answers text answer = (
  λ is. subst (Says text) is (says text),
  λ is. one_reading text (sample_reading text) answer (says text) is,
)

-- there is one reader
pub one_reader : (f : List ℕ → Result SampleText NumFault) → IsReader f → f ≡ sample_reading
one_reader f is =
    fun_ext (λ text. one_reading text (f text) (sample_reading text) (is text) (says text))
