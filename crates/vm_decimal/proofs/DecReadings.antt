-- What the text of a number says, for the proofs of those who use it.
use Rattle.std.specs.Prelude.{◌≡◌, ◌↔◌, ℕ, ℤ, List, Option, Some, None, Result, Ok, Err}
use Rattle.std.proofs.Common.{refl, ap, subst}
use Rattle.vm_base.specs.FirstWrong.{FirstWrong}
use Rattle.vm_base.proofs.RunLaws.{one_place, none_wrong}
use Rattle.vm_decimal.specs.DecText.{SaysNumber, IsBeyond, dec_value, or_too_wide, dec_valued, dec_reading}
use Rattle.vm_decimal.specs.SampleReading.{number_reading}
use Rattle.vm_decimal.specs.Spelled.{Spelled, IsNumber, IsAnyNumber}
use Rattle.vm_decimal.specs.declared.sample_text.NumFault.{NumFault}
use Rattle.vm_decimal.specs.declared.sample_text.NumFault.TheVariants.{NotANumber, TooWide}
use Rattle.vm_decimal.proofs.NumberReadings.{number_from_reading, number_wrong, one_spelling}

abbrev pub DecSays : List ℕ → Result ℤ NumFault → Type 0
DecSays text (Ok z) = SaysNumber text z
DecSays text (Err TooWide) = IsBeyond text
DecSays text (Err (NotANumber at)) = FirstWrong IsAnyNumber text at

-- what is computed is what the grammar says
pub dec_says : (text : List ℕ) → DecSays text (dec_reading text)
unfolding dec_reading
dec_says text = go (number_reading text) refl
  where
    number : (spelled : Spelled) → IsNumber text spelled → (found : Option ℤ)
        → dec_value spelled ≡ found
        → DecSays text (or_too_wide found)
    number spelled is (Some z) found = (spelled, is, found)
    number spelled is None found = (spelled, is, found)

    go : (found : Result Spelled ℕ) → number_reading text ≡ found → DecSays text (dec_valued found)
    go (Ok spelled) reads =
        number spelled (number_from_reading text spelled reads) (dec_value spelled) refl
    go (Err at) reads = number_wrong text at reads

-- a text has one reading
pub one_dec_reading : (text : List ℕ) (one other : Result ℤ NumFault) → DecSays text one
    → DecSays text other
    → one ≡ other
one_dec_reading text (Ok z) (Ok y) is is_other =
    let same : is.0 ≡ is_other.0 = one_spelling text is.0 is_other.0 is.1 is_other.1 in
    let value : dec_value is.0 ≡ dec_value is_other.0 = ap dec_value same in
    cc (is.2, is_other.2, value)
one_dec_reading text (Ok z) (Err TooWide) is is_other =
    let same : is.0 ≡ is_other.0 = one_spelling text is.0 is_other.0 is.1 is_other.1 in
    let value : dec_value is.0 ≡ dec_value is_other.0 = ap dec_value same in
    absurd (cc (is.2, is_other.2, value))
one_dec_reading text (Ok z) (Err (NotANumber at)) is is_other =
    absurd (none_wrong IsAnyNumber text at (is.0, is.1) is_other)
one_dec_reading text (Err TooWide) (Ok y) is is_other =
    let same : is.0 ≡ is_other.0 = one_spelling text is.0 is_other.0 is.1 is_other.1 in
    let value : dec_value is.0 ≡ dec_value is_other.0 = ap dec_value same in
    absurd (cc (is.2, is_other.2, value))
one_dec_reading text (Err TooWide) (Err TooWide) is is_other = refl
one_dec_reading text (Err TooWide) (Err (NotANumber at)) is is_other =
    absurd (none_wrong IsAnyNumber text at (is.0, is.1) is_other)
one_dec_reading text (Err (NotANumber at)) (Ok y) is is_other =
    absurd (none_wrong IsAnyNumber text at (is_other.0, is_other.1) is)
one_dec_reading text (Err (NotANumber at)) (Err TooWide) is is_other =
    absurd (none_wrong IsAnyNumber text at (is_other.0, is_other.1) is)
one_dec_reading text (Err (NotANumber at)) (Err (NotANumber far)) is is_other =
    ap (λ n. Err (NotANumber n)) (one_place IsAnyNumber text at far is is_other)

-- so an answer comes exactly where the grammar says it
pub dec_answers : (text : List ℕ) (answer : Result ℤ NumFault)
    → (dec_reading text ≡ answer) ↔ DecSays text answer
dec_answers text answer = (
  λ is. subst (DecSays text) is (dec_says text),
  λ is. one_dec_reading text (dec_reading text) answer (dec_says text) is,
)
