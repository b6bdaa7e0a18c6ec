-- The value of a row, read after its labels.
use Rattle.std.proofs.Common.{◌≡◌, inl, inr, ⊎_elim, ℕ, zero, suc, ◌+◌, ◌-◌, ◌<◌, ◌≤◌, Bool, true, false, List, [], ◌∷◌, ◌++◌, length, take, drop, Result, Ok, Err, refl, ap, sym, subst, ◌∙◌, arith, true≢false, append_assoc, length-append}
use Rattle.std.specs.Prelude.{◌==◌, not, codes}
use Rattle.std.proofs.Math.Seq.{take-append-add}
use Rattle.std.specs.List.{list_all}
use Rattle.std.proofs.lemmas.Bool.{eqb-true, and_parts, cases_lt}
use Rattle.std.proofs.lemmas.Bool.Decides.{nat_tests}
use Rattle.std.proofs.lemmas.List.{take-append-drop, take-append-le}
use Rattle.vm_base.specs.FirstWrong.{Begins, FirstWrong}
use Rattle.vm_decimal.specs.SampleText.{IsSampleText}
use Rattle.vm_decimal.specs.SampleReading.{sample_reading}
use Rattle.vm_decimal.specs.declared.sample_text.NumFault.{NumFault}
use Rattle.vm_decimal.specs.declared.sample_text.NumFault.TheVariants.{NotANumber, TooWide}
use Rattle.vm_decimal.specs.declared.sample_text.SampleText.{SampleText}
use Rattle.vm_decimal.specs.declared.sample_text.SampleText.TheVariants.{Value, NoNumber}
use Rattle.vm_decimal.proofs.SampleReadings.{says}
use Rattle.vm_decimal.specs.SampleText.{Says}
use Rattle.vm_decimal.proofs.SampleTexts.{HasNoBlank, no_blank, no_blank_begins, not_empty}
use Rattle.vm_base.proofs.RunLaws.{none_wrong}
use Rattle.vm_promtext.specs.Grammar.{is_blank, Valued}
use Rattle.vm_promtext.specs.Reading.{before_blank, unless_broken, value_reading}
use Rattle.vm_promtext.proofs.Leads.{Leads, Stops, Follows}
use Rattle.vm_promtext.proofs.PartLaws.{NeverBegins, EndsAt, ends_never, ends_same, ends_passing, one_span}
use Rattle.vm_promtext.proofs.TokenLaws.{front_passes}

-- ---- which texts are values

abbrev pub is_solid : ℕ → Bool
is_solid byte = not (is_blank byte)

solid_byte : (byte : ℕ) → (byte ≡ 32 → ⊥) → (byte ≡ 9 → ⊥) → is_solid byte ≡ true
solid_byte byte no_space no_tab =
    let space : (byte == 32) ≡ false = grind (arith, nat_tests) in
    let tab : (byte == 9) ≡ false = grind (arith, nat_tests) in
    rw (space, tab) refl

all_solid : (text : List ℕ) → HasNoBlank text → list_all is_solid text ≡ true
all_solid [] none = refl
all_solid (byte ∷ text) none = rw (solid_byte byte none.0.0 none.0.1, all_solid text none.1) refl

pub value_solid : (text : List ℕ) → IsSampleText text → list_all is_solid text ≡ true
value_solid text is = all_solid text (no_blank text is)

begins_solid : (text : List ℕ) → Begins IsSampleText text → list_all is_solid text ≡ true
begins_solid text goes = all_solid text (no_blank_begins text goes)

-- a text with this byte at its front is no value
brace_broken : (more : List ℕ) → sample_reading (123 ∷ more) ≡ Err (NotANumber 0)
unfolding sample_reading
brace_broken more = refl

pub value_no_brace : (more : List ℕ) → IsSampleText (123 ∷ more) → ⊥
value_no_brace more is =
    none_wrong IsSampleText (123 ∷ more) 0 is
    (subst (Says (123 ∷ more)) (brace_broken more) (says (123 ∷ more)))

pub one_value : IsSampleText (codes "nan")
one_value = inr (inl refl)

-- ---- the value

value_never : (p : ℕ → Bool) (L : List ℕ → List ℕ → Type 0)
    → ((byte : ℕ) (more : List ℕ) → p byte ≡ true → IsSampleText (byte ∷ more) → ⊥)
    → NeverBegins p (Valued L)
value_never p L apart byte more passes v = go v.value v.rest v.parts v.is
  where
    go : (value rest : List ℕ) → byte ∷ more ≡ value ++ rest → IsSampleText value → ⊥
    go [] rest parts is = not_empty is
    go (b ∷ value) rest parts is = let same : b ≡ byte =
        cc in apart byte value passes (subst (λ c. IsSampleText (c ∷ value)) same is)

pub valued_not_blank : (L : List ℕ → List ℕ → Type 0) → NeverBegins is_blank (Valued L)
valued_not_blank L = value_never is_blank L (λ byte more blank is.
    let solid =
    (and_parts (is_solid byte) (list_all is_solid more) (value_solid (byte ∷ more) is)).0 in
    true≢false (sym solid ∙ ap not blank))

pub valued_not_brace : (L : List ℕ → List ℕ → Type 0) → NeverBegins (λ byte. byte == 123) (Valued L)
valued_not_brace L = value_never (λ byte. byte == 123) L (λ byte more brace is.
    value_no_brace more (subst (λ c. IsSampleText (c ∷ more)) (eqb-true byte 123 brace) is))

-- no text of L begins with another byte than a blank
abbrev pub BeginsBlank : (List ℕ → Type 0) → Type 0
BeginsBlank L = NeverBegins is_solid L

module _ (Able : Type 0) (L : List ℕ → List ℕ → Type 0)
    (blank : (value : List ℕ) → BeginsBlank (L value))
    (goes : Able → (value : List ℕ) → (more : List ℕ) × L value more) where
  pub valued_goes : Able → (more : List ℕ) × Valued L more
  valued_goes can = let g =
      goes can
      (codes "nan") in (
        codes "nan"
            ++ g.0,
        record { value = codes "nan"; rest = g.0; parts = refl; is = one_value; then = g.1 },
      )

  valued_leads : (text : List ℕ) → IsSampleText (take (before_blank text) text)
      → Leads (Valued L) (L (take (before_blank text) text)) text (drop (before_blank text) text)
  valued_leads text is =
      let value = take (before_blank text) text in
      let ends : EndsAt is_solid (drop (before_blank text) text) = ends_passing is_solid text in
      record {
        front = value;
        parts = sym (take-append-drop (before_blank text) text);
        into = λ more follows.
            record { value = value; rest = more; parts = refl; is = is; then = follows };
        out = λ more same v.
            let one =
            one_span is_solid v.value value v.rest more (value_solid v.value v.is)
            (front_passes is_solid text)
            (ends_never is_solid (L v.value) v.rest (blank v.value) v.then)
            (ends_same is_solid (drop (before_blank text) text) more same ends) (sym v.parts) in
            subst (λ m. L m more) one.0 (subst (L v.value) one.1 v.then);
      }

  -- a value's front of solid bytes goes on within the value
  front_within : (front other value rest : List ℕ) → list_all is_solid front ≡ true
      → EndsAt is_solid rest → front ++ other ≡ value ++ rest → (more : List ℕ)
      × (value ≡ front ++ more)
  front_within [] other value rest are ends same = (value, refl)
  front_within (b ∷ front) other [] [] are ends same = cc
  front_within (b ∷ front) other [] (c ∷ rest) are ends same =
      let head : b ≡ c = cc in
      absurd (true≢false
      (sym (and_parts (is_solid b) (list_all is_solid front) are).0 ∙ ap is_solid head ∙ ends))
  front_within (b ∷ front) other (c ∷ value) rest are ends same =
      let head : c ≡ b = cc in
      let tail : front ++ other ≡ value ++ rest = cc in
      let more =
      front_within front other value rest
      (and_parts (is_solid b) (list_all is_solid front) are).1 ends tail in
      (more.0, λ i. head i ∷ more.1 i)

  valued_stops : Able → (text : List ℕ) (at : ℕ)
      → FirstWrong IsSampleText (take (before_blank text) text) at
      → Stops (Valued L) text (length text - at)
  valued_stops can text at first =
      let value = take (before_blank text) text in
      let behind = drop (before_blank text) text in
      let whole : value ++ behind ≡ text = take-append-drop (before_blank text) text in
      let solid = front_passes is_solid text in
      let ends : EndsAt is_solid behind = ends_passing is_solid text in
      let fits : at ≤ length value = first.within in
      let len : length value ≤ length text =
      omega (arith, ap length whole, length-append value behind) in
      let place : length text - (length text - at) ≡ at = omega arith in
      record {
        within = omega arith;
        first = subst (FirstWrong (Valued L) text) (sym place) (record {
          within = omega arith;
          begins =
              let more = goes can (take at value ++ first.begins.0) in
              let so_far : take at text ≡ take at value = ap (take at) (sym whole)
              ∙ take-append-le at value behind fits in
              subst (Begins (Valued L)) (sym so_far) (
                first.begins.0 ++ more.0,
                record {
                  value = take at value ++ first.begins.0;
                  rest = more.0;
                  parts = sym (append_assoc (take at value) first.begins.0 more.0);
                  is = first.begins.1;
                  then = more.1;
                },
              );
          wrong = λ inside begins.
              ⊎_elim
              (λ before.
              let so_far : take (suc at) text ≡ take (suc at) value = ap (take (suc at)) (sym whole)
              ∙ take-append-le (suc at) value behind before in
              let b : Begins (Valued L) (take (suc at) value) =
              subst (Begins (Valued L)) so_far begins in
              let front_solid : list_all is_solid (take (suc at) value) ≡ true =
              all_front (suc at) value solid in
              let inner =
              front_within (take (suc at) value) b.0 b.1.value b.1.rest front_solid
              (ends_never is_solid (L b.1.value) b.1.rest (blank b.1.value) b.1.then)
              b.1.parts in
              first.wrong before (inner.0, subst IsSampleText inner.1 b.1.is))
              (λ after.
              at_end text value behind at whole solid ends (omega arith) (omega arith) first
              begins)
              (cases_lt at (length value));
          short = λ end v.
              let all : at ≡ length value = omega arith in
              let none : behind ≡ [] =
              empty behind (omega (arith, ap length whole, length-append value behind)) in
              let one =
              one_span is_solid v.value value v.rest behind (value_solid v.value v.is) solid
              (ends_never is_solid (L v.value) v.rest (blank v.value) v.then) ends
              (sym v.parts ∙ sym whole) in
              first.short all (subst IsSampleText one.0 v.is);
        });
      }
    where
      empty : (rest : List ℕ) → length rest ≡ 0 → rest ≡ []
      empty [] none = refl
      empty (b ∷ rest) none = absurd (omega arith)

      all_front : (n : ℕ) (value : List ℕ) → list_all is_solid value ≡ true
          → list_all is_solid (take n value) ≡ true
      all_front zero value are = refl
      all_front (suc n) [] are = refl
      all_front (suc n) (b ∷ value) are =
          let parts = and_parts (is_solid b) (list_all is_solid value) are in
          rw (parts.0, all_front n value parts.1) refl

      -- the whole value goes on with the blank after it
      at_end : (text value behind : List ℕ) (at : ℕ) → value ++ behind ≡ text
          → list_all is_solid value ≡ true → EndsAt is_solid behind → at ≡ length value
          → at < length text
          → FirstWrong IsSampleText value at → Begins (Valued L) (take (suc at) text) → ⊥
      at_end text value [] at whole solid ends is inside first begins =
          absurd (omega (arith, ap length whole, length-append value []))
      at_end text value (b ∷ behind) at whole solid ends is inside first begins =
          let next : suc at ≡ length value + 1 = omega arith in
          let so_far : take (suc at) text ≡ value ++ b ∷ [] = ap (take (suc at)) (sym whole)
          ∙ ap (λ k. take k (value ++ b ∷ behind)) next
          ∙ take-append-add value (b ∷ behind) 1 in
          let c : Begins (Valued L) (value ++ b ∷ []) = subst (Begins (Valued L)) so_far begins in
          let joined : value ++ b ∷ c.0 ≡ c.1.value ++ c.1.rest =
          sym (append_assoc value (b ∷ []) c.0) ∙ c.1.parts in
          let one =
          one_span is_solid c.1.value value c.1.rest (b ∷ c.0) (value_solid c.1.value c.1.is)
          solid
          (ends_never is_solid (L c.1.value) c.1.rest (blank c.1.value) c.1.then) ends
          (sym joined) in
          first.short is (subst IsSampleText one.0 c.1.is)

  abbrev pub OfValue : List ℕ → Result SampleText NumFault × ℕ → List ℕ → Type 0
  OfValue text read = L (take read.1 text)

  abbrev pub value_rest : List ℕ → Result SampleText NumFault × ℕ → List ℕ
  value_rest text read = drop read.1 text

  value_says : (text : List ℕ) (read : Result SampleText NumFault)
      → Says (take (before_blank text) text) read
      → Follows Able (Valued L) (OfValue text) (value_rest text) text (unless_broken text read)
  value_says text (Err (NotANumber at)) is = λ can. valued_stops can text at is
  value_says text (Err TooWide) is = valued_leads text (inl (is.0, is.1))
  value_says text (Ok (Value z)) is = valued_leads text (inl (is.0, is.1))
  value_says text (Ok NoNumber) is = valued_leads text (inr is)

  pub value_follows : (text : List ℕ)
      → Follows Able (Valued L) (OfValue text) (value_rest text) text (value_reading text)
  unfolding value_reading
  value_follows text =
      value_says text (sample_reading (take (before_blank text) text))
      (says (take (before_blank text) text))
