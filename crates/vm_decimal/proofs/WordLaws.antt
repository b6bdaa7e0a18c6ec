-- The texts that say that there is no number, and where a text leaves them.
use Rattle.std.specs.Prelude.{◌≡◌, ℕ, suc, ◌+◌, ◌<◌, ◌⊎◌, ◌==◌, ◌&&◌, max, Bool, true, false, List, [], ◌∷◌, length, Option, Some, None, option_and_then, option_map, if◌then◌else◌}
use Rattle.std.specs.Char.{to_ascii_lowercase}
use Rattle.std.specs.Str.{str_to_ascii_lowercase}
use Rattle.std.specs.List.{AllByRecursion}
use Rattle.std.proofs.Common.{refl, arith, sym, ap, subst, ◌∙◌, inl, inr, ⊎_elim}
use Rattle.std.proofs.Math.Nat.{max-zero}
use Rattle.std.proofs.lemmas.Bool.Decides.{nat_tests}
use Rattle.vm_base.specs.FirstWrong.{Begins, FirstWrong}
use Rattle.vm_base.proofs.RunLaws.{FirstWrong-append, FirstWrong-either, FirstWrong-same, none_wrong}
use Rattle.vm_decimal.specs.Words.{IsOneOf, IsNoNumber, no_numbers}
use Rattle.vm_decimal.specs.WordPlaces.{common, wrong_word, wrong_among}

pub common-nil : (word : List ℕ) → common word [] ≡ 0
common-nil [] = refl
common-nil (w ∷ word) = refl

-- the word, in any case
abbrev IsWord : List ℕ → List ℕ → Type 0
IsWord word text = str_to_ascii_lowercase text ≡ word

-- a word in lower case
abbrev IsLow : List ℕ → Type 0
IsLow word = str_to_ascii_lowercase word ≡ word

-- the text is the word, or it leaves it after what they have in common
abbrev IsOrLeaves : List ℕ → List ℕ → Type 0
IsOrLeaves word text =
    (IsWord word text × (common word text ≡ length word) × (common word text ≡ length text))
    ⊎ FirstWrong (IsWord word) text (common word text)

-- the first byte belongs to no such word
no_front : (word text : List ℕ) → IsLow word → (text ≡ [] → word ≡ [] → ⊥)
    → ((b : ℕ) (more : List ℕ) → Begins (IsWord word) (b ∷ []) → text ≡ b ∷ more → ⊥)
    → FirstWrong (IsWord word) text 0
no_front word [] low short wrong = record {
  within = omega arith;
  begins = (word, low);
  wrong = λ inside. absurd (omega arith);
  short = λ end is. short refl (sym is);
}
no_front word (b ∷ text) low short wrong = record {
  within = omega arith;
  begins = (word, low);
  wrong = λ inside goes. wrong b text goes refl;
  short = λ end. absurd (omega arith);
}

word_or_leaves : (word text : List ℕ) → IsLow word → IsOrLeaves word text
word_or_leaves [] [] low = inl (refl, refl, refl)
word_or_leaves [] (b ∷ text) low =
    inr (no_front [] (b ∷ text) low (λ none. absurd (cc none))
    (λ c more goes is. absurd (cc goes.1)))
word_or_leaves (w ∷ word) [] low =
    inr (no_front (w ∷ word) [] low (λ _ none. absurd (cc none)) (λ c more goes is. absurd (cc is)))
word_or_leaves (w ∷ word) (b ∷ text) low =
    go (to_ascii_lowercase b == w) refl (word_or_leaves word text (cc low))
  where
    go : (like : Bool) → (to_ascii_lowercase b == w) ≡ like → IsOrLeaves word text
        → IsOrLeaves (w ∷ word) (b ∷ text)
    go true like rest =
        let same : to_ascii_lowercase b ≡ w = grind (arith, nat_tests) in
        let far : common (w ∷ word) (b ∷ text) ≡ suc (common word text) = rw like refl in
        ⊎_elim
        (λ is.
        let whole : IsWord (w ∷ word) (b ∷ text) = cc (same, is.0) in
        inl (whole, far ∙ ap suc is.1, far ∙ ap suc is.2))
        (λ leaves.
        let moved : FirstWrong (IsWord (w ∷ word)) (b ∷ text) (1 + common word text) =
        FirstWrong-append (b ∷ []) (λ more is. (cc is)) (λ more is. (cc (same, is))) text
        (common word text) leaves in
        let place : 1 + common word text ≡ common (w ∷ word) (b ∷ text) = omega arith in
        inr (subst (FirstWrong (IsWord (w ∷ word)) (b ∷ text)) place moved))
        rest
    go false unlike rest =
        let other : to_ascii_lowercase b ≡ w → ⊥ = grind (arith, nat_tests) in
        let none : common (w ∷ word) (b ∷ text) ≡ 0 = rw unlike refl in
        let here : FirstWrong (IsWord (w ∷ word)) (b ∷ text) 0 =
        no_front (w ∷ word) (b ∷ text) low (λ none. absurd (cc none))
        (λ c more goes is. other (cc (goes.1, is))) in
        inr (subst (FirstWrong (IsWord (w ∷ word)) (b ∷ text)) (sym none) here)

whole_common : (word text : List ℕ) → common word text ≡ length word
    → common word text ≡ length text
    → IsWord word text
whole_common [] [] all all_text = refl
whole_common [] (b ∷ text) all all_text = absurd (omega arith)
whole_common (w ∷ word) [] all all_text = absurd (omega arith)
whole_common (w ∷ word) (b ∷ text) all all_text =
    go (to_ascii_lowercase b == w) refl (whole_common word text)
  where
    go : (like : Bool) → (to_ascii_lowercase b == w) ≡ like
        → (common word text ≡ length word → common word text ≡ length text → IsWord word text)
        → IsWord (w ∷ word) (b ∷ text)
    go true like rest =
        let same : to_ascii_lowercase b ≡ w = grind (arith, nat_tests) in
        let far : common (w ∷ word) (b ∷ text) ≡ suc (common word text) = rw like refl in
        let more : IsWord word text = rest (omega arith) (omega arith) in
        cc (same, more)
    go false unlike rest =
        let none : common (w ∷ word) (b ∷ text) ≡ 0 = rw unlike refl in
        absurd (omega arith)

-- what `wrong_word` answers of a word in lower case

both_lengths : (front word text : ℕ) → (front == word && front == text) ≡ true
    → (front ≡ word) × (front ≡ text)
both_lengths front word text both = grind (arith, nat_tests)

word_is : (word text : List ℕ) → IsLow word → wrong_word word text ≡ None → IsWord word text
word_is word text low none =
    go (common word text == length word && common word text == length text) refl none
  where
    go : (whole : Bool)
        → (common word text == length word && common word text == length text) ≡ whole
        → (if whole then None else Some (common word text)) ≡ None → IsWord word text
    go true whole none =
        let both = both_lengths (common word text) (length word) (length text) whole in
        whole_common word text both.0 both.1
    go false part none = absurd (cc none)

word_wrong : (word text : List ℕ) (at : ℕ) → IsLow word → wrong_word word text ≡ Some at
    → FirstWrong (IsWord word) text at
word_wrong word text at low some =
    go (common word text == length word && common word text == length text) refl some
  where
    go : (whole : Bool)
        → (common word text == length word && common word text == length text) ≡ whole
        → (if whole then None else Some (common word text)) ≡ Some at
        → FirstWrong (IsWord word) text at
    go true whole some = absurd (cc some)
    go false part some =
        let place : common word text ≡ at = cc some in
        ⊎_elim
        (λ is.
        let front = is.1 in
        let end = is.2 in
        let yes : (common word text == length word && common word text == length text) ≡ true =
        grind (arith, nat_tests) in
        absurd (cc (yes, part)))
        (λ leaves. subst (FirstWrong (IsWord word) text) place leaves)
        (word_or_leaves word text low)

word_none : (word text : List ℕ) → IsLow word → IsWord word text → wrong_word word text ≡ None
word_none word text low is = go (wrong_word word text) refl
  where
    go : (found : Option ℕ) → wrong_word word text ≡ found → wrong_word word text ≡ None
    go None found = found
    go (Some at) found =
        absurd (none_wrong (IsWord word) text at is (word_wrong word text at low found))

-- and `wrong_among` of some words in lower case

abbrev pub AllLow : List (List ℕ) → Type 0
AllLow = AllByRecursion IsLow

-- of one word and more of them, by their answers
abbrev with_more : Option ℕ → Option ℕ → Option ℕ
with_more first others = option_and_then (λ at. option_map (λ far. max at far) others) first

pub one_of_is : (words : List (List ℕ)) (text : List ℕ) → AllLow words
    → wrong_among words text ≡ None
    → IsOneOf words text
one_of_is [] text low none = absurd (cc none)
one_of_is (word ∷ words) text low none =
    go (wrong_word word text) (wrong_among words text) refl (one_of_is words text low.1) none
  where
    go : (first others : Option ℕ) → wrong_word word text ≡ first
        → (others ≡ None → IsOneOf words text)
        → with_more first others ≡ None → IsOneOf (word ∷ words) text
    go None others is more none = inl (word_is word text low.0 is)
    go (Some at) None is more none = inr (more refl)
    go (Some at) (Some far) is more none = absurd (cc none)

pub one_of_none : (words : List (List ℕ)) (text : List ℕ) → AllLow words → IsOneOf words text
    → wrong_among words text ≡ None
one_of_none [] text low is = absurd is
one_of_none (word ∷ words) text low is =
    ⊎_elim
    (λ first. rw (word_none word text low.0 first) refl)
    (λ more. rw (one_of_none words text low.1 more) (none_further (wrong_word word text)))
    is
  where
    none_further : (first : Option ℕ) → with_more first None ≡ None
    none_further None = refl
    none_further (Some at) = refl

-- the last place at which a text leaves some words is where it leaves all of them
among_wrong : (word : List ℕ) (words : List (List ℕ)) (text : List ℕ) (at : ℕ)
    → AllLow (word ∷ words) → wrong_among (word ∷ words) text ≡ Some at
    → FirstWrong (IsOneOf (word ∷ words)) text at
among_wrong word [] text at low some = go (wrong_word word text) refl some
  where
    go : (first : Option ℕ) → wrong_word word text ≡ first → with_more first (Some 0) ≡ Some at
        → FirstWrong (IsOneOf (word ∷ [])) text at
    go None is some = absurd (cc some)
    go (Some front) is some =
        let place : front ≡ at = sym (max-zero front) ∙ (cc some) in
        FirstWrong-same (λ t w. inl w) (λ t w. ⊎_elim (λ h. h) (λ h. absurd h) w) text at
        (subst (FirstWrong (IsWord word) text) place (word_wrong word text front low.0 is))
among_wrong word (next ∷ words) text at low some =
    go (wrong_word word text) (wrong_among (next ∷ words) text) refl
    (λ far. among_wrong next words text far low.1) some
  where
    go : (first others : Option ℕ) → wrong_word word text ≡ first
        → ((far : ℕ) → others ≡ Some far → FirstWrong (IsOneOf (next ∷ words)) text far)
        → with_more first others ≡ Some at → FirstWrong (IsOneOf (word ∷ next ∷ words)) text at
    go None others is more some = absurd (cc some)
    go (Some front) None is more some = absurd (cc some)
    go (Some front) (Some far) is more some =
        let place : max front far ≡ at = cc some in
        subst (FirstWrong (IsOneOf (word ∷ next ∷ words)) text) place
        (FirstWrong-either (IsWord word) (IsOneOf (next ∷ words)) text front far
        (word_wrong word text front low.0 is) (more far refl))

some_wrong : (words : List (List ℕ)) (text : List ℕ) (at : ℕ) → 0 < length words → AllLow words
    → wrong_among words text ≡ Some at → FirstWrong (IsOneOf words) text at
some_wrong [] text at any low some = absurd (omega arith)
some_wrong (word ∷ words) text at any low some = among_wrong word words text at low some

-- the words for no number

all_low : AllLow no_numbers
all_low = (refl, (refl, (refl, (refl, (refl, (refl, (refl, tt)))))))

pub no_number_is : (text : List ℕ) → wrong_among no_numbers text ≡ None → IsNoNumber text
no_number_is text none = one_of_is no_numbers text all_low none

pub no_number_none : (text : List ℕ) → IsNoNumber text → wrong_among no_numbers text ≡ None
no_number_none text is = one_of_none no_numbers text all_low is

pub no_number_wrong : (text : List ℕ) (at : ℕ) → wrong_among no_numbers text ≡ Some at
    → FirstWrong IsNoNumber text at
no_number_wrong text at some = some_wrong no_numbers text at (omega arith) all_low some
