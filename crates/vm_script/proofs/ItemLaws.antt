-- Reading the items of a selector one after the other.
use Rattle.std.proofs.Common.{◌≡◌, ℕ, ◌+◌, ◌<◌, ◌≤◌, true, false, List, [], ◌∷◌, ◌++◌, length, get_or, suc, zero, Option, Some, None, arith, refl, sym, ◌∙◌, ap, subst, append_assoc, add-one, Bor}
use Rattle.std.specs.Prelude.{◌==◌, if◌then◌else◌, MatchOption, codes}
use Rattle.std.specs.Option.{option_map, option_and_then}
use Rattle.std.specs.List.{slice_split, onto_first, join_with_byte, before_first, after_first, position_or_len, prefix_len}
use Rattle.std.specs.Str.{IsUtf8, IsCharBoundary, bytes_eq}
use Rattle.std.proofs.lemmas.List.Splits.{slice_split_first, slice_split-cons_no, slice_split-cons_yes, length-slice_split, join_with_byte-slice_split}
use Rattle.std.proofs.lemmas.List.Sums.{prefix_len_passes, prefix_len-le-length}
use Rattle.std.proofs.lemmas.Str.{IsCharBoundary-start, IsCharBoundary-after_ascii}
use Rattle.std.proofs.lemmas.Bool.{eq-eqb, eqb-true}
use Rattle.std.proofs.lemmas.Bool.Decides.{nat_tests}
use Rattle.vm_labels.specs.Name.{begins_name, is_name_byte, name_len}
use Rattle.vm_labels.specs.declared.selector.Filter.{Filter}
use Rattle.vm_script.specs.inner.Front.{with_front}
use Rattle.vm_script.specs.Expression.{is_quote, items_of, items_behind, item_of, behind}

-- a text with a quote is cut at the first one
pub cut_first : (text : List ℕ) → position_or_len is_quote text < length text
    → slice_split is_quote text ≡ before_first is_quote text
    ∷ slice_split is_quote (after_first is_quote text)
cut_first text within = slice_split_first is_quote text 0 within

quote_here : (char : ℕ) (more : List ℕ)
    → position_or_len is_quote (char ∷ more) ≡ length (char ∷ more)
    → is_quote char ≡ true → ⊥
quote_here char more whole is =
    let none : position_or_len is_quote (char ∷ more) ≡ 0 = rw is refl in
    omega (arith, sym none ∙ whole)

quote_later : (char : ℕ) (more : List ℕ)
    → position_or_len is_quote (char ∷ more) ≡ length (char ∷ more)
    → is_quote char ≡ false
    → position_or_len is_quote more ≡ length more
quote_later char more whole is =
    let next : position_or_len is_quote (char ∷ more) ≡ 1 + position_or_len is_quote more =
    rw is refl in
    omega (arith, sym next ∙ whole)

-- a text without one is not cut
pub cut_none : (text : List ℕ) → position_or_len is_quote text ≡ length text
    → slice_split is_quote text ≡ text ∷ []
cut_none [] whole = refl
cut_none (char ∷ more) whole =
    elim (is_quote char) as (λ b. is_quote char ≡ b
    → slice_split is_quote (char ∷ more) ≡ (char ∷ more) ∷ []) [
      | true ↦ λ is. absurd (quote_here char more whole is)
      | false ↦
          λ is. rw (
            slice_split-cons_no is_quote char more is,
            cut_none more (quote_later char more whole is),
          ) refl
    ] refl

-- an item that is read is put before the items after it
pub item_first : (before : List Filter) (item : Filter) (read : Option (List Filter))
    → with_front (before ++ item ∷ []) read
    ≡ with_front before (option_and_then (λ items. Some (item ∷ items)) read)
item_first before item None = refl
item_first before item (Some items) = ap Some (append_assoc before (item ∷ []) items)

-- what is read of a text whose first item is this one
pub items_with : (key value text behind rest : List ℕ) (item : Filter)
    → slice_split is_quote text ≡ key ∷ slice_split is_quote behind
    → slice_split is_quote behind ≡ value ∷ slice_split is_quote rest
    → item_of key value ≡ Some item
    → items_behind (44 ∷ text) ≡ option_and_then (λ items. Some (item ∷ items)) (items_behind rest)
items_with key value text behind rest item first second is =
    rw (first, second, is) refl

pub pushed : (before after : List Filter) (item : Filter) (key value text behind rest : List ℕ)
    → slice_split is_quote text ≡ key ∷ slice_split is_quote behind
    → slice_split is_quote behind ≡ value ∷ slice_split is_quote rest
    → item_of key value ≡ Some item → after ≡ before ++ item ∷ []
    → with_front after (items_behind rest) ≡ with_front before (items_behind (44 ∷ text))
pushed before after item key value text behind rest first second is put =
    rw (put, items_with key value text behind rest item first second is)
    (item_first before item (items_behind rest))

name_byte_ascii : (char : ℕ) → is_name_byte char ≡ true → char < 128
name_byte_ascii char is = grind (arith, nat_tests)

boundary_at : (text : List ℕ) (at : ℕ) → IsUtf8 text → at ≤ length text
    → ((k : ℕ) → k < at → get_or text k 0 < 128) → IsCharBoundary text at
boundary_at text zero utf8 within ascii = IsCharBoundary-start text utf8
boundary_at text (suc at) utf8 within ascii =
    let P : ℕ → Type 0 = IsCharBoundary text in
    subst P (add-one at) (IsCharBoundary-after_ascii text at utf8 within (ascii at (omega arith)))

-- a text may be cut after a name at its front
pub name_boundary : (text : List ℕ) → IsUtf8 text → IsCharBoundary text (name_len text)
name_boundary text utf8 =
    elim (begins_name (get_or text 0 0)) as (λ b.
    IsCharBoundary text (if b then prefix_len is_name_byte text else 0)) [
      | true ↦
          boundary_at text (prefix_len is_name_byte text) utf8
          (prefix_len-le-length is_name_byte text)
          (λ k below.
          name_byte_ascii (get_or text k 0) (prefix_len_passes is_name_byte text k 0 below))
      | false ↦ IsCharBoundary-start text utf8
    ]

lacks_first : (first char : ℕ) (more : List ℕ) → ((rest : List ℕ) → char ∷ more ≡ first ∷ rest → ⊥)
    → None ≡ behind first (char ∷ more)
lacks_first first char more lacks =
    elim (char == first) as (λ b. (char == first) ≡ b → None ≡ (if b then Some more else None)) [
      | true ↦ λ is. absurd (lacks more (ap (λ x. x ∷ more) (eqb-true char first is)))
      | false ↦ λ is. refl
    ] refl

-- what `strip_prefix` gives is what stands after the character
pub stripped : (first : ℕ) (text : List ℕ) (rest : Option (Bor (List ℕ)))
    → MatchOption rest ((more : List ℕ) → text ≡ first ∷ more → ⊥) (λ more. text ≡ first ∷ more.now)
    → 0 < first
    → option_map (λ (more : Bor (List ℕ)). more.now) rest ≡ behind first text
stripped first [] None lacks some = grind (arith, nat_tests)
stripped first (char ∷ more) None lacks some = lacks_first first char more lacks
stripped first text (Some more) is some = rw (is, eq-eqb first first refl) refl

-- a text with something after its first character begins with that
pub behind_back : (first : ℕ) (text rest : List ℕ) → behind first text ≡ Some rest → 0 < first
    → text ≡ first ∷ rest
behind_back first [] rest is some = grind (arith, nat_tests)
behind_back first (char ∷ more) rest is some = grind (arith, nat_tests)

not_comma : (char : ℕ) (more : List ℕ) → behind 44 (char ∷ more) ≡ None → (char == 44) ≡ false
not_comma char more none = grind (arith, nat_tests)

-- no item begins with a quote
quote_first : (pieces : List (List ℕ)) → items_of ([] ∷ pieces) ≡ None
quote_first [] = refl
quote_first (piece ∷ more) = refl

-- a text that goes on is not the brace alone
goes_on : (char : ℕ) (front back : List ℕ)
    → bytes_eq (char ∷ (front ++ (34 ∷ back))) (codes "}") ≡ false
goes_on char [] back = grind (arith, nat_tests)
goes_on char (next ∷ more) back = grind (arith, nat_tests)

-- nor does one begin with anything but a comma
last_piece : (char : ℕ) (more : List ℕ) (pieces : List (List ℕ)) → join_with_byte 34 pieces ≡ more
    → 0 < length pieces → (char == 44) ≡ false
    → items_of (onto_first char pieces)
    ≡ (if bytes_eq (char ∷ more) (codes "}") then Some [] else None)
last_piece char more [] joined some comma = absurd (omega arith)
last_piece char more (piece ∷ []) joined some comma = rw joined refl
last_piece char more (piece ∷ value ∷ rest) joined some comma =
    rw (← joined, comma, goes_on char piece (join_with_byte 34 (value ∷ rest))) refl

-- what stands after the last item is the brace alone
pub items_end : (text : List ℕ) → behind 44 text ≡ None
    → items_behind text ≡ (if bytes_eq text (codes "}") then Some [] else None)
items_end [] none = refl
items_end (char ∷ more) none =
    elim (is_quote char) as (λ b. is_quote char ≡ b
    → items_behind (char ∷ more)
    ≡ (if bytes_eq (char ∷ more) (codes "}") then Some [] else None)) [
      | true ↦
          λ is. rw (
            slice_split-cons_yes is_quote char more is,
            quote_first (slice_split is_quote more),
            eqb-true char 34 is,
          ) refl
      | false ↦
          λ is. rw (slice_split-cons_no is_quote char more is)
          (last_piece char more (slice_split is_quote more) (join_with_byte-slice_split 34 more)
          (omega (arith, length-slice_split is_quote more)) (not_comma char more none))
    ] refl
