-- What follows the labels may be handed to another language.
use Rattle.std.proofs.Common.{◌⊎◌, inl, inr, ℕ, zero, suc, List, [], ◌∷◌, ◌++◌}
use Rattle.vm_labels.specs.declared.pair.Pair.{Pair}
use Rattle.vm_promtext.specs.Grammar.{Spaced, Marked, Labeled, Closed, WithLabels}
use Rattle.vm_promtext.specs.Quoted.{unescaped}
use Rattle.vm_promtext.proofs.PairLaws.{pair_of, labeled_put, spaced_put}

marked_map : (mark : ℕ) (M N : List ℕ → Type 0) (text : List ℕ)
    → ((rest : List ℕ) → M rest → N rest) → Marked mark M text → Marked mark N text
marked_map mark M N text f m = record { rest = m.rest; parts = m.parts; then = f m.rest m.then }

-- what follows a pair of at most so many more
abbrev NextPair : (List Pair → List ℕ → Type 0) → ℕ → List Pair → Pair → List ℕ → Type 0
NextPair L n before pair rest = Marked 125 (L (before ++ pair ∷ [])) rest
    ⊎ Marked 44 (Closed L n (before ++ pair ∷ [])) rest

pub closed_map : (L M : List Pair → List ℕ → Type 0)
    → ((pairs : List Pair) (rest : List ℕ) → L pairs rest → M pairs rest)
    → (n : ℕ) (before : List Pair) (text : List ℕ) → Closed L n before text → Closed M n before text
closed_map L M f zero before text s =
    spaced_put (Marked 125 (L before)) (Marked 125 (M before)) text s
    (marked_map 125 (L before) (M before) s.rest (f before) s.then)
closed_map L M f (suc n) before text s =
    spaced_put _ _ text s (one (closed_map L M f n) s.rest s.then)
  where
    behind_one :
        ((before : List Pair) (text : List ℕ) → Closed L n before text → Closed M n before text)
        → (pair : Pair) (rest : List ℕ)
        → (Marked 125 (L (before ++ pair ∷ [])) rest
        ⊎ Marked 44 (Closed L n (before ++ pair ∷ [])) rest)
        → (Marked 125 (M (before ++ pair ∷ [])) rest
        ⊎ Marked 44 (Closed M n (before ++ pair ∷ [])) rest)
    behind_one more pair rest (inl m) =
        inl (marked_map 125 (L (before ++ pair ∷ [])) (M (before ++ pair ∷ [])) rest
        (f (before ++ pair ∷ [])) m)
    behind_one more pair rest (inr m) =
        inr (marked_map 44 (Closed L n (before ++ pair ∷ [])) (Closed M n (before ++ pair ∷ []))
        rest (more (before ++ pair ∷ [])) m)

    one : ((before : List Pair) (text : List ℕ) → Closed L n before text → Closed M n before text)
        → (text : List ℕ)
        → (Marked 125 (L before) text
        ⊎ Labeled
        (λ pair rest. Marked 125 (L (before ++ pair ∷ [])) rest
        ⊎ Marked 44 (Closed L n (before ++ pair ∷ [])) rest) text)
        → (Marked 125 (M before) text
        ⊎ Labeled
        (λ pair rest. Marked 125 (M (before ++ pair ∷ [])) rest
        ⊎ Marked 44 (Closed M n (before ++ pair ∷ [])) rest) text)
    one more text (inl m) = inl (marked_map 125 (L before) (M before) text (f before) m)
    one more text (inr l) =
        inr (labeled_put (NextPair L n before) (NextPair M n before) text l
        (behind_one more (pair_of l.name (unescaped l.then.then.then.then.raw))
        l.then.then.then.then.then.rest l.then.then.then.then.then.then))

pub with_labels_map : (L M : List Pair → List ℕ → Type 0)
    → ((pairs : List Pair) (rest : List ℕ) → L pairs rest → M pairs rest)
    → (before : List Pair) (text : List ℕ) → WithLabels L before text → WithLabels M before text
with_labels_map L M f before text (inl p) =
    inl (record {
      blank = p.blank;
      rest = p.rest;
      parts = p.parts;
      is = p.is;
      then = spaced_put (L before) (M before) p.rest p.then (f before p.then.rest p.then.then);
    })
with_labels_map L M f before text (inr s) =
    inr (spaced_put _ _ text s (marked_map 123 _ _ s.rest
    (λ rest inside. (
      inside.0,
      closed_map (λ all. Spaced (L all)) (λ all. Spaced (M all))
          (λ pairs t c. spaced_put (L pairs) (M pairs) t c (f pairs c.rest c.then)) inside.0 before
          rest inside.1,
    )) s.then))
