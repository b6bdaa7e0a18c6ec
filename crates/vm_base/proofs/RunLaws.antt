-- First wrong places, and what machines say of them, for the proofs of those who use them.
use Rattle.std.proofs.Common.{◌≡◌, ℕ, suc, ◌+◌, ◌<◌, ◌≤◌, max, ◌⊎◌, inl, inr, ⊎_elim, List, [], ◌∷◌, ◌++◌, length, take, drop, Option, Some, None, option_and_then, Result, Ok, Err, ok_or, refl, ap, sym, subst, ◌∙◌, arith, append_assoc, length-append, le_of_lt, append-nil, zero-add, suc-add, add-zero, one-add}
use Rattle.std.proofs.Math.Seq.{take-append_seam, take-append-add, take-length}
use Rattle.std.proofs.Math.Nat.{max-eq_left, max-eq_right}
use Rattle.std.proofs.lemmas.Bool.{cases_lt, cases_order}
use Rattle.std.proofs.lemmas.List.{take-append-drop, take-take}
use Rattle.std.specs.Option.{option_map_or}
use Rattle.vm_base.specs.FirstWrong.{Begins, FirstWrong}
use Rattle.vm_base.specs.Run.{run, result, IsRead, reading, behind_one}

-- first wrong places

module _ {A : Type 0} (L : List A → Type 0) where
  -- a first part of what begins a text begins one too
  pub Begins-front : (front more : List A) → Begins L (front ++ more) → Begins L front
  Begins-front front more goes =
      (more ++ goes.0, subst L (append_assoc front more goes.0) goes.1)

  pub Begins-take : (text : List A) (few many : ℕ) → few ≤ many → Begins L (take many text)
      → Begins L (take few text)
  Begins-take text few many fewer goes =
      let front = take few (take many text) in
      let parts : front ++ drop few (take many text) ≡ take many text =
      take-append-drop few (take many text) in
      subst (Begins L) (take-take few many text fewer)
      (Begins-front front (drop few (take many text)) (subst (Begins L) (sym parts) goes))

  -- a text of the language begins one at each place
  pub Begins-text : (text : List A) (at : ℕ) → L text → Begins L (take at text)
  Begins-text text at is = (drop at text, subst L (sym (take-append-drop at text)) is)

  -- a text of the language has no first wrong place
  pub none_wrong : (text : List A) (at : ℕ) → L text → FirstWrong L text at → ⊥
  none_wrong text at is first =
      ⊎_elim
      (λ before. first.wrong before (Begins-text text (suc at) is))
      (λ after. let within = first.within in first.short (omega arith) is)
      (cases_lt at (length text))

  -- after its first wrong place a text begins no text of the language
  pub none_further : (text : List A) (at far : ℕ) → FirstWrong L text at → at < far
      → far ≤ length text
      → Begins L (take far text) → ⊥
  none_further text at far first behind within goes =
      first.wrong (omega arith) (Begins-take text (suc at) far (omega arith) goes)

  -- a text has one first wrong place at most
  pub one_place : (text : List A) (at other : ℕ) → FirstWrong L text at → FirstWrong L text other
      → at ≡ other
  one_place text at other first second =
      ⊎_elim
      (λ same. same)
      (⊎_elim
      (λ less. absurd (none_further text at other first less second.within second.begins))
      (λ more. absurd (none_further text other at second more first.within first.begins)))
      (cases_order at other)

module _ {A : Type 0} {L M : List A → Type 0} where
  -- two languages of the same texts have the same first wrong places
  pub FirstWrong-same : ((text : List A) → L text → M text) → ((text : List A) → M text → L text)
      → (text : List A) (at : ℕ) → FirstWrong L text at → FirstWrong M text at
  FirstWrong-same to from text at first = record {
    within = first.within;
    begins = (first.begins.0, to (take at text ++ first.begins.0) first.begins.1);
    wrong = λ inside goes.
        first.wrong inside (goes.0, from (take (suc at) text ++ goes.0) goes.1);
    short = λ end is. first.short end (from text is);
  }

  -- where a front takes the texts of one language to those of another, it moves their first wrong
  -- places
  pub FirstWrong-append : (front : List A) → ((more : List A) → L (front ++ more) → M more)
      → ((more : List A) → M more → L (front ++ more))
      → (rest : List A) (at : ℕ) → FirstWrong M rest at
      → FirstWrong L (front ++ rest) (length front + at)
  FirstWrong-append front off on rest at first =
      let whole : length (front ++ rest) ≡ length front + length rest = length-append front rest in
      let within = first.within in
      let so_far : (n : ℕ) → take (length front + n) (front ++ rest) ≡ front ++ take n rest =
      λ n. take-append-add front rest n in
      record {
        within = omega arith;
        begins =
            rw so_far
            (first.begins.0, rw append_assoc (on (take at rest ++ first.begins.0) first.begins.1));
        wrong = λ inside goes.
            let next : suc (length front + at) ≡ length front + suc at = omega arith in
            let one_more : take (suc (length front + at)) (front ++ rest) ≡ front
            ++ take (suc at) rest =
            ap (λ n. take n (front ++ rest)) next ∙ so_far (suc at) in
            let more : Begins L (front ++ take (suc at) rest) = subst (Begins L) one_more goes in
            let joined : L (front ++ (take (suc at) rest ++ more.0)) =
            subst L (append_assoc front (take (suc at) rest) more.0) more.1 in
            first.wrong (omega arith) (more.0, off (take (suc at) rest ++ more.0) joined);
        short = λ end is. first.short (omega arith) (off rest is);
      }

module _ {A : Type 0} (L M : List A → Type 0) where
  -- the texts of either language
  abbrev pub Either : List A → Type 0
  Either text = L text ⊎ M text

  -- a text leaves two languages together at the later of its two first wrong places
  pub FirstWrong-either : (text : List A) (one other : ℕ) → FirstWrong L text one
      → FirstWrong M text other → FirstWrong Either text (max one other)
  FirstWrong-either text one other first second =
      let up = first.within in
      let to = second.within in
      ⊎_elim
      (λ less.
      let last : other ≡ max one other = sym (max-eq_right (le_of_lt less)) in
      subst (FirstWrong Either text) last
      (record {
        within = second.within;
        begins = (second.begins.0, inr second.begins.1);
        wrong = λ inside goes.
            ⊎_elim
            (λ is. none_further L text one (suc other) first (omega arith) (omega arith)
            (goes.0, is))
            (λ is. second.wrong inside (goes.0, is))
            goes.1;
        short = λ end is.
            ⊎_elim (λ is_one. none_wrong L text one is_one first)
            (λ is_other. second.short end is_other) is;
      }))
      (λ more.
      let last : one ≡ max one other = sym (max-eq_left more) in
      subst (FirstWrong Either text) last
      (record {
        within = first.within;
        begins = (first.begins.0, inl first.begins.1);
        wrong = λ inside goes.
            ⊎_elim
            (λ is. first.wrong inside (goes.0, is))
            (λ is. none_further M text other (suc one) second (omega arith) (omega arith)
            (goes.0, is))
            goes.1;
        short = λ end is.
            ⊎_elim (λ is_one. first.short end is_one)
            (λ is_other. none_wrong M text other is_other second) is;
      }))
      (cases_lt one other)

-- machines

-- places counted from so many symbols further in front
abbrev pub behind : {T : Type 0} → ℕ → Result T ℕ → Result T ℕ
behind far (Ok t) = Ok t
behind far (Err at) = Err (far + at)

behind-zero : {T : Type 0} → (found : Result T ℕ) → behind 0 found ≡ found
behind-zero (Ok t) = refl
behind-zero (Err at) = ap Err (zero-add at)

behind-suc : {T : Type 0} → (far : ℕ) (found : Result T ℕ)
    → behind_one (behind far found) ≡ behind (suc far) found
behind-suc far (Ok t) = refl
behind-suc far (Err at) = ap Err (sym (suc-add far at))

behind-ok_or : {T : Type 0} → (far : ℕ) (end : Option T) → behind far (ok_or end 0) ≡ ok_or end far
behind-ok_or far None = ap Err (add-zero far)
behind-ok_or far (Some t) = refl

behind_one-ok : {T : Type 0} → (found : Result T ℕ) (t : T) → behind_one found ≡ Ok t → found ≡ Ok t
behind_one-ok (Ok u) t is = is
behind_one-ok (Err at) t is = absurd (cc is)

module _ {S A T : Type 0} (step : S → A → Option S) (final : S → Option T) where
  pub run-append : (s : S) (front rest : List A)
      → run step s (front ++ rest) ≡ option_and_then (λ t. run step t rest) (run step s front)
  run-append s [] rest = refl
  run-append s (a ∷ front) rest =
      elim (step s a) as (λ o. option_and_then (λ t. run step t (front ++ rest)) o
      ≡ option_and_then (λ t. run step t rest) (option_and_then (λ t. run step t front) o))
      [ None ↦ refl | Some t ↦ run-append t front rest ]

  -- from a state that is reached, the rest decides
  pub result-append : (s t : S) (front rest : List A) → run step s front ≡ Some t
      → result step final s (front ++ rest) ≡ result step final t rest
  result-append s t front rest there =
      ap (option_and_then final)
      (run-append s front rest ∙ ap (option_and_then (λ u. run step u rest)) there)

  -- `reading` by the states that are reached
  pub reading-append : (s t : S) (front rest : List A) → run step s front ≡ Some t
      → reading step final s (front ++ rest) ≡ behind (length front) (reading step final t rest)
  reading-append s t [] rest there =
      let same : s ≡ t = cc in
      ap (λ u. reading step final u rest) same ∙ sym (behind-zero (reading step final t rest))
  reading-append s t (a ∷ front) rest there =
      go (step s a) there (λ u. reading-append u t front rest)
    where
      go : (next : Option S) → option_and_then (λ u. run step u front) next ≡ Some t
          → ((u : S) → run step u front ≡ Some t
          → reading step final u (front ++ rest)
          ≡ behind (length front) (reading step final t rest))
          → option_map_or (λ u. behind_one (reading step final u (front ++ rest))) next (Err 0)
          ≡ behind (suc (length front)) (reading step final t rest)
      go None there more = absurd (cc there)
      go (Some u) there more = ap behind_one (more u there)
          ∙ behind-suc (length front) (reading step final t rest)

  -- the answer where the machine can't go on, and where the text ends
  pub reading-stuck : (front rest : List A) (start s : S) (a : A) → run step start front ≡ Some s
      → step s a ≡ None → reading step final start (front ++ (a ∷ rest)) ≡ Err (length front)
  reading-stuck front rest start s a there stuck =
      let here : reading step final s (a ∷ rest) ≡ Err 0 = rw stuck refl in
      reading-append start s front (a ∷ rest) there ∙ ap (behind (length front)) here
      ∙ ap Err (add-zero (length front))

  pub reading-end : (text : List A) (start s : S) → run step start text ≡ Some s
      → reading step final start text ≡ ok_or (final s) (length text)
  reading-end text start s there =
      ap (reading step final start) (sym (append-nil text)) ∙ reading-append start s text [] there
      ∙ behind-ok_or (length text) (final s)

  -- `reading` and `result` stand for the same
  pub reading-result : (s : S) (text : List A) (t : T) → result step final s text ≡ Some t
      → reading step final s text ≡ Ok t
  reading-result s [] t is = rw is refl
  reading-result s (a ∷ more) t is = go (step s a) is (λ u. reading-result u more t)
    where
      go : (next : Option S)
          → option_and_then final (option_and_then (λ u. run step u more) next) ≡ Some t
          → ((u : S) → result step final u more ≡ Some t → reading step final u more ≡ Ok t)
          → option_map_or (λ u. behind_one (reading step final u more)) next (Err 0) ≡ Ok t
      go None is rest = absurd (cc is)
      go (Some u) is rest = ap behind_one (rest u is)

  pub result-reading : (s : S) (text : List A) (t : T) → reading step final s text ≡ Ok t
      → result step final s text ≡ Some t
  result-reading s [] t is = go (final s) is
    where
      go : (end : Option T) → ok_or {E = ℕ} end 0 ≡ Ok t → end ≡ Some t
      go None is = absurd (cc is)
      go (Some u) is = cc
  result-reading s (a ∷ more) t is = go (step s a) is (λ u. result-reading u more t)
    where
      go : (next : Option S)
          → option_map_or (λ u. behind_one (reading step final u more)) next (Err 0) ≡ Ok t
          → ((u : S) → reading step final u more ≡ Ok t → result step final u more ≡ Some t)
          → option_and_then final (option_and_then (λ u. run step u more) next) ≡ Some t
      go None is rest = absurd (cc is)
      go (Some u) is rest = rest u (behind_one-ok (reading step final u more) t is)

  module _ (start : S) (viable : (s : S) → (more : List A) × IsRead step final s more) where
    -- what the machine has read begins a text that it reads
    pub Begins-reached : (front : List A) (s : S) → run step start front ≡ Some s
        → Begins (IsRead step final start) front
    Begins-reached front s there =
        let more = viable s in
        (more.0, (more.1.0, result-append start s front more.0 there ∙ more.1.1))

    -- where the machine can't go on, the symbol is the first wrong one
    pub stuck_at : (front rest : List A) (s : S) (a : A) → run step start front ≡ Some s
        → step s a ≡ None
        → FirstWrong (IsRead step final start) (front ++ (a ∷ rest)) (length front)
    stuck_at front rest s a there stuck =
        let whole : length (front ++ a ∷ rest) ≡ length front + suc (length rest) =
        length-append front (a ∷ rest) in
        let next : suc (length front) ≡ length front + 1 = omega arith in
        let one_more : take (suc (length front)) (front ++ a ∷ rest) ≡ front ++ a ∷ [] =
        ap (λ n. take n (front ++ a ∷ rest)) next ∙ take-append-add front (a ∷ rest) 1 in
        let nothing : (more : List A) → result step final s (a ∷ more) ≡ None =
        λ more. ap (λ o. option_and_then final (option_and_then (λ t. run step t more) o)) stuck in
        record {
          within = omega arith;
          begins =
              subst (Begins (IsRead step final start)) (sym (take-append_seam front (a ∷ rest)))
              (Begins-reached front s there);
          wrong = λ inside goes.
              let more : Begins (IsRead step final start) (front ++ a ∷ []) =
              subst (Begins (IsRead step final start)) one_more goes in
              let text : (front ++ a ∷ []) ++ more.0 ≡ front ++ (a ∷ more.0) =
              append_assoc front (a ∷ []) more.0 in
              let none : result step final start ((front ++ a ∷ []) ++ more.0) ≡ None =
              ap (result step final start) text ∙ result-append start s front (a ∷ more.0) there
              ∙ nothing more.0 in
              absurd (cc (none, more.1.1));
          short = λ end. absurd (omega arith);
        }

    -- where the text ends and the state stands for nothing, it ends too early
    pub short_at : (text : List A) (s : S) → run step start text ≡ Some s → final s ≡ None
        → FirstWrong (IsRead step final start) text (length text)
    short_at text s there none = record {
      within = omega arith;
      begins = rw take-length (Begins-reached text s there);
      wrong = λ inside. absurd (omega arith);
      short = λ _ is.
          let nothing : result step final start text ≡ None = ap (option_and_then final) there
          ∙ none in
          absurd (cc (nothing, is.1));
    }

  -- a place that `reading` answers is the first wrong one
  pub FirstWrong-reading : ((s : S) → (more : List A) × IsRead step final s more) → (s : S)
      → (text : List A) (at : ℕ) → reading step final s text ≡ Err at
      → FirstWrong (IsRead step final s) text at
  FirstWrong-reading viable s [] at is = go (final s) refl is
    where
      go : (end : Option T) → final s ≡ end → ok_or end 0 ≡ Err at
          → FirstWrong (IsRead step final s) [] at
      go None none is =
          let here : 0 ≡ at = cc in
          subst (FirstWrong (IsRead step final s) []) here (short_at s viable [] s refl none)
      go (Some t) some is = absurd (cc is)
  FirstWrong-reading viable s (a ∷ more) at is =
      go (step s a) refl is (λ t. FirstWrong-reading viable t more)
    where
      go : (next : Option S) → step s a ≡ next
          → option_map_or (λ t. behind_one (reading step final t more)) next (Err 0) ≡ Err at
          → ((t : S) (n : ℕ) → reading step final t more ≡ Err n
          → FirstWrong (IsRead step final t) more n)
          → FirstWrong (IsRead step final s) (a ∷ more) at
      go None stuck is rest =
          let here : 0 ≡ at = cc in
          subst (FirstWrong (IsRead step final s) (a ∷ more)) here
          (stuck_at s viable [] more s a refl stuck)
      go (Some t) there is rest = further (reading step final t more) refl is
        where
          same : (text : List A) → result step final s (a ∷ text) ≡ result step final t text
          same text =
              ap (λ o. option_and_then final (option_and_then (λ u. run step u text) o)) there

          further : (found : Result T ℕ) → reading step final t more ≡ found
              → behind_one found ≡ Err at
              → FirstWrong (IsRead step final s) (a ∷ more) at
          further (Ok t') found is = absurd (cc is)
          further (Err n) found is =
              let here : 1 + n ≡ at = one-add n ∙ (cc is) in
              subst (FirstWrong (IsRead step final s) (a ∷ more)) here
              (FirstWrong-append (a ∷ []) (λ text goes. (goes.0, sym (same text) ∙ goes.1))
              (λ text goes. (goes.0, same text ∙ goes.1)) more n (rest t n found))
