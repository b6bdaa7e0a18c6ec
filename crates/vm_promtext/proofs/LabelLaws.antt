-- Labels, read after a name.
use Rattle.std.proofs.Common.{◌≡◌, ◌⊎◌, inl, inr, ℕ, zero, suc, ◌<◌, ◌≤◌, Bool, true, false, cond, List, [], ◌∷◌, ◌++◌, length, drop, Ok, Err, refl, ap, sym, subst, ◌∙◌, arith, true≢false, append_assoc, length-append}
use Rattle.std.specs.Prelude.{◌==◌, slice_index, nat_lt, if◌then◌else◌}
use Rattle.std.proofs.Common.{le-ltb, lt-ltb}
use Rattle.std.specs.Bool.{MatchBool}
use Rattle.vm_labels.specs.declared.pair.Pair.{Pair}
use Rattle.vm_promtext.specs.Grammar.{is_blank, AreBlank, Spaced, Marked, Parted, Labeled, Closed, WithLabels}
use Rattle.vm_promtext.specs.Quoted.{unescaped}
use Rattle.vm_promtext.specs.Reading.{◌>>=◌, behind_blanks, PairRead, pair_reading, Turn, behind_pair, turn_reading, braces_reading, labels_reading}
use Rattle.vm_promtext.proofs.Leads.{SameStart, Leads, Stops, Follows, leads_all, leads_on, stops_here, follows_behind, follows_then, follows_ok, leads_len}
use Rattle.vm_promtext.proofs.PartLaws.{NeverBegins, EndsAt, spaced_leads, spaced_now, spaced_none, marked_never, marked_first, marked_none, named_never, named_nothing, first_mark, not_mark, Passed, passed, spaced_behind, parted_spaced, ends_same, marked_then, marked_other}
use Rattle.vm_promtext.proofs.PairLaws.{pair_of, AfterName, OfPair, pair_rest, pair_follows, less_apart, more_apart, name_not_blank, name_not_brace, labeled_put, spaced_put, passed_len, closed_shorter, behind_shorter}

module _ (Able : Type 0) (L : List Pair → List ℕ → Type 0)
    (never : (pairs : List Pair) → NeverBegins is_blank (L pairs))
    (goes : Able → (pairs : List Pair) → (more : List ℕ) × L pairs more) where
  abbrev Then : List Pair → List ℕ → Type 0
  Then pairs = Spaced (L pairs)

  abbrev pub Inside : List Pair → List ℕ → Type 0
  Inside before text = (pairs : ℕ) × Closed Then pairs before text

  abbrev BehindPair : List Pair → Pair → List ℕ → Type 0
  BehindPair before pair rest = Marked 125 (Then (before ++ pair ∷ [])) rest
      ⊎ Marked 44 (Inside (before ++ pair ∷ [])) rest

  abbrev OneMore : List Pair → List ℕ → Type 0
  OneMore before text = Marked 125 (Then before) text ⊎ Labeled (BehindPair before) text

  abbrev Counted : ℕ → List Pair → Pair → List ℕ → Type 0
  Counted n before pair rest = Marked 125 (Then (before ++ pair ∷ [])) rest
      ⊎ Marked 44 (Closed Then n (before ++ pair ∷ [])) rest

  counted_on : (n : ℕ) (before : List Pair) (pair : Pair) (rest : List ℕ)
      → Counted n before pair rest → BehindPair before pair rest
  counted_on n before pair rest (inl m) = inl m
  counted_on n before pair rest (inr m) =
      inr (record { rest = m.rest; parts = m.parts; then = (n, m.then) })

  more_on : (n : ℕ) (before : List Pair) (text : List ℕ)
      → (Marked 125 (Then before) text ⊎ Labeled (Counted n before) text) → OneMore before text
  more_on n before text (inl m) = inl m
  more_on n before text (inr l) = inr (labeled_put (Counted n before) (BehindPair before) text l
      (counted_on n before (pair_of l.name (unescaped l.then.then.then.then.raw))
      l.then.then.then.then.then.rest l.then.then.then.then.then.then))

  inside_out : (before : List Pair) (text : List ℕ) → Inside before text
      → Spaced (OneMore before) text
  inside_out before text (zero, s) =
      spaced_put (Marked 125 (Then before)) (OneMore before) text s (inl s.then)
  inside_out before text (suc n, s) =
      spaced_put _ (OneMore before) text s (more_on n before s.rest s.then)

  pair_in : (before : List Pair) (pair : Pair) (rest : List ℕ) → BehindPair before pair rest
      → (n : ℕ) × Counted n before pair rest
  pair_in before pair rest (inl m) = (0, inl m)
  pair_in before pair rest (inr m) =
      (m.then.0, inr (record { rest = m.rest; parts = m.parts; then = m.then.1 }))

  more_in : (before : List Pair) (text : List ℕ) → OneMore before text → (n : ℕ)
      × (Marked 125 (Then before) text ⊎ Labeled (Counted n before) text)
  more_in before text (inl m) = (0, inl m)
  more_in before text (inr l) =
      let found =
      pair_in before (pair_of l.name (unescaped l.then.then.then.then.raw))
      l.then.then.then.then.then.rest l.then.then.then.then.then.then in
      (found.0, inr (labeled_put (BehindPair before) (Counted found.0 before) text l found.1))

  inside_in : (before : List Pair) (text : List ℕ) → Spaced (OneMore before) text
      → Inside before text
  inside_in before text s =
      let found = more_in before s.rest s.then in
      (suc found.0, spaced_put (OneMore before) _ text s found.1)

  inside_leads : (before : List Pair) (text : List ℕ)
      → Leads (Inside before) (Spaced (OneMore before)) text text
  inside_leads before text =
      leads_all (λ more s. inside_in before more s) (λ more same i. inside_out before more i)

  then_goes : Able → (pairs : List Pair) → (more : List ℕ) × Then pairs more
  then_goes can pairs = let g = goes can pairs in (g.0, spaced_now (L pairs) g.0 g.1)

  pub inside_goes : Able → (before : List Pair) → (more : List ℕ) × Inside before more
  inside_goes can before =
      let g = then_goes can before in (
        125 ∷ g.0,
        (
          0,
          spaced_now (Marked 125 (Then before)) (125 ∷ g.0)
              (record { rest = g.0; parts = refl; then = g.1 }),
        ),
      )

  behind_goes : Able → (before : List Pair) (pair : Pair) → (more : List ℕ)
      × BehindPair before pair more
  behind_goes can before pair = let g =
      then_goes can
      (before ++ pair ∷ []) in (125 ∷ g.0, inl (record { rest = g.0; parts = refl; then = g.1 }))

  behind_never : (before : List Pair) (pair : Pair) → NeverBegins is_blank (BehindPair before pair)
  behind_never before pair byte more blank (inl m) =
      marked_never is_blank 125 (Then (before ++ pair ∷ [])) refl byte more blank m
  behind_never before pair byte more blank (inr m) =
      marked_never is_blank 44 (Inside (before ++ pair ∷ [])) refl byte more blank m

  labeled_never : (before : List Pair) → NeverBegins is_blank (Labeled (BehindPair before))
  labeled_never before = named_never is_blank (AfterName (BehindPair before)) name_not_blank

  more_never : (before : List Pair) → NeverBegins is_blank (OneMore before)
  more_never before byte more blank (inl m) =
      marked_never is_blank 125 (Then before) refl byte more blank m
  more_never before byte more blank (inr l) = labeled_never before byte more blank l

  -- what follows a step
  abbrev pub AfterTurn : Turn → List ℕ → Type 0
  AfterTurn turn text = MatchBool turn.closed (Then turn.pairs text) (Inside turn.pairs text)

  abbrev turn_rest : Turn → List ℕ
  turn_rest turn = turn.rest

  comma_then : (before : List Pair) (pair : Pair) (more : List ℕ)
      → BehindPair before pair (44 ∷ more) → Inside (before ++ pair ∷ []) more
  comma_then before pair more (inl m) =
      absurd (marked_other 125 44 (Then (before ++ pair ∷ [])) more
      (less_apart 44 125 (omega arith)) m)
  comma_then before pair more (inr m) = marked_then 44 (Inside (before ++ pair ∷ [])) more m

  brace_then : (before : List Pair) (pair : Pair) (more : List ℕ)
      → BehindPair before pair (125 ∷ more) → Then (before ++ pair ∷ []) more
  brace_then before pair more (inl m) = marked_then 125 (Then (before ++ pair ∷ [])) more m
  brace_then before pair more (inr m) =
      absurd (marked_other 44 125 (Inside (before ++ pair ∷ [])) more
      (more_apart 125 44 (omega arith)) m)

  behind_comma : (before : List Pair) (pair : Pair) (text : List ℕ) → text ≡ 44 ∷ drop 1 text
      → Leads (BehindPair before pair) (Inside (before ++ pair ∷ [])) text (drop 1 text)
  behind_comma before pair text is = record {
    front = 44 ∷ [];
    parts = is;
    into = λ more i. inr (record { rest = more; parts = refl; then = i });
    out = λ more same b. comma_then before pair more b;
  }

  behind_brace : (before : List Pair) (pair : Pair) (text : List ℕ) → text ≡ 125 ∷ drop 1 text
      → Leads (BehindPair before pair) (Then (before ++ pair ∷ [])) text (drop 1 text)
  behind_brace before pair text is = record {
    front = 125 ∷ [];
    parts = is;
    into = λ more i. inl (record { rest = more; parts = refl; then = i });
    out = λ more same b. brace_then before pair more b;
  }

  behind_follows : (before : List Pair) (pair : Pair) (text : List ℕ)
      → Follows Able (BehindPair before pair) AfterTurn turn_rest text
      (behind_pair (before ++ pair ∷ []) text)
  behind_follows before pair text =
      go (slice_index text 0 == 44) (slice_index text 0 == 125) refl refl
    where
      other : (byte : ℕ) (rest more : List ℕ) → (slice_index text 0 == 44) ≡ false
          → (slice_index text 0 == 125) ≡ false → text ≡ byte ∷ rest
          → BehindPair before pair (byte ∷ more) → ⊥
      other byte rest more comma brace starts (inl m) =
          not_mark 125 byte rest (ap (λ t. slice_index t 0 == 125) (sym starts) ∙ brace)
          (marked_first 125 (Then (before ++ pair ∷ [])) byte more m)
      other byte rest more comma brace starts (inr m) =
          not_mark 44 byte rest (ap (λ t. slice_index t 0 == 44) (sym starts) ∙ comma)
          (marked_first 44 (Inside (before ++ pair ∷ [])) byte more m)

      none : BehindPair before pair [] → ⊥
      none (inl m) = marked_none 125 (Then (before ++ pair ∷ [])) m
      none (inr m) = marked_none 44 (Inside (before ++ pair ∷ [])) m

      go : (a b : Bool) → (slice_index text 0 == 44) ≡ a → (slice_index text 0 == 125) ≡ b
          → Follows Able (BehindPair before pair) AfterTurn turn_rest text
          (cond a (Ok (record { pairs = before ++ pair ∷ []; closed = false; rest = drop 1 text }))
          (cond b (Ok (record { pairs = before ++ pair ∷ []; closed = true; rest = drop 1 text }))
          (Err (length text))))
      go true b comma brace = behind_comma before pair text (first_mark 44 text (omega arith) comma)
      go false true comma brace =
          behind_brace before pair text (first_mark 125 text (omega arith) brace)
      go false false comma brace = λ can.
          stops_here (BehindPair before pair) text (behind_goes can before pair).0
          (behind_goes can before pair).1
          (λ byte rest more starts b. other byte rest more comma brace starts b) (λ _ b. none b)

  one_then : (before : List Pair) (more : List ℕ) → OneMore before (125 ∷ more) → Then before more
  one_then before more (inl m) = marked_then 125 (Then before) more m
  one_then before more (inr l) =
      absurd (named_never (λ b. b == 125) (AfterName (BehindPair before)) name_not_brace 125 more
      refl l)

  one_brace : (before : List Pair) (text : List ℕ) → text ≡ 125 ∷ drop 1 text
      → Leads (OneMore before) (Then before) text (drop 1 text)
  one_brace before text is = record {
    front = 125 ∷ [];
    parts = is;
    into = λ more i. inl (record { rest = more; parts = refl; then = i });
    out = λ more same b. one_then before more b;
  }

  one_pair : (before : List Pair) (text : List ℕ) → (slice_index text 0 == 125) ≡ false
      → Leads (OneMore before) (Labeled (BehindPair before)) text text
  one_pair before text brace =
      leads_all (λ more l. inr l) (λ more same o. go text more brace same o)
    where
      go : (text more : List ℕ) → (slice_index text 0 == 125) ≡ false → SameStart text more
          → OneMore before more → Labeled (BehindPair before) more
      go text more brace same (inr l) = l
      go [] [] brace same (inl m) = absurd (marked_none 125 (Then before) m)
      go [] (b ∷ more) brace same (inl m) = absurd same
      go (a ∷ text) [] brace same (inl m) = absurd same
      go (a ∷ text) (b ∷ more) brace same (inl m) =
          absurd (not_mark 125 a text brace (same ∙ marked_first 125 (Then before) b more m))

  pub turn_follows : (before : List Pair) (text : List ℕ)
      → Follows Able (Inside before) AfterTurn turn_rest text (turn_reading before text)
  unfolding turn_reading
  turn_follows before text =
      follows_behind Able (Inside before) (OneMore before) AfterTurn turn_rest text
      (behind_blanks text) _
      (leads_on (inside_leads before text) (spaced_leads (OneMore before) (more_never before) text))
      (go (behind_blanks text) (slice_index (behind_blanks text) 0 == 125) refl)
    where
      go : (rest : List ℕ) (b : Bool) → (slice_index rest 0 == 125) ≡ b
          → Follows Able (OneMore before) AfterTurn turn_rest rest
          (cond b (Ok (record { pairs = before; closed = true; rest = drop 1 rest }))
          (pair_reading rest
          >>= λ pair.
          behind_pair (before ++ record { name = pair.name; value = unescaped pair.raw } ∷ [])
          pair.rest))
      go rest true brace = one_brace before rest (first_mark 125 rest (omega arith) brace)
      go rest false brace =
          follows_behind Able (OneMore before) (Labeled (BehindPair before)) AfterTurn turn_rest
          rest rest _ (one_pair before rest brace)
          (follows_then Able (Labeled (BehindPair before)) (OfPair (BehindPair before)) pair_rest
          AfterTurn turn_rest rest (pair_reading rest) _
          (pair_follows Able (BehindPair before) (behind_never before)
          (λ can. behind_goes can before) rest)
          (λ pair _. behind_follows before (pair_of pair.name (unescaped pair.raw)) pair.rest))

  -- ---- steps

  pair_shorter : (text : List ℕ) (before : List Pair) (pair : PairRead)
      → pair_reading text ≡ Ok pair → length pair.rest ≤ length text
  pair_shorter text before pair is =
      leads_len (Labeled (BehindPair before)) (OfPair (BehindPair before) pair) text pair.rest
      (follows_ok Able (Labeled (BehindPair before)) (OfPair (BehindPair before)) pair_rest text
      (pair_reading text) pair
      (pair_follows Able (BehindPair before) (behind_never before) (λ can. behind_goes can before)
      text) is)

  turn_shorter : (before : List Pair) (text : List ℕ) (turn : Turn)
      → turn_reading before text ≡ Ok turn → length turn.rest < length text
  unfolding turn_reading
  turn_shorter before text turn is =
      go (behind_blanks text) (slice_index (behind_blanks text) 0 == 125) refl (passed_len text) is
    where
      go : (rest : List ℕ) (b : Bool) → (slice_index rest 0 == 125) ≡ b → length rest ≤ length text
          → cond b (Ok (record { pairs = before; closed = true; rest = drop 1 rest }))
          (pair_reading rest
          >>= λ pair.
          behind_pair (before ++ record { name = pair.name; value = unescaped pair.raw } ∷ [])
          pair.rest) ≡ Ok turn
          → length turn.rest < length text
      go rest true brace few is =
          closed_shorter text rest turn before few (first_mark 125 rest (omega arith) brace) is
      go rest false brace few is =
          elim (pair_reading rest) as (λ o. pair_reading rest ≡ o
          → (o >>= λ pair.
          behind_pair (before ++ record { name = pair.name; value = unescaped pair.raw } ∷ [])
          pair.rest) ≡ Ok turn → length turn.rest < length text) [
            | Ok pair ↦
                λ reads ends.
                behind_shorter text pair.rest turn
                (before ++ record { name = pair.name; value = unescaped pair.raw } ∷ [])
                (omega (arith, pair_shorter rest before pair reads)) ends
            | Err left ↦ λ reads ends. cc (ends)
          ] refl is

  abbrev Pairs : List Pair × List ℕ → List ℕ → Type 0
  Pairs read = Then read.0

  abbrev pub pairs_rest : List Pair × List ℕ → List ℕ
  pairs_rest read = read.1

  after_turn : (fuel : ℕ)
      → ((before : List Pair) (text : List ℕ) → length text ≤ fuel
      → Follows Able (Inside before) Pairs pairs_rest text (braces_reading fuel before text))
      → (closed : Bool) (pairs : List Pair) (rest : List ℕ) → length rest ≤ fuel
      → Follows Able (λ text. MatchBool closed (Then pairs text) (Inside pairs text)) Pairs
      pairs_rest rest (cond closed (Ok (pairs, rest)) (braces_reading fuel pairs rest))
  after_turn fuel more true pairs rest few = leads_all (λ more is. is) (λ more same is. is)
  after_turn fuel more false pairs rest few = more pairs rest few

  one_none : (before : List Pair) → OneMore before [] → ⊥
  one_none before (inl m) = marked_none 125 (Then before) m
  one_none before (inr l) = named_nothing (AfterName (BehindPair before)) l

  pub braces_follows : (fuel : ℕ) (before : List Pair) (text : List ℕ) → length text ≤ fuel
      → Follows Able (Inside before) Pairs pairs_rest text (braces_reading fuel before text)
  unfolding braces_reading
  braces_follows zero before [] few = λ can.
      stops_here (Inside before) [] (inside_goes can before).0 (inside_goes can before).1
      (λ byte rest other starts. cc (starts))
      (λ _ i. one_none before (spaced_none (OneMore before) (inside_out before [] i)))
  braces_follows zero before (byte ∷ text) few = absurd (omega arith)
  braces_follows (suc fuel) before text few =
      follows_then Able (Inside before) AfterTurn turn_rest Pairs pairs_rest text
      (turn_reading before text) _ (turn_follows before text)
      (λ turn is.
      after_turn fuel (braces_follows fuel) turn.closed turn.pairs turn.rest
      (omega (arith, turn_shorter before text turn is)))

  -- ---- labels after a name

  module _ (brace : (pairs : List Pair) → NeverBegins (λ byte. byte == 123) (L pairs)) where
    inside_spaced : (before : List Pair) → NeverBegins is_blank (Marked 123 (Inside before))
    inside_spaced before = marked_never is_blank 123 (Inside before) refl

    -- after blanks stands the opening brace, or what follows the pairs
    with_cases : (before : List Pair) (blanks more : List ℕ) → AreBlank blanks
        → EndsAt is_blank more → WithLabels L before (blanks ++ more)
        → L before more ⊎ Marked 123 (Inside before) more
    with_cases before blanks more are ends (inl p) =
        inl (spaced_behind (L before) blanks more (never before) are ends
        (parted_spaced (L before) (blanks ++ more) p))
    with_cases before blanks more are ends (inr s) =
        inr (spaced_behind (Marked 123 (Inside before)) blanks more (inside_spaced before) are ends
        s)

    brace_leads : (before : List Pair) (text : List ℕ) → Passed text
        → behind_blanks text ≡ 123 ∷ drop 1 (behind_blanks text)
        → Leads (WithLabels L before) (Inside before) text (drop 1 (behind_blanks text))
    brace_leads before text p starts = record {
      front = p.blanks ++ 123 ∷ [];
      parts = p.parts ∙ ap (λ t. p.blanks ++ t) starts
          ∙ sym (append_assoc p.blanks (123 ∷ []) (drop 1 (behind_blanks text)));
      into = λ more i.
          inr (record {
            blanks = p.blanks;
            rest = 123 ∷ more;
            parts = append_assoc p.blanks (123 ∷ []) more;
            are = p.are;
            then =
                record { rest = more; parts = refl; then = i };
          });
      out = λ more same w.
          elim (with_cases before p.blanks (123 ∷ more) p.are refl
          (subst (WithLabels L before) (append_assoc p.blanks (123 ∷ []) more) w)) [
            | inl l ↦ absurd (brace before 123 more refl l)
            | inr m ↦ marked_then 123 (Inside before) more m
          ];
    }

    no_brace : (text more : List ℕ) → (slice_index text 0 == 123) ≡ false → SameStart text more
        → (before : List Pair) → Marked 123 (Inside before) more → ⊥
    no_brace [] [] other same before m = marked_none 123 (Inside before) m
    no_brace [] (b ∷ more) other same before m = absurd same
    no_brace (a ∷ text) [] other same before m = absurd same
    no_brace (a ∷ text) (b ∷ more) other same before m =
        not_mark 123 a text other (same ∙ marked_first 123 (Inside before) b more m)

    blank_leads : (before : List Pair) (text : List ℕ) (blank : ℕ) (blanks : List ℕ)
        → is_blank blank ≡ true → AreBlank blanks → text ≡ blank ∷ (blanks ++ behind_blanks text)
        → EndsAt is_blank (behind_blanks text)
        → (slice_index (behind_blanks text) 0 == 123) ≡ false
        → Leads (WithLabels L before) (L before) text (behind_blanks text)
    blank_leads before text blank blanks is are parts ends other = record {
      front = blank ∷ blanks;
      parts = parts;
      into = λ more l.
          inl (record {
            blank = blank;
            rest = blanks ++ more;
            parts = refl;
            is = is;
            then = record { blanks = blanks; rest = more; parts = refl; are = are; then = l };
          });
      out = λ more same w.
          elim (with_cases before (blank ∷ blanks) more (is, are)
          (ends_same is_blank (behind_blanks text) more same ends) w) [
            | inl l ↦ l
            | inr m ↦ absurd (no_brace (behind_blanks text) more other same before m)
          ];
    }

    parted_not : (text : List ℕ) (before : List Pair) → Parted (L before) text
        → EndsAt is_blank text → ⊥
    parted_not [] before p ends = cc (p.parts)
    parted_not (byte ∷ text) before p ends = let first : byte ≡ p.blank =
        cc (p.parts) in true≢false (sym p.is ∙ ap is_blank (sym first) ∙ ends)

    -- where no blank was read, labels can only begin with a brace
    no_label : Able → (before : List Pair) (text : List ℕ) → EndsAt is_blank text
        → (slice_index text 0 == 123) ≡ false → Stops (WithLabels L before) text (length text)
    no_label can before text ends other =
        let g = inside_goes can before in
        stops_here (WithLabels L before) text (123 ∷ g.0)
        (inr (spaced_now (Marked 123 (Inside before)) (123 ∷ g.0)
        (record { rest = g.0; parts = refl; then = g.1 })))
        (λ byte rest more starts w. starts_not byte rest more starts w)
        (λ _ w. none_not w)
      where
        none_not : WithLabels L before [] → ⊥
        none_not (inl p) = cc (p.parts)
        none_not (inr s) =
            marked_none 123 (Inside before) (spaced_none (Marked 123 (Inside before)) s)

        starts_not : (byte : ℕ) (rest more : List ℕ) → text ≡ byte ∷ rest
            → WithLabels L before (byte ∷ more) → ⊥
        starts_not byte rest more starts w =
            let same : SameStart text (byte ∷ more) =
            subst (λ t. SameStart t (byte ∷ more)) (sym starts) refl in
            let more_ends : EndsAt is_blank (byte ∷ more) =
            ends_same is_blank text (byte ∷ more) same ends in
            elim w [
              | inl p ↦ parted_not (byte ∷ more) before p more_ends
              | inr s ↦
                  no_brace text (byte ∷ more) other same before
                  (spaced_behind (Marked 123 (Inside before)) [] (byte ∷ more)
                  (inside_spaced before) tt more_ends s)
            ]

    abbrev pub Labels : List Pair × List ℕ → List ℕ → Type 0
    Labels read = L read.0

    no_brace_follows : (before : List Pair) (text blanks : List ℕ) → AreBlank blanks → text ≡ blanks
        ++ behind_blanks text → EndsAt is_blank (behind_blanks text)
        → (slice_index (behind_blanks text) 0 == 123) ≡ false
        → Follows Able (WithLabels L before) Labels pairs_rest text
        (if nat_lt (length (behind_blanks text)) (length text) then Ok (before, behind_blanks text)
        else Err (length (behind_blanks text)))
    no_brace_follows before text [] are parts ends other =
        let not_less : nat_lt (length (behind_blanks text)) (length text) ≡ false =
        le-ltb (length (behind_blanks text)) (length text) (omega (arith, ap length parts)) in
        rw not_less
        (λ can. subst (λ t. Stops (WithLabels L before) text (length t)) parts
        (no_label can before text (subst (EndsAt is_blank) (sym parts) ends)
        (ap (λ t. slice_index t 0 == 123) parts ∙ other)))
    no_brace_follows before text (blank ∷ blanks) are parts ends other =
        let less : nat_lt (length (behind_blanks text)) (length text) ≡ true =
        lt-ltb (length (behind_blanks text)) (length text)
        (omega (arith, ap length parts, length-append blanks (behind_blanks text))) in
        rw less (blank_leads before text blank blanks are.0 are.1 parts ends other)

    pub labels_follows : (before : List Pair) (text : List ℕ)
        → Follows Able (WithLabels L before) Labels pairs_rest text (labels_reading before text)
    unfolding labels_reading
    labels_follows before text = go (slice_index (behind_blanks text) 0 == 123) refl
      where
        go : (b : Bool) → (slice_index (behind_blanks text) 0 == 123) ≡ b
            → Follows Able (WithLabels L before) Labels pairs_rest text
            (if b then (braces_reading (length (drop 1 (behind_blanks text))) before
            (drop 1 (behind_blanks text)) >>= (λ braces. Ok (braces.0, behind_blanks braces.1)))
            else (if nat_lt (length (behind_blanks text)) (length text)
            then Ok (before, behind_blanks text) else Err (length (behind_blanks text))))
        go true is =
            let inside = drop 1 (behind_blanks text) in
            follows_behind Able (WithLabels L before) (Inside before) Labels pairs_rest text inside
            _
            (brace_leads before text (passed text)
            (first_mark 123 (behind_blanks text) (omega arith) is))
            (follows_then Able (Inside before) Pairs pairs_rest Labels pairs_rest inside
            (braces_reading (length inside) before inside) _
            (braces_follows (length inside) before inside (omega arith))
            (λ braces _. spaced_leads (L braces.0) (never braces.0) braces.1))
        go false is = let p =
            passed text in no_brace_follows before text p.blanks p.are p.parts p.ends is
