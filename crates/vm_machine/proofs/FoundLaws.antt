-- What is found in rows, put together row by row.
use Rattle.std.proofs.Common.{◌≡◌, Bool, true, false, cond, ◌||◌, ◌&&◌, List, [], ◌∷◌, ◌++◌, Option, Some, None, map, filter, refl, sym, ap, ◌∙◌, true≢false, subst, length}
use Rattle.std.specs.Option.{option_map}
use Rattle.std.proofs.lemmas.List.{length-map}
use Rattle.std.specs.BTreeMap.{is_at}
use Rattle.std.specs.List.{list_any}
use Rattle.std.specs.List.Sorted.{IsStrictlySortedBy}
use Rattle.std.specs.Map.{lookup, keys_of}
use Rattle.std.specs.Ordering.{is_eq}
use Rattle.vm_base.specs.declared.stamped.Stamped.{Stamped}
use Rattle.vm_base.specs.Sorted.{sorted, last_of, later}
use Rattle.vm_base.specs.Stamped.{is_in_order}
use Rattle.vm_base.specs.Thinned.{thinned}
use Rattle.vm_base.proofs.SortedLaws.{last_sorted_append}
use Rattle.vm_base.proofs.StampedLaws.{stamped_order}
use Rattle.vm_labels.specs.Labels.{label_cmp, label_eq}
use Rattle.vm_labels.specs.Selected.{selects}
use Rattle.vm_labels.specs.Ties.{labels_tie}
use Rattle.vm_labels.specs.declared.pair.Pair.{Pair}
use Rattle.vm_labels.specs.declared.row.Row.{Row}
use Rattle.vm_labels.proofs.OrderLaws.{label_eq-Decides, label_cmp-total, labels_tied}
use Rattle.vm_machine.specs.Eval.{series, lookback, no_pattern, eval, present, valued}
use Rattle.vm_machine.specs.Found.{found, last_of_series, values_of, value_of_entry}
use Rattle.vm_dedup.specs.Visible.{samples, stamped}
use Rattle.vm_machine.specs.Window.{is_within, last_within}
use Rattle.vm_machine.specs.inner.Put.{sample_within, at, sample_at, IsPut}
use Rattle.vm_machine.specs.declared.question.Question.{Question}
use Rattle.vm_machine.proofs.MapLaws.{same_entries}
use Rattle.vm_machine.proofs.SeriesLaws.{lookup-map, keys-map, ordered_any, ordered_strict}

-- where no interval is given, nothing is thinned out
pub thinned-none : (list : List Stamped) → thinned 0 list ≡ list
thinned-none [] = refl
thinned-none (s ∷ []) = refl
thinned-none (s ∷ next ∷ more) = ap (λ rest. s ∷ rest) (thinned-none (next ∷ more))

samples-append : (labels : List Pair) (here after : List Row)
    → samples labels (here ++ after) ≡ samples labels here ++ samples labels after
samples-append labels [] after = refl
samples-append labels (row ∷ here) after =
    go (label_eq labels row.labels) (samples-append labels here after)
  where
    go : (b : Bool) → samples labels (here ++ after) ≡ samples labels here ++ samples labels after
        → map stamped
        (cond b (row ∷ filter (λ (r : Row). label_eq labels r.labels) (here ++ after))
        (filter (λ (r : Row). label_eq labels r.labels) (here ++ after)))
        ≡ map stamped
        (cond b (row ∷ filter (λ (r : Row). label_eq labels r.labels) here)
        (filter (λ (r : Row). label_eq labels r.labels) here)) ++ samples labels after
    go true more = ap (λ rest. stamped row ∷ rest) more
    go false more = more

-- the last sample of a series in the window, and that of one row
abbrev of_row : Question → Row → List Pair → Option Stamped
of_row question row labels =
    cond (label_eq labels row.labels) (sample_within question.time row) None

last-row : (question : Question) (row : Row) (labels : List Pair)
    → last_within question.time lookback (sorted is_in_order (samples labels (row ∷ [])))
    ≡ of_row question row labels
last-row question row labels = go (label_eq labels row.labels)
  where
    one : (b : Bool) → last_of (cond b (stamped row ∷ []) []) ≡ cond b (Some (stamped row)) None
    one true = refl
    one false = refl

    go : (b : Bool)
        → last_of
        (filter (is_within question.time lookback)
        (sorted is_in_order (map stamped (cond b (row ∷ []) []))))
        ≡ cond b (sample_within question.time row) None
    go true = one (is_within question.time lookback (stamped row))
    go false = refl

last-append : (question : Question) (rows : List Row) (row : Row) (labels : List Pair)
    → last_of_series question (rows ++ row ∷ []) labels
    ≡ later is_in_order (last_of_series question rows labels) (of_row question row labels)
last-append question rows row labels =
    let all = samples labels (rows ++ row ∷ []) in
    ap (last_within question.time lookback) (thinned-none (sorted is_in_order all))
    ∙ ap (λ s. last_within question.time lookback (sorted is_in_order s))
    (samples-append labels rows (row ∷ []))
    ∙ last_sorted_append is_in_order stamped_order (is_within question.time lookback)
    (samples labels rows) (samples labels (row ∷ []))
    ∙ ap (λ s.
    later is_in_order (last_within question.time lookback s)
    (last_within question.time lookback (sorted is_in_order (samples labels (row ∷ [])))))
    (sym (thinned-none (sorted is_in_order (samples labels rows))))
    ∙ ap (later is_in_order (last_of_series question rows labels)) (last-row question row labels)

later-none : (one : Option Stamped) → later is_in_order one None ≡ one
later-none None = refl
later-none (Some s) = refl

or-false : (b : Bool) → (b || false) ≡ b
or-false true = refl
or-false false = refl

or-true : (b : Bool) → (b || true) ≡ true
or-true true = refl
or-true false = refl

-- the label sets of rows that pass a test
abbrev passed : (List Pair → Bool) → List Row → List (List Pair)
passed s rows = filter s (map (λ row. row.labels) rows)

any-more : (p s : List Pair → Bool) (rows : List Row) (row : Row)
    → list_any p (passed s (rows ++ row ∷ []))
    ≡ (list_any p (passed s rows) || (s row.labels && p row.labels))
any-more p s [] row = go (s row.labels)
  where
    go : (b : Bool) → list_any p (cond b (row.labels ∷ []) []) ≡ (b && p row.labels)
    go true = or-false (p row.labels)
    go false = refl
any-more p s (first ∷ rows) row = go (s first.labels) (any-more p s rows row)
  where
    or-assoc : (a b c : Bool) → (a || (b || c)) ≡ ((a || b) || c)
    or-assoc true b c = refl
    or-assoc false b c = refl

    go : (b : Bool)
        → list_any p (passed s (rows ++ row ∷ []))
        ≡ (list_any p (passed s rows) || (s row.labels && p row.labels))
        → list_any p
        (cond b (first.labels ∷ passed s (rows ++ row ∷ [])) (passed s (rows ++ row ∷ [])))
        ≡ (list_any p (cond b (first.labels ∷ passed s rows) (passed s rows))
        || (s row.labels && p row.labels))
    go true more = ap (λ b. p first.labels || b) more
        ∙ or-assoc (p first.labels) (list_any p (passed s rows)) (s row.labels && p row.labels)
    go false more = more

-- what was found passes the test
any-passes : (s : List Pair → Bool) (q : List Pair) (sets : List (List Pair))
    → list_any (label_eq q) (filter s sets) ≡ true → s q ≡ true
any-passes s q [] h = absurd (true≢false (sym h))
any-passes s q (x ∷ xs) h = go (s x) refl h (any-passes s q xs)
  where
    here : (b : Bool) → label_eq q x ≡ b → s x ≡ true
        → (b || list_any (label_eq q) (filter s xs)) ≡ true
        → (list_any (label_eq q) (filter s xs) ≡ true → s q ≡ true) → s q ≡ true
    here true e passes h more = ap s ((label_eq-Decides q x).0 e) ∙ passes
    here false e passes h more = more h

    go : (b : Bool) → s x ≡ b
        → list_any (label_eq q) (cond b (x ∷ filter s xs) (filter s xs)) ≡ true
        → (list_any (label_eq q) (filter s xs) ≡ true → s q ≡ true) → s q ≡ true
    go true passes h more = here (label_eq q x) refl passes h more
    go false passes h more = more h

-- where no row of a series is selected, though its label set is, it has no sample
none-held : (s : List Pair → Bool) (q : List Pair) (rows : List Row) → s q ≡ true
    → list_any (label_eq q) (passed s rows) ≡ false → samples q rows ≡ []
none-held s q [] selects none = refl
none-held s q (row ∷ rows) selects none =
    go (label_eq q row.labels) refl (s row.labels) refl none (none-held s q rows selects)
  where
    go : (b : Bool) → label_eq q row.labels ≡ b → (c : Bool) → s row.labels ≡ c
        → list_any (label_eq q) (cond c (row.labels ∷ passed s rows) (passed s rows)) ≡ false
        → (list_any (label_eq q) (passed s rows) ≡ false → samples q rows ≡ [])
        → map stamped
        (cond b (row ∷ filter (λ (r : Row). label_eq q r.labels) rows)
        (filter (λ (r : Row). label_eq q r.labels) rows)) ≡ []
    go true e true passes h more =
        absurd (true≢false (sym (ap (λ b. b || list_any (label_eq q) (passed s rows)) e) ∙ h))
    go true e false passes h more =
        absurd (true≢false (sym selects ∙ ap s ((label_eq-Decides q row.labels).0 e) ∙ passes))
    go false e true passes h more =
        more (sym (ap (λ b. b || list_any (label_eq q) (passed s rows)) e) ∙ h)
    go false e false passes h more = more h

module _ (question : Question) where
  abbrev is_chosen : List Pair → Bool
  is_chosen = selects no_pattern question.selector

  found_at : (rows : List Row) (q : List Pair) → lookup (is_at (label_cmp q)) (found question rows)
      ≡ cond (list_any (label_eq q) (passed is_chosen rows)) (Some (last_of_series question rows q))
      None
  unfolding found
  found_at rows q =
      lookup-map (last_of_series question rows) q (series question rows)
      ∙ ap (λ b. cond b (Some (last_of_series question rows q)) None)
      (ordered_any q (passed is_chosen rows))

  found_strict : (rows : List Row) → IsStrictlySortedBy label_cmp (keys_of (found question rows))
  unfolding found
  found_strict rows =
      subst (IsStrictlySortedBy label_cmp)
      (sym (keys-map (last_of_series question rows) (series question rows)))
      (ordered_strict (passed is_chosen rows))

  -- what a map has of a series that it has
  pub held_last : (rows : List Row) (q : List Pair) (last : Option Stamped)
      → lookup (is_at (label_cmp q)) (found question rows) ≡ Some last
      → last ≡ last_of_series question rows q
  held_last rows q last h =
      go (list_any (label_eq q) (passed is_chosen rows)) (sym (found_at rows q) ∙ h)
    where
      go : (b : Bool) → cond b (Some (last_of_series question rows q)) None ≡ Some last
          → last ≡ last_of_series question rows q
      go true e = cc e
      go false e = absurd cc

  -- a selected series that it hasn't has no sample
  pub held_none : (rows : List Row) (q : List Pair) → is_chosen q ≡ true
      → lookup (is_at (label_cmp q)) (found question rows) ≡ None
      → last_of_series question rows q ≡ None
  held_none rows q chosen h =
      go (list_any (label_eq q) (passed is_chosen rows)) refl (sym (found_at rows q) ∙ h)
    where
      go : (b : Bool) → list_any (label_eq q) (passed is_chosen rows) ≡ b
          → cond b (Some (last_of_series question rows q)) None ≡ None
          → last_of_series question rows q ≡ None
      go true e h = absurd cc
      go false e h =
          ap (λ s. last_within question.time lookback (thinned 0 (sorted is_in_order s)))
          (none-held is_chosen q rows chosen e)

  last-same : (rows : List Row) (row : Row) (q : List Pair) → label_eq q row.labels ≡ false
      → last_of_series question (rows ++ row ∷ []) q ≡ last_of_series question rows q
  last-same rows row q apart =
      last-append question rows row q
      ∙ ap (λ b.
      later is_in_order (last_of_series question rows q)
      (cond b (sample_within question.time row) None)) apart
      ∙ later-none (last_of_series question rows q)

  -- a row of a series that isn't selected changes nothing
  pub found-skipped : (rows : List Row) (row : Row) → is_chosen row.labels ≡ false
      → found question (rows ++ row ∷ []) ≡ found question rows
  found-skipped rows row skipped =
      same_entries label_cmp-total labels_tied (found question (rows ++ row ∷ []))
      (found question rows)
      (found_strict (rows ++ row ∷ [])) (found_strict rows)
      (λ q. found_at (rows ++ row ∷ []) q
      ∙ each q (label_eq q row.labels) refl (list_any (label_eq q) (passed is_chosen rows)) refl
      ∙ sym (found_at rows q))
    where
      same : (q : List Pair)
          → list_any (label_eq q) (passed is_chosen (rows ++ row ∷ []))
          ≡ list_any (label_eq q) (passed is_chosen rows)
      same q = any-more (label_eq q) is_chosen rows row
          ∙ ap (λ b. list_any (label_eq q) (passed is_chosen rows) || (b && label_eq q row.labels))
          skipped
          ∙ or-false (list_any (label_eq q) (passed is_chosen rows))

      each : (q : List Pair) → (b : Bool) → label_eq q row.labels ≡ b → (c : Bool)
          → list_any (label_eq q) (passed is_chosen rows) ≡ c
          → cond (list_any (label_eq q) (passed is_chosen (rows ++ row ∷ [])))
          (Some (last_of_series question (rows ++ row ∷ []) q)) None
          ≡ cond (list_any (label_eq q) (passed is_chosen rows))
          (Some (last_of_series question rows q)) None
      each q true e true h =
          absurd (true≢false
          (sym (any-passes is_chosen q (map (λ (r : Row). r.labels) rows) h)
          ∙ ap is_chosen ((label_eq-Decides q row.labels).0 e) ∙ skipped))
      each q true e false h = rw (same q, h) refl
      each q false e c h = rw (same q, last-same rows row q e) refl

  -- a row of a selected series makes its sample the later one
  pub found-added : (rows : List Row) (row : Row) (entries : List (List Pair × Option Stamped))
      → is_chosen row.labels ≡ true
      → IsStrictlySortedBy label_cmp (keys_of entries)
      → ((q : List Pair) → lookup (is_at (label_cmp q)) entries
      ≡ cond (is_eq (label_cmp row.labels q))
      (Some (later is_in_order (last_of_series question rows row.labels)
      (sample_within question.time row)))
      (lookup (is_at (label_cmp q)) (found question rows)))
      → entries ≡ found question (rows ++ row ∷ [])
  found-added rows row entries chosen up each =
      same_entries label_cmp-total labels_tied entries (found question (rows ++ row ∷ [])) up
      (found_strict (rows ++ row ∷ []))
      (λ q. each q
      ∙ ap (λ b.
      cond b (Some (new row.labels)) (lookup (is_at (label_cmp q)) (found question rows)))
      (sym (labels_tie row.labels q))
      ∙ go q (label_eq row.labels q) refl ∙ sym (found_at (rows ++ row ∷ []) q))
    where
      new : List Pair → Option Stamped
      new k = later is_in_order (last_of_series question rows k) (sample_within question.time row)

      grown : (q : List Pair) (b : Bool) → label_eq q row.labels ≡ b
          → list_any (label_eq q) (passed is_chosen (rows ++ row ∷ []))
          ≡ (list_any (label_eq q) (passed is_chosen rows) || b)
      grown q b e = any-more (label_eq q) is_chosen rows row
          ∙ ap (λ c. list_any (label_eq q) (passed is_chosen rows) || (c && label_eq q row.labels))
          chosen
          ∙ ap (λ c. list_any (label_eq q) (passed is_chosen rows) || c) e

      back : (q : List Pair) → row.labels ≡ q → label_eq q row.labels ≡ true
      back q e = (label_eq-Decides q row.labels).1 (sym e)

      apart : (q : List Pair) → label_eq row.labels q ≡ false → (b : Bool)
          → label_eq q row.labels ≡ b → label_eq q row.labels ≡ false
      apart q h true e =
          absurd (true≢false
          (sym ((label_eq-Decides row.labels q).1 (sym ((label_eq-Decides q row.labels).0 e))) ∙ h))
      apart q h false e = e

      go : (q : List Pair) (b : Bool) → label_eq row.labels q ≡ b
          → cond b (Some (new row.labels)) (lookup (is_at (label_cmp q)) (found question rows))
          ≡ cond (list_any (label_eq q) (passed is_chosen (rows ++ row ∷ [])))
          (Some (last_of_series question (rows ++ row ∷ []) q)) None
      go q true h =
          let e : row.labels ≡ q = (label_eq-Decides row.labels q).0 h in
          let there = grown q true (back q e)
          ∙ or-true (list_any (label_eq q) (passed is_chosen rows)) in
          let value : last_of_series question (rows ++ row ∷ []) q ≡ new q =
          last-append question rows row q
          ∙ ap (λ b.
          later is_in_order (last_of_series question rows q)
          (cond b (sample_within question.time row) None)) (back q e) in
          ap (λ k. Some (new k)) e ∙ sym (rw (there, value) refl)
      go q false h =
          let away = apart q h (label_eq q row.labels) refl in
          let there = grown q false away
          ∙ or-false (list_any (label_eq q) (passed is_chosen rows)) in
          found_at rows q ∙ sym (rw (there, last-same rows row q away) refl)

  -- the sample that stands at a selected series
  held : (rows : List Row) (q : List Pair) → is_chosen q ≡ true
      → sample_at (at (found question rows) q) ≡ last_of_series question rows q
  held rows q chosen = go (at (found question rows) q) refl
    where
      go : (there : Option (Option Stamped)) → at (found question rows) q ≡ there
          → sample_at there ≡ last_of_series question rows q
      go None h = sym (held_none rows q chosen h)
      go (Some last) h = held_last rows q last h

  pub found-put : (rows : List Row) (row : Row) (before now : List (List Pair × Option Stamped))
      → before ≡ found question rows
      → is_chosen row.labels ≡ true → IsPut before row.labels (sample_within question.time row) now
      → IsStrictlySortedBy label_cmp (keys_of now)
      → now ≡ found question (rows ++ row ∷ [])
  found-put rows row before now is chosen put up =
      found-added rows row now chosen up
      (λ q. put q
      ∙ ap (λ b.
      cond (is_eq (label_cmp row.labels q))
      (Some (later is_in_order (sample_at (at b row.labels)) (sample_within question.time row)))
      (at b q)) is
      ∙ ap (λ s.
      cond (is_eq (label_cmp row.labels q))
      (Some (later is_in_order s (sample_within question.time row))) (at (found question rows) q))
      (held rows row.labels chosen))

-- what no rows hold
pub found_empty : (question : Question) → found question [] ≡ []
unfolding found
found_empty question = refl

-- how many series are found
pub found_length : (question : Question) (rows : List Row)
    → length (found question rows) ≡ length (series question rows)
unfolding found
found_length question rows =
    length-map (series question rows) (λ labels. (labels, last_of_series question rows labels))

present-cons : {A : Type 0} (held : Option A) (xs ys : List (Option A)) → present xs ≡ present ys
    → present (held ∷ xs) ≡ present (held ∷ ys)
present-cons None xs ys same = same
present-cons (Some a) xs ys same = ap (λ rest. a ∷ rest) same

-- their values are the answer to the question, where nothing is thinned out
pub found_values : (question : Question) (rows : List Row)
    → values_of (found question rows) ≡ eval 0 question rows
unfolding found
found_values question rows = go (series question rows)
  where
    one : (labels : List Pair) (last : Option Stamped)
        → value_of_entry (labels, last)
        ≡ option_map (λ value. record { labels = labels; value = value })
        (option_map (λ (s : Stamped). s.value) last)
    one labels None = refl
    one labels (Some s) = refl

    go : (sets : List (List Pair))
        → present
        (map value_of_entry (map (λ labels. (labels, last_of_series question rows labels)) sets))
        ≡ present (map (valued 0 question rows) sets)
    go [] = refl
    go (labels ∷ sets) =
        ap (λ held.
        present (held
        ∷ map value_of_entry (map (λ l. (l, last_of_series question rows l)) sets)))
        (one labels (last_of_series question rows labels))
        ∙ present-cons (valued 0 question rows labels)
        (map value_of_entry (map (λ l. (l, last_of_series question rows l)) sets))
        (map (valued 0 question rows) sets) (go sets)
