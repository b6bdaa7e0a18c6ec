-- What the reader finds is what the line means.
use Rattle.std.proofs.Common.{◌≡◌, inl, inr, ℕ, ◌-◌, ◌<◌, ◌≤◌, Bool, true, false, cond, List, [], ◌∷◌, length, drop, Result, Ok, Err, refl, ap, sym, subst, ◌∙◌, arith, true≢false, le-ltb, lt-ltb}
use Rattle.std.specs.Prelude.{◌==◌, ◌||◌, slice_index, nat_lt, ⊤}
use Rattle.std.proofs.lemmas.Bool.{eqb-true}
use Rattle.std.proofs.lemmas.Bool.Decides.{nat_tests}
use Rattle.vm_base.specs.FirstWrong.{FirstWrong}
use Rattle.vm_base.proofs.RunLaws.{none_wrong, one_place}
use Rattle.vm_decimal.specs.SampleReading.{sample_reading}
use Rattle.vm_decimal.specs.SampleText.{Says}
use Rattle.vm_decimal.proofs.SampleReadings.{says, one_reading as one_value}
use Rattle.vm_decimal.specs.declared.sample_text.NumFault.{NumFault}
use Rattle.vm_decimal.specs.declared.sample_text.SampleText.{SampleText}
use Rattle.vm_labels.specs.Labels.{built}
use Rattle.vm_labels.specs.Name.{begins_name}
use Rattle.vm_labels.specs.declared.pair.Pair.{Pair}
use Rattle.vm_promtext.specs.Grammar.{is_blank, AreBlank, Spaced, Marked, Named, Written, name_pair, RowText, Writes, SaysNothing, IsLine}
use Rattle.vm_promtext.specs.Means.{IsReading, too_long, nothing, broken, written}
use Rattle.vm_promtext.specs.Outcome.{time_of, kept, with_value, outcome}
use Rattle.vm_promtext.specs.Reading.{◌>>=◌, behind_blanks, row_reading, line_reading, or_skipped, reading}
use Rattle.vm_promtext.specs.declared.line.Line.{Line}
use Rattle.vm_promtext.specs.declared.line.Line.TheVariants.{Nothing, Skipped}
use Rattle.vm_promtext.proofs.Leads.{SameStart, Leads, behind, leads_stops, leads_in, leads_out}
use Rattle.vm_promtext.proofs.PartLaws.{NeverBegins, EndsAt, ends_same, spaced_leads, spaced_behind, marked_never, marked_first, marked_none, named_never, named_nothing, first_mark, not_mark, Passed, passed}
use Rattle.vm_promtext.proofs.HandedLaws.{with_labels_map}
use Rattle.vm_promtext.proofs.PairLaws.{name_not_blank}
use Rattle.vm_promtext.proofs.TimeLaws.{all_blank, blank_all, blank_append}
use Rattle.vm_promtext.proofs.RowLaws.{parts_reading, said, row_is, Behind, OfPairs, OfName, row_read, row_stops}

-- any row, whatever it writes
abbrev Any : Written → Type 0
Any parts = ⊤

abbrev OfRow : (Written → Type 0) → List ℕ → Type 0
OfRow P = Named (OfName P)

row_not_blank : (P : Written → Type 0) → NeverBegins is_blank (OfRow P)
row_not_blank P = named_never is_blank (OfName P) name_not_blank

comment_not_blank : NeverBegins is_blank (Marked 35 (λ _. ⊤))
comment_not_blank = marked_never is_blank 35 (λ _. ⊤) refl

-- a line whose first byte that is no blank begins no comment
record Rows (line : List ℕ) : Type 0 where
  some : length (behind_blanks line) ≡ 0 → ⊥
  other : (slice_index (behind_blanks line) 0 == 35) ≡ false

same_len : (text more : List ℕ) → SameStart text more → (length text ≡ 0 → ⊥) → more ≡ [] → ⊥
same_len [] more same some none = some refl
same_len (a ∷ text) [] same some none = same
same_len (a ∷ text) (b ∷ more) same some none = cc (none)

no_comment : (text more : List ℕ) → (slice_index text 0 == 35) ≡ false → SameStart text more
    → Marked 35 (λ _. ⊤) more → ⊥
no_comment [] [] other same m = marked_none 35 (λ _. ⊤) m
no_comment [] (b ∷ more) other same m = same
no_comment (a ∷ text) [] other same m = same
no_comment (a ∷ text) (b ∷ more) other same m =
    not_mark 35 a text other (same ∙ marked_first 35 (λ _. ⊤) b more m)

line_leads : (line : List ℕ) → Rows line → Leads IsLine (OfRow Any) line (behind_blanks line)
line_leads line rows =
    let p = passed line in
    record {
      front = p.blanks;
      parts = p.parts;
      into = λ more row.
          inr (record { blanks = p.blanks; rest = more; parts = refl; are = p.are; then = row });
      out = λ more same is.
          let ends = ends_same is_blank (behind_blanks line) more same p.ends in
          elim is [
            | inl nothing_said ↦ elim nothing_said [
              | inl are ↦
                  absurd (same_len (behind_blanks line) more same rows.some
                  (none_blank more ends (blank_append p.blanks more are)))
              | inr comment ↦
                  absurd (no_comment (behind_blanks line) more rows.other same
                  (spaced_behind (Marked 35 (λ _. ⊤)) p.blanks more comment_not_blank p.are ends
                  comment))
            ]
            | inr row ↦ spaced_behind (OfRow Any) p.blanks more (row_not_blank Any) p.are ends row
          ];
    }
  where
    none_blank : (text : List ℕ) → EndsAt is_blank text → AreBlank text → text ≡ []
    none_blank [] ends are = refl
    none_blank (byte ∷ text) ends are = absurd (true≢false (sym are.0 ∙ ends))

row_leads : (P : Written → Type 0) (line : List ℕ)
    → Leads (RowText P) (OfRow P) line (behind_blanks line)
row_leads P line = spaced_leads (OfRow P) (row_not_blank P) line

-- what the reading of a line says
pub data LineSays (now : ℕ) (line : List ℕ) : Result Line ℕ → Type 0 where
  says_nothing : SaysNothing line → LineSays now line (Ok Nothing)
  says_row : (parts : Written) → Writes line parts
      → LineSays now line (Ok (outcome now line parts (sample_reading parts.value)))
  says_wrong : (left : ℕ) → FirstWrong IsLine line (length line - left)
      → LineSays now line (Err left)

row_says : (now : ℕ) (line : List ℕ) → Rows line
    → LineSays now line (row_reading now line (behind_blanks line))
row_says now line rows =
    subst (LineSays now line) (sym (row_is now line (behind_blanks line)))
    (go (parts_reading (behind_blanks line)) refl)
  where
    go : (r : Result (Result SampleText NumFault × Written) ℕ)
        → parts_reading (behind_blanks line) ≡ r
        → LineSays now line (r >>= (λ read. Ok (said now line read)))
    go (Ok read) is =
        let row = row_read (λ other. other ≡ read.1) (behind_blanks line) read is in
        let writes : Writes line read.1 =
        leads_in (row_leads (λ other. other ≡ read.1) line) (row.into refl) in
        let same : said now line read ≡ outcome now line read.1 (sample_reading read.1.value) =
        ap (λ number.
        with_value number (length line - read.1.value_left) (length line - read.1.time_left)
        (time_of now read.1.digits) (kept (built read.1.pairs))) row.number in
        subst (λ l. LineSays now line (Ok l)) (sym same) (says_row read.1 writes)
    go (Err left) is =
        says_wrong left
        (leads_stops (line_leads line rows) left
        (row_stops Any (λ parts. tt) (behind_blanks line) left is)).first

pub line_says : (now : ℕ) (line : List ℕ) → LineSays now line (line_reading now line)
unfolding line_reading
line_says now line =
    go (length (behind_blanks line) == 0) (slice_index (behind_blanks line) 0 == 35) refl refl
  where
    go : (a b : Bool) → (length (behind_blanks line) == 0) ≡ a
        → (slice_index (behind_blanks line) 0 == 35) ≡ b
        → LineSays now line (cond (a || b) (Ok Nothing) (row_reading now line (behind_blanks line)))
    go true b none hash =
        says_nothing (inl (all_blank line (eqb-true (length (behind_blanks line)) 0 none)))
    go false true none hash =
        let p = passed line in
        let starts = first_mark 35 (behind_blanks line) (omega arith) hash in
        says_nothing
        (inr (record {
          blanks = p.blanks;
          rest = behind_blanks line;
          parts = p.parts;
          are = p.are;
          then =
              record { rest = drop 1 (behind_blanks line); parts = starts; then = tt };
        }))
    go false false none hash =
        row_says now line
        (record { some = λ empty. true≢false (sym (ap (λ n. n == 0) empty) ∙ none); other = hash })

-- a line is read as what it means
pub reading_is : (now : ℕ) (line : List ℕ) → IsReading now line (reading now line)
unfolding reading
reading_is now line = go (nat_lt 4194304 (length line)) refl
  where
    short : (r : Result Line ℕ) → length line ≤ 4194304 → LineSays now line r
        → IsReading now line (or_skipped (length line) r)
    short (Ok l) few (says_nothing is) = nothing few is
    short (Ok l) few (says_row parts writes) =
        written few parts writes (sample_reading parts.value) (says parts.value)
    short (Err left) few (says_wrong n first) = broken few (length line - left) first

    go : (b : Bool) → nat_lt 4194304 (length line) ≡ b
        → IsReading now line
        (cond b (Skipped 4194304) (or_skipped (length line) (line_reading now line)))
    go true long = too_long (grind (arith, nat_tests))
    go false long = short (line_reading now line) (grind (arith, nat_tests)) (line_says now line)

pub all_mean : (now : ℕ) (line : List ℕ) (l : Line) → l ≡ reading now line → IsReading now line l
all_mean now line l is = subst (IsReading now line) (sym is) (reading_is now line)

-- ---- a line means one thing

any_tail : (P : Written → Type 0) (pairs : List Pair) (value behind : List ℕ)
    → Behind P pairs value behind → Behind Any pairs value behind
any_tail P pairs value behind (inl t) = inl (t.0, tt)
any_tail P pairs value behind (inr p) = inr (record {
  blank = p.blank;
  rest = p.rest;
  parts = p.parts;
  is = p.is;
  then = record {
    blanks = p.then.blanks;
    rest = p.then.rest;
    parts = p.then.parts;
    are = p.then.are;
    then = record {
      digits = p.then.then.digits;
      rest = p.then.then.rest;
      parts = p.then.then.parts;
      some = p.then.then.some;
      are = p.then.then.are;
      then = (p.then.then.then.0, tt);
    };
  };
})

any_value : (P : Written → Type 0) (pairs : List Pair) (text : List ℕ) → OfPairs P pairs text
    → OfPairs Any pairs text
any_value P pairs text v =
    record {
      value = v.value;
      rest = v.rest;
      parts = v.parts;
      is = v.is;
      then = any_tail P pairs v.value v.rest v.then;
    }

any_named : (P : Written → Type 0) (text : List ℕ) → OfRow P text → OfRow Any text
any_named P text n =
    record {
      name = n.name;
      rest = n.rest;
      parts = n.parts;
      is = n.is;
      then = with_labels_map (OfPairs P) (OfPairs Any) (any_value P) (name_pair n.name ∷ []) n.rest
          n.then;
    }

any_row : (P : Written → Type 0) (line : List ℕ) → RowText P line → RowText Any line
any_row P line s =
    record {
      blanks = s.blanks;
      rest = s.rest;
      parts = s.parts;
      are = s.are;
      then = any_named P s.rest s.then;
    }

-- a line writes one thing
pub one_written : (line : List ℕ) (a b : Written) → Writes line a → Writes line b → a ≡ b
one_written line a b writes_a writes_b = go (parts_reading (behind_blanks line)) refl
  where
    text : List ℕ
    text = behind_blanks line

    go : (r : Result (Result SampleText NumFault × Written) ℕ)
        → parts_reading (behind_blanks line) ≡ r → a ≡ b
    go (Ok read) is =
        let of_a : read.1 ≡ a =
        (row_read (λ other. other ≡ a) (behind_blanks line) read is).out
        (leads_out (row_leads (λ other. other ≡ a) line) writes_a) in
        let of_b : read.1 ≡ b =
        (row_read (λ other. other ≡ b) (behind_blanks line) read is).out
        (leads_out (row_leads (λ other. other ≡ b) line) writes_b) in
        sym of_a ∙ of_b
    go (Err left) is =
        let stops = row_stops Any (λ parts. tt) (behind_blanks line) left is in
        absurd (none_wrong (OfRow Any) (behind_blanks line) (length (behind_blanks line) - left)
        (any_named (λ other. other ≡ a) (behind_blanks line)
        (leads_out (row_leads (λ other. other ≡ a) line) writes_a)) stops.first)

-- what says nothing has no row
apart_lines : (P : Written → Type 0) (line : List ℕ) → SaysNothing line → RowText P line → ⊥
apart_lines P line says row = go (passed line) says (leads_out (row_leads P line) row)
  where
    name_no_hash : (byte : ℕ) → begins_name byte ≡ true → (byte == 35) ≡ true → ⊥
    name_no_hash byte name hash = grind (arith, nat_tests)

    hash_first : (text : List ℕ) → Marked 35 (λ _. ⊤) text → OfRow P text → ⊥
    hash_first [] m n = marked_none 35 (λ _. ⊤) m
    hash_first (byte ∷ text) m n =
        named_never (λ b. b == 35) (OfName P) name_no_hash byte text
        (ap (λ b. b == 35) (marked_first 35 (λ _. ⊤) byte text m)) n

    go : Passed line → SaysNothing line → OfRow P (behind_blanks line) → ⊥
    go p (inl are) n = named_nothing (OfName P) (subst (OfRow P) (blank_all line are) n)
    go p (inr comment) n =
        hash_first (behind_blanks line)
        (spaced_behind (Marked 35 (λ _. ⊤)) p.blanks (behind_blanks line) comment_not_blank
        p.are p.ends (subst (Spaced (Marked 35 (λ _. ⊤))) p.parts comment)) n

pub one_reading : (now : ℕ) (line : List ℕ) (l : Line) → IsReading now line l → l ≡ reading now line
unfolding reading
one_reading now line l is = go l is
  where
    short_is : length line ≤ 4194304
        → reading now line ≡ or_skipped (length line) (line_reading now line)
    short_is few = rw (le-ltb 4194304 (length line) few) refl

    long_is : 4194304 < length line → reading now line ≡ Skipped 4194304
    long_is many = rw (lt-ltb 4194304 (length line) many) refl

    of_nothing : (r : Result Line ℕ) → SaysNothing line → LineSays now line r
        → Nothing ≡ or_skipped (length line) r
    of_nothing (Ok l) is (says_nothing other) = refl
    of_nothing (Ok l) is (says_row parts writes) =
        absurd (apart_lines (λ other. other ≡ parts) line is writes)
    of_nothing (Err left) is (says_wrong n first) =
        absurd (none_wrong IsLine line (length line - left) (inl is) first)

    of_broken : (r : Result Line ℕ) (at : ℕ) → FirstWrong IsLine line at → LineSays now line r
        → Skipped at ≡ or_skipped (length line) r
    of_broken (Ok l) at first (says_nothing other) =
        absurd (none_wrong IsLine line at (inl other) first)
    of_broken (Ok l) at first (says_row parts writes) =
        absurd (none_wrong IsLine line at (inr (any_row (λ other. other ≡ parts) line writes))
        first)
    of_broken (Err left) at first (says_wrong n other) =
        ap Skipped (one_place IsLine line at (length line - left) first other)

    of_written : (r : Result Line ℕ) (parts : Written) → Writes line parts → LineSays now line r
        → outcome now line parts (sample_reading parts.value) ≡ or_skipped (length line) r
    of_written (Ok l) parts writes (says_nothing other) =
        absurd (apart_lines (λ w. w ≡ parts) line other writes)
    of_written (Ok l) parts writes (says_row others other) =
        ap (λ w. outcome now line w (sample_reading w.value))
        (one_written line parts others writes other)
    of_written (Err left) parts writes (says_wrong n first) =
        absurd (none_wrong IsLine line (length line - left)
        (inr (any_row (λ w. w ≡ parts) line writes)) first)

    go : (l : Line) → IsReading now line l → l ≡ reading now line
    go l (too_long many) = sym (long_is many)
    go l (nothing few is) = of_nothing (line_reading now line) is (line_says now line)
        ∙ sym (short_is few)
    go l (broken few at first) = of_broken (line_reading now line) at first (line_says now line)
        ∙ sym (short_is few)
    go l (written few parts writes number says_number) =
        ap (outcome now line parts)
        (one_value parts.value number (sample_reading parts.value) says_number
        (says parts.value))
        ∙ of_written (line_reading now line) parts writes (line_says now line) ∙ sym (short_is few)
