-- The time of a row, read after its value.
use Rattle.std.proofs.Common.{◌≡◌, ◌≢◌, ◌⊎◌, inl, inr, ℕ, ◌+◌, Bool, true, false, cond, List, [], ◌∷◌, ◌++◌, length, take, drop, Result, Ok, Err, refl, ap, sym, subst, ◌∙◌, arith, true≢false, append-nil, length-append}
use Rattle.std.specs.Prelude.{◌==◌, not}
use Rattle.std.specs.Char.{is_ascii_digit}
use Rattle.std.specs.List.{list_all, prefix_len}
use Rattle.std.proofs.lemmas.Bool.{eqb-true, and_parts}
use Rattle.std.proofs.lemmas.Bool.Decides.{nat_tests}
use Rattle.std.proofs.lemmas.List.{take-append-drop, length-take-le}
use Rattle.std.proofs.lemmas.List.Sums.{prefix_len-le-length}
use Rattle.vm_promtext.specs.Grammar.{is_blank, AreBlank, Spaced, Parted, Counted, Timed}
use Rattle.vm_promtext.specs.Reading.{behind_blanks, until_end, digits_reading, time_reading}
use Rattle.vm_promtext.proofs.Leads.{Leads, Stops, leads_all, leads_on, leads_stops, stops_here}
use Rattle.vm_promtext.proofs.PartLaws.{NeverBegins, EndsAt, ends_same, ends_passing, one_span, spaced_behind, passed, parted_spaced}
use Rattle.vm_promtext.proofs.TokenLaws.{front_passes}
use Rattle.vm_promtext.proofs.ValuedLaws.{is_solid}

digit_not_blank : (byte : ℕ) → is_ascii_digit byte ≡ true → is_blank byte ≡ true → ⊥
digit_not_blank byte digit blank = grind (arith, nat_tests)

-- blanks to the line's end
pub all_blank : (text : List ℕ) → length (behind_blanks text) ≡ 0 → AreBlank text
all_blank [] none = tt
all_blank (byte ∷ text) none = go (is_blank byte) refl none (all_blank text)
  where
    go : (b : Bool) → is_blank byte ≡ b → length (cond b (behind_blanks text) (byte ∷ text)) ≡ 0
        → (length (behind_blanks text) ≡ 0 → AreBlank text) → AreBlank (byte ∷ text)
    go true blank none rest = (blank, rest none)
    go false blank none rest = absurd (omega arith)

pub blank_all : (text : List ℕ) → AreBlank text → behind_blanks text ≡ []
blank_all [] are = refl
blank_all (byte ∷ text) are = rw are.0 (blank_all text are.1)

pub blank_append : (a b : List ℕ) → AreBlank (a ++ b) → AreBlank b
blank_append [] b are = are
blank_append (byte ∷ a) b are = blank_append a b are.1

blank_ends : (text : List ℕ) → AreBlank text → EndsAt is_ascii_digit text
blank_ends [] are = tt
blank_ends (byte ∷ text) are = go (is_ascii_digit byte) refl
  where
    go : (b : Bool) → is_ascii_digit byte ≡ b → b ≡ false
    go true digit = absurd (digit_not_blank byte digit are.0)
    go false digit = refl

blank_both : (a b : List ℕ) → AreBlank a → AreBlank b → AreBlank (a ++ b)
blank_both [] b are_a are_b = are_b
blank_both (byte ∷ a) b are_a are_b = (are_a.0, blank_both a b are_a.1 are_b)

not_blank_none : (text : List ℕ) → EndsAt is_blank text → AreBlank text → text ≡ []
not_blank_none [] ends are = refl
not_blank_none (byte ∷ text) ends are = absurd (true≢false (sym are.0 ∙ ends))

digit_some : (text : List ℕ) → (prefix_len is_ascii_digit text ≡ 0 → ⊥)
    → take (prefix_len is_ascii_digit text) text ≢ []
digit_some text some none =
    let len : length (take (prefix_len is_ascii_digit text) text) ≡ prefix_len is_ascii_digit text =
    length-take-le (prefix_len is_ascii_digit text) text
    (prefix_len-le-length is_ascii_digit text) in
    some (sym len ∙ ap length none)

digit_first : (byte : ℕ) (text digits rest : List ℕ) → byte ∷ text ≡ digits ++ rest → digits ≢ []
    → list_all is_ascii_digit digits ≡ true → is_ascii_digit byte ≡ true
digit_first byte text [] rest parts some are = absurd (some refl)
digit_first byte text (d ∷ digits) rest parts some are =
    let same : byte ≡ d = cc in
    ap is_ascii_digit same ∙ (and_parts (is_ascii_digit d) (list_all is_ascii_digit digits) are).0

digit_count : (byte : ℕ) (text : List ℕ) → is_ascii_digit byte ≡ true
    → prefix_len is_ascii_digit (byte ∷ text) ≡ 0 → ⊥
digit_count byte text digit none =
    let len : prefix_len is_ascii_digit (byte ∷ text) ≡ 1 + prefix_len is_ascii_digit text =
    rw digit refl in
    absurd (omega arith)

-- digits with something after them
counted_is : (M : List ℕ → List ℕ → Type 0) (digits rest more : List ℕ)
    → list_all is_ascii_digit digits ≡ true → EndsAt is_ascii_digit more
    → ((d : List ℕ) (r : List ℕ) → M d r → AreBlank r) → (c : Counted M (digits ++ more))
    → (c.digits ≡ digits) × (c.rest ≡ more)
counted_is M digits rest more are ends blank c =
    one_span is_ascii_digit c.digits digits c.rest more c.are are
    (blank_ends c.rest (blank c.digits c.rest c.then)) ends (sym c.parts)

counted_none : (M : List ℕ → List ℕ → Type 0) → Counted M [] → ⊥
counted_none M c = go c.digits c.parts c.some
  where
    go : (digits : List ℕ) → [] ≡ digits ++ c.rest → digits ≢ [] → ⊥
    go [] parts some = some refl
    go (d ∷ digits) parts some = cc

counted_never : (M : List ℕ → List ℕ → Type 0) → NeverBegins is_blank (Counted M)
counted_never M byte more blank c =
    digit_not_blank byte (digit_first byte more c.digits c.rest c.parts c.some c.are) blank

-- ---- where a time is read

-- the blanks at the front, of which there is one, and what stands after them
record Gap (text : List ℕ) : Type 0 where
  blank : ℕ
  blanks : List ℕ
  is : is_blank blank ≡ true
  are : AreBlank blanks
  parts : text ≡ blank ∷ (blanks ++ behind_blanks text)
  ends : EndsAt is_blank (behind_blanks text)

gap_of : (text : List ℕ) → EndsAt is_solid text → (length (behind_blanks text) ≡ 0 → ⊥) → Gap text
gap_of text solid some = let p = passed text in go p.blanks p.are p.parts p.ends
  where
    nothing_there : (t : List ℕ) → EndsAt is_solid t → EndsAt is_blank t → length t ≡ 0
    nothing_there [] solid ends = refl
    nothing_there (byte ∷ t) solid ends = absurd (true≢false (sym (ap not ends) ∙ solid))

    go : (blanks : List ℕ) → AreBlank blanks → text ≡ blanks ++ behind_blanks text
        → EndsAt is_blank (behind_blanks text) → Gap text
    go [] are parts ends =
        absurd (some
        (ap length (sym parts)
        ∙ nothing_there text solid (subst (EndsAt is_blank) (sym parts) ends)))
    go (b ∷ blanks) are parts ends =
        record { blank = b; blanks = blanks; is = are.0; are = are.1; parts = parts; ends = ends }

module _ (K : List ℕ → ℕ → Type 0) where
  abbrev End : List ℕ → List ℕ → Type 0
  End digits rest = AreBlank rest × K digits (length digits + length rest)

  end_blank : (d r : List ℕ) → End d r → AreBlank r
  end_blank d r e = e.0

  -- no time
  pub no_time_in : (text : List ℕ) → length (behind_blanks text) ≡ 0 → K [] 0 → Timed K text
  no_time_in text none is = inl (all_blank text none, is)

  pub no_time_out : (text : List ℕ) → length (behind_blanks text) ≡ 0 → Timed K text → K [] 0
  no_time_out text none (inl t) = t.1
  no_time_out text none (inr p) =
      let whole : text ++ [] ≡ text = append-nil text in
      absurd (counted_none End
      (spaced_behind (Counted End) text [] (counted_never End) (all_blank text none) tt
      (subst (Spaced (Counted End)) (sym whole) (parted_spaced (Counted End) text p))))

  -- a time
  pub time_in : (text : List ℕ) → EndsAt is_solid text → (length (behind_blanks text) ≡ 0 → ⊥)
      → (prefix_len is_ascii_digit (behind_blanks text) ≡ 0 → ⊥)
      → length
      (behind_blanks (drop (prefix_len is_ascii_digit (behind_blanks text)) (behind_blanks text)))
      ≡ 0
      → K (take (prefix_len is_ascii_digit (behind_blanks text)) (behind_blanks text))
      (length (behind_blanks text)) → Timed K text
  time_in text solid some digit none is =
      let gap = gap_of text solid some in
      let rest = behind_blanks text in
      let n = prefix_len is_ascii_digit rest in
      let whole : take n rest ++ drop n rest ≡ rest = take-append-drop n rest in
      let len : length rest ≡ length (take n rest) + length (drop n rest) = sym (ap length whole)
      ∙ length-append (take n rest) (drop n rest) in
      inr (record {
        blank = gap.blank;
        rest = gap.blanks ++ rest;
        parts = gap.parts;
        is = gap.is;
        then = record {
          blanks = gap.blanks;
          rest = rest;
          parts = refl;
          are = gap.are;
          then = record {
            digits = take n rest;
            rest = drop n rest;
            parts = sym whole;
            some = digit_some rest digit;
            are = front_passes is_ascii_digit rest;
            then = (all_blank (drop n rest) none, subst (K (take n rest)) len is);
          };
        };
      })

  pub time_out : (text : List ℕ) → EndsAt is_solid text → (length (behind_blanks text) ≡ 0 → ⊥)
      → Timed K text
      → K (take (prefix_len is_ascii_digit (behind_blanks text)) (behind_blanks text))
      (length (behind_blanks text))
  time_out text solid some (inl t) = absurd (some (ap length (blank_all text t.0)))
  time_out text solid some (inr p) =
      let gap = gap_of text solid some in
      let rest = behind_blanks text in
      let n = prefix_len is_ascii_digit rest in
      let whole : take n rest ++ drop n rest ≡ rest = take-append-drop n rest in
      let spaced : Spaced (Counted End) ((gap.blank ∷ gap.blanks) ++ rest) =
      subst (Spaced (Counted End)) gap.parts (parted_spaced (Counted End) text p) in
      let c : Counted End rest =
      spaced_behind (Counted End) (gap.blank ∷ gap.blanks) rest (counted_never End)
      (gap.is, gap.are) gap.ends spaced in
      let d : Counted End (take n rest ++ drop n rest) = subst (Counted End) (sym whole) c in
      let one =
      counted_is End (take n rest) rest (drop n rest) (front_passes is_ascii_digit rest)
      (ends_passing is_ascii_digit rest) end_blank d in
      let len : length d.digits + length d.rest ≡ length rest = sym (length-append d.digits d.rest)
      ∙ ap length (sym d.parts) ∙ ap length whole in
      subst (λ e. K e (length rest)) one.0 (subst (K d.digits) len d.then.1)

-- ---- where none is read

-- the line's end after a value, whatever its time
abbrev Blanks : List ℕ → List ℕ → Type 0
Blanks digits rest = AreBlank rest

abbrev Tail : List ℕ → Type 0
Tail text = AreBlank text ⊎ Parted (Counted Blanks) text

abbrev Last : List ℕ → Type 0
Last text = (text ≡ []) ⊎ Counted Blanks text

blanks_are : (d r : List ℕ) → Blanks d r → AreBlank r
blanks_are d r is = is

tail_leads : (text : List ℕ) → Gap text → Leads Tail Last text (behind_blanks text)
tail_leads text gap = record {
  front = gap.blank ∷ gap.blanks;
  parts = gap.parts;
  into = λ more l. into more l;
  out = λ more same t. out more (ends_same is_blank (behind_blanks text) more same gap.ends) t;
}
  where
    into : (more : List ℕ) → Last more → Tail (gap.blank ∷ (gap.blanks ++ more))
    into more (inl none) =
        inl (gap.is, blank_both gap.blanks more gap.are (subst AreBlank (sym none) tt))
    into more (inr c) =
        inr (record {
          blank = gap.blank;
          rest = gap.blanks ++ more;
          parts = refl;
          is = gap.is;
          then = record { blanks = gap.blanks; rest = more; parts = refl; are = gap.are; then = c };
        })

    out : (more : List ℕ) → EndsAt is_blank more → Tail ((gap.blank ∷ gap.blanks) ++ more)
        → Last more
    out more ends (inl are) =
        inl (not_blank_none more ends (blank_append (gap.blank ∷ gap.blanks) more are))
    out more ends (inr p) =
        inr (spaced_behind (Counted Blanks) (gap.blank ∷ gap.blanks) more (counted_never Blanks)
        (gap.is, gap.are) ends
        (parted_spaced (Counted Blanks) ((gap.blank ∷ gap.blanks) ++ more) p))

last_stops : (text : List ℕ) → (length text ≡ 0 → ⊥) → prefix_len is_ascii_digit text ≡ 0
    → Stops Last text (length text)
last_stops text some none =
    stops_here Last text [] (inl refl) (λ byte rest other starts l. go byte rest other starts l)
    (λ empty l. some (ap length empty))
  where
    go : (byte : ℕ) (rest other : List ℕ) → text ≡ byte ∷ rest → Last (byte ∷ other) → ⊥
    go byte rest other starts (inl is) = cc (is)
    go byte rest other starts (inr c) =
        digit_count byte rest (digit_first byte other c.digits c.rest c.parts c.some c.are)
        (ap (prefix_len is_ascii_digit) (sym starts) ∙ none)

digits_lead : (text : List ℕ) → (prefix_len is_ascii_digit text ≡ 0 → ⊥)
    → Leads Last AreBlank text (drop (prefix_len is_ascii_digit text) text)
digits_lead text digit = record {
  front = take (prefix_len is_ascii_digit text) text;
  parts = sym (take-append-drop (prefix_len is_ascii_digit text) text);
  into = λ more are.
      inr (record {
        digits = take (prefix_len is_ascii_digit text) text;
        rest = more;
        parts = refl;
        some = digit_some text digit;
        are = front_passes is_ascii_digit text;
        then = are;
      });
  out = λ more same l.
      out (take (prefix_len is_ascii_digit text) text) more (digit_some text digit)
      (front_passes is_ascii_digit text)
      (ends_same is_ascii_digit (drop (prefix_len is_ascii_digit text) text) more same
      (ends_passing is_ascii_digit text)) l;
}
  where
    out : (digits more : List ℕ) → digits ≢ [] → list_all is_ascii_digit digits ≡ true
        → EndsAt is_ascii_digit more → Last (digits ++ more) → AreBlank more
    out [] more some are ends l = absurd (some refl)
    out (d ∷ digits) more some are ends (inl is) = cc (is)
    out (d ∷ digits) more some are ends (inr c) =
        let one = counted_is Blanks (d ∷ digits) more more are ends blanks_are c in
        subst AreBlank one.1 c.then

blanks_lead : (text : List ℕ) → Leads AreBlank AreBlank text (behind_blanks text)
blanks_lead text =
    let p = passed text in
    record {
      front = p.blanks;
      parts = p.parts;
      into = λ more are. blank_both p.blanks more p.are are;
      out =
          λ more same are. blank_append p.blanks more are;
    }

blanks_stop : (text : List ℕ) → EndsAt is_blank text → (length text ≡ 0 → ⊥)
    → Stops AreBlank text (length text)
blanks_stop text ends some =
    stops_here AreBlank text [] tt (λ byte rest other starts are. go byte rest starts are.0)
    (λ empty are. some (ap length empty))
  where
    go : (byte : ℕ) (rest : List ℕ) → text ≡ byte ∷ rest → is_blank byte ≡ true → ⊥
    go byte rest starts blank = let e : EndsAt is_blank (byte ∷ rest) =
        subst (EndsAt is_blank) starts ends in true≢false (sym blank ∙ e)

module _ (L : List ℕ → List ℕ → ℕ → Type 0)
    (goes : (text digits : List ℕ) (left : ℕ) → L text digits left) where
  abbrev pub TimedHere : List ℕ → Type 0
  TimedHere text = Timed (L text) text

  timed_in : (text : List ℕ) → Tail text → TimedHere text
  timed_in text (inl are) = inl (are, goes text [] 0)
  timed_in text (inr p) = inr (record {
    blank = p.blank;
    rest = p.rest;
    parts = p.parts;
    is = p.is;
    then = record {
      blanks = p.then.blanks;
      rest = p.then.rest;
      parts = p.then.parts;
      are = p.then.are;
      then = record {
        digits = p.then.then.digits;
        rest = p.then.then.rest;
        parts = p.then.then.parts;
        some = p.then.then.some;
        are = p.then.then.are;
        then = (
          p.then.then.then,
          goes text p.then.then.digits (length p.then.then.digits + length p.then.then.rest),
        );
      };
    };
  })

  timed_out : (text : List ℕ) → TimedHere text → Tail text
  timed_out text (inl t) = inl t.0
  timed_out text (inr p) = inr (record {
    blank = p.blank;
    rest = p.rest;
    parts = p.parts;
    is = p.is;
    then = record {
      blanks = p.then.blanks;
      rest = p.then.rest;
      parts = p.then.parts;
      are = p.then.are;
      then = record {
        digits = p.then.then.digits;
        rest = p.then.then.rest;
        parts = p.then.then.parts;
        some = p.then.then.some;
        are = p.then.then.are;
        then = p.then.then.then.0;
      };
    };
  })

  timed_leads : (text : List ℕ) → Leads TimedHere Tail text text
  timed_leads text = leads_all (λ more t. timed_in more t) (λ more same t. timed_out more t)

  pub time_stops : (text : List ℕ) (left : ℕ) → EndsAt is_solid text → time_reading text ≡ Err left
      → Stops TimedHere text left
  unfolding time_reading
  time_stops text left solid is = first (length (behind_blanks text) == 0) refl is
    where
      third : (b : Bool) → (length (behind_blanks text) ≡ 0 → ⊥)
          → (prefix_len is_ascii_digit (behind_blanks text) ≡ 0 → ⊥)
          → (length
          (behind_blanks
          (drop (prefix_len is_ascii_digit (behind_blanks text)) (behind_blanks text))) == 0) ≡ b
          → cond {A = Result (List ℕ × ℕ) ℕ} b
          (Ok (
            take (prefix_len is_ascii_digit (behind_blanks text)) (behind_blanks text),
            length (behind_blanks text),
          ))
          (Err (length
          (behind_blanks
          (drop (prefix_len is_ascii_digit (behind_blanks text)) (behind_blanks text)))))
          ≡ Err left
          → Stops TimedHere text left
      third true some digit test is = cc (is)
      third false some digit test is =
          let rest = behind_blanks text in
          let behind = drop (prefix_len is_ascii_digit rest) rest in
          let some_end : length (behind_blanks behind) ≡ 0 → ⊥ =
          λ none. true≢false (sym (ap (λ n. n == 0) none) ∙ test) in
          let same : length (behind_blanks behind) ≡ left = cc (is) in
          leads_stops
          (leads_on (timed_leads text)
          (leads_on (tail_leads text (gap_of text solid some))
          (leads_on (digits_lead rest digit) (blanks_lead behind)))) left
          (subst (Stops AreBlank (behind_blanks behind)) same
          (blanks_stop (behind_blanks behind) (passed behind).ends some_end))

      second : (b : Bool) → (length (behind_blanks text) ≡ 0 → ⊥)
          → (prefix_len is_ascii_digit (behind_blanks text) == 0) ≡ b
          → cond {A = Result (List ℕ × ℕ) ℕ} b (Err (length (behind_blanks text)))
          (until_end (behind_blanks text)
          (behind_blanks
          (drop (prefix_len is_ascii_digit (behind_blanks text)) (behind_blanks text)))) ≡ Err left
          → Stops TimedHere text left
      second true some test is =
          let same : length (behind_blanks text) ≡ left = cc (is) in
          leads_stops (leads_on (timed_leads text) (tail_leads text (gap_of text solid some))) left
          (subst (Stops Last (behind_blanks text)) same
          (last_stops (behind_blanks text) some
          (eqb-true (prefix_len is_ascii_digit (behind_blanks text)) 0 test)))
      second false some test is =
          third (length
          (behind_blanks
          (drop (prefix_len is_ascii_digit (behind_blanks text)) (behind_blanks text))) == 0)
          some (λ none. true≢false (sym (ap (λ n. n == 0) none) ∙ test)) refl is

      first : (b : Bool) → (length (behind_blanks text) == 0) ≡ b
          → cond {A = Result (List ℕ × ℕ) ℕ} b (Ok ([], 0)) (digits_reading (behind_blanks text))
          ≡ Err left → Stops TimedHere text left
      first true test is = cc (is)
      first false test is =
          second (prefix_len is_ascii_digit (behind_blanks text) == 0)
          (λ none. true≢false (sym (ap (λ n. n == 0) none) ∙ test)) refl is

-- what a time says that is read
pub record TimeRead (K : List ℕ → ℕ → Type 0) (text digits : List ℕ) (left : ℕ) : Type 0 where
  pub into : K digits left → Timed K text
  pub out : Timed K text → K digits left

pub time_reads : (K : List ℕ → ℕ → Type 0) (text : List ℕ) (read : List ℕ × ℕ)
    → EndsAt is_solid text → time_reading text ≡ Ok read → TimeRead K text read.0 read.1
unfolding time_reading
time_reads K text read solid is = first (length (behind_blanks text) == 0) refl is
  where
    third : (b : Bool) → (length (behind_blanks text) ≡ 0 → ⊥)
        → (prefix_len is_ascii_digit (behind_blanks text) ≡ 0 → ⊥)
        → (length
        (behind_blanks (drop (prefix_len is_ascii_digit (behind_blanks text)) (behind_blanks text)))
        == 0) ≡ b
        → cond {A = Result (List ℕ × ℕ) ℕ} b
        (Ok (
          take (prefix_len is_ascii_digit (behind_blanks text)) (behind_blanks text),
          length (behind_blanks text),
        ))
        (Err (length
        (behind_blanks
        (drop (prefix_len is_ascii_digit (behind_blanks text)) (behind_blanks text)))))
        ≡ Ok read
        → TimeRead K text read.0 read.1
    third true some digit test is =
        let same :
        ◌≡◌ {A = List ℕ × ℕ} (
          take (prefix_len is_ascii_digit (behind_blanks text)) (behind_blanks text),
          length (behind_blanks text),
        ) read = cc (is) in
        subst (λ r. TimeRead K text r.0 r.1) same (record {
          into = time_in K text solid some digit
              (eqb-true
              (length (behind_blanks
              (drop (prefix_len is_ascii_digit (behind_blanks text)) (behind_blanks text)))) 0
              test);
          out = time_out K text solid some;
        })
    third false some digit test is = cc (is)

    second : (b : Bool) → (length (behind_blanks text) ≡ 0 → ⊥)
        → (prefix_len is_ascii_digit (behind_blanks text) == 0) ≡ b
        → cond {A = Result (List ℕ × ℕ) ℕ} b (Err (length (behind_blanks text)))
        (until_end (behind_blanks text)
        (behind_blanks
        (drop (prefix_len is_ascii_digit (behind_blanks text)) (behind_blanks text)))) ≡ Ok read
        → TimeRead K text read.0 read.1
    second true some test is = cc (is)
    second false some test is =
        third (length
        (behind_blanks
        (drop (prefix_len is_ascii_digit (behind_blanks text)) (behind_blanks text))) == 0) some
        (λ none. true≢false (sym (ap (λ n. n == 0) none) ∙ test)) refl is

    first : (b : Bool) → (length (behind_blanks text) == 0) ≡ b
        → cond {A = Result (List ℕ × ℕ) ℕ} b (Ok ([], 0)) (digits_reading (behind_blanks text))
        ≡ Ok read → TimeRead K text read.0 read.1
    first true test is =
        let same : ◌≡◌ {A = List ℕ × ℕ} ([], 0) read = cc (is) in
        subst (λ r. TimeRead K text r.0 r.1) same (record {
          into = no_time_in K text (eqb-true (length (behind_blanks text)) 0 test);
          out = no_time_out K text (eqb-true (length (behind_blanks text)) 0 test);
        })
    first false test is =
        second (prefix_len is_ascii_digit (behind_blanks text) == 0)
        (λ none. true≢false (sym (ap (λ n. n == 0) none) ∙ test)) refl is

-- what stands after a value never begins with another byte than a blank
pub timed_blank : (K : List ℕ → ℕ → Type 0) (byte : ℕ) (more : List ℕ) → is_solid byte ≡ true
    → Timed K (byte ∷ more) → ⊥
timed_blank K byte more solid (inl t) = true≢false (sym solid ∙ ap not t.0.0)
timed_blank K byte more solid (inr p) = let same : byte ≡ p.blank =
    cc (p.parts) in true≢false (sym solid ∙ ap not (ap is_blank same ∙ p.is))
