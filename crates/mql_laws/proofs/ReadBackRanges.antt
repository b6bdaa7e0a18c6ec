-- What is read of the words of numbers, windows and offsets.
use Rattle.std.specs.Prelude.{◌≡◌, ◌⊎◌, ℕ, ◌<◌, Bool, true, false, List, [], ◌∷◌, ◌++◌, codes, Option, Some, None, ℤ}
use Rattle.std.proofs.Common.{refl, ap, sym, subst, ◌∙◌, arith, ⊎_elim}
use Rattle.vm_decimal.specs.Dec.{is_dec}
use Rattle.vm_decimal.specs.NumberText.{number_text}
use Rattle.vm_decimal.proofs.PrintedTexts.{printed_read}
use Rattle.mql_lex.specs.declared.span.Span.{Span}
use Rattle.mql_lex.specs.declared.token.TokenKind.TheVariants.{Name, Duration, Mark}
use Rattle.mql_expr.specs.Canonical.{word, mark, when, window_pieces, offset_pieces}
use Rattle.mql_expr.specs.Spans.{is_negative, span_text}
use Rattle.mql_lists.specs.Words.{Word}
use Rattle.mql_parse.specs.Grammar.{Offset, an_offset, offset_back as a_back, OffsetIfAny, no_offset, some_offset, Postfix, windowed, not_windowed}
use Rattle.mql_laws.specs.ReadBack.{IsAhead, IsBack, IsRange}
use Rattle.mql_parse.specs.Values.{number_of, or_none, or_zero, length_of, ahead, back}
use Rattle.mql_laws.proofs.ReadBackSpans.{ahead_sign, ahead_says, back_says, back_sign}
use Rattle.mql_laws.proofs.ReadBackWords.{Stand, no_piece, a_blank, a_word, word_at, is_open_square, is_close_square, is_minus, is_offset}

-- ---- no limit binds

abbrev pub outside : {A : Type 0} (at : ℕ) → at < 0 → A
outside at low = absurd (omega arith)

-- ---- numbers

pub number_says : (z : ℤ) → is_dec z ≡ true → or_zero (number_of (number_text z)) ≡ z
unfolding number_of
number_says z is = ap (λ r. or_zero (or_none r)) (printed_read z is)

-- ---- windows and offsets

-- what a span's word says, where it has a sign and where it has none
ahead_word : (span : Span) → IsAhead span → (is_negative span ≡ false)
    × (ahead (length_of (span_text span)) ≡ span)
ahead_word span is = (
  ap is_negative is.2 ∙ ahead_sign is.0,
  ap (λ s. ahead (length_of (span_text s))) is.2
      ∙ ap ahead (ahead_says is.0 is.1) ∙ sym is.2,
)

back_word : (span : Span) → IsBack span → back (length_of (span_text span)) ≡ span
back_word span is = ap (λ s. back (length_of (span_text s))) is.2 ∙ ap back (back_says is.0 is.1)
    ∙ sym is.2

-- a span that could go back, without a sign
back_nothing : (span : Span) → IsBack span → is_negative span ≡ false
    → ahead (length_of (span_text span)) ≡ span
back_nothing span is apart =
    let none = back_sign is.0 (ap is_negative (sym is.2) ∙ apart) in
    ap (λ s. ahead (length_of (span_text s))) is.2
    ∙ ap ahead (back_says is.0 is.1)
    ∙ ap ahead none ∙ ap back (sym none) ∙ sym is.2

record OffsetRead (span : Span) (ws rest : List Word) : Type 0 where
  at : ℕ
  reads : Offset 0 at ws rest span

module _ (span : Span) where
  signless : IsAhead span ⊎ IsBack span → is_negative span ≡ false
      → ahead (length_of (span_text span)) ≡ span
  signless is none = ⊎_elim (λ a. (ahead_word span a).1) (λ b. back_nothing span b none) is

  signed : IsAhead span ⊎ IsBack span → is_negative span ≡ true
      → back (length_of (span_text span)) ≡ span
  signed is some =
      ⊎_elim (λ a. absurd (cc (some, (ahead_word span a).0))) (λ b. back_word span b) is

  behind_offset : (at : ℕ) → IsAhead span ⊎ IsBack span → (b : Bool) → is_negative span ≡ b
      → (more rest : List Word)
      → Stand (when b (mark (codes "-") ∷ []) ++ word Duration (span_text span) ∷ []) more rest
      → OffsetRead span (word_at at Name (codes "offset") ∷ more) rest
  behind_offset at is true some more rest (a_word m (a_word d no_piece)) = record {
    at = at;
    reads = subst (Offset 0 at
        (word_at at Name (codes "offset") ∷ word_at m Mark (codes "-")
        ∷ word_at d Duration (span_text span) ∷ rest) rest) (signed is some)
        (a_back (word_at at Name (codes "offset")) (word_at m Mark (codes "-"))
        (word_at d Duration (span_text span)) (is_offset at) (is_minus m) refl (outside d));
  }
  behind_offset at is false none more rest (a_word d no_piece) = record {
    at = at;
    reads = subst (Offset 0 at
        (word_at at Name (codes "offset") ∷ word_at d Duration (span_text span) ∷ rest) rest)
        (signless is none)
        (an_offset (word_at at Name (codes "offset")) (word_at d Duration (span_text span))
        (is_offset at) refl (outside d));
  }

  offset_back : IsAhead span ⊎ IsBack span → (ws rest : List Word)
      → Stand (offset_pieces (Some span)) ws rest → OffsetRead span ws rest
  offset_back is ws rest (a_blank (a_word {ws = more} at (a_blank all))) =
      behind_offset at is (is_negative span) refl more rest all

  in_squares : (at : ℕ) (offset : Option Span) → IsAhead span → (rest : List Word) → (b : Bool)
      → is_negative span ≡ b → (more mid : List Word)
      → Stand ((when b (mark (codes "-") ∷ []) ++ word Duration (span_text span) ∷ [])
      ++ mark (codes "]") ∷ []) more mid → OffsetIfAny 0 mid rest offset
      → Postfix 0 at (word_at at Mark (codes "[") ∷ more) rest (Some span) offset
  in_squares at offset is rest true some more mid all behind =
      absurd (cc (some, (ahead_word span is).0))
  in_squares at offset is rest false none more mid (a_word d (a_word e no_piece)) behind =
      subst (λ s.
      Postfix 0 at
      (word_at at Mark (codes "[") ∷ word_at d Duration (span_text span)
      ∷ word_at e Mark (codes "]") ∷ mid) rest (Some s) offset) (ahead_word span is).1
      (windowed (word_at at Mark (codes "[")) (word_at d Duration (span_text span))
      (word_at e Mark (codes "]")) (is_open_square at) refl (outside d) (is_close_square e)
      behind)

  -- a window with whatever stands after it
  window_back : (offset : Option Span) → IsAhead span → (ws mid rest : List Word)
      → Stand (window_pieces (Some span)) ws mid
      → OffsetIfAny 0 mid rest offset → (at : ℕ) × Postfix 0 at ws rest (Some span) offset
  window_back offset is ws mid rest (a_word {ws = more} at all) behind =
      (at, in_squares at offset is rest (is_negative span) refl more mid all behind)

pub record PostfixRead (window offset : Option Span) (ws rest : List Word) : Type 0 where
  pub at : ℕ
  pub reads : Postfix 0 at ws rest window offset

pub postfix_back : (window offset : Option Span) → IsRange window offset → (ws mid rest : List Word)
    → Stand (window_pieces window) ws mid
    → Stand (offset_pieces offset) mid rest → PostfixRead window offset ws rest
postfix_back None None is ws mid rest first second = absurd is
postfix_back None (Some span) is ws mid rest no_piece second =
    let o = offset_back span is mid rest second in
    record { at = o.at; reads = not_windowed o.reads }
postfix_back (Some window) None is ws mid rest first no_piece =
    let w = window_back window None is ws mid mid first no_offset in
    record { at = w.0; reads = w.1 }
postfix_back (Some window) (Some span) is ws mid rest first second =
    let o = offset_back span is.1 mid rest second in
    let w = window_back window (Some span) is.0 ws mid rest first (some_offset o.reads) in
    record { at = w.0; reads = w.1 }
