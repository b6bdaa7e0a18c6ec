-- How far the machine goes: the longest piece at the front of a text.
use Rattle.std.specs.Prelude.{◌≡◌, ◌⊎◌, ℕ, suc, ◌+◌, ◌<◌, ◌≤◌, Bool, true, false, List, [], ◌∷◌, ◌++◌, length, take, drop, Option, Some, None, IsSome, option_and_then, ◌==◌, ◌||◌, not, ⊤}
use Rattle.std.specs.Char.{is_ascii_digit}
use Rattle.std.specs.Option.{option_map_or}
use Rattle.std.proofs.Common.{cond, refl, arith, sym, ap, subst, ◌∙◌, inl, inr, ⊎_elim, append_assoc, length-append}
use Rattle.std.proofs.Math.Seq.{drop-append_seam}
use Rattle.std.proofs.lemmas.Bool.{true≢false}
use Rattle.std.proofs.lemmas.Bool.Decides.{nat_tests}
use Rattle.std.proofs.lemmas.List.{take-append-drop, length-take-le, length-take}
use Rattle.vm_base.specs.Run.{run}
use Rattle.mql_lex.specs.Grammar.{may_end, is_word_byte, is_blank}
use Rattle.vm_base.proofs.RunLaws.{run-append}
use Rattle.vm_labels.specs.Name.{is_name_byte}
use Rattle.mql_lex.specs.Machine.{next, piece_of, is_mark_letter, is_unit, behind_count, behind_whole, digit_or, only_if}
use Rattle.mql_lex.specs.Reading.{reach, ended, piece_reading}
use Rattle.mql_lex.specs.Tokens.{IsLongest, NoPiece}
use Rattle.mql_lex.specs.declared.phase.Phase.{Phase}
use Rattle.mql_lex.specs.declared.phase.Phase.TheVariants.{Start, Named, Whole, Bare, Fraction, Marked, MarkSigned, Power, Minutes, Counted, Counting, Within, Escaped, Closed, Marking, Equals, Bang, Angle, Blanks, Comment}
use Rattle.mql_lex.specs.declared.piece.Piece.{Piece}
use Rattle.mql_lex.specs.declared.piece.Piece.TheVariants.{Token, Gap}
use Rattle.mql_lex.specs.declared.token.TokenKind.TheVariants.{Name, Number, Duration, Mark}
use Rattle.mql_lex.proofs.Moves.{Reads}
use Rattle.mql_lex.proofs.FromRead.{piece_from_read}
use Rattle.mql_lex.proofs.ToRead.{read_from_piece}

-- ---- how far it goes

abbrev Reached : Phase → List ℕ → Option Phase → ℕ × Phase
Reached phase more o =
    option_map_or (λ behind. (suc (reach behind more).0, (reach behind more).1)) o (0, phase)

-- what it reads of a text is no longer than what it reaches
pub reach_longest : (front more : List ℕ) (phase last : Phase) → run next phase front ≡ Some last
    → length front ≤ (reach phase (front ++ more)).0
reach_longest [] more phase last reads = omega arith
reach_longest (byte ∷ front) more phase last reads =
    go (next phase byte) reads (λ behind. reach_longest front more behind last)
  where
    go : (o : Option Phase) → option_and_then (λ t. run next t front) o ≡ Some last
        → ((behind : Phase) → run next behind front ≡ Some last
        → length front ≤ (reach behind (front ++ more)).0)
        → suc (length front) ≤ (Reached phase (front ++ more) o).0
    go None reads tail = absurd (cc reads)
    go (Some behind) reads tail = let shorter = tail behind reads in omega (arith, shorter)

-- and what it reaches is read
pub reach_read : (text : List ℕ) (phase : Phase)
    → run next phase (take (reach phase text).0 text) ≡ Some (reach phase text).1
reach_read [] phase = refl
reach_read (byte ∷ more) phase = go (next phase byte) refl (λ behind. reach_read more behind)
  where
    go : (o : Option Phase) → next phase byte ≡ o
        → ((behind : Phase)
        → run next behind (take (reach behind more).0 more) ≡ Some (reach behind more).1)
        → run next phase (take (Reached phase more o).0 (byte ∷ more))
        ≡ Some (Reached phase more o).1
    go None is tail = refl
    go (Some behind) is tail =
        ap (λ o. option_and_then (λ t. run next t (take (reach behind more).0 more)) o) is
        ∙ tail behind

pub reach_within : (text : List ℕ) (phase : Phase) → (reach phase text).0 ≤ length text
reach_within [] phase = omega arith
reach_within (byte ∷ more) phase = go (next phase byte) (λ behind. reach_within more behind)
  where
    go : (o : Option Phase) → ((behind : Phase) → (reach behind more).0 ≤ length more)
        → (Reached phase more o).0 ≤ suc (length more)
    go None tail = omega arith
    go (Some behind) tail = let shorter = tail behind in omega (arith, shorter)

-- after what it reads it goes on from there
reach_behind : (front more : List ℕ) (phase last : Phase) → run next phase front ≡ Some last
    → ((reach phase (front ++ more)).0 ≡ length front + (reach last more).0)
    × ((reach phase (front ++ more)).1 ≡ (reach last more).1)
reach_behind [] more phase last reads =
    let same : phase ≡ last = cc reads in
    (ap (λ p. (reach p more).0) same ∙ omega arith, ap (λ p. (reach p more).1) same)
reach_behind (byte ∷ front) more phase last reads =
    go (next phase byte) reads (λ behind. reach_behind front more behind last)
  where
    go : (o : Option Phase) → option_and_then (λ t. run next t front) o ≡ Some last
        → ((behind : Phase) → run next behind front ≡ Some last
        → ((reach behind (front ++ more)).0 ≡ length front + (reach last more).0)
        × ((reach behind (front ++ more)).1 ≡ (reach last more).1))
        → ((Reached phase (front ++ more) o).0 ≡ suc (length front) + (reach last more).0)
        × ((Reached phase (front ++ more) o).1 ≡ (reach last more).1)
    go None reads tail = absurd (cc reads)
    go (Some behind) reads tail = let rest = tail behind reads in let far =
        rest.0 in (omega (arith, far), rest.1)

-- ---- from a phase in which a piece may end, a byte leads to another such phase, or the piece may
-- not stand before it

abbrev Onward : Option Piece → Option Phase → ℕ → Type 0
Onward None target byte = ⊤
Onward (Some piece) None byte = ⊤
Onward (Some piece) (Some target) byte =
    IsSome (piece_of target) ⊎ ((more : List ℕ) → may_end piece (byte ∷ more) ≡ false)

digit_in_word : (byte : ℕ) → is_ascii_digit byte ≡ true → not (is_word_byte byte) ≡ false
digit_in_word byte is = grind (arith, nat_tests)

mark_in_word : (byte : ℕ) → is_mark_letter byte ≡ true → not (is_word_byte byte) ≡ false
mark_in_word byte is = grind (arith, nat_tests)

behind_unit : (piece : Piece) (byte : ℕ) → Onward (Some piece) (behind_count byte) byte
behind_unit piece byte = go (byte == 109) (is_unit byte)
  where
    go : (m u : Bool)
        → Onward (Some piece) (cond m (Some Minutes) (cond u (Some Counted) None)) byte
    go true u = inl refl
    go false true = inl refl
    go false false = tt

module _ (byte : ℕ) where
  digit_onward : (piece : Piece) (target : Phase) (other : Option Phase) → IsSome (piece_of target)
      → Onward (Some piece) other byte → Onward (Some piece) (digit_or target byte other) byte
  digit_onward piece target other ends more = go (is_ascii_digit byte)
    where
      go : (d : Bool) → Onward (Some piece) (cond d (Some target) other) byte
      go true = inl ends
      go false = more

  test_onward : (piece : Piece) (target : Phase) (test : Bool) → IsSome (piece_of target)
      → Onward (Some piece) (only_if target test) byte
  test_onward piece target true ends = inl ends
  test_onward piece target false ends = tt

  mark_onward : (other : Option Phase) → Onward (Some (Token Number)) other byte
      → Onward (Some (Token Number)) (cond (is_mark_letter byte) (Some Marked) other) byte
  mark_onward other more = go (is_mark_letter byte) refl
    where
      go : (m : Bool) → is_mark_letter byte ≡ m
          → Onward (Some (Token Number)) (cond m (Some Marked) other) byte
      go true is = inr (λ rest. mark_in_word byte is)
      go false is = more

  -- digits after a unit
  count_onward : (other : Option Phase) → Onward (Some (Token Duration)) other byte
      → Onward (Some (Token Duration)) (digit_or Counting byte other) byte
  count_onward other more = go (is_ascii_digit byte) refl
    where
      go : (d : Bool) → is_ascii_digit byte ≡ d
          → Onward (Some (Token Duration)) (cond d (Some Counting) other) byte
      go true is = inr (λ rest. digit_in_word byte is)
      go false is = more

  point_onward : Onward (Some (Token Number)) (behind_whole byte) byte
  point_onward = go (byte == 46)
    where
      go : (p : Bool) → Onward (Some (Token Number))
          (cond p (Some Fraction) (cond (is_mark_letter byte) (Some Marked) (behind_count byte)))
          byte
      go true = inl refl
      go false = mark_onward (behind_count byte) (behind_unit (Token Number) byte)

  onward : (phase : Phase) → Onward (piece_of phase) (next phase byte) byte
  onward Start = tt
  onward Named = test_onward (Token Name) Named (is_name_byte byte) refl
  onward Whole = digit_onward (Token Number) Whole (behind_whole byte) refl point_onward
  onward Bare = tt
  onward Fraction =
      digit_onward (Token Number) Fraction (only_if Marked (is_mark_letter byte)) refl
      (mark_onward None tt)
  onward Marked = tt
  onward MarkSigned = tt
  onward Power = digit_onward (Token Number) Power None refl tt
  onward Minutes =
      count_onward (only_if Counted (byte == 115))
      (test_onward (Token Duration) Counted (byte == 115) refl)
  onward Counted = count_onward None tt
  onward Counting = tt
  onward (Within quote) = tt
  onward (Escaped quote) = tt
  onward Closed = tt
  onward Marking = tt
  onward Equals = test_onward (Token Mark) Marking (byte == 61 || byte == 126) refl
  onward Bang = tt
  onward Angle = test_onward (Token Mark) Marking (byte == 61) refl
  onward Blanks = test_onward Gap Blanks (is_blank byte) refl
  onward Comment = test_onward Gap Comment (not (byte == 10)) refl

-- ---- the piece at the front

-- the last phase of what is read
record Last (front : List ℕ) (piece : Piece) : Type 0 where
  pub phase : Phase
  pub there : run next Start front ≡ Some phase
  pub ends : piece_of phase ≡ Some piece

last_phase : (front : List ℕ) (piece : Piece) → Reads Start front piece → Last front piece
last_phase front piece reads = go (run next Start front) refl reads
  where
    go : (o : Option Phase) → run next Start front ≡ o → option_and_then piece_of o ≡ Some piece
        → Last front piece
    go None is reads = absurd (cc reads)
    go (Some phase) is reads = record { phase = phase; there = is; ends = reads }

some_piece : (o : Option Piece) → IsSome o → (piece : Piece) × (o ≡ Some piece)
some_piece None some = absurd (cc some)
some_piece (Some piece) some = (piece, refl)

-- after the longest piece the machine stops
stops : (piece : Piece) (front more : List ℕ) → IsLongest piece front more
    → (last : Last front piece)
    → (reach last.phase more).0 ≡ 0
stops piece front [] is last = refl
stops piece front (byte ∷ more) is last =
    go (next last.phase byte) refl
    (subst (λ o. Onward o (next last.phase byte) byte) last.ends (onward byte last.phase))
  where
    go : (o : Option Phase) → next last.phase byte ≡ o
        → Onward (Some piece) (next last.phase byte) byte
        → (Reached last.phase more o).0 ≡ 0
    go None leads on = refl
    go (Some target) leads on =
        absurd (further target leads (subst (λ o. Onward (Some piece) o byte) leads on))
      where
        further : (target : Phase) → next last.phase byte ≡ Some target
            → Onward (Some piece) (Some target) byte → ⊥
        further target leads on =
            ⊎_elim
            (λ ends.
            let other = some_piece (piece_of target) ends in
            let there : run next Start (front ++ byte ∷ []) ≡ Some target =
            run-append next piece_of Start front (byte ∷ [])
            ∙ ap (option_and_then (λ t. run next t (byte ∷ []))) last.there
            ∙ ap (option_and_then (λ t. Some t)) leads in
            let reads : Reads Start (front ++ byte ∷ []) other.0 =
            ap (option_and_then piece_of) there ∙ other.1 in
            let longer =
            is.longest other.0 (front ++ byte ∷ []) more
            (sym (append_assoc front (byte ∷ []) more))
            (piece_from_read other.0 (front ++ byte ∷ []) reads) in
            omega (arith, longer, length-append front (byte ∷ [])))
            (λ not. true≢false (sym is.ends ∙ not more))
            on

reach_nowhere : (phase : Phase) (text : List ℕ) → (reach phase text).0 ≡ 0
    → (reach phase text).1 ≡ phase
reach_nowhere phase [] none = refl
reach_nowhere phase (byte ∷ more) none = go (next phase byte) none
  where
    go : (o : Option Phase) → (Reached phase more o).0 ≡ 0 → (Reached phase more o).1 ≡ phase
    go None none = refl
    go (Some behind) none = absurd (omega arith)

ended_by : (text : List ℕ) (n len : ℕ) (o : Option Piece) (piece : Piece) → n ≡ len → o ≡ Some piece
    → may_end piece (drop len text) ≡ true → ended text n o ≡ Some (piece, len)
ended_by text n len o piece same is ends = rw (same, is, ends) refl

record EndedBy (text : List ℕ) (n : ℕ) (o : Option Piece) (piece : Piece) (len : ℕ) : Type 0 where
  pub same : n ≡ len
  pub is : o ≡ Some piece
  pub ends : may_end piece (drop len text) ≡ true

from_ended : (text : List ℕ) (n : ℕ) (o : Option Piece) (piece : Piece) (len : ℕ)
    → ended text n o ≡ Some (piece, len) → EndedBy text n o piece len
from_ended text n None piece len is = absurd (cc is)
from_ended text n (Some found) piece len is = go (may_end found (drop n text)) refl is
  where
    go : (b : Bool) → may_end found (drop n text) ≡ b
        → cond {A = Option (Piece × ℕ)} b (Some (found, n)) None ≡ Some (piece, len)
        → EndedBy text n (Some found) piece len
    go true ends is =
        let both : (found, n) ≡ (piece, len) = cc is in
        let kind : found ≡ piece = ap (λ (p : Piece × ℕ). p.0) both in
        let same : n ≡ len = ap (λ (p : Piece × ℕ). p.1) both in
        record {
          same = same;
          is = ap Some kind;
          ends = subst (λ p. may_end p (drop len text) ≡ true) kind
              (subst (λ m. may_end found (drop m text) ≡ true) same ends);
        }
    go false ends is = absurd (cc is)

-- a longest piece is found
pub longest_found : (piece : Piece) (front more : List ℕ) → IsLongest piece front more
    → piece_reading (front ++ more) ≡ Some (piece, length front)
unfolding piece_reading
longest_found piece front more is =
    let last = last_phase front piece (read_from_piece piece front is.is) in
    let far = reach_behind front more Start last.phase last.there in
    let stop = stops piece front more is last in
    let place = far.0 in
    ended_by (front ++ more) (reach Start (front ++ more)).0 (length front)
    (piece_of (reach Start (front ++ more)).1) piece
    (omega (arith, place, stop))
    (ap piece_of (far.1 ∙ reach_nowhere last.phase more stop) ∙ last.ends)
    (ap (may_end piece) (drop-append_seam front more) ∙ is.ends)

some_read : (piece : Piece) (front : List ℕ) → Reads Start front piece → 0 < length front
some_read piece [] reads = absurd (cc reads)
some_read piece (byte ∷ front) reads = omega arith

-- the piece that is found is the longest
pub record Found (text : List ℕ) (piece : Piece) (len : ℕ) : Type 0 where
  pub some : 0 < len
  pub within : len ≤ length text
  pub longest : IsLongest piece (take len text) (drop len text)

pub found_longest : (text : List ℕ) (piece : Piece) (len : ℕ)
    → piece_reading text ≡ Some (piece, len)
    → Found text piece len
unfolding piece_reading
found_longest text piece len found =
    let n = (reach Start text).0 in
    let by : EndedBy text n (piece_of (reach Start text).1) piece len =
    from_ended text n (piece_of (reach Start text).1) piece len found in
    let same = by.same in
    let inside = reach_within text Start in
    let size : length (take len text) ≡ len =
    length-take-le len text (omega (arith, inside, same)) in
    let reads : Reads Start (take len text) piece =
    subst (λ m. Reads Start (take m text) piece) same
    (ap (option_and_then piece_of) (reach_read text Start) ∙ by.is) in
    let some = some_read piece (take len text) reads in
    record {
      some = omega (arith, some, size);
      within = omega (arith, inside, same);
      longest = record {
        is = piece_from_read piece (take len text) reads;
        longest = λ other longer rest parts is_other.
            let last = last_phase longer other (read_from_piece other longer is_other) in
            let far = reach_longest longer rest Start last.phase last.there in
            let whole : (reach Start (longer ++ rest)).0 ≡ n =
            ap (λ t. (reach Start t).0) (sym parts ∙ take-append-drop len text) in
            omega (arith, far, whole, same, size);
        ends = by.ends;
      };
    }

pub none_found : (text : List ℕ) → piece_reading text ≡ None → NoPiece text
none_found text none piece front more parts is =
    absurd (cc (longest_found piece front more is, ap piece_reading parts, none))

-- where no piece begins, none is found
pub found_none : (text : List ℕ) → NoPiece text → piece_reading text ≡ None
found_none text none = go (piece_reading text) refl
  where
    go : (o : Option (Piece × ℕ)) → piece_reading text ≡ o → o ≡ None
    go None is = refl
    go (Some found) is =
        absurd (none found.0 (take found.1 text) (drop found.1 text)
        (sym (take-append-drop found.1 text))
        (found_longest text found.0 found.1 is).longest)

pub longest_some : (piece : Piece) (front more : List ℕ) → IsLongest piece front more
    → 0 < length front
longest_some piece front more is = some_read piece front (read_from_piece piece front is.is)

-- where a piece ends, something was read
reached_some : (text : List ℕ) (piece : Piece) → piece_of (reach Start text).1 ≡ Some piece
    → 0 < (reach Start text).0
reached_some text piece is =
    let n = (reach Start text).0 in
    let reads : Reads Start (take n text) piece =
    ap (option_and_then piece_of) (reach_read text Start) ∙ is in
    let some = some_read piece (take n text) reads in
    omega (arith, some, length-take n text)

pub piece_some : (text : List ℕ) (reached : ℕ × Phase) (o : Option Piece) (piece : Piece)
    → reached ≡ reach Start text → o ≡ piece_of reached.1 → o ≡ Some piece → 0 < reached.0
piece_some text reached o piece same is some =
    subst (λ (r : ℕ × Phase). 0 < r.0) (sym same)
    (reached_some text piece (ap (λ (r : ℕ × Phase). piece_of r.1) (sym same) ∙ sym is ∙ some))
