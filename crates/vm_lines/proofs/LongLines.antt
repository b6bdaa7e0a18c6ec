-- A line that is too long and is let go piece by piece.
use Rattle.std.proofs.Common.{◌≡◌, ℕ, ◌+◌, ◌-◌, ◌<◌, ◌↔◌, Bool, true, false, cond, List, [], ◌∷◌, ◌++◌, length, take, drop, Option, refl, sym, ap, ◌∙◌, append_assoc, append-nil, length-append, arith, subst}
use Rattle.std.specs.Prelude.{◌==◌, slice_index}
use Rattle.std.proofs.lemmas.Bool.Decides.{nat_tests}
use Rattle.std.proofs.lemmas.List.{length-take}
use Rattle.vm_base.specs.declared.limits.TheConstants.{MAX_IMPORT_LINE}
use Rattle.vm_outside.specs.Outside.{Told}
use Rattle.vm_outside.proofs.Streams.{gives_more}
use Rattle.vm_lines.specs.Feeds.{HasNoFeed, IsFirstFeed}
use Rattle.vm_lines.specs.Lines.{without_return, is_too_long}
use Rattle.vm_lines.specs.Reading.{Reading, rest, Moves, Reads}
use Rattle.vm_lines.specs.inner.Steps.{Takes}
use Rattle.vm_lines.specs.declared.step.Step.TheVariants.{TooLong}
use Rattle.vm_lines.proofs.LineLaws.{clear-append, line_ahead}
use Rattle.vm_lines.proofs.ReadingLaws.{moves_rest, first_by_feed, first_by_end, spent_rest}
use Rattle.vm_lines.proofs.Steps.{spent, still}

-- all bytes ahead were let go, and begin a line that is too long
pub record IsLong (before now : Reading) (left_before left_now : Option (List ℕ)) : Type 0 where
  pub gone : List ℕ
  pub moves : Moves before now left_before left_now gone
  pub clear : HasNoFeed gone
  pub long : MAX_IMPORT_LINE + 1 < length gone
  pub none : now.ahead ≡ []

-- a line of so many bytes is too long, also without its carriage return
too_long : (piece : List ℕ) → MAX_IMPORT_LINE + 1 < length piece
    → is_too_long (without_return piece) ≡ true
too_long piece long = go (slice_index piece (length piece - 1) == 13)
  where
    go : (b : Bool) → is_too_long (cond b (take (length piece - 1) piece) piece) ≡ true
    go true = let len = length-take (length piece - 1) piece in grind (arith, nat_tests)
    go false = grind (arith, nat_tests)

-- the bytes that were let go, and those of a piece behind them that are gone through
long_moves : {before mid late : Reading} {left_before left_mid left_now : Option (List ℕ)} {n : ℕ}
    (now : Reading) (through : List ℕ) (l : IsLong before mid left_before left_mid)
    → Takes mid late n left_mid left_now → now.taken ≡ late.taken → late.ahead ≡ through
    ++ now.ahead
    → Moves before now left_before left_now (l.gone ++ through)
long_moves {before} {mid} {late} {left_before} {left_mid} {left_now} now through l took same front =
    record {
      piece = l.moves.piece ++ took.piece;
      gives = gives_more left_before left_mid left_now l.moves.piece took.piece l.moves.gives
          took.gives;
      counted =
          omega (
            arith,
            same,
            took.counted,
            l.moves.counted,
            took.many,
            length-append l.moves.piece took.piece,
          );
      behind = sym (append_assoc before.ahead l.moves.piece took.piece)
          ∙ ap (λ front. front ++ took.piece) l.moves.behind
          ∙ append_assoc l.gone mid.ahead took.piece
          ∙ ap (λ back. l.gone ++ back) (sym took.behind ∙ front)
          ∙ sym (append_assoc l.gone through now.ahead);
    }

-- more of it was let go
pub long_more :
    {before mid late : Reading} {left_before left_mid left_now : Option (List ℕ)} {n : ℕ}
    (now : Reading) → IsLong before mid left_before left_mid → Takes mid late n left_mid left_now
    → HasNoFeed late.ahead → now.ahead ≡ [] → now.taken ≡ late.taken
    → IsLong before now left_before left_now
long_more {late = late} now l took clear none same = record {
  gone = l.gone ++ late.ahead;
  moves = long_moves now late.ahead l took same
      (sym (ap (λ back. late.ahead ++ back) none ∙ append-nil late.ahead));
  clear = clear-append l.gone late.ahead l.clear clear;
  long = omega (arith, l.long, length-append l.gone late.ahead);
  none = none;
}

-- its line feed came
pub long_feed_moves :
    {before mid late : Reading} {left_before left_mid left_now : Option (List ℕ)} {n at : ℕ}
    (now : Reading) (l : IsLong before mid left_before left_mid)
    → Takes mid late n left_mid left_now
    → IsFirstFeed late.ahead at → now.ahead ≡ drop (at + 1) late.ahead → now.taken ≡ late.taken
    → Moves before now left_before left_now ((l.gone ++ take at late.ahead) ++ (10 ∷ []))
long_feed_moves {before} {late = late} {left_before} {left_now = left_now} {at = at} now l took
    found behind same =
    subst (Moves before now left_before left_now)
    (sym (append_assoc l.gone (take at late.ahead) (10 ∷ [])))
    (long_moves now (take at late.ahead ++ (10 ∷ [])) l took same
    (line_ahead late.ahead now.ahead at found behind))

pub long_feed :
    {before mid late : Reading} {left_before left_mid left_now : Option (List ℕ)} {n at : ℕ}
    (now : Reading) → IsLong before mid left_before left_mid → Takes mid late n left_mid left_now
    → IsFirstFeed late.ahead at → now.ahead ≡ drop (at + 1) late.ahead → now.taken ≡ late.taken
    → Reads TooLong before now left_before left_now
long_feed {before} {late = late} {left_before} {left_now = left_now} {at = at} now l took found
    behind same =
    let piece : List ℕ = l.gone ++ take at late.ahead in (
      without_return piece,
      too_long piece (omega (arith, l.long, length-append l.gone (take at late.ahead))),
      first_by_feed (rest before left_before) (rest now left_now) piece
          (clear-append l.gone (take at late.ahead) l.clear found.clear)
          (moves_rest (long_feed_moves now l took found behind same)),
    )

-- the end of the input came
pub long_end_moves :
    {before mid late : Reading} {left_before left_mid left_now : Option (List ℕ)} {n : ℕ}
    (now : Reading) (l : IsLong before mid left_before left_mid)
    → Takes mid late n left_mid left_now → n ≡ 0
    → now.ahead ≡ [] → now.taken ≡ late.taken → Moves before now left_before left_now l.gone
long_end_moves {before} {left_before = left_before} {left_now = left_now} now l took zero none
    same =
    subst (Moves before now left_before left_now) (append-nil l.gone)
    (long_moves now [] l took same (still took zero ∙ l.none ∙ sym none))

pub long_end : {before mid late : Reading} {left_before left_mid left_now : Option (List ℕ)} {n : ℕ}
    (now : Reading) → IsLong before mid left_before left_mid → Takes mid late n left_mid left_now
    → n ≡ 0
    → now.ahead ≡ [] → now.taken ≡ late.taken
    → Told left_mid (λ bytes. (n ≡ 0) ↔ (bytes ≡ []))
    → Reads TooLong before now left_before left_now
long_end {before} {left_before = left_before} {left_now = left_now} now l took zero none same told =
    let some : l.gone ≡ [] → ⊥ = λ is. omega (arith, ap length is, l.long) in (
      without_return l.gone,
      too_long l.gone l.long,
      first_by_end (rest before left_before) (rest now left_now) l.gone l.clear some
          (spent_rest now left_now none (spent took zero told))
          (moves_rest (long_end_moves now l took zero none same)),
    )
