-- A call that comes to the end of a line, or to the end of the input.
use Rattle.std.proofs.Common.{◌≡◌, ℕ, ◌+◌, ◌^◌, ◌<◌, ◌≤◌, ◌↔◌, Bool, true, List, [], ◌∷◌, ◌++◌, length, take, drop, Option, Some, None, Ok, refl, sym, ap, ◌∙◌, inl, inr, append_assoc, append-nil, length-append, arith, subst}
use Rattle.std.proofs.lemmas.List.{nil_from_length}
use Rattle.std.specs.Option.{option_map}
use Rattle.vm_outside.specs.Outside.{Told}
use Rattle.vm_outside.proofs.Streams.{gives_nothing, gives_more}
use Rattle.vm_lines.specs.Feeds.{HasNoFeed, IsFirstFeed}
use Rattle.vm_lines.specs.Lines.{lines, without_return}
use Rattle.vm_lines.specs.Reading.{Reading, rest, IsSpent, IsFirstLine, Moves, GoesThrough, GoesOn, to_go, Reads}
use Rattle.vm_lines.specs.inner.Steps.{Takes, Shows, Ends}
use Rattle.vm_lines.specs.declared.step.Step.{Step}
use Rattle.vm_lines.specs.declared.step.Step.TheVariants.{Line, TooLong, End}
use Rattle.vm_lines.proofs.LineLaws.{line_ahead}
use Rattle.vm_lines.proofs.ReadingLaws.{moves_rest, first_by_feed, first_by_end, spent_rest}

-- pieces

-- all bytes that came stand behind those that stood ahead
abbrev pub Grows : Reading → Reading → Option (List ℕ) → Option (List ℕ) → Type 0
Grows before now left_before left_now = Moves before now left_before left_now []

pub grows_nothing : (reading : Reading) (left : Option (List ℕ)) → Grows reading reading left left
grows_nothing reading left = record {
  piece = [];
  gives = gives_nothing left;
  counted = omega arith;
  behind = append-nil reading.ahead;
}

-- one more piece came
pub grows_more :
    {before mid now : Reading} {left_before left_mid left_now : Option (List ℕ)} {n : ℕ}
    → Grows before mid left_before left_mid → Takes mid now n left_mid left_now
    → Grows before now left_before left_now
grows_more {before} {mid} {now} {left_before} {left_mid} {left_now} m took = record {
  piece = m.piece ++ took.piece;
  gives = gives_more left_before left_mid left_now m.piece took.piece m.gives took.gives;
  counted = omega (arith, took.counted, m.counted, took.many, length-append m.piece took.piece);
  behind = sym (append_assoc before.ahead m.piece took.piece)
      ∙ ap (λ front. front ++ took.piece) m.behind ∙ sym took.behind;
}

-- of the bytes ahead the first ones are gone through
pub moves_on : {before mid : Reading} {left_before left_now : Option (List ℕ)} (now : Reading)
    (through : List ℕ) → Grows before mid left_before left_now → mid.ahead ≡ through ++ now.ahead
    → now.taken ≡ mid.taken → Moves before now left_before left_now through
moves_on now through m front same = record {
  piece = m.piece;
  gives = m.gives;
  counted = same ∙ m.counted;
  behind = m.behind ∙ front;
}

-- all bytes ahead are gone through
pub moves_all : {before mid : Reading} {left_before left_now : Option (List ℕ)} (now : Reading)
    → Grows before mid left_before left_now → now.ahead ≡ [] → now.taken ≡ mid.taken
    → Moves before now left_before left_now mid.ahead
moves_all {mid = mid} now m none same =
    moves_on now mid.ahead m (sym (ap (λ back. mid.ahead ++ back) none ∙ append-nil mid.ahead)) same

-- a call that goes through some bytes comes nearer to the end

fewer : {before now : Reading} {left_before left_now : Option (List ℕ)} {through : List ℕ}
    → length before.ahead ≤ before.taken → now.taken ≤ 2 ^ 62
    → Moves before now left_before left_now through → 0 < length through → to_go now < to_go before
fewer {before} {now} {through = through} ahead within m some =
    omega (
      arith,
      m.counted,
      some,
      ap length m.behind,
      length-append before.ahead m.piece,
      length-append through now.ahead,
    )

pub nearer :
    (step : Step)
    (ended : Bool) {before now : Reading} {left_before left_now : Option (List ℕ)} {through :
    List ℕ}
    → length before.ahead ≤ before.taken → now.taken ≤ 2 ^ 62
    → Moves before now left_before left_now through → GoesThrough (Ok step) ended through
    → GoesOn step before now
nearer Line ended ahead within m goes = fewer ahead within m goes.0
nearer TooLong ended ahead within m goes = fewer ahead within m goes.0
nearer End ended ahead within m goes = tt

-- the end of a line

-- the first line ahead is gone through
pub line_moves :
    {before mid : Reading} {left_before left_now : Option (List ℕ)} {at : ℕ} (now : Reading)
    → Grows before mid left_before left_now → IsFirstFeed mid.ahead at
    → now.ahead ≡ drop (at + 1) mid.ahead → now.taken ≡ mid.taken
    → Moves before now left_before left_now (take at mid.ahead ++ (10 ∷ []))
line_moves {mid = mid} {at = at} now m found behind same =
    moves_on now (take at mid.ahead ++ (10 ∷ [])) m (line_ahead mid.ahead now.ahead at found behind)
    same

-- a piece between line feeds is a line, or one that is too long
reads_piece :
    (step : Step) (before now : Reading) (left_before left_now : Option (List ℕ)) (piece : List ℕ)
    → Shows step piece now.line
    → IsFirstLine (rest before left_before) (without_return piece) (rest now left_now)
    → Reads step before now left_before left_now
reads_piece Line before now left_before left_now piece shows first = (
  shows.1,
  first
      ∙ ap (λ line. option_map (λ bytes. line ∷ lines bytes) (rest now left_now)) (sym shows.0),
)
reads_piece TooLong before now left_before left_now piece shows first =
    (without_return piece, shows, first)
reads_piece End before now left_before left_now piece shows first = absurd shows

pub line_reads :
    (step : Step) {before mid : Reading} {left_before left_now : Option (List ℕ)} {at : ℕ}
    (now : Reading)
    → Grows before mid left_before left_now → IsFirstFeed mid.ahead at
    → now.ahead ≡ drop (at + 1) mid.ahead → now.taken ≡ mid.taken
    → Shows step (take at mid.ahead) now.line → Reads step before now left_before left_now
line_reads step {before} {mid} {left_before} {left_now} {at} now m found behind same shows =
    reads_piece step before now left_before left_now (take at mid.ahead) shows
    (first_by_feed (rest before left_before) (rest now left_now) (take at mid.ahead) found.clear
    (moves_rest (line_moves now m found behind same)))

-- a line and its line feed are some bytes that a line feed ends
pub line_through : (step : Step) (ended : Bool) (piece line front : List ℕ) → Shows step piece line
    → GoesThrough (Ok step) ended (front ++ (10 ∷ []))
line_through Line ended piece line front shows =
    (omega (arith, length-append front (10 ∷ [])), inl (front, refl))
line_through TooLong ended piece line front shows =
    (omega (arith, length-append front (10 ∷ [])), inl (front, refl))
line_through End ended piece line front shows = absurd shows

-- the end of the input

-- nothing is left where a read gave nothing
pub spent : {before now : Reading} {n : ℕ} {left_before left_now : Option (List ℕ)}
    → Takes before now n left_before left_now → n ≡ 0
    → Told left_before (λ bytes. (n ≡ 0) ↔ (bytes ≡ [])) → IsSpent left_now
spent {n = n} {left_before} {left_now} took zero told =
    let same : left_before ≡ left_now = took.gives
    ∙ ap (λ piece. option_map (λ bytes. piece ++ bytes) left_now)
    (nil_from_length took.piece (took.many ∙ zero))
    ∙ sym (gives_nothing left_now) in
    subst IsSpent same (go left_before told)
  where
    go : (left : Option (List ℕ)) → Told left (λ bytes. (n ≡ 0) ↔ (bytes ≡ [])) → IsSpent left
    go None told = refl
    go (Some bytes) told = ap Some (told.0 zero)

-- nothing more stands ahead then
pub still : {before now : Reading} {n : ℕ} {left_before left_now : Option (List ℕ)}
    → Takes before now n left_before left_now → n ≡ 0 → now.ahead ≡ before.ahead
still {before} took zero =
    took.behind ∙ ap (λ back. before.ahead ++ back) (nil_from_length took.piece (took.many ∙ zero))
    ∙ append-nil before.ahead

-- the piece ahead is the last line
last : {before mid : Reading} {left_before left_now : Option (List ℕ)} (now : Reading)
    → Grows before mid left_before left_now → HasNoFeed mid.ahead → IsSpent left_now
    → now.ahead ≡ [] → now.taken ≡ mid.taken → (mid.ahead ≡ [] → ⊥)
    → IsFirstLine (rest before left_before) (without_return mid.ahead) (rest now left_now)
last {before} {mid} {left_before} {left_now} now m clear spent none same some =
    first_by_end (rest before left_before) (rest now left_now) mid.ahead clear some
    (spent_rest now left_now none spent) (moves_rest (moves_all now m none same))

end_reads : (step : Step) (before mid now : Reading) (left_before left_now : Option (List ℕ))
    → Grows before mid left_before left_now → HasNoFeed mid.ahead → IsSpent left_now
    → now.ahead ≡ [] → now.taken ≡ mid.taken → mid.taken < 2 ^ 62 → Ends step mid.ahead now.line
    → Reads step before now left_before left_now
end_reads End before mid now left_before left_now m clear spent none same below ends =
    let sizes : length before.ahead + length m.piece ≡ 0 =
    sym (length-append before.ahead m.piece) ∙ ap length (m.behind ∙ ends) in
    let nothing : m.piece ≡ [] = nil_from_length m.piece (omega (arith, sizes)) in (
      nil_from_length before.ahead (omega (arith, sizes)),
      none,
      sym (m.gives ∙ ap (λ piece. option_map (λ bytes. piece ++ bytes) left_now) nothing
          ∙ sym (gives_nothing left_now)),
      spent,
      omega (arith, same, below),
    )
end_reads Line before mid now left_before left_now m clear spent none same below ends =
    reads_piece Line before now left_before left_now mid.ahead ends.1
    (last now m clear spent none same ends.0)
end_reads TooLong before mid now left_before left_now m clear spent none same below ends =
    reads_piece TooLong before now left_before left_now mid.ahead ends.1
    (last now m clear spent none same ends.0)

pub ended :
    (step : Step) {before mid late : Reading} {left_before left_mid left_now : Option (List ℕ)} {n :
    ℕ}
    (now : Reading) → Grows before mid left_before left_mid → HasNoFeed mid.ahead
    → Takes mid late n left_mid left_now → n ≡ 0 → Told left_mid (λ bytes. (n ≡ 0) ↔ (bytes ≡ []))
    → mid.taken < 2 ^ 62 → now.ahead ≡ [] → now.taken ≡ late.taken → Ends step late.ahead now.line
    → Reads step before now left_before left_now
ended step {before} {mid} {late} {left_before} {left_mid} {left_now} now m clear took zero told
    below none same ends =
    end_reads step before late now left_before left_now (grows_more m took)
    (subst HasNoFeed (sym (still took zero)) clear) (spent took zero told) none same
    (omega (arith, took.counted, zero, below)) ends

some_bytes : (bytes : List ℕ) → (bytes ≡ [] → ⊥) → 0 < length bytes
some_bytes [] some = absurd (some refl)
some_bytes (byte ∷ more) some = omega arith

-- what the end of the input ends is gone through
pub end_through : (step : Step) (ended : Bool) (piece line : List ℕ) → Ends step piece line
    → ended ≡ true
    → GoesThrough (Ok step) ended piece
end_through Line ended piece line ends is = (some_bytes piece ends.0, inr is)
end_through TooLong ended piece line ends is = (some_bytes piece ends.0, inr is)
end_through End ended piece line ends is = ends
