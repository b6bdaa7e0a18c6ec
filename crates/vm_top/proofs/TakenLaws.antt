-- The whole lines among the bytes of an input that were taken.
use Rattle.std.proofs.Common.{◌≡◌, ℕ, Bool, true, false, true≢false, List, [], ◌∷◌, ◌++◌, append_assoc, append-nil, Option, Some, Ok, Err, refl, sym, ap, ◌∙◌, subst, inl, inr, ◌⊎◌}
use Rattle.std.proofs.lemmas.List.{append_cancel_right}
use Rattle.std.specs.Option.{unwrap_or}
use Rattle.vm_lines.specs.Feeds.{HasNoFeed}
use Rattle.vm_lines.specs.Lines.{lines}
use Rattle.vm_lines.specs.Reading.{EndsInFeed, GoesThrough, KnowsEnd, Moves}
use Rattle.vm_lines.specs.declared.fault.LineFault.{LineFault}
use Rattle.vm_lines.specs.declared.step.Step.{Step}
use Rattle.vm_lines.specs.declared.step.Step.TheVariants.{Line, TooLong, End}
use Rattle.vm_lines.proofs.LineLaws.{clear-append, lines-append}
use Rattle.vm_outside.proofs.Streams.{gives_more, gives_nothing}
use Rattle.vm_top.specs.Replay.{Holds}
use Rattle.vm_top.specs.inner.Playing.{Through}
use Rattle.vm_top.specs.inner.Reading.{Place, AreWhole, GoesOver, StopsAt, unread, first_place}

-- bytes of whole lines

pub over_none : (place : Place) (left : Option (List ℕ)) → GoesOver place place left left
over_none place left = record {
  piece = [];
  gives = gives_nothing left;
  through = [];
  goes = append-nil place.reading.ahead;
  whole = inl refl;
  stays = λ is. is;
}

-- nothing was read yet
pub over_first : (place : Place) (left : Option (List ℕ)) → place ≡ first_place
    → GoesOver first_place place left left
over_first place left is =
    subst (λ p. GoesOver first_place p left left) (sym is) (over_none first_place left)

-- whole lines after whole lines
whole_more : (x y : List ℕ) (mid end : Bool) → AreWhole x mid → AreWhole y end
    → (mid ≡ true → end ≡ true)
    → AreWhole (x ++ y) end
whole_more x y mid end one (inl none) stays =
    subst (λ back. AreWhole (x ++ back) end) (sym none)
    (subst (λ all. AreWhole all end) (sym (append-nil x)) (first one))
  where
    first : AreWhole x mid → AreWhole x end
    first (inl none) = inl none
    first (inr (inl feed)) = inr (inl feed)
    first (inr (inr is)) = inr (inr (stays is))
whole_more x y mid end one (inr (inl feed)) stays =
    inr (inl (x ++ feed.0, ap (λ back. x ++ back) feed.1 ∙ sym (append_assoc x feed.0 (10 ∷ []))))
whole_more x y mid end one (inr (inr is)) stays = inr (inr is)

pub over_more : (a b c : Place) (left_a left_b left_c : Option (List ℕ))
    → GoesOver a b left_a left_b → GoesOver b c left_b left_c
    → GoesOver a c left_a left_c
over_more a b c left_a left_b left_c one two = record {
  piece = one.piece ++ two.piece;
  gives = gives_more left_a left_b left_c one.piece two.piece one.gives two.gives;
  through = one.through ++ two.through;
  goes = sym (append_assoc a.reading.ahead one.piece two.piece)
      ∙ ap (λ front. front ++ two.piece) one.goes
      ∙ append_assoc one.through b.reading.ahead two.piece
      ∙ ap (λ back. one.through ++ back) two.goes
      ∙ sym (append_assoc one.through two.through c.reading.ahead);
  whole = whole_more one.through two.through b.reading.ended c.reading.ended one.whole two.whole
      two.stays;
  stays = λ is. two.stays (one.stays is);
}

-- one line more, or the end of the input
pub over_step :
    (step : Step) (before after : Place) (left_before left_after : Option (List ℕ))
    (through : List ℕ)
    → Moves before.reading after.reading left_before left_after through
    → GoesThrough (Ok step) after.reading.ended through
    → (before.reading.ended ≡ true → after.reading.ended ≡ true)
    → GoesOver before after left_before left_after
over_step step before after left_before left_after through moves goes stays = record {
  piece = moves.piece;
  gives = moves.gives;
  through = through;
  goes = moves.behind;
  whole = whole step goes;
  stays = stays;
}
  where
    whole : (step : Step) → GoesThrough (Ok step) after.reading.ended through
        → AreWhole through after.reading.ended
    whole Line goes = inr goes.1
    whole TooLong goes = inr goes.1
    whole End goes = inl goes

-- no line more

pub open_of : (ended : Bool) → (ended ≡ true → ⊥) → ended ≡ false
open_of true never = absurd (never refl)
open_of false never = refl

pub stops_of :
    (fault : LineFault) (before after : Place) (left_before left_after : Option (List ℕ))
    (through : List ℕ)
    → Moves before.reading after.reading left_before left_after through
    → GoesThrough (Err fault) after.reading.ended through → HasNoFeed after.reading.ahead
    → before.reading.ended ≡ false → StopsAt before left_before left_after
stops_of fault before after left_before left_after through moves goes clear unended = record {
  piece = moves.piece;
  gives = moves.gives;
  clear = subst HasNoFeed (sym moves.behind)
      (clear-append through after.reading.ahead (front goes) clear);
  unended = unended;
}
  where
    front : GoesThrough (Err fault) after.reading.ended through → HasNoFeed through
    front (inl none) = subst HasNoFeed (sym none) tt
    front (inr long) = long.0

-- a reader that read nothing hasn't met the end
pub knows_none : (place : Place) (left : Option (List ℕ)) → place ≡ first_place
    → KnowsEnd place.reading left
knows_none place left first =
    λ is. absurd (true≢false (sym is ∙ ap (λ (p : Place). p.reading.ended) first))

-- what was taken

-- the input up to some place, and the whole lines in it
pub record Taken (input rest : List ℕ) (passed : List (List ℕ)) : Type 0 where
  pub taken : List ℕ
  pub parts : input ≡ taken ++ rest
  pub holds : Holds taken passed

-- whole lines stand before other lines
front_lines : (front more : List ℕ) → (front ≡ []) ⊎ EndsInFeed front
    → lines (front ++ more) ≡ lines front ++ lines more
front_lines front more (inl none) = rw none refl
front_lines front more (inr feed) =
    rw feed.1 (ap lines (append_assoc feed.0 (10 ∷ []) more) ∙ lines-append feed.0 more)

-- bytes of whole lines that the end of the input didn't end
ends_of : (through : List ℕ) (ended : Bool) → AreWhole through ended → ended ≡ false
    → (through ≡ []) ⊎ EndsInFeed through
ends_of through ended (inl none) unended = inl none
ends_of through ended (inr (inl feed)) unended = inr feed
ends_of through ended (inr (inr is)) unended = absurd (true≢false (sym is ∙ unended))

-- the lines that were passed are those of the bytes that were gone over
passed_are : (place : Place) (input bytes : List ℕ) (passed : List (List ℕ))
    → (over : GoesOver first_place place (Some input) (Some bytes))
    → Through (Some input) passed (unread place (Some bytes)) → place.reading.ended ≡ false
    → passed ≡ lines over.through
passed_are place input bytes passed over through unended =
    let ends = ends_of over.through place.reading.ended over.whole unended in
    let all : input ≡ over.through ++ (place.reading.ahead ++ bytes) =
    ap (λ held. unwrap_or held input) over.gives
    ∙ ap (λ front. front ++ bytes) over.goes
    ∙ append_assoc over.through place.reading.ahead bytes in
    let said : lines input ≡ passed ++ lines (place.reading.ahead ++ bytes) =
    ap (λ held. unwrap_or held (lines input)) through in
    append_cancel_right passed (lines over.through) (lines (place.reading.ahead ++ bytes))
    (sym said ∙ ap lines all ∙ front_lines over.through (place.reading.ahead ++ bytes) ends)

-- where no whole line came any more, the lines that were passed are all whole ones
pub holds_at : (place : Place) (input bytes rest : List ℕ) (passed : List (List ℕ))
    → GoesOver first_place place (Some input) (Some bytes)
    → Through (Some input) passed (unread place (Some bytes))
    → StopsAt place (Some bytes) (Some rest) → Taken input rest passed
holds_at place input bytes rest passed over through stops =
    let came : bytes ≡ stops.piece ++ rest = ap (λ held. unwrap_or held bytes) stops.gives in
    let tail : List ℕ = place.reading.ahead ++ stops.piece in
    record {
      taken = over.through ++ tail;
      parts = ap (λ held. unwrap_or held input) over.gives
          ∙ ap (λ front. front ++ bytes) over.goes
          ∙ append_assoc over.through place.reading.ahead bytes
          ∙ ap (λ back. over.through ++ (place.reading.ahead ++ back)) came
          ∙ ap (λ back. over.through ++ back)
          (sym (append_assoc place.reading.ahead stops.piece rest))
          ∙ sym (append_assoc over.through tail rest);
      holds = record {
        front = over.through;
        tail = tail;
        parts = refl;
        ends = ends_of over.through place.reading.ended over.whole stops.unended;
        clear = stops.clear;
        lines_are = passed_are place input bytes passed over through stops.unended;
      };
    }

-- the bytes of the lines that were passed, and nothing after them
pub part_at : (place : Place) (input bytes : List ℕ) (passed : List (List ℕ))
    → GoesOver first_place place (Some input) (Some bytes)
    → Through (Some input) passed (unread place (Some bytes))
    → place.reading.ended ≡ false → Taken input (place.reading.ahead ++ bytes) passed
part_at place input bytes passed over through unended = record {
  taken = over.through;
  parts = ap (λ held. unwrap_or held input) over.gives
      ∙ ap (λ front. front ++ bytes) over.goes
      ∙ append_assoc over.through place.reading.ahead bytes;
  holds = record {
    front = over.through;
    tail = [];
    parts = sym (append-nil over.through);
    ends = ends_of over.through place.reading.ended over.whole unended;
    clear = tt;
    lines_are = passed_are place input bytes passed over through unended;
  };
}
