-- An input that is read line by line.
use Rattle.std.proofs.Common.{◌≡◌, ℕ, ◌+◌, ◌≤◌, ◌<◌, ◌^◌, List, [], ◌∷◌, ◌++◌, length, length-append, Option, Some, None, arith, refl, ap, ◌∙◌, true}
use Rattle.std.specs.Option.{option_map, unwrap_or}
use Rattle.vm_lines.specs.Lines.{lines, is_too_long}
use Rattle.vm_jsonline.specs.Reading.{reading as json_reading}
use Rattle.vm_jsonline.specs.declared.line.JsonLine.TheVariants.{Skipped as JsonSkipped}
use Rattle.vm_promtext.specs.Reading.{reading}
use Rattle.vm_promtext.specs.declared.line.Line.TheVariants.{Skipped}
use Rattle.vm_lines.specs.Reading.{Reading, Moves, to_go, IsFirstLine, IsSpent}
use Rattle.vm_outside.specs.Outside.{Told}
use Rattle.vm_outside.proofs.Streams.{gives_more}
use Rattle.vm_top.specs.inner.Reading.{Place, Takes, unread, first_place}

-- of nothing read, all is unread
pub unread_first : (left : Option (List ℕ)) → unread first_place left ≡ left
unread_first None = refl
unread_first (Some bytes) = refl

-- what is said of the lines that are unread, once the first of them is read
pub through_line :
    {X : Type 0} (said : List (List ℕ) → X) (before after : Option (List ℕ)) (line : List ℕ)
    → IsFirstLine before line after
    → option_map (λ bytes. said (lines bytes)) before
    ≡ option_map (λ bytes. said (line ∷ lines bytes)) after
through_line said None None line first = refl
through_line said None (Some b) line first = absurd cc
through_line said (Some a) None line first = absurd cc
through_line said (Some a) (Some b) line first = ap (option_map said) first

-- what is said of all, once nothing is left to be read
pub told_at_end : {X : Type 0} (all said : List ℕ → X) (start now : Option (List ℕ))
    → option_map all start ≡ option_map said now → IsSpent now
    → Told start (λ bytes. all bytes ≡ said [])
told_at_end all said None now same spent = tt
told_at_end all said (Some a) None same spent = absurd cc
told_at_end all said (Some a) (Some b) same spent =
    ap (λ held. unwrap_or held (all a)) same ∙ ap (λ held. said (unwrap_or held b)) spent

-- bytes that were taken in turn
pub takes_more : (a b c : Place) (left_a left_b left_c : Option (List ℕ)) → Takes a b left_a left_b
    → Takes b c left_b left_c → Takes a c left_a left_c
takes_more a b c left_a left_b left_c one two = record {
  piece = one.piece ++ two.piece;
  gives = gives_more left_a left_b left_c one.piece two.piece one.gives two.gives;
  counted = omega (arith, one.counted, two.counted, length-append one.piece two.piece);
}

pub takes_none : (a : Place) (left : Option (List ℕ)) → Takes a a left left
takes_none a None = record { piece = []; gives = refl; counted = omega arith }
takes_none a (Some bytes) = record { piece = []; gives = refl; counted = omega arith }

-- an input whose end was come to has as many bytes as were taken
pub short_at_end : (a b : Place) (left_a left_b : Option (List ℕ)) → Takes a b left_a left_b
    → a.reading.taken ≡ 0 → IsSpent left_b → b.reading.taken < 2 ^ 62
    → Told left_a (λ bytes. length bytes < 2 ^ 62)
short_at_end a b None left_b takes none spent few = tt
short_at_end a b (Some x) None takes none spent few = absurd cc
short_at_end a b (Some x) (Some y) takes none spent few =
    let parts : x ≡ takes.piece ++ y = ap (λ held. unwrap_or held x) takes.gives in
    let end : y ≡ [] = ap (λ held. unwrap_or held y) spent in
    omega (
      arith,
      ap length parts,
      length-append takes.piece y,
      ap length end,
      takes.counted,
      none,
      few,
    )

-- an input of which too many bytes were taken is too long
pub long_from : (a b : Place) (left_a left_b : Option (List ℕ)) → Takes a b left_a left_b
    → a.reading.taken ≡ 0
    → Told left_b (λ bytes. 2 ^ 62 ≤ b.reading.taken + length bytes)
    → Told left_a (λ bytes. 2 ^ 62 ≤ length bytes)
long_from a b None left_b takes none long = tt
long_from a b (Some x) None takes none long = absurd cc
long_from a b (Some x) (Some y) takes none long =
    let parts : x ≡ takes.piece ++ y = ap (λ held. unwrap_or held x) takes.gives in
    omega (arith, ap length parts, length-append takes.piece y, takes.counted, none, long)

-- a reader doesn't come further from the end
pub to_go_moves : (a b : Reading) (left_a left_b : Option (List ℕ)) (through : List ℕ)
    → Moves a b left_a left_b through → to_go b ≤ to_go a
to_go_moves a b left_a left_b through moves =
    omega (
      arith,
      moves.counted,
      ap length moves.behind,
      length-append a.ahead moves.piece,
      length-append through b.ahead,
    )

-- a line that is too long is skipped
pub reading_long : (now : ℕ) (line : List ℕ) → is_too_long line ≡ true
    → Skipped 4194304 ≡ reading now line
unfolding reading
reading_long now line long = rw long refl

pub json_long : (line : List ℕ) → is_too_long line ≡ true → JsonSkipped 4194304 ≡ json_reading line
unfolding json_reading
json_long line long = rw long refl
