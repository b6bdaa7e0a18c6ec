-- What was to be read before a call and after it.
use Rattle.std.proofs.Common.{◌≡◌, List, ℕ, [], ◌∷◌, ◌++◌, Option, Some, None, refl, sym, ap, ◌∙◌, append_assoc, append-nil}
use Rattle.std.specs.Option.{option_map}
use Rattle.vm_outside.specs.Outside.{Gives}
use Rattle.vm_lines.specs.Feeds.{HasNoFeed}
use Rattle.vm_lines.specs.Lines.{lines, without_return}
use Rattle.vm_lines.specs.Reading.{Reading, rest, IsSpent, IsFirstLine, Moves}
use Rattle.vm_lines.proofs.LineLaws.{lines-feed, lines-end}

-- what was to be read is what was gone through, and what is still to be read
pub moves_rest : {before now : Reading} {left_before left_now : Option (List ℕ)} {through : List ℕ}
    → Moves before now left_before left_now through
    → Gives (rest before left_before) through (rest now left_now)
moves_rest {before} {now} {left_now = left_now} {through} m = ap (rest before) m.gives ∙ go left_now
  where
    go : (left : Option (List ℕ))
        → rest before (option_map (λ bytes. m.piece ++ bytes) left)
        ≡ option_map (λ bytes. through ++ bytes) (rest now left)
    go None = refl
    go (Some bytes) =
        ap Some (sym (append_assoc before.ahead m.piece bytes)
        ∙ ap (λ front. front ++ bytes) m.behind
        ∙ append_assoc through now.ahead bytes)

-- a line and its line feed were gone through
pub first_by_feed : (before now : Option (List ℕ)) (piece : List ℕ) → HasNoFeed piece
    → Gives before (piece ++ (10 ∷ [])) now → IsFirstLine before (without_return piece) now
first_by_feed before now piece clear gives = ap (option_map lines) gives ∙ go now
  where
    go : (now : Option (List ℕ))
        → option_map lines (option_map (λ bytes. (piece ++ (10 ∷ [])) ++ bytes) now)
        ≡ option_map (λ bytes. without_return piece ∷ lines bytes) now
    go None = refl
    go (Some bytes) =
        ap Some (ap lines (append_assoc piece (10 ∷ []) bytes) ∙ lines-feed piece bytes clear)

-- a line that the end of the input ends was gone through
pub first_by_end : (before now : Option (List ℕ)) (piece : List ℕ) → HasNoFeed piece
    → (piece ≡ [] → ⊥) → IsSpent now → Gives before piece now
    → IsFirstLine before (without_return piece) now
first_by_end before now piece clear some spent gives =
    ap (option_map lines) (gives ∙ ap (option_map (λ bytes. piece ++ bytes)) spent) ∙ go now
    ∙ sym (ap (option_map (λ bytes. without_return piece ∷ lines bytes)) spent)
  where
    go : (now : Option (List ℕ))
        → option_map lines (option_map (λ bytes. piece ++ bytes) (option_map (λ _. []) now))
        ≡ option_map (λ bytes. without_return piece ∷ lines bytes) (option_map (λ _. []) now)
    go None = refl
    go (Some bytes) = ap Some (ap lines (append-nil piece) ∙ lines-end piece clear some)

-- nothing is still to be read where nothing stands ahead and nothing is left
pub spent_rest : (reading : Reading) (left : Option (List ℕ)) → reading.ahead ≡ [] → IsSpent left
    → IsSpent (rest reading left)
spent_rest reading None none spent = refl
spent_rest reading (Some bytes) none spent = ap Some cc
