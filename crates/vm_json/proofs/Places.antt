-- The machine and the loop that runs it.
use Rattle.std.specs.Prelude.{◌≡◌, ℕ, suc, ◌+◌, ◌<◌, List, [], ◌∷◌, ◌++◌, length, take, drop, Some, None, Ok, Err, option_and_then, true, false}
use Rattle.std.proofs.Common.{refl, arith, sym, ap, ◌∙◌, drop-cons}
use Rattle.std.proofs.Math.ListN.{get_or}
use Rattle.std.proofs.lemmas.List.{take_more, take-append-drop, length-take-le}
use Rattle.vm_base.specs.Run.{run, reading}
use Rattle.vm_base.proofs.RunLaws.{run-append, reading-stuck, reading-end}
use Rattle.vm_json.specs.Machine.{State, step, final, start, json_reading, wrong_place, at, ends}
use Rattle.vm_json.specs.declared.nesting.Bracket.{Bracket}
use Rattle.vm_json.specs.declared.phase.Phase.{Phase}
use Rattle.std.specs.Prelude.{◌==◌}

-- at one place of a text, and after the next byte
module _ (text : List ℕ) (n : ℕ) (s : State) (here : n < length text)
    (there : run step start (take n text) ≡ Some s) where
  pub came : (t : State) → step s (get_or text n 0) ≡ Some t
      → run step start (take (n + 1) text) ≡ Some t
  came t next =
      ap (run step start) (take_more text n 0 here)
      ∙ run-append step final start (take n text) (get_or text n 0 ∷ [])
      ∙ ap (option_and_then (λ u. run step u (get_or text n 0 ∷ []))) there
      ∙ ap (option_and_then (λ u. Some u)) next

  stuck_reading : step s (get_or text n 0) ≡ None → reading step final start text ≡ Err n
  stuck_reading none =
      let parts : text ≡ take n text ++ (get_or text n 0 ∷ drop (suc n) text) =
      sym (take-append-drop n text) ∙ ap (λ rest. take n text ++ rest) (drop-cons text n 0 here) in
      let far : length (take n text) ≡ n = length-take-le n text (omega arith) in
      ap (reading step final start) parts
      ∙ reading-stuck step final (take n text) (drop (suc n) text) start s (get_or text n 0) there
      none
      ∙ ap Err far

  pub stuck : step s (get_or text n 0) ≡ None → json_reading text ≡ Err n
  unfolding json_reading
  stuck none = stuck_reading none

-- and at its end
pub ended : (text : List ℕ) (s : State) → run step start text ≡ Some s → final s ≡ Some tt
    → json_reading text ≡ Ok tt
unfolding json_reading
ended text s there done = reading-end step final text start s there ∙ rw done refl

pub short : (text : List ℕ) (s : State) → run step start text ≡ Some s → final s ≡ None
    → json_reading text ≡ Err (length text)
unfolding json_reading
short text s there done = reading-end step final text start s there ∙ rw done refl

pub may_end_there : (p : Phase) (inside : List Bracket) → ends p ≡ true
    → (length inside == 0) ≡ true → final (at p inside) ≡ Some tt
may_end_there p inside done closed = rw (done, closed) refl

pub ends_not : (p : Phase) (inside : List Bracket) → ends p ≡ false → final (at p inside) ≡ None
ends_not p inside not_done = rw not_done refl

pub open_there : (p : Phase) (inside : List Bracket) → ends p ≡ true → (length inside == 0) ≡ false
    → final (at p inside) ≡ None
open_there p inside done not_closed = rw (done, not_closed) refl

pub wrong_none : (text : List ℕ) → json_reading text ≡ Ok tt → None ≡ wrong_place text
unfolding wrong_place
wrong_none text is = rw is refl

pub wrong_some : (text : List ℕ) (n : ℕ) → json_reading text ≡ Err n → Some n ≡ wrong_place text
unfolding wrong_place
wrong_some text n is = rw is refl
