-- The reader and the machine.
use Rattle.std.specs.Prelude.{◌≡◌, ℕ, suc, ◌+◌, ◌<◌, List, [], ◌∷◌, ◌++◌, length, take, drop, Some, None, Ok, Err, option_and_then, true, false}
use Rattle.std.proofs.Common.{refl, arith, sym, ap, ◌∙◌, drop-cons}
use Rattle.std.proofs.Math.ListN.{get_or}
use Rattle.std.proofs.lemmas.List.{take_more, take-append-drop, length-take-le}
use Rattle.vm_base.specs.Run.{run}
use Rattle.vm_base.proofs.RunLaws.{run-append, reading-stuck, reading-end}
use Rattle.vm_decimal.specs.NumberMachine.{symbol_of, next, may_end, State, taken, step, final, start, spelled}
use Rattle.vm_decimal.specs.inner.Reader.{Stands}
use Rattle.vm_decimal.specs.SampleReading.{number_reading}
use Rattle.vm_decimal.specs.declared.number_machine.Phase.{Phase}
use Rattle.vm_decimal.specs.declared.number_machine.Phase.TheVariants.{Start}
use Rattle.vm_decimal.specs.declared.reader.Reader.{Reader}
use Rattle.vm_decimal.specs.declared.number_machine.Symbol.{Symbol}

-- one step by its symbol and phase
pub step_on : (s : State) (byte : ℕ) (at phase : Phase) (symbol : Symbol) → at ≡ s.phase
    → symbol ≡ symbol_of byte → next at symbol ≡ Some phase
    → step s byte ≡ Some (taken s phase symbol)
step_on s byte at phase symbol same is found =
    let next_is : next s.phase (symbol_of byte) ≡ Some phase = cc in
    rw (next_is, is) refl

-- the machine at one place of a text, and after the next byte
module _ (text : List ℕ) (at : ℕ) (s : State) (here : at < length text)
    (there : run step start (take at text) ≡ Some s) where
  pub came : (t : State) → step s (get_or text at 0) ≡ Some t
      → run step start (take (at + 1) text) ≡ Some t
  came t next =
      ap (run step start) (take_more text at 0 here)
      ∙ run-append step final start (take at text) (get_or text at 0 ∷ [])
      ∙ ap (option_and_then (λ u. run step u (get_or text at 0 ∷ []))) there
      ∙ ap (option_and_then (λ u. Some u)) next

  pub stuck : step s (get_or text at 0) ≡ None → number_reading text ≡ Err at
  stuck none =
      let parts : text ≡ take at text ++ (get_or text at 0 ∷ drop (suc at) text) =
      sym (take-append-drop at text)
      ∙ ap (λ rest. take at text ++ rest) (drop-cons text at 0 here) in
      let far : length (take at text) ≡ at = length-take-le at text (omega arith) in
      ap number_reading parts
      ∙ reading-stuck step final (take at text) (drop (suc at) text) start s (get_or text at 0)
      there none
      ∙ ap Err far

-- and at its end
pub reading_there : (text : List ℕ) (s : State) → run step start text ≡ Some s
    → may_end s.phase ≡ true
    → number_reading text ≡ Ok (spelled s)
reading_there text s there done =
    reading-end step final text start s there ∙ rw done refl

pub reading_short : (text : List ℕ) (s : State) → run step start text ≡ Some s
    → may_end s.phase ≡ false
    → number_reading text ≡ Err (length text)
reading_short text s there done =
    reading-end step final text start s there ∙ rw done refl

-- at the start
abbrev pub fresh : Reader
fresh = record {
  phase = Start;
  negative = false;
  digits = record { kept = 0; dropped = 0; sticky = false };
  places = 0;
  down = false;
  power = 0;
}

pub fresh_stands : Stands fresh start
fresh_stands = record {
  phase = refl;
  negative = refl;
  digits = record {
    tail = 0;
    whole = omega arith;
    less = omega arith;
    some = λ more. absurd (cc more);
    none = λ _. refl;
    few = omega arith;
    many = λ some. absurd (omega arith);
  };
  places = refl;
  down = refl;
  power = record { exact = λ _. refl; far = λ much. absurd (omega arith); few = omega arith };
}
