-- The readings of numbers, for the proofs of those who use them.
use Rattle.std.specs.Prelude.{◌≡◌, ℕ, suc, ◌+◌, ◌*◌, List, Bool, codes, Ok, Err}
use Rattle.std.proofs.Common.{refl}
use Rattle.vm_base.specs.FirstWrong.{FirstWrong}
use Rattle.vm_base.specs.Run.{IsRead}
use Rattle.vm_base.proofs.RunLaws.{reading-result, result-reading, FirstWrong-reading, FirstWrong-same}
use Rattle.vm_decimal.specs.Spelled.{Spelled, IsNumber, IsAnyNumber}
use Rattle.vm_decimal.specs.NumberMachine.{State, step, final, start}
use Rattle.vm_decimal.specs.SampleReading.{number_reading}
use Rattle.vm_decimal.specs.declared.number_machine.Phase.{Phase}
use Rattle.vm_decimal.specs.declared.number_machine.Phase.TheVariants.{Start, Signed, Whole, Bare, Fraction, Marked, MarkSigned, Power}
use Rattle.vm_decimal.proofs.Spellings.{at_phase, spelled_by, number_read}
use Rattle.vm_decimal.proofs.ReadNumbers.{number_from_read}

-- from each state some text is read to its end
pub number_viable : (s : State) → (more : List ℕ) × IsRead step final s more
number_viable s = go s.phase s.negative s.digits s.places s.down s.power
  where
    go : (phase : Phase) (n : Bool) (d k : ℕ) (down : Bool) (w : ℕ)
        → (more : List ℕ) × IsRead step final (at_phase phase n d k down w) more
    go Whole n d k down w = (codes "", (spelled_by n d k down w, refl))
    go Fraction n d k down w = (codes "", (spelled_by n d k down w, refl))
    go Power n d k down w = (codes "", (spelled_by n d k down w, refl))
    go Start n d k down w = (codes "0", (spelled_by n (d * 10 + 0) k down w, refl))
    go Signed n d k down w = (codes "0", (spelled_by n (d * 10 + 0) k down w, refl))
    go Bare n d k down w = (codes "0", (spelled_by n (d * 10 + 0) (suc k) down w, refl))
    go Marked n d k down w = (codes "0", (spelled_by n d k down (w * 10 + 0), refl))
    go MarkSigned n d k down w = (codes "0", (spelled_by n d k down (w * 10 + 0), refl))

-- the reading of a text is the number that it spells
pub number_reading-number : (text : List ℕ) (spelled : Spelled) → IsNumber text spelled
    → number_reading text ≡ Ok spelled
number_reading-number text spelled is =
    reading-result step final start text spelled (number_read text spelled is)

pub number_from_reading : (text : List ℕ) (spelled : Spelled) → number_reading text ≡ Ok spelled
    → IsNumber text spelled
number_from_reading text spelled reads =
    number_from_read text spelled (result-reading step final start text spelled reads)

-- or the place where it stops being a number
pub number_wrong : (text : List ℕ) (at : ℕ) → number_reading text ≡ Err at
    → FirstWrong IsAnyNumber text at
number_wrong text at reads =
    FirstWrong-same
    (λ t is. (is.0, number_from_read t is.0 is.1))
    (λ t is. (is.0, number_read t is.0 is.1))
    text at (FirstWrong-reading step final number_viable start text at reads)

-- a text spells one number
pub one_spelling : (text : List ℕ) (one other : Spelled) → IsNumber text one → IsNumber text other
    → one ≡ other
one_spelling text one other is is_other =
    let first = number_reading-number text one is in
    let second = number_reading-number text other is_other in
    cc
