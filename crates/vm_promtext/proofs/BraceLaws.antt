-- Braces step by step.
use Rattle.std.proofs.Common.{◌≡◌, ℕ, zero, suc, ◌-◌, ◌<◌, true, false, List, length, Result, Ok, Err, refl, ◌∙◌, arith}
use Rattle.std.specs.Prelude.{if◌then◌else◌}
use Rattle.vm_labels.specs.declared.pair.Pair.{Pair}
use Rattle.vm_promtext.specs.Reading.{braces_reading, turn_reading, Turn, ◌>>=◌}
use Rattle.vm_promtext.specs.inner.Stop.{Fails}
use Rattle.vm_promtext.specs.declared.stop.Stop.{Stop}
use Rattle.vm_promtext.specs.declared.stop.Stop.TheVariants.{Memory, Broken}

pub turn_last : (fuel : ℕ) (before : List Pair) (text : List ℕ) → fuel ≡ 0
    → braces_reading fuel before text ≡ Err (length text)
unfolding braces_reading
turn_last fuel before text is = rw is refl

turn_next : (fuel : ℕ) (before : List Pair) (text : List ℕ)
    → braces_reading (suc fuel) before text ≡ turn_reading before text >>= (λ turn.
    if turn.closed then Ok (turn.pairs, turn.rest) else braces_reading fuel turn.pairs turn.rest)
unfolding braces_reading
turn_next fuel before text = refl

turn_some : (fuel : ℕ) (before : List Pair) (text : List ℕ) → 0 < fuel
    → braces_reading fuel before text ≡ turn_reading before text >>= (λ turn.
    if turn.closed then Ok (turn.pairs, turn.rest)
    else braces_reading (fuel - 1) turn.pairs turn.rest)
turn_some zero before text some = absurd (omega arith)
turn_some (suc fuel) before text some =
    let less : suc fuel - 1 ≡ fuel = omega arith in
    rw less (turn_next fuel before text)

pub turn_wrong : (fuel left : ℕ) (before : List Pair) (text : List ℕ) → 0 < fuel
    → turn_reading before text ≡ Err left
    → braces_reading fuel before text ≡ Err left
turn_wrong fuel left before text some is = turn_some fuel before text some ∙ rw is refl

pub turn_closed : (fuel : ℕ) (before : List Pair) (text : List ℕ) (turn : Turn) → 0 < fuel
    → turn_reading before text ≡ Ok turn → turn.closed ≡ true
    → braces_reading fuel before text ≡ Ok (turn.pairs, turn.rest)
turn_closed fuel before text turn some is closed = turn_some fuel before text some
    ∙ rw (is, closed) refl

pub turn_goes_on : (fuel : ℕ) (before : List Pair) (text : List ℕ) (turn : Turn) → 0 < fuel
    → turn_reading before text ≡ Ok turn → turn.closed ≡ false
    → braces_reading fuel before text ≡ braces_reading (fuel - 1) turn.pairs turn.rest
turn_goes_on fuel before text turn some is closed = turn_some fuel before text some
    ∙ rw (is, closed) refl

-- a fault within a step is the fault of all
pub turn_fails :
    (stop : Stop) (start : Result (List Pair × List ℕ) ℕ) (fuel : ℕ) (before : List Pair)
    (text : List ℕ) → 0 < fuel → start ≡ braces_reading fuel before text
    → Fails stop (turn_reading before text) → Fails stop start
turn_fails Memory start fuel before text some is fails = tt
turn_fails (Broken wrong) start fuel before text some is fails = is
    ∙ turn_wrong fuel wrong.left before text some fails
