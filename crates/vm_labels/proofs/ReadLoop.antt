-- Reading pairs one after the other, as a loop does.
use Rattle.std.proofs.Common.{◌≡◌, ℕ, suc, ◌-◌, ◌+◌, ◌≤◌, ◌<◌, List, [], ◌∷◌, ◌++◌, Option, Some, Result, Ok, Err, refl, sym, ap, ◌∙◌, append_assoc, arith}
use Rattle.std.proofs.lemmas.List.{append-nil}
use Rattle.vm_labels.specs.Bytes.{◌>>=◌, Stops, pair_at, pairs_at}
use Rattle.vm_labels.specs.declared.pair.Pair.{Pair}
use Rattle.vm_labels.specs.declared.bytes.Stop.{Stop}
use Rattle.vm_labels.specs.declared.bytes.Stop.TheVariants.{At, Memory}

-- what was read before, and what is still read
abbrev pub with_front : List Pair → Result (List Pair × List ℕ) ℕ → Result (List Pair × List ℕ) ℕ
with_front front read = read >>= λ x. Ok (front ++ x.0, x.1)

regroup : (front : List Pair) (p : Pair) (read : Result (List Pair × List ℕ) ℕ)
    → with_front front (read >>= λ x. Ok (p ∷ x.0, x.1)) ≡ with_front (front ++ p ∷ []) read
regroup front p (Ok x) = ap (λ (ps : List Pair). Ok (ps, x.1)) (simp append_assoc)
regroup front p (Err f) = refl

pub goes_on :
    (front : List Pair) (count i : ℕ) (last : Option (List ℕ)) (bytes : List ℕ) (p : Pair)
    (after : List ℕ) (total : Result (List Pair × List ℕ) ℕ)
    → i < count → pair_at last bytes ≡ Ok (p, after)
    → with_front front (pairs_at (count - i) last bytes) ≡ total
    → with_front (front ++ p ∷ []) (pairs_at (count - (i + 1)) (Some p.name) after) ≡ total
unfolding pairs_at
goes_on front count i last bytes p after total lt h so_far =
    let k : count - i ≡ suc (count - (i + 1)) = omega arith in
    let one : with_front front (pairs_at (count - i) last bytes)
    ≡ with_front (front ++ p ∷ []) (pairs_at (count - (i + 1)) (Some p.name) after) =
    rw (k, h) (regroup front p (pairs_at (count - (i + 1)) (Some p.name) after)) in
    sym one ∙ so_far

pub ends :
    (stop : Stop) (front : List Pair) (count i : ℕ) (last : Option (List ℕ)) (bytes : List ℕ)
    (total : Result (List Pair × List ℕ) ℕ)
    → i < count → Stops stop (pair_at last bytes)
    → with_front front (pairs_at (count - i) last bytes) ≡ total → Stops stop total
unfolding pairs_at
ends Memory front count i last bytes total lt h so_far = tt
ends (At left) front count i last bytes total lt h so_far =
    let k : count - i ≡ suc (count - (i + 1)) = omega arith in
    let one : with_front front (pairs_at (count - i) last bytes) ≡ Err left = rw (k, h) refl in
    sym so_far ∙ one

pub is_done :
    (front : List Pair) (count i : ℕ) (last : Option (List ℕ)) (bytes : List ℕ)
    (total : Result (List Pair × List ℕ) ℕ)
    → count ≤ i → with_front front (pairs_at (count - i) last bytes) ≡ total
    → total ≡ Ok (front, bytes)
unfolding pairs_at
is_done front count i last bytes total le so_far =
    let k : count - i ≡ 0 = omega arith in
    let one : with_front front (pairs_at (count - i) last bytes) ≡ Ok (front, bytes) =
    rw k (ap (λ (ps : List Pair). Ok (ps, bytes)) (append-nil front)) in
    sym so_far ∙ one
