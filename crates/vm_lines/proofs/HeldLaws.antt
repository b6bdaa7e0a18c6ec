-- Bytes that a buffer holds.
use Rattle.std.proofs.Common.{◌≡◌, ℕ, ◌+◌, ◌-◌, ◌≤◌, length, List, ◌++◌, take, drop, sym, ap, ◌∙◌, arith, take-add, length-drop}
use Rattle.std.specs.List.{copy_within}
use Rattle.std.proofs.lemmas.List.{length-take-le, drop-take, drop-append-le, length-take}
use Rattle.std.proofs.Math.Seq.{take-append_seam}

-- more bytes behind those that were held
pub refilled : (before now : List ℕ) (from to n : ℕ) → from ≤ to → to ≤ length before
    → take to now ≡ take to before
    → drop from (take (to + n) now) ≡ drop from (take to before) ++ take n (drop to now)
refilled before now from to n order within front =
    ap (drop from) (take-add to n now ∙ ap (λ bytes. bytes ++ take n (drop to now)) front)
    ∙ drop-append-le from (take to before) (take n (drop to now))
    (omega (arith, length-take to before))

-- what stands at the front after bytes moved there
pub moved : (bytes : List ℕ) (from to : ℕ) → from ≤ to → to ≤ length bytes
    → take (to - from) (copy_within bytes from to 0) ≡ drop from (take to bytes)
moved bytes from to order within =
    let front : length (take (to - from) (drop from bytes)) ≡ to - from =
    length-take-le (to - from) (drop from bytes) (omega (arith, length-drop from bytes)) in
    ap (λ k. take k (copy_within bytes from to 0)) (sym front)
    ∙ take-append_seam (take (to - from) (drop from bytes)) (drop (0 + (to - from)) bytes)
    ∙ sym (drop-take from (to - from) bytes)
    ∙ ap (λ k. drop from (take k bytes)) (omega arith)
