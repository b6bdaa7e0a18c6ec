-- What a source over bytes in memory gives at once, and what it has left then.
use Rattle.std.proofs.Common.{◌≡◌, ℕ, ◌+◌, ◌≤◌, List, ◌++◌, length, take, drop, sym, ap, ◌∙◌, arith, length-drop}
use Rattle.std.proofs.lemmas.List.{length-take}
use Rattle.std.proofs.lemmas.Simd.{chunk-drop}
use Rattle.std.proofs.Math.Seq.{take-append_seam}

-- a buffer that begins with n of the bytes from `at` on, and those after them: all from `at` on
pub piece_then_rest : (bytes piece rest : List ℕ) (at n m : ℕ) → piece ≡ take m (drop at bytes)
    → m ≡ n → at + n ≤ length bytes
    → take n (piece ++ rest) ++ drop (at + n) bytes ≡ drop at bytes
piece_then_rest bytes piece rest at n m is same fits =
    let is_n : piece ≡ take n (drop at bytes) = is ∙ ap (λ k. take k (drop at bytes)) same in
    let len : length piece ≡ n =
    omega (arith, ap length is_n, length-take n (drop at bytes), length-drop at bytes) in
    let front : take n (piece ++ rest) ≡ piece =
    ap (λ k. take k (piece ++ rest)) (sym len) ∙ take-append_seam piece rest in
    rw (front, is_n) (sym (chunk-drop at n bytes))
