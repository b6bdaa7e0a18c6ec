-- Bytes put at a place of a list, seen byte by byte.
use Rattle.std.proofs.Common.{◌≡◌, ℕ, ◌+◌, ◌-◌, ◌≤◌, ◌<◌, max, List, ◌++◌, length, take, drop, length-append, length-drop, append_assoc, sym, ap, ◌∙◌, arith}
use Rattle.std.specs.List.{slice_get}
use Rattle.std.specs.Prelude.{Some}
use Rattle.std.proofs.Math.ListN.{get_or}
use Rattle.std.proofs.lemmas.List.{length-take, get_or-take, get_or-drop, get_or_append_left, get_or-append-add}
use Rattle.std.proofs.lemmas.Option.{slice_get-get_or, slice_get_within, get_or_from_slice_get}

-- old with these bytes at this place
abbrev pub splice : ℕ → List ℕ → List ℕ → List ℕ
splice at bytes old = take at old ++ bytes ++ drop (at + length bytes) old

parts : (at : ℕ) (bytes old : List ℕ)
    → splice at bytes old ≡ take at old ++ (bytes ++ drop (at + length bytes) old)
parts at bytes old = append_assoc (take at old) bytes (drop (at + length bytes) old)

-- how long the list is then
pub splice_length : (at : ℕ) (bytes old : List ℕ) → at ≤ length old
    → length (splice at bytes old) ≡ max (length old) (at + length bytes)
splice_length at bytes old within =
    omega (
      arith,
      ap length (parts at bytes old),
      length-append (take at old) (bytes ++ drop (at + length bytes) old),
      length-append bytes (drop (at + length bytes) old),
      length-take at old,
      length-drop (at + length bytes) old,
    )

-- before the place it has the old bytes
pub before_splice : (at i : ℕ) (bytes old : List ℕ) → at ≤ length old → i < at
    → get_or (splice at bytes old) i 0 ≡ get_or old i 0
before_splice at i bytes old within less =
    ap (λ l. get_or l i 0) (parts at bytes old)
    ∙ get_or_append_left (take at old) (bytes ++ drop (at + length bytes) old) 0 i
    (omega (arith, length-take at old))
    ∙ get_or-take at old i 0 less

-- what stands at a place after the front
behind_front : (at i : ℕ) (bytes old : List ℕ) → at ≤ length old
    → get_or (splice at bytes old) (at + i) 0 ≡ get_or (bytes ++ drop (at + length bytes) old) i 0
behind_front at i bytes old within =
    let front : length (take at old) ≡ at = omega (arith, length-take at old) in
    ap (λ l. get_or l (at + i) 0) (parts at bytes old)
    ∙ ap (λ k. get_or (take at old ++ (bytes ++ drop (at + length bytes) old)) (k + i) 0)
    (sym front)
    ∙ get_or-append-add (take at old) (bytes ++ drop (at + length bytes) old) i 0

-- from the place on it has the new bytes
pub in_splice : (at i : ℕ) (bytes old : List ℕ) → at ≤ length old → at ≤ i → i < at + length bytes
    → get_or (splice at bytes old) i 0 ≡ get_or bytes (i - at) 0
in_splice at i bytes old within from less =
    let is : i ≡ at + (i - at) = omega arith in
    ap (λ k. get_or (splice at bytes old) k 0) is
    ∙ behind_front at (i - at) bytes old within
    ∙ get_or_append_left bytes (drop (at + length bytes) old) 0 (i - at) (omega arith)

-- after the new bytes it has the old ones
pub after_splice : (at i : ℕ) (bytes old : List ℕ) → at ≤ length old → at + length bytes ≤ i
    → get_or (splice at bytes old) i 0 ≡ get_or old i 0
after_splice at i bytes old within from =
    let is : i ≡ at + (length bytes + (i - (at + length bytes))) = omega arith in
    ap (λ k. get_or (splice at bytes old) k 0) is
    ∙ behind_front at (length bytes + (i - (at + length bytes))) bytes old within
    ∙ get_or-append-add bytes (drop (at + length bytes) old) (i - (at + length bytes)) 0
    ∙ get_or-drop (at + length bytes) old (i - (at + length bytes)) 0
    ∙ ap (λ k. get_or old k 0) (omega arith)

-- the same byte within both lists
pub same_byte : (xs ys : List ℕ) (i : ℕ) → i < length xs → i < length ys
    → get_or xs i 0 ≡ get_or ys i 0
    → slice_get xs i ≡ slice_get ys i
same_byte xs ys i less more is =
    slice_get-get_or xs i 0 less ∙ ap (λ byte. Some byte) is ∙ sym (slice_get-get_or ys i 0 more)

-- a place within one list is within another that has the same byte there
pub byte_within : (xs ys : List ℕ) (i : ℕ) → i < length xs → slice_get xs i ≡ slice_get ys i
    → i < length ys
byte_within xs ys i less is =
    slice_get_within ys i (get_or xs i 0) (sym is ∙ slice_get-get_or xs i 0 less)

-- and the byte there is the same
pub byte_same : (xs ys : List ℕ) (i : ℕ) → i < length xs → slice_get xs i ≡ slice_get ys i
    → get_or xs i 0 ≡ get_or ys i 0
byte_same xs ys i less is =
    sym (get_or_from_slice_get ys i (get_or xs i 0) 0 (sym is ∙ slice_get-get_or xs i 0 less))
