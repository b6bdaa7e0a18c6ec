-- How an integer is spelled.
use Rattle.std.specs.Prelude.{ℕ, zero, suc, ◌+◌, ◌*◌, ◌/◌, ◌%◌, ◌==◌, nat_lt, ℤ, pos, negsuc, List, [], ◌∷◌, if◌then◌else◌}

-- zigzag of v: 2v from 0 up, and -2v - 1 below, where `negsuc n` is -(n + 1)
abbrev pub zigzag : ℤ → ℕ
zigzag (pos n) = 2 * n
zigzag (negsuc n) = 2 * n + 1

-- a number in groups of 7 bits, at most so many, the lowest first; the high bit is set on all but
-- the last
unfoldable pub groups : ℕ → ℕ → List ℕ
groups zero number = []
groups (suc more) number =
    if nat_lt number 128 then number ∷ [] else (number % 128 + 128) ∷ groups more (number / 128)

-- the bytes of an integer whose zigzag is below 2^64: ten groups hold 70 bits
abbrev pub integer : ℤ → List ℕ
integer z = groups 10 (zigzag z)

-- the integer that has a zigzag
abbrev pub unzigzag : ℕ → ℤ
unzigzag number = if number % 2 == 0 then pos (number / 2) else negsuc (number / 2)
