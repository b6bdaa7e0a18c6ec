-- How a number is written. A number in normal form is given by its digits, which don't end with a
-- zero, and by its shift: the last digit is worth 10^(shift - 1000).
use Rattle.std.specs.Prelude.{ℕ, ◌+◌, ◌-◌, ◌==◌, ◌&&◌, nat_lt, nat_le, ℤ, Bool, List, [], ◌++◌, length, take, drop, replicate, codes, if◌then◌else◌}
use Rattle.std.specs.Fmt.{decimal}
use Rattle.vm_base.specs.Number.{form_of}

-- so many zeros
abbrev pub noughts : ℕ → List ℕ
noughts count = replicate count 48

-- zeros after the digits, or the point among them, or `0.` and zeros before them
abbrev pub plain : List ℕ → ℕ → List ℕ
plain digits shift =
    let whole = length digits + shift - 1000 in
    if nat_le 1000 shift then digits ++ noughts (shift - 1000)
    else (if nat_lt 0 whole then take whole digits ++ codes "." ++ drop whole digits
    else codes "0." ++ noughts (1000 - (length digits + shift)) ++ digits)

-- a power of ten with its sign, where `place` is 1000 above it
abbrev pub power : ℕ → List ℕ
power place =
    if nat_lt place 1000 then codes "-" ++ decimal (1000 - place)
    else codes "+" ++ decimal (place - 1000)

-- the digits after the first and the point before them, where there are any
abbrev pub fraction : List ℕ → List ℕ
fraction digits = if nat_lt 1 (length digits) then codes "." ++ drop 1 digits else []

-- the first digit, the others after a point, and the power of ten of the first
abbrev pub scientific : List ℕ → ℕ → List ℕ
scientific digits place = take 1 digits ++ fraction digits ++ codes "e" ++ power place

-- plain where the power of ten of the first digit is from -7 to 20, else scientific
abbrev pub size_text : List ℕ → ℕ → List ℕ
size_text digits shift =
    let place = length digits + shift - 1 in
    if nat_le 993 place && nat_le place 1020 then plain digits shift else scientific digits place

-- what stands before the size of a number below zero
abbrev pub sign : Bool → List ℕ
sign negative = if negative then codes "-" else []

-- the text of a number: `0`, or its sign and its size
abbrev pub number_text : ℤ → List ℕ
number_text z =
    let form = form_of z in
    if form.size == 0 then codes "0"
    else sign form.negative ++ size_text (decimal form.size) form.shift
