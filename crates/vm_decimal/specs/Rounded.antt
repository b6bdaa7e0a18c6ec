-- The sample of a number of any size.
use Rattle.std.specs.Prelude.{ℕ, zero, suc, ◌+◌, ◌/◌, ◌^◌, ◌==◌, ◌&&◌, nat_lt, ℤ, pos, negsuc, ◌+ℤ◌, int_le, unsigned_abs, Option, Some, None, if◌then◌else◌}
use Rattle.vm_base.specs.Number.{number, stripped}
use Rattle.vm_base.specs.Rounding.{nearest}
use Rattle.vm_decimal.specs.Spelled.{Spelled}

-- how many digits of n stand after its first 18. The first argument bounds the steps: a number has
-- no more digits than it counts.
unfoldable pub surplus_within : ℕ → ℕ → ℕ
surplus_within zero n = 0
surplus_within (suc more) n =
    let rest = surplus_within more (n / 10) + 1 in
    if nat_lt n (10 ^ 18) then 0 else rest

-- how many digits of n stand after its first 18
abbrev pub surplus : ℕ → ℕ
surplus n = surplus_within n n

-- rounded to the first 18 digits, half to even
abbrev pub rounded : Spelled → Spelled
rounded s =
    let more = surplus s.digits in
    record {
      negative = s.negative;
      digits = nearest s.digits (10 ^ more);
      exponent = s.exponent +ℤ pos more;
    }

-- the number of at most 18 digits, or of 10^18, none where its exponent leaves -350 to 350 once no
-- zero stands at the end of its digits
unfoldable pub sample_of_digits : Spelled → Option ℤ
sample_of_digits s =
    let bare = stripped 18 s.digits in
    let exponent = s.exponent +ℤ pos bare.1 in
    if s.digits == 0 then Some (pos 0)
    else (if int_le (negsuc 349) exponent && int_le exponent (pos 350)
    then Some (number s.negative bare.0 (unsigned_abs (exponent +ℤ pos 1000)))
    else None)

-- the sample that a number is rounded to, none where that has no sample
abbrev pub sample_value : Spelled → Option ℤ
sample_value s = sample_of_digits (rounded s)
