-- The bits of the open brackets.
use Rattle.std.proofs.Common.{◌≡◌, ℕ, zero, suc, ◌+◌, ◌*◌, ◌/◌, ◌<◌, ◌≤◌, ◌^◌, length, refl, ap, arith, inl, inr}
use Rattle.std.proofs.lemmas.Nat.{pow_below}
use Rattle.std.proofs.lemmas.Bool.{cases_lt}
use Rattle.vm_json.specs.inner.Nesting.{brackets}

pub length-brackets : (count bits : ℕ) → length (brackets count bits) ≡ count
length-brackets zero bits = refl
length-brackets (suc count) bits = ap suc (length-brackets count (bits / 2))

below_99 : (count : ℕ) → count < 100 → 2 ^ count ≤ 2 ^ 99
below_99 count few = elim (cases_lt count 99) [
  | inl less ↦ let below = pow_below count 99 less in omega arith
  | inr more ↦ let same : count ≡ 99 = omega arith in rw same (omega arith)
]

pub fits_one_more : (count bits : ℕ) → count < 100 → bits < 2 ^ count → bits * 2 + 1 < 2 ^ 128
fits_one_more count bits few fits = let below = below_99 count few in omega arith
