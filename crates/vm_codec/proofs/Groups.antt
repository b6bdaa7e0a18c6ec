-- Numbers in groups of 7 bits, read one group after the other.
use Rattle.std.proofs.Common.{◌≡◌, ℕ, zero, suc, add-one, ◌⊎◌, ◌+◌, ◌-◌, ◌*◌, ◌%◌, ◌^◌, ◌==◌, ◌&&◌, ◌<◌, ◌≤◌, nat_lt, Bool, true, false, List, [], ◌∷◌, length, Option, Some, None, if◌then◌else◌, arith, ap, ap₂, subst, sym, ◌∙◌, refl, inl, inr}
use Rattle.std.specs.Option.{option_and_then}
use Rattle.std.proofs.Math.Nat.{pow-suc, pow-le-pow_right, mul-le-mul_right}
use Rattle.std.proofs.lemmas.Bool.{cases_lt, lt-ltb, le-ltb, and_left, and_right, ne_eqb}
use Rattle.vm_codec.specs.inner.Reading.{groups_at, number_at, behind, in_64_bits}

-- a byte that isn't the last of its number
pub groups_at-more : (more byte : ℕ) (bytes : List ℕ) → 128 ≤ byte
    → groups_at (suc more) (byte ∷ bytes)
    ≡ option_and_then (λ r. if r.0 == 0 then None else Some (byte - 128 + 128 * r.0, r.1))
    (groups_at more bytes)
unfolding groups_at
groups_at-more more byte bytes high = rw (le-ltb byte 128 high) refl

-- a byte that is the last of its number
pub groups_at-last : (more byte : ℕ) (bytes : List ℕ) → byte < 128
    → groups_at (suc more) (byte ∷ bytes) ≡ Some (byte, bytes)
unfolding groups_at
groups_at-last more byte bytes low = rw (lt-ltb byte 128 low) refl

groups_at-zero : (bytes : List ℕ) → groups_at 0 bytes ≡ None
unfolding groups_at
groups_at-zero bytes = refl

pub groups_at-none : (more : ℕ) → groups_at more [] ≡ None
unfolding groups_at
groups_at-none zero = refl
groups_at-none (suc more) = refl

-- what isn't 0 may stand after other groups
some_behind : (place below scale n : ℕ) (rest : List ℕ) → 0 < n
    → behind place below scale (Some (n, rest)) ≡ Some (below + scale * n, rest)
some_behind place below scale n rest some =
    let other : (n == 0) ≡ false = ne_eqb n 0 (λ h. omega arith) in
    rw (other, and_right (nat_lt 0 place) false refl) refl

-- what isn't 0 may follow a group
one_more : (group n : ℕ) (rest : List ℕ) → 0 < n
    → option_and_then {T = ℕ × List ℕ} {U = ℕ × List ℕ}
    (λ r. if r.0 == 0 then None else Some (group + 128 * r.0, r.1)) (Some (n, rest))
    ≡ Some (group + 128 * n, rest)
one_more group n rest some =
    let other : (n == 0) ≡ false = ne_eqb n 0 (λ h. omega arith) in
    rw other refl

too_wide : (n : ℕ) (rest : List ℕ) → 2 ^ 64 ≤ n → in_64_bits (Some (n, rest)) ≡ None
too_wide n rest wide = rw (le-ltb n (2 ^ 64) wide) refl

-- the sum of a group and of what follows it
one_sum : (place below scale group : ℕ) (r : Option (ℕ × List ℕ))
    → behind place below scale
    (option_and_then (λ r. if r.0 == 0 then None else Some (group + 128 * r.0, r.1)) r)
    ≡ behind (suc place) (below + group * scale) (scale * 128) r
one_sum place below scale group None = refl
one_sum place below scale group (Some (zero, rest)) = rw (lt-ltb 0 (suc place) (omega arith)) refl
one_sum place below scale group (Some (suc n, rest)) =
    let sum : below + scale * (group + 128 * suc n) ≡ below + group * scale + scale * 128 * suc n =
    omega arith in
    ap (λ r. behind place below scale r) (one_more group (suc n) rest (omega arith))
    ∙ some_behind place below scale (group + 128 * suc n) rest (omega arith)
    ∙ ap (λ (m : ℕ). Some (m, rest)) sum
    ∙ sym (some_behind (suc place) (below + group * scale) (scale * 128) (suc n) rest (omega arith))

-- a group that isn't the last
pub one_group : (place below scale byte more : ℕ) (bytes : List ℕ) → 128 ≤ byte
    → behind place below scale (groups_at (suc more) (byte ∷ bytes))
    ≡ behind (suc place) (below + (byte - 128) * scale) (scale * 128) (groups_at more bytes)
one_group place below scale byte more bytes high =
    rw (groups_at-more more byte bytes high)
    (one_sum place below scale (byte - 128) (groups_at more bytes))

-- no group, and one that is the last
pub no_group : (place below scale more : ℕ) (bytes : List ℕ) → length bytes ≡ 0
    → in_64_bits (behind place below scale (groups_at more bytes)) ≡ None
no_group place below scale more [] none = rw (groups_at-none more) refl
no_group place below scale more (b ∷ bytes) none = absurd (omega arith)

pub last_group : (place below scale byte more : ℕ) (bytes : List ℕ) → byte < 128
    → below + byte * scale < 2 ^ 64
    → in_64_bits (behind place below scale (groups_at (suc more) (byte ∷ bytes)))
    ≡ (if nat_lt 0 place && byte == 0 then None else Some (below + byte * scale, bytes))
last_group place below scale byte more bytes low small =
    rw (groups_at-last more byte bytes low) (kept (nat_lt 0 place && byte == 0))
  where
    kept : (b : Bool) → in_64_bits (if b then None else Some (below + scale * byte, bytes))
        ≡ (if b then None else Some (below + byte * scale, bytes))
    kept true = refl
    kept false =
        let same : below + scale * byte ≡ below + byte * scale = omega arith in
        rw (same, lt-ltb (below + byte * scale) (2 ^ 64) small) refl

-- after nothing
pub nothing_behind : (r : Option (ℕ × List ℕ)) → behind 0 0 1 r ≡ r
nothing_behind None = refl
nothing_behind (Some (n, rest)) = ap (λ (m : ℕ). Some (m, rest)) (omega arith)

-- what a tenth group may be
pub tenth : (below group : ℕ) (bytes : List ℕ) → below < 2 ^ 63
    → in_64_bits (behind 9 below (2 ^ 63) (groups_at 1 (group ∷ bytes)))
    ≡ (if group == 1 then Some (below + 2 ^ 63, bytes) else None)
tenth below zero bytes small = rw (groups_at-last 0 0 bytes (omega arith)) refl
tenth below (suc zero) bytes small =
    let sum : below + 2 ^ 63 * 1 ≡ below + 2 ^ 63 = omega arith in
    rw (groups_at-last 0 1 bytes (omega arith), sum, lt-ltb (below + 2 ^ 63) (2 ^ 64) (omega arith))
    refl
tenth below (suc (suc group)) bytes small =
    let other : (suc (suc group) == 1) ≡ false = ne_eqb (suc (suc group)) 1 (λ h. omega arith) in
    elim (cases_lt (suc (suc group)) 128) [
      | inl low ↦
          rw other
          (ap (λ r. in_64_bits (behind 9 below (2 ^ 63) r))
          (groups_at-last 0 (suc (suc group)) bytes low)
          ∙ ap in_64_bits (some_behind 9 below (2 ^ 63) (suc (suc group)) bytes (omega arith))
          ∙ too_wide (below + 2 ^ 63 * suc (suc group)) bytes (omega arith))
      | inr high ↦
          rw (other, groups_at-more 0 (suc (suc group)) bytes high, groups_at-zero bytes) refl
    ]

-- ---- the steps of the loop

pub at_front : (bytes : List ℕ) → in_64_bits (behind 0 0 1 (groups_at 10 bytes)) ≡ number_at bytes
unfolding number_at
at_front bytes = ap in_64_bits (nothing_behind (groups_at 10 bytes))

-- the bytes end before the number does
pub no_more : (place below scale : ℕ) (rest bytes : List ℕ) → length rest ≡ 0
    → in_64_bits (behind place below scale (groups_at (10 - place) rest)) ≡ number_at bytes
    → None ≡ number_at bytes
no_more place below scale rest bytes none read =
    sym (no_group place below scale (10 - place) rest none) ∙ read

-- the scale of a place, and of the next
pub scale_small : (scale place : ℕ) → scale ≡ 128 ^ place → place < 9 → scale * 128 ≤ 2 ^ 63
scale_small scale place is few =
    let more : 128 ^ suc place ≤ 128 ^ 9 =
    pow-le-pow_right {n = 128} (omega arith) {i = suc place} {j = 9} (omega arith) in
    omega (arith, pow-suc 128 place, more)

pub scale_more : (scale place : ℕ) → scale ≡ 128 ^ place → scale * 128 ≡ 128 ^ (place + 1)
scale_more scale place is = rw (add-one, pow-suc 128 place) (omega arith)

-- one group more keeps below the next scale
pub group_small : (below scale group place : ℕ) → scale ≡ 128 ^ place → below < scale → place < 9
    → group < 128
    → (below + group * scale < scale * 128) × (scale * 128 ≤ 2 ^ 63)
group_small below scale group place is small few low =
    let most : group * scale ≤ 127 * scale = mul-le-mul_right scale (omega arith) in
    (omega arith, scale_small scale place is few)

-- the last group of a number
pub ends : (place below scale byte group : ℕ) (more rest bytes : List ℕ) → rest ≡ byte ∷ more
    → byte < 128
    → group ≡ byte % 128 → below + group * scale < 2 ^ 64 → place < 9
    → in_64_bits (behind place below scale (groups_at (10 - place) rest)) ≡ number_at bytes
    → (if nat_lt 0 place && group == 0 then None else Some (below + group * scale, more))
    ≡ number_at bytes
ends place below scale byte group more rest bytes front low is small few read =
    let left : 10 - place ≡ suc (9 - place) = omega arith in
    let same : group ≡ byte = omega arith in
    let fits : below + byte * scale < 2 ^ 64 = subst (λ g. below + g * scale < 2 ^ 64) same small in
    subst (λ g. (if nat_lt 0 place && g == 0 then None else Some (below + g * scale, more))
    ≡ number_at bytes) (sym same)
    (sym (last_group place below scale byte (9 - place) more low fits)
    ∙ ap₂ (λ n bs. in_64_bits (behind place below scale (groups_at n bs))) (sym left) (sym front)
    ∙ read)

-- a group that isn't the last
pub goes_on : (place below scale byte group : ℕ) (more rest bytes : List ℕ) → rest ≡ byte ∷ more
    → 128 ≤ byte → byte < 256
    → group ≡ byte % 128 → place < 9
    → in_64_bits (behind place below scale (groups_at (10 - place) rest)) ≡ number_at bytes
    → in_64_bits
    (behind (place + 1) (below + group * scale) (scale * 128) (groups_at (10 - (place + 1)) more))
    ≡ number_at bytes
goes_on place below scale byte group more rest bytes front high is_byte is few read =
    let left : 10 - place ≡ suc (10 - suc place) = omega arith in
    let same : byte - 128 ≡ group = omega arith in
    rw add-one
    (ap (λ g.
    in_64_bits
    (behind (suc place) (below + g * scale) (scale * 128) (groups_at (10 - suc place) more)))
    (sym same)
    ∙ ap in_64_bits (sym (one_group place below scale byte (10 - suc place) more high))
    ∙ ap₂ (λ n bs. in_64_bits (behind place below scale (groups_at n bs))) (sym left) (sym front)
    ∙ read)

-- a group that is 0 may be the last only where it is the first
pub may_end : (place group : ℕ) → ((group ≡ 0) × (place ≤ 0)) ⊎ (group ≡ 0 → ⊥)
    → (nat_lt 0 place && group == 0) ≡ false
may_end place group either =
    elim either [
      | inl h ↦ and_left (nat_lt 0 place) (group == 0) (le-ltb 0 place h.1)
      | inr h ↦ and_right (nat_lt 0 place) (group == 0) (ne_eqb group 0 h)
    ]
