-- What is read of an integer is its spelling, and its spelling is read.
use Rattle.std.proofs.Common.{◌≡◌, ◌==◌, ℕ, zero, suc, ℤ, pos, negsuc, ◌+◌, ◌-◌, ◌*◌, ◌/◌, ◌%◌, ◌^◌, ◌<◌, ◌≤◌, ◌+ℤ◌, ◌-ℤ◌, unsigned_abs, nat_lt, Bool, true, false, List, [], ◌∷◌, ◌++◌, get_or, Option, Some, None, if◌then◌else◌, inl, inr, ap, ap₂, refl, sym, subst, ◌∙◌, arith}
use Rattle.std.specs.List.{AllByRecursion}
use Rattle.std.specs.Option.{option_map}
use Rattle.std.proofs.Math.Nat.{pow-suc}
use Rattle.std.proofs.lemmas.Bool.{cases_lt, lt-ltb, le-ltb, ltb-true, eq-eqb, eqb-true, eqb-false, ne_eqb, cases_Bool}
use Rattle.std.proofs.lemmas.Nat.{div_below}
use Rattle.std.proofs.lemmas.Option.{option_and_then_some}
use Rattle.std.proofs.lemmas.Int.{ints}
use Rattle.vm_codec.specs.Integer.{zigzag, unzigzag, groups, integer}
use Rattle.vm_codec.specs.Coding.{IsInBounds, in_bounds}
use Rattle.vm_codec.specs.inner.Reading.{groups_at, number_at, in_64_bits, bounded, next_at}
use Rattle.vm_codec.proofs.Groups.{groups_at-last, groups_at-more}

-- ---- bytes

abbrev pub AreBytes : List ℕ → Type 0
AreBytes bytes = AllByRecursion (λ byte. byte < 256) bytes

pub bytes_from : (bytes : List ℕ) → ((i : ℕ) → get_or bytes i 0 < 256) → AreBytes bytes
bytes_from [] each = tt
bytes_from (byte ∷ bytes) each = (each 0, bytes_from bytes (λ i. each (suc i)))

-- a choice that isn't none
kept_some : {A : Type 0} (b : Bool) (x y : A) → (if b then None else Some x) ≡ Some y → (b ≡ false)
    × (x ≡ y)
kept_some true x y is = absurd (cc)
kept_some false x y is = (refl, cc)

pub some_if : {A : Type 0} (b : Bool) (x y : A) → (if b then Some x else None) ≡ Some y → (b ≡ true)
    × (x ≡ y)
some_if true x y is = (refl, cc)
some_if false x y is = absurd (cc)

pub same_some : {A : Type 0} (x y : A) → Some x ≡ Some y → x ≡ y
same_some x y is = cc

-- ---- groups

pub groups-last : (more number : ℕ) → number < 128 → groups (suc more) number ≡ number ∷ []
unfolding groups
groups-last more number low = rw (lt-ltb number 128 low) refl

pub groups-more : (more number : ℕ) → 128 ≤ number
    → groups (suc more) number ≡ (number % 128 + 128) ∷ groups more (number / 128)
unfolding groups
groups-more more number high = rw (le-ltb number 128 high) refl

groups_at-zero : (bytes : List ℕ) → groups_at 0 bytes ≡ None
unfolding groups_at
groups_at-zero bytes = refl

groups_at-nil : (more : ℕ) → groups_at (suc more) [] ≡ None
unfolding groups_at
groups_at-nil more = refl

-- the groups after one
spelled_more : (more byte high number : ℕ) → 128 ≤ byte → byte < 256 → 0 < high
    → number ≡ byte - 128 + 128 * high
    → groups (suc more) number ≡ byte ∷ groups more high
spelled_more more byte high number at_least below some is =
    let low : number % 128 + 128 ≡ byte = omega arith in
    let rest : number / 128 ≡ high = omega arith in
    groups-more more number (omega arith) ∙ ap₂ (λ b n. b ∷ groups more n) low rest

abbrev IsSame : ℕ × List ℕ → ℕ × List ℕ → Type 0
IsSame r s = r ≡ s

abbrev IsTaken : ℕ → List ℕ → ℕ → List ℕ → Type 0
IsTaken more bytes number rest = (bytes ≡ groups more number ++ rest) × AreBytes rest

one_group_more :
    (more byte : ℕ) (bytes : List ℕ) (number : ℕ) (rest : List ℕ) (high : ℕ) (after : List ℕ)
    → 128 ≤ byte
    → AreBytes (byte ∷ bytes) → IsTaken more bytes high after
    → ((high == 0) ≡ false) × (IsSame (byte - 128 + 128 * high, after) (number, rest))
    → IsTaken (suc more) (byte ∷ bytes) number rest
one_group_more more byte bytes number rest high after at_least are taken kept =
    let some : high ≡ 0 → ⊥ = eqb-false high 0 kept.0 in
    let value : byte - 128 + 128 * high ≡ number = ap (λ (r : ℕ × List ℕ). r.0) kept.1 in
    let left : after ≡ rest = ap (λ (r : ℕ × List ℕ). r.1) kept.1 in
    let text = spelled_more more byte high number at_least are.0 (omega arith) (sym value) in (
      rw text (ap (λ bs. byte ∷ bs) (taken.0 ∙ ap (λ bs. groups more high ++ bs) left)),
      subst AreBytes left taken.1,
    )

one_or_more : (more byte : ℕ) (bytes : List ℕ) (number : ℕ) (rest : List ℕ)
    → AreBytes (byte ∷ bytes)
    → ((high : ℕ) (after : List ℕ) → AreBytes bytes → groups_at more bytes ≡ Some (high, after)
    → IsTaken more bytes high after)
    → groups_at (suc more) (byte ∷ bytes) ≡ Some (number, rest)
    → IsTaken (suc more) (byte ∷ bytes) number rest
one_or_more more byte bytes number rest are others is =
    elim (cases_lt byte 128) [
      | inl low ↦
          let pair : Some (byte, bytes) ≡ Some (number, rest) =
          sym (groups_at-last more byte bytes low) ∙ is in
          let same = same_some (byte, bytes) (number, rest) pair in
          let value : byte ≡ number = ap (λ (r : ℕ × List ℕ). r.0) same in
          let after : bytes ≡ rest = ap (λ (r : ℕ × List ℕ). r.1) same in
          let text : groups (suc more) number ≡ byte ∷ [] = ap (groups (suc more)) (sym value)
          ∙ groups-last more byte low in
          (rw (text, after) refl, subst AreBytes after are.1)
      | inr high ↦
          option_and_then_some (λ r. if r.0 == 0 then None else Some (byte - 128 + 128 * r.0, r.1))
          (groups_at more bytes) (number, rest)
          (sym (groups_at-more more byte bytes high) ∙ is)
          (λ x read kept.
          one_group_more more byte bytes number rest x.0 x.1 high are
          (others x.0 x.1 are.1 read)
          (kept_some (x.0 == 0) (byte - 128 + 128 * x.0, x.1) (number, rest) kept))
    ]

groups_takes : (more : ℕ) (bytes : List ℕ) (number : ℕ) (rest : List ℕ) → AreBytes bytes
    → groups_at more bytes ≡ Some (number, rest) → IsTaken more bytes number rest
groups_takes zero bytes number rest are is =
    let none = groups_at-zero bytes in absurd (cc)
groups_takes (suc more) [] number rest are is =
    let none = groups_at-nil more in absurd (cc)
groups_takes (suc more) (byte ∷ bytes) number rest are is =
    one_or_more more byte bytes number rest are (groups_takes more bytes) is

-- a number of so many groups is read from its spelling
groups_again : (more number : ℕ) (rest : List ℕ) → number < 128 ^ suc more
    → groups_at (suc more) (groups (suc more) number ++ rest) ≡ Some (number, rest)
groups_again zero number rest small =
    let low : number < 128 = omega arith in
    rw (groups-last 0 number low) (groups_at-last 0 number rest low)
groups_again (suc more) number rest small =
    elim (cases_lt number 128) [
      | inl low ↦ rw (groups-last (suc more) number low) (groups_at-last (suc more) number rest low)
      | inr high ↦
          let below : number / 128 < 128 ^ suc more =
          omega (arith, pow-suc 128 (suc more), div_below number 128 (128 ^ suc more)) in
          let others = groups_again more (number / 128) rest below in
          let some : (number / 128 == 0) ≡ false = ne_eqb (number / 128) 0 (λ h. omega arith) in
          let whole : number % 128 + 128 - 128 + 128 * (number / 128) ≡ number = omega arith in
          rw (groups-more (suc more) number high)
          (groups_at-more (suc more) (number % 128 + 128) (groups (suc more) (number / 128) ++ rest)
          (omega arith)
          ∙ rw (others, some, whole) refl)
    ]

-- ---- numbers of 64 bits

pub number_takes : (bytes : List ℕ) (number : ℕ) (rest : List ℕ) → AreBytes bytes
    → number_at bytes ≡ Some (number, rest)
    → (bytes ≡ groups 10 number ++ rest) × AreBytes rest
unfolding number_at
number_takes bytes number rest are is =
    option_and_then_some (λ r. if nat_lt r.0 (2 ^ 64) then Some r else None) (groups_at 10 bytes)
    (number, rest) is
    (λ x read kept.
    subst (λ (r : ℕ × List ℕ). IsTaken 10 bytes r.0 r.1)
    (some_if (nat_lt x.0 (2 ^ 64)) x (number, rest) kept).1
    (groups_takes 10 bytes x.0 x.1 are read))

pub number_again : (number : ℕ) (rest : List ℕ) → number < 2 ^ 64
    → number_at (groups 10 number ++ rest) ≡ Some (number, rest)
unfolding number_at
number_again number rest small =
    ap in_64_bits (groups_again 9 number rest (omega arith))
    ∙ rw (lt-ltb number (2 ^ 64) small) refl

-- ---- zigzag

pub unzigzag-zigzag : (z : ℤ) → unzigzag (zigzag z) ≡ z
unzigzag-zigzag (pos n) = rw (eq-eqb (2 * n % 2) 0 (omega arith)) (ap pos (omega arith))
unzigzag-zigzag (negsuc n) =
    rw (ne_eqb ((2 * n + 1) % 2) 0 (λ h. omega arith)) (ap negsuc (omega arith))

pub zigzag-unzigzag : (n : ℕ) → zigzag (unzigzag n) ≡ n
zigzag-unzigzag n =
    elim (cases_Bool (n % 2 == 0)) [
      | inl even ↦ let none : n % 2 ≡ 0 = eqb-true (n % 2) 0 even in rw even (omega arith)
      | inr odd ↦ let some : n % 2 ≡ 0 → ⊥ = eqb-false (n % 2) 0 odd in rw odd (omega arith)
    ]

pub zigzag_small : (z : ℤ) → zigzag z ≤ 2 * unsigned_abs z
zigzag_small (pos n) = omega arith
zigzag_small (negsuc n) = omega arith

-- ---- the value after this one

-- a sum less its first parts
pub step_back : (value lean step : ℤ) → value +ℤ lean +ℤ step -ℤ value -ℤ lean ≡ step
step_back value lean step = omega (arith, ints)

pub step_on : (value lean next : ℤ) → value +ℤ lean +ℤ (next -ℤ value -ℤ lean) ≡ next
step_on value lean next = omega (arith, ints)

pub bounded_some : (value next : ℤ) → bounded value ≡ Some next → (value ≡ next) × IsInBounds next
bounded_some value next is =
    let kept = some_if (in_bounds value) value next is in
    (kept.1, subst IsInBounds kept.1 (ltb-true _ _ kept.0))

pub bounded_again : (value : ℤ) → IsInBounds value → bounded value ≡ Some value
bounded_again value inside = rw (lt-ltb (unsigned_abs value) (10 ^ 18) inside) refl

-- the value that is read and the bytes after its integer
pub record IsNext (value lean : ℤ) (bytes : List ℕ) (next : ℤ) (rest : List ℕ) : Type 0 where
  pub parts : bytes ≡ integer (next -ℤ value -ℤ lean) ++ rest
  pub rest_bytes : AreBytes rest
  pub bound : IsInBounds next

next_from : (value lean : ℤ) (bytes : List ℕ) (number : ℕ) (rest : List ℕ) (next : ℤ)
    → ((bytes ≡ groups 10 number ++ rest) × AreBytes rest)
    → bounded (value +ℤ lean +ℤ unzigzag number) ≡ Some next
    → IsNext value lean bytes next rest
next_from value lean bytes number rest next taken is =
    let kept = bounded_some (value +ℤ lean +ℤ unzigzag number) next is in
    let step : next -ℤ value -ℤ lean ≡ unzigzag number =
    ap (λ n. n -ℤ value -ℤ lean) (sym kept.0) ∙ step_back value lean (unzigzag number) in
    let text : zigzag (next -ℤ value -ℤ lean) ≡ number = ap zigzag step ∙ zigzag-unzigzag number in
    record { parts = rw text taken.0; rest_bytes = taken.1; bound = kept.1 }

pub next_takes : (value lean : ℤ) (bytes : List ℕ) (next : ℤ) (rest : List ℕ) → AreBytes bytes
    → next_at value lean bytes ≡ Some (next, rest) → IsNext value lean bytes next rest
unfolding next_at
next_takes value lean bytes next rest are is =
    option_and_then_some
    (λ r. option_map (λ next. (next, r.1)) (bounded (value +ℤ lean +ℤ unzigzag r.0)))
    (number_at bytes)
    (next, rest) is
    (λ x read kept.
    go x.0 x.1 (number_takes bytes x.0 x.1 are read) (bounded (value +ℤ lean +ℤ unzigzag x.0))
    refl kept)
  where
    go : (number : ℕ) (after : List ℕ) → ((bytes ≡ groups 10 number ++ after) × AreBytes after)
        → (o : Option ℤ) → bounded (value +ℤ lean +ℤ unzigzag number) ≡ o
        → option_map {T = ℤ} {U = ℤ × List ℕ} (λ next. (next, after)) o ≡ Some (next, rest)
        → IsNext value lean bytes next rest
    go number after taken None bound kept = absurd (cc)
    go number after taken (Some n) bound kept =
        let same = same_some (n, after) (next, rest) kept in
        subst (λ (r : ℤ × List ℕ). IsNext value lean bytes r.0 r.1) same
        (next_from value lean bytes number after n taken bound)

-- the zigzag of what is spelled fits 64 bits
pub step_fits : (value lean next : ℤ) → IsInBounds value → unsigned_abs lean < 2 * 10 ^ 18
    → IsInBounds next
    → zigzag (next -ℤ value -ℤ lean) < 2 ^ 63
step_fits value lean next v l n =
    let small : unsigned_abs (next -ℤ value -ℤ lean) < 4 * 10 ^ 18 = omega (arith, ints) in
    omega (arith, zigzag_small (next -ℤ value -ℤ lean))

pub next_again : (value lean next : ℤ) (rest : List ℕ) → IsInBounds value
    → unsigned_abs lean < 2 * 10 ^ 18 → IsInBounds next
    → next_at value lean (integer (next -ℤ value -ℤ lean) ++ rest) ≡ Some (next, rest)
unfolding next_at
next_again value lean next rest v l n =
    let fits = step_fits value lean next v l n in
    let whole : value +ℤ lean +ℤ unzigzag (zigzag (next -ℤ value -ℤ lean)) ≡ next =
    ap (λ s. value +ℤ lean +ℤ s) (unzigzag-zigzag (next -ℤ value -ℤ lean))
    ∙ step_on value lean next in
    rw (number_again (zigzag (next -ℤ value -ℤ lean)) rest (omega arith))
    (ap (λ v. option_map (λ next. (next, rest)) (bounded v)) whole
    ∙ ap (option_map (λ next. (next, rest))) (bounded_again next n))

pub difference_fits : (value next : ℤ) → IsInBounds value → IsInBounds next
    → zigzag (next -ℤ value) < 2 ^ 64
difference_fits value next v n =
    let small : unsigned_abs (next -ℤ value) < 2 * 10 ^ 18 = omega (arith, ints) in
    omega (arith, zigzag_small (next -ℤ value))
