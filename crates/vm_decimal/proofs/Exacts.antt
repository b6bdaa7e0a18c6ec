-- Exact digits, and numbers of any length.
use Rattle.std.proofs.Common.{◌≡◌, ℕ, suc, ◌+◌, ◌-◌, ◌*◌, ◌%◌, ◌^◌, ◌<◌, ◌≤◌, ◌⊎◌, inl, inr, ℤ, pos, negsuc, ◌+ℤ◌, ◌-ℤ◌, ◌<ℤ◌, unsigned_abs, Bool, true, false, Option, Some, None, Ok, IfSome, List, refl, ap, sym, ◌∙◌, ⊎_elim, arith}
use Rattle.std.proofs.Math.Nat.{le-mul_of_pos_right}
use Rattle.std.proofs.lemmas.Bool.{cases_eq, cases_lt}
use Rattle.std.proofs.lemmas.Int.{ints}
use Rattle.vm_base.specs.Form.{ten_pos, tens}
use Rattle.vm_base.specs.Number.{signed, stripped}
use Rattle.vm_base.specs.Run.{run}
use Rattle.vm_base.proofs.NumberLaws.{stripped_whole, stripped_last, stripped_few}
use Rattle.vm_decimal.specs.Dec.{dec_of}
use Rattle.vm_decimal.specs.DecText.{dec_value, dec_reading, or_too_wide, dec_valued}
use Rattle.vm_decimal.specs.inner.Exact.{IsWide, IsExact}
use Rattle.vm_decimal.specs.NumberMachine.{State, symbol_of, next, may_end, step, start, spelled}
use Rattle.vm_decimal.specs.inner.Reader.{IsCapped, Stands}
use Rattle.vm_decimal.specs.SampleReading.{number_reading}
use Rattle.vm_decimal.specs.Spelled.{Spelled, IsNumber}
use Rattle.vm_decimal.specs.declared.exact.Exact.{Exact}
use Rattle.vm_decimal.specs.declared.number_machine.Phase.{Phase}
use Rattle.vm_decimal.specs.declared.number_machine.Symbol.{Symbol}
use Rattle.vm_decimal.specs.declared.reader.Reader.{Reader}
use Rattle.vm_decimal.proofs.Decs.{dec_of-placed, dec_of-none, placed_low, placed_wide, placed_high, noughts_add}
use Rattle.vm_decimal.proofs.NumberReadings.{number_reading-number}
use Rattle.vm_decimal.proofs.Readers.{reading_there, reading_short}

-- one digit more

-- a number that is too long stays so
pub wide_more : (n digit : ℕ) → IsWide n → digit < 10 → IsWide (n * 10 + digit)
wide_more n digit wide few =
    ⊎_elim
    (λ (none : digit ≡ 0). record {
      bare = wide.bare;
      noughts = suc wide.noughts;
      whole = omega (arith, tens wide.bare wide.noughts, wide.whole);
      last = wide.last;
      many = wide.many;
    })
    (λ (some : digit ≡ 0 → ⊥).
    let above : wide.bare ≤ wide.bare * 10 ^ wide.noughts =
    le-mul_of_pos_right wide.bare (ten_pos wide.noughts) in
    record {
      bare = n * 10 + digit;
      noughts = 0;
      whole = omega arith;
      last = λ end. some (omega arith);
      many = omega (arith, wide.whole, wide.many);
    })
    (cases_eq digit 0)

-- 39 digits of which the last isn't 0
wide_start : (n size noughts digit : ℕ) → n ≡ size * 10 ^ noughts → 10 ^ 37 ≤ size → digit < 10
    → (digit ≡ 0 → ⊥) → IsWide (n * 10 + digit)
wide_start n size noughts digit is full few some =
    let above : size ≤ size * 10 ^ noughts = le-mul_of_pos_right size (ten_pos noughts) in
    record {
      bare = n * 10 + digit;
      noughts = 0;
      whole = omega arith;
      last = λ end. some (omega arith);
      many = omega arith;
    }

pub with_room : (e : Exact) (n digit : ℕ) → IsExact e n → e.noughts ≡ 0 → e.size < 10 ^ 37
    → digit < 10
    → IsExact (record { size = e.size * 10 + digit; noughts = 0; wide = e.wide }) (n * 10 + digit)
with_room e n digit is none room few = record {
  whole = λ (small : e.wide ≡ false).
      let so_far : n ≡ e.size * 10 ^ 0 = is.whole small ∙ ap (λ k. e.size * 10 ^ k) none in
      omega arith;
  few = omega arith;
  full = λ some. absurd (omega arith);
  beyond = λ (wide : e.wide ≡ true). wide_more n digit (is.beyond wide) few;
}

pub with_nought : (e : Exact) (n : ℕ) → IsExact e n → (e.noughts ≡ 0 → e.size < 10 ^ 37 → ⊥)
    → IsExact (record { size = e.size; noughts = e.noughts + 1; wide = e.wide }) (n * 10 + 0)
with_nought e n is no_room = record {
  whole = λ (small : e.wide ≡ false).
      let next : e.size * 10 ^ suc e.noughts ≡ 10 * (e.size * 10 ^ e.noughts) =
      tens e.size e.noughts in
      let more : e.noughts + 1 ≡ suc e.noughts = omega arith in
      omega (arith, is.whole small, ap (λ k. e.size * 10 ^ k) more);
  few = is.few;
  full = λ some. full_size e n is no_room;
  beyond = λ (wide : e.wide ≡ true). wide_more n 0 (is.beyond wide) (omega arith);
}
  where
    full_size : (e : Exact) (n : ℕ) → IsExact e n → (e.noughts ≡ 0 → e.size < 10 ^ 37 → ⊥)
        → 10 ^ 37 ≤ e.size
    full_size e n is no_room =
        ⊎_elim
        (λ (none : e.noughts ≡ 0).
        ⊎_elim (λ (small : e.size < 10 ^ 37). absurd (no_room none small)) (λ many. many)
        (cases_lt e.size (10 ^ 37)))
        (λ (some : e.noughts ≡ 0 → ⊥). is.full (omega arith))
        (cases_eq e.noughts 0)

pub with_more : (e : Exact) (n digit : ℕ) → IsExact e n → (e.noughts ≡ 0 → e.size < 10 ^ 37 → ⊥)
    → digit < 10
    → (digit ≡ 0 → ⊥)
    → IsExact (record { size = e.size; noughts = e.noughts; wide = true }) (n * 10 + digit)
with_more e n digit is no_room few some = record {
  whole = λ small. absurd (cc small);
  few = is.few;
  full = is.full;
  beyond = λ wide. go e.wide refl;
}
  where
    full_size : 10 ^ 37 ≤ e.size
    full_size =
        ⊎_elim
        (λ (none : e.noughts ≡ 0).
        ⊎_elim (λ (small : e.size < 10 ^ 37). absurd (no_room none small)) (λ many. many)
        (cases_lt e.size (10 ^ 37)))
        (λ (none : e.noughts ≡ 0 → ⊥). is.full (omega arith))
        (cases_eq e.noughts 0)

    go : (wide : Bool) → e.wide ≡ wide → IsWide (n * 10 + digit)
    go true wide = wide_more n digit (is.beyond wide) few
    go false small = wide_start n e.size e.noughts digit (is.whole small) full_size few some

-- the machine and the digits

pub step_off : (s : State) (byte : ℕ) (phase : Phase) (symbol : Symbol) → phase ≡ s.phase
    → symbol ≡ symbol_of byte → next phase symbol ≡ None → step s byte ≡ None
step_off s byte phase symbol same is none =
    let next_is : next s.phase (symbol_of byte) ≡ None = cc in
    rw next_is refl

-- the digits of the state at the text's end are the number's
pub gathered : (text : List ℕ) (s : State) (read : Spelled) → run step start text ≡ Some s
    → number_reading text ≡ Ok read → s.digits ≡ read.digits
gathered text s read there reads = go (may_end s.phase) refl
  where
    go : (done : Bool) → may_end s.phase ≡ done → s.digits ≡ read.digits
    go true done =
        let all = reading_there text s there done in
        let same : spelled s ≡ read = cc (all, reads) in
        ap (λ t. t.digits) same
    go false done =
        let short = reading_short text s there done in
        absurd (cc (short, reads))

-- numbers of any length

record Stripped (n : ℕ) : Type 0 where
  pub bare : ℕ
  pub noughts : ℕ
  pub whole : n ≡ bare * 10 ^ noughts
  pub last : bare % 10 ≡ 0 → ⊥
  pub short : noughts < 38

strip : (n : ℕ) → 0 < n → n < 10 ^ 38 → Stripped n
strip n some few = record {
  bare = (stripped 38 n).0;
  noughts = (stripped 38 n).1;
  whole = sym (stripped_whole 38 n);
  last = stripped_last 38 n some few;
  short = stripped_few 38 n 38 some few;
}

-- zeros at the end count as well in the exponent
pub dec_of-noughts : (minus : Bool) (size k : ℕ) (e : ℤ) → size < 10 ^ 38
    → dec_of (signed minus (size * 10 ^ k)) e ≡ dec_of (signed minus size) (e +ℤ pos k)
dec_of-noughts minus size k e few =
    ⊎_elim
    (λ (none : size ≡ 0).
    let nought : size * 10 ^ k ≡ 0 = ap (λ n. n * 10 ^ k) none ∙ omega arith in
    sym (dec_of-none minus (size * 10 ^ k) e nought) ∙ dec_of-none minus size (e +ℤ pos k) none)
    (λ (other : size ≡ 0 → ⊥).
    let s = strip size (omega arith) few in
    let j = s.noughts in
    let shift : ℤ = (e +ℤ pos k) +ℤ pos (1000 + s.noughts) in
    let all : size * 10 ^ k ≡ s.bare * 10 ^ (s.noughts + k) =
    ap (λ n. n * 10 ^ k) s.whole ∙ noughts_add s.bare s.noughts k in
    ap (λ n. dec_of (signed minus n) e) all
    ∙ dec_of-placed minus s.bare (s.noughts + k) s.last e shift (omega (arith, ints))
    ∙ sym (ap (λ n. dec_of (signed minus n) (e +ℤ pos k)) s.whole
    ∙ dec_of-placed minus s.bare s.noughts s.last (e +ℤ pos k) shift refl))
    (cases_eq size 0)

-- an exponent that is far out of range
pub dec_of-far : (minus : Bool) (size : ℕ) (e : ℤ) → 0 < size → size < 10 ^ 38
    → (e <ℤ negsuc 9999) ⊎ (pos 10000 <ℤ e) → dec_of (signed minus size) e ≡ None
dec_of-far minus size e some few far =
    let s = strip size some few in
    let short = s.short in
    ⊎_elim
    (λ (low : e <ℤ negsuc 9999).
    let down : ℕ = unsigned_abs e - (1001 + s.noughts) in
    let shift : negsuc down ≡ e +ℤ pos (1000 + s.noughts) = omega (arith, ints) in
    ap (λ n. dec_of (signed minus n) e) s.whole
    ∙ dec_of-placed minus s.bare s.noughts s.last e (negsuc down) shift
    ∙ placed_low minus s.bare down)
    (λ (high : pos 10000 <ℤ e).
    let up : ℕ = unsigned_abs e + (1000 + s.noughts) in
    let shift : pos up ≡ e +ℤ pos (1000 + s.noughts) = omega (arith, ints) in
    ap (λ n. dec_of (signed minus n) e) s.whole
    ∙ dec_of-placed minus s.bare s.noughts s.last e (pos up) shift
    ∙ placed_high minus s.bare up (omega (arith, ints)))
    far

-- an exponent that is counted exactly below 10^30 alone gives the same
dec_of-capped : (minus down : Bool) (size more places counted power : ℕ) → size < 10 ^ 38
    → more ≤ 2 ^ 64 → places ≤ 2 ^ 64 → IsCapped counted power
    → dec_of (signed minus size) ((signed down counted -ℤ pos places) +ℤ pos more)
    ≡ dec_of (signed minus size) ((signed down power -ℤ pos places) +ℤ pos more)
dec_of-capped minus down size more places counted power few small near capped =
    ⊎_elim
    (λ (exact : counted < 10 ^ 30).
    ap (λ n. dec_of (signed minus size) ((signed down n -ℤ pos places) +ℤ pos more))
    (capped.exact exact))
    (λ (far : 10 ^ 30 ≤ counted).
    ⊎_elim
    (λ (none : size ≡ 0).
    sym (dec_of-none minus size ((signed down counted -ℤ pos places) +ℤ pos more) none)
    ∙ dec_of-none minus size ((signed down power -ℤ pos places) +ℤ pos more) none)
    (λ (other : size ≡ 0 → ⊥).
    let too : 10 ^ 30 ≤ power = capped.far far in
    dec_of-far minus size _ (omega arith) few (out_of_reach down more places counted small near far)
    ∙ sym (dec_of-far minus size _ (omega arith) few
    (out_of_reach down more places power small near too)))
    (cases_eq size 0))
    (cases_lt counted (10 ^ 30))
  where
    out_of_reach : (down : Bool) (more places power : ℕ) → more ≤ 2 ^ 64 → places ≤ 2 ^ 64
        → 10 ^ 30 ≤ power
        → (((signed down power -ℤ pos places) +ℤ pos more) <ℤ negsuc 9999)
        ⊎ (pos 10000 <ℤ ((signed down power -ℤ pos places) +ℤ pos more))
    out_of_reach true more places power small near far = inl (omega (arith, ints))
    out_of_reach false more places power small near far = inr (omega (arith, ints))

-- the number of what a reader stands for
pub read_value : (reader : Reader) (s : State) (size more : ℕ) → Stands reader s
    → s.digits ≡ size * 10 ^ more → size < 10 ^ 38 → more ≤ 2 ^ 64 → reader.places ≤ 2 ^ 64
    → dec_of (signed reader.negative size)
    ((signed reader.down reader.power -ℤ pos reader.places) +ℤ pos more)
    ≡ dec_value (spelled s)
read_value reader s size more stands digits few small near =
    let e : ℤ = signed s.down s.power -ℤ pos s.places in
    dec_of-capped reader.negative reader.down size more reader.places reader.power s.power few small
    near stands.power
    ∙ rw (stands.negative, stands.down, stands.places) refl
    ∙ sym (ap (λ n. dec_of (signed s.negative n) e) digits
    ∙ dec_of-noughts s.negative size more e few)

pub read_wide : (s : State) → IsWide s.digits → None ≡ dec_value (spelled s)
read_wide s wide =
    let e : ℤ = signed s.down s.power -ℤ pos s.places in
    let shift : ℤ = e +ℤ pos (1000 + wide.noughts) in
    sym (ap (λ n. dec_of (signed s.negative n) e) wide.whole
    ∙ dec_of-placed s.negative wide.bare wide.noughts wide.last e shift refl
    ∙ placed_wide s.negative wide.bare shift wide.many)

-- the number of a text of few digits
pub quick_dec_is : (text : List ℕ) (s : Spelled) (found : Option ℤ) → IsNumber text s
    → found ≡ dec_value s → IfSome found (λ z. dec_reading text ≡ Ok z)
unfolding dec_reading
quick_dec_is text s None is value = tt
quick_dec_is text s (Some z) is value =
    ap dec_valued (number_reading-number text s is) ∙ ap or_too_wide (sym value)

-- no digits yet
pub fresh_exact : IsExact (record { size = 0; noughts = 0; wide = false }) 0
fresh_exact = record {
  whole = λ small. refl;
  few = omega arith;
  full = λ some. absurd (omega arith);
  beyond = λ wide. absurd (cc wide);
}
