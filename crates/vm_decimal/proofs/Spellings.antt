-- The machine reads the texts of numbers and nothing else, each as the number that it spells.
use Rattle.std.specs.Prelude.{◌≡◌, ℕ, suc, ◌+◌, ◌-◌, ◌*◌, ◌<◌, ◌⊎◌, ℤ, pos, ◌-ℤ◌, Bool, true, false, List, [], ◌∷◌, ◌++◌, length, Some, if◌then◌else◌, codes, option_and_then}
use Rattle.std.specs.Char.{is_ascii_digit, digit_value}
use Rattle.std.specs.Str.Parse.{digits_value, digits_value_after}
use Rattle.std.proofs.Common.{refl, arith, sym, ap, ◌∙◌, ⊎_elim, append_assoc, append-nil, one-add, zero-add}
use Rattle.std.proofs.lemmas.Bool.Decides.{nat_tests}
use Rattle.vm_base.specs.Number.{signed}
use Rattle.vm_base.specs.Run.{run, result}
use Rattle.vm_decimal.specs.Spelled.{Spelled, IsDigits, IsSign, IsMantissa, IsExponent, IsOptionalExponent, IsNumber}
use Rattle.vm_decimal.specs.NumberMachine.{symbol_of, State, step, final, start}
use Rattle.vm_decimal.specs.declared.number_machine.Phase.{Phase}
use Rattle.vm_decimal.specs.declared.number_machine.Phase.TheVariants.{Start, Signed, Whole, Fraction, Marked, MarkSigned, Power}
use Rattle.vm_decimal.specs.declared.number_machine.Symbol.TheVariants.{Digit, Sign, Point, Mark}

-- digits and their values

-- the value of digits after others
pub value_append : (n : ℕ) (xs ys : List ℕ)
    → digits_value_after 10 n (xs ++ ys) ≡ digits_value_after 10 (digits_value_after 10 n xs) ys
value_append n [] ys = refl
value_append n (x ∷ xs) ys = value_append (n * 10 + digit_value x) xs ys

pub digit_is : (b : ℕ) → is_ascii_digit b ≡ true → digit_value b ≡ b - 48
digit_is b digit = grind (arith, nat_tests)

-- which byte a symbol is of

symbol-digit : (b : ℕ) → is_ascii_digit b ≡ true → symbol_of b ≡ Digit (digit_value b)
symbol-digit b digit = rw (digit, digit_is b digit) refl

module _ (b : ℕ) where
  pub digit_from : (d : ℕ) → symbol_of b ≡ Digit d → (is_ascii_digit b ≡ true) × (digit_value b ≡ d)
  digit_from d is = grind (arith, nat_tests)

  pub sign_from : (minus : Bool) → symbol_of b ≡ Sign minus → b ≡ (if minus then 45 else 43)
  sign_from minus is = grind (arith, nat_tests)

  pub point_from : symbol_of b ≡ Point → b ≡ 46
  point_from is = grind (arith, nat_tests)

  pub mark_from : symbol_of b ≡ Mark → (b ≡ 101) ⊎ (b ≡ 69)
  mark_from is = grind (arith, nat_tests)

-- the states of the machine, by their parts

abbrev pub at_phase : Phase → Bool → ℕ → ℕ → Bool → ℕ → State
at_phase phase negative digits places down power = record {
  phase = phase;
  negative = negative;
  digits = digits;
  places = places;
  down = down;
  power = power;
}

abbrev pub spelled_by : Bool → ℕ → ℕ → Bool → ℕ → Spelled
spelled_by negative digits places down power = record {
  negative = negative;
  digits = digits;
  exponent = signed down power -ℤ pos places;
}

-- before the mantissa, after a sign or not; after the mantissa, with a point or not
abbrev pub opened : Bool → Phase
opened true = Signed
opened false = Start

abbrev pub closed : Bool → Phase
closed true = Fraction
closed false = Whole

-- in the grammar, so read

module _ (n : Bool) where
  whole_run : (d k : ℕ) (ds rest : List ℕ) → IsDigits ds
      → run step (at_phase Whole n d k false 0) (ds ++ rest)
      ≡ run step (at_phase Whole n (digits_value_after 10 d ds) k false 0) rest
  whole_run d k [] rest all = refl
  whole_run d k (b ∷ bs) rest all =
      rw (symbol-digit b all.0) (whole_run (d * 10 + digit_value b) k bs rest all.1)

  fraction_run : (d k : ℕ) (ds rest : List ℕ) → IsDigits ds
      → run step (at_phase Fraction n d k false 0) (ds ++ rest)
      ≡ run step (at_phase Fraction n (digits_value_after 10 d ds) (k + length ds) false 0) rest
  fraction_run d k [] rest all =
      let same : k ≡ k + 0 = omega arith in
      ap (λ p. run step (at_phase Fraction n d p false 0) rest) same
  fraction_run d k (b ∷ bs) rest all =
      let more : ℕ = d * 10 + digit_value b in
      let far : suc k + length bs ≡ k + suc (length bs) = omega arith in
      rw (symbol-digit b all.0) (fraction_run more (suc k) bs rest all.1
      ∙ ap (λ p. run step (at_phase Fraction n (digits_value_after 10 more bs) p false 0) rest) far)

  power_run : (d k : ℕ) (down : Bool) (w : ℕ) (ds : List ℕ) → IsDigits ds
      → run step (at_phase Power n d k down w) ds
      ≡ Some (at_phase Power n d k down (digits_value_after 10 w ds))
  power_run d k down w [] all = refl
  power_run d k down w (b ∷ bs) all =
      rw (symbol-digit b all.0) (power_run d k down (w * 10 + digit_value b) bs all.1)

  -- digits of an exponent, at least one
  first_power : (signs : Bool) (d k : ℕ) (down : Bool) (ds : List ℕ) → IsDigits ds → 0 < length ds
      → run step (at_phase (if signs then MarkSigned else Marked) n d k down 0) ds
      ≡ Some (at_phase Power n d k down (digits_value 10 ds))
  first_power signs d k down [] all some = absurd (omega arith)
  first_power true d k down (b ∷ bs) all some =
      rw (symbol-digit b all.0) (power_run d k down (0 * 10 + digit_value b) bs all.1)
  first_power false d k down (b ∷ bs) all some =
      rw (symbol-digit b all.0) (power_run d k down (0 * 10 + digit_value b) bs all.1)

  -- an exponent after its letter
  signed_power : (d k : ℕ) (down : Bool) (sign digits : List ℕ) → IsSign down sign → IsDigits digits
      → 0 < length digits
      → run step (at_phase Marked n d k false 0) (sign ++ digits)
      ≡ Some (at_phase Power n d k down (digits_value 10 digits))
  signed_power d k true sign digits is all some =
      rw is (first_power true d k true digits all some)
  signed_power d k false sign digits is all some =
      ⊎_elim
      (λ plus. rw plus (first_power true d k false digits all some))
      (λ none. rw none (first_power false d k false digits all some))
      is

  marked_run : (pointed : Bool) (d k : ℕ) (letter rest : List ℕ)
      → (letter ≡ codes "e") ⊎ (letter ≡ codes "E")
      → run step (at_phase (closed pointed) n d k false 0) (letter ++ rest)
      ≡ run step (at_phase Marked n d k false 0) rest
  marked_run true d k letter rest is = ⊎_elim (λ small. rw small refl) (λ great. rw great refl) is
  marked_run false d k letter rest is = ⊎_elim (λ small. rw small refl) (λ great. rw great refl) is

  final-closed : (pointed : Bool) (d k : ℕ)
      → final (at_phase (closed pointed) n d k false 0) ≡ Some (spelled_by n d k false 0)
  final-closed true d k = refl
  final-closed false d k = refl

  exponent_read : (pointed : Bool) (d k : ℕ) (text : List ℕ) (power : ℤ)
      → IsOptionalExponent text power
      → result step final (at_phase (closed pointed) n d k false 0) text
      ≡ Some (record { negative = n; digits = d; exponent = power -ℤ pos k })
  exponent_read pointed d k text power is =
      ⊎_elim
      (λ none.
      rw (none.0, none.1) (final-closed pointed d k))
      (λ (e : IsExponent text power).
      let there = ap (run step (at_phase (closed pointed) n d k false 0)) e.parts
      ∙ marked_run pointed d k e.letter (e.sign ++ e.digits) e.a_letter
      ∙ signed_power d k e.negative e.sign e.digits e.a_sign e.all_digits e.a_digit in
      ap (option_and_then final) there
      ∙ ap (λ p. Some (record { negative = n; digits = d; exponent = p -ℤ pos k }))
      (sym e.power_is))
      is

  -- a point and digits after an optional sign
  bare_run : (sign : Bool) (fraction rest : List ℕ) → IsDigits fraction → 0 < length fraction
      → run step (at_phase (opened sign) n 0 0 false 0) (46 ∷ (fraction ++ rest))
      ≡ run step (at_phase Fraction n (digits_value 10 fraction) (length fraction) false 0) rest
  bare_run sign [] rest all some = absurd (omega arith)
  bare_run true (b ∷ bs) rest all some =
      rw (symbol-digit b all.0) (fraction_run (0 * 10 + digit_value b) 1 bs rest all.1
      ∙ ap (λ p. run step (at_phase Fraction n (digits_value 10 (b ∷ bs)) p false 0) rest)
      (one-add (length bs)))
  bare_run false (b ∷ bs) rest all some =
      rw (symbol-digit b all.0) (fraction_run (0 * 10 + digit_value b) 1 bs rest all.1
      ∙ ap (λ p. run step (at_phase Fraction n (digits_value 10 (b ∷ bs)) p false 0) rest)
      (one-add (length bs)))

  -- digits after an optional sign
  first_run : (sign : Bool) (whole rest : List ℕ) → IsDigits whole → 0 < length whole
      → run step (at_phase (opened sign) n 0 0 false 0) (whole ++ rest)
      ≡ run step (at_phase Whole n (digits_value 10 whole) 0 false 0) rest
  first_run sign [] rest all some = absurd (omega arith)
  first_run true (b ∷ bs) rest all some =
      rw (symbol-digit b all.0) (whole_run (0 * 10 + digit_value b) 0 bs rest all.1)
  first_run false (b ∷ bs) rest all some =
      rw (symbol-digit b all.0) (whole_run (0 * 10 + digit_value b) 0 bs rest all.1)

  -- a mantissa after an optional sign
  record Reached (sign : Bool) (digits places : ℕ) (text rest : List ℕ) : Type 0 where
    pub pointed : Bool
    pub there : run step (at_phase (opened sign) n 0 0 false 0) (text ++ rest)
        ≡ run step (at_phase (closed pointed) n digits places false 0) rest

  pointed_run : (sign : Bool) (whole fraction rest : List ℕ) → IsDigits whole → IsDigits fraction
      → 0 < length whole + length fraction
      → run step (at_phase (opened sign) n 0 0 false 0) (whole ++ (46 ∷ (fraction ++ rest)))
      ≡ run step
      (at_phase Fraction n (digits_value 10 (whole ++ fraction)) (length fraction) false 0) rest
  pointed_run sign [] fraction rest all more some = bare_run sign fraction rest more (omega arith)
  pointed_run sign (b ∷ bs) fraction rest all more some =
      let whole : List ℕ = b ∷ bs in
      let n' : ℕ = digits_value 10 whole in
      first_run sign whole (46 ∷ (fraction ++ rest)) all (omega arith)
      ∙ fraction_run n' 0 fraction rest more
      ∙ ap (λ p. run step (at_phase Fraction n (digits_value_after 10 n' fraction) p false 0) rest)
      (zero-add (length fraction))
      ∙ ap (λ v. run step (at_phase Fraction n v (length fraction) false 0) rest)
      (sym (value_append 0 whole fraction))

  mantissa_run : (sign : Bool) (text rest : List ℕ) (digits places : ℕ)
      → IsMantissa text digits places
      → Reached sign digits places text rest
  mantissa_run sign text rest digits places m =
      ⊎_elim
      (λ (point : m.point ≡ codes ".").
      let parts : text ++ rest ≡ m.whole ++ (46 ∷ (m.fraction ++ rest)) =
      ap (λ t. t ++ rest) (m.parts ∙ ap (λ p. m.whole ++ (p ++ m.fraction)) point)
      ∙ append_assoc m.whole (46 ∷ m.fraction) rest in
      record {
        pointed = true;
        there = rw (m.digits_are, m.places_are, parts)
            (pointed_run sign m.whole m.fraction rest m.whole_digits m.fraction_digits m.a_digit);
      })
      (λ none.
      let fraction : length m.fraction ≡ 0 = ap length none.1 in
      let bare : text ≡ m.whole = m.parts
      ∙ ap (λ p. m.whole ++ (p ++ m.fraction)) none.0 ∙ ap (λ f. m.whole ++ f) none.1
      ∙ append-nil m.whole in
      let all : m.whole ++ m.fraction ≡ m.whole = ap (λ f. m.whole ++ f) none.1
      ∙ append-nil m.whole in
      record {
        pointed = false;
        there = rw (m.digits_are, m.places_are, bare, all, fraction)
            (first_run sign m.whole rest m.whole_digits (let some = m.a_digit in omega arith));
      })
      m.one_point

sign_run : (negative : Bool) (sign : List ℕ) → IsSign negative sign
    → (signs : Bool)
    × ((rest : List ℕ)
    → run step start (sign ++ rest) ≡ run step (at_phase (opened signs) negative 0 0 false 0) rest)
sign_run true sign is = (true, λ rest. rw is refl)
sign_run false sign is =
    ⊎_elim
    (λ plus. (true, λ rest. rw plus refl))
    (λ none. (false, λ rest. rw none refl))
    is

-- a number is read, as what it spells
pub number_read : (text : List ℕ) (spelled : Spelled) → IsNumber text spelled
    → result step final start text ≡ Some spelled
number_read text spelled is =
    let signed = sign_run spelled.negative is.sign is.a_sign in
    let mantissa =
    mantissa_run spelled.negative signed.0 is.mantissa is.exponent spelled.digits is.places
    is.a_mantissa in
    let whole : run step start text
    ≡ run step
    (at_phase (closed mantissa.pointed) spelled.negative spelled.digits is.places false 0)
    is.exponent =
    ap (run step start) is.parts ∙ signed.1 (is.mantissa ++ is.exponent) ∙ mantissa.there in
    ap (option_and_then final) whole
    ∙ exponent_read spelled.negative mantissa.pointed spelled.digits is.places is.exponent is.power
    is.an_exponent
    ∙ ap (λ e. Some (record { negative = spelled.negative; digits = spelled.digits; exponent = e }))
    (sym is.exponent_is)
