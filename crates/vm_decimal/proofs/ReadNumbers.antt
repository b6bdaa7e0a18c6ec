-- What the machine reads is the text of a number: by what may follow each phase, from the end of a
-- text to its front.
use Rattle.std.specs.Prelude.{◌≡◌, ℕ, suc, ◌+◌, ◌*◌, ◌<◌, ◌⊎◌, ℤ, pos, ◌-ℤ◌, Bool, true, false, List, [], ◌∷◌, ◌++◌, length, Some, codes, option_and_then, option_map}
use Rattle.std.specs.Char.{digit_value}
use Rattle.std.specs.Str.Parse.{digits_value, digits_value_after}
use Rattle.std.proofs.Common.{refl, arith, sym, ap, subst, ◌∙◌, inl, inr, ⊎_elim, append_assoc, zero-add}
use Rattle.vm_base.specs.Number.{signed}
use Rattle.vm_base.specs.Run.{run, result}
use Rattle.vm_decimal.specs.Spelled.{Spelled, IsDigits, IsSign, IsMantissa, IsOptionalExponent, IsNumber}
use Rattle.vm_decimal.specs.NumberMachine.{symbol_of, next, State, taken, step, final, start}
use Rattle.vm_decimal.specs.declared.number_machine.Phase.TheVariants.{Signed, Whole, Bare, Fraction, Marked, MarkSigned, Power}
use Rattle.vm_decimal.specs.declared.number_machine.Symbol.{Symbol}
use Rattle.vm_decimal.specs.declared.number_machine.Symbol.TheVariants.{Digit, Sign, Point, Mark}
use Rattle.vm_decimal.proofs.Spellings.{digit_from, sign_from, point_from, mark_from, at_phase, spelled_by}

-- the machine reads this text from a state, as this number
abbrev Reads : State → List ℕ → Spelled → Type 0
Reads s text v = result step final s text ≡ Some v

-- the same of a text after one symbol
abbrev ReadsNext : State → Symbol → List ℕ → Spelled → Type 0
ReadsNext s x text v =
    option_and_then final
    (option_and_then (λ t. run step t text) (option_map (λ p. taken s p x) (next s.phase x)))
    ≡ Some v

module _ (n : Bool) (v : Spelled) where
  -- digits that follow those of an exponent
  record MorePower (d k : ℕ) (down : Bool) (w : ℕ) (text : List ℕ) : Type 0 where
    pub all : IsDigits text
    pub is : v ≡ spelled_by n d k down (digits_value_after 10 w text)

  power_tail : (d k : ℕ) (down : Bool) (w : ℕ) (text : List ℕ)
      → Reads (at_phase Power n d k down w) text v → MorePower d k down w text
  power_tail d k down w [] reads = record { all = tt; is = cc }
  power_tail d k down w (b ∷ bs) reads =
      go (symbol_of b) refl reads (λ e. power_tail d k down (w * 10 + e) bs)
    where
      go : (x : Symbol) → symbol_of b ≡ x → ReadsNext (at_phase Power n d k down w) x bs v
          → ((e : ℕ) → Reads (at_phase Power n d k down (w * 10 + e)) bs v
          → MorePower d k down (w * 10 + e) bs)
          → MorePower d k down w (b ∷ bs)
      go (Digit e) is reads more =
          let digit = digit_from b e is in
          let rest = more e reads in
          record {
            all = (digit.0, rest.all);
            is = rest.is
                ∙ ap (λ c. spelled_by n d k down (digits_value_after 10 (w * 10 + c) bs))
                (sym digit.1);
          }
      go _ is reads more = absurd (cc reads)

  -- the digits of an exponent
  record AllPower (d k : ℕ) (down : Bool) (text : List ℕ) : Type 0 where
    pub some : 0 < length text
    pub all : IsDigits text
    pub is : v ≡ spelled_by n d k down (digits_value 10 text)

  first_tail : (d k : ℕ) (down : Bool) (b e : ℕ) (bs : List ℕ) → symbol_of b ≡ Digit e
      → Reads (at_phase Power n d k down (0 * 10 + e)) bs v → AllPower d k down (b ∷ bs)
  first_tail d k down b e bs is reads =
      let digit = digit_from b e is in
      let rest = power_tail d k down (0 * 10 + e) bs reads in
      record {
        some = omega arith;
        all = (digit.0, rest.all);
        is = rest.is
            ∙ ap (λ c. spelled_by n d k down (digits_value_after 10 (0 * 10 + c) bs)) (sym digit.1);
      }

  mark_signed_tail : (d k : ℕ) (down : Bool) (text : List ℕ)
      → Reads (at_phase MarkSigned n d k down 0) text v → AllPower d k down text
  mark_signed_tail d k down [] reads = absurd (cc reads)
  mark_signed_tail d k down (b ∷ bs) reads = go (symbol_of b) refl reads
    where
      go : (x : Symbol) → symbol_of b ≡ x → ReadsNext (at_phase MarkSigned n d k down 0) x bs v
          → AllPower d k down (b ∷ bs)
      go (Digit e) is reads = first_tail d k down b e bs is reads
      go _ is reads = absurd (cc reads)

  -- what may follow the letter of an exponent
  record AfterMark (d k : ℕ) (text : List ℕ) : Type 0 where
    pub sign : List ℕ
    pub digits : List ℕ
    pub down : Bool
    pub parts : text ≡ sign ++ digits
    pub a_sign : IsSign down sign
    pub power : AllPower d k down digits

  marked_tail : (d k : ℕ) (text : List ℕ) → Reads (at_phase Marked n d k false 0) text v
      → AfterMark d k text
  marked_tail d k [] reads = absurd (cc reads)
  marked_tail d k (b ∷ bs) reads = go (symbol_of b) refl reads
    where
      go : (x : Symbol) → symbol_of b ≡ x → ReadsNext (at_phase Marked n d k false 0) x bs v
          → AfterMark d k (b ∷ bs)
      go (Digit e) is reads = record {
        sign = [];
        digits = b ∷ bs;
        down = false;
        parts = refl;
        a_sign = inr refl;
        power = first_tail d k false b e bs is reads;
      }
      go (Sign true) is reads = record {
        sign = codes "-";
        digits = bs;
        down = true;
        parts = ap (λ c. c ∷ bs) (sign_from b true is);
        a_sign = refl;
        power = mark_signed_tail d k true bs reads;
      }
      go (Sign false) is reads = record {
        sign = codes "+";
        digits = bs;
        down = false;
        parts = ap (λ c. c ∷ bs) (sign_from b false is);
        a_sign = inl refl;
        power = mark_signed_tail d k false bs reads;
      }
      go _ is reads = absurd (cc reads)

  -- an exponent or nothing after these digits and places
  record Ending (d k : ℕ) (text : List ℕ) : Type 0 where
    pub power : ℤ
    pub an_exponent : IsOptionalExponent text power
    pub is : v ≡ record { negative = n; digits = d; exponent = power -ℤ pos k }

  mark_ending : (d k b : ℕ) (bs : List ℕ) → symbol_of b ≡ Mark
      → Reads (at_phase Marked n d k false 0) bs v → Ending d k (b ∷ bs)
  mark_ending d k b bs is reads =
      let after = marked_tail d k bs reads in
      let power = signed after.down (digits_value 10 after.digits) in
      record {
        power = power;
        an_exponent = inr (record {
          letter = b ∷ [];
          sign = after.sign;
          digits = after.digits;
          negative = after.down;
          parts = ap (λ u. b ∷ u) after.parts;
          a_letter =
              ⊎_elim (λ small. inl (ap (λ c. c ∷ []) small)) (λ great. inr (ap (λ c. c ∷ []) great))
              (mark_from b is);
          a_sign = after.a_sign;
          all_digits = after.power.all;
          a_digit = after.power.some;
          power_is = refl;
        });
        is = after.power.is;
      }

  no_ending : (d k : ℕ) → Some (spelled_by n d k false 0) ≡ Some v → Ending d k []
  no_ending d k reads = record { power = pos 0; an_exponent = inl (refl, refl); is = cc }

  -- what may follow the point: digits, and an exponent or nothing
  record AfterPoint (d k : ℕ) (text : List ℕ) : Type 0 where
    pub fraction : List ℕ
    pub rest : List ℕ
    pub parts : text ≡ fraction ++ rest
    pub all : IsDigits fraction
    pub ending : Ending (digits_value_after 10 d fraction) (k + length fraction) rest

  one_more_place : (d k b e : ℕ) (bs : List ℕ) → symbol_of b ≡ Digit e
      → AfterPoint (d * 10 + e) (suc k) bs
      → (after : AfterPoint d k (b ∷ bs)) × (0 < length after.fraction)
  one_more_place d k b e bs is after =
      let digit = digit_from b e is in
      let far : suc k + length after.fraction ≡ k + suc (length after.fraction) = omega arith in
      let value : digits_value_after 10 (d * 10 + e) after.fraction
      ≡ digits_value_after 10 (d * 10 + digit_value b) after.fraction =
      ap (λ c. digits_value_after 10 (d * 10 + c) after.fraction) (sym digit.1) in (
        record {
          fraction = b ∷ after.fraction;
          rest = after.rest;
          parts = ap (λ u. b ∷ u) after.parts;
          all = (digit.0, after.all);
          ending =
              subst (λ p.
              Ending (digits_value_after 10 (d * 10 + digit_value b) after.fraction) p after.rest)
              far
              (subst (λ c. Ending c (suc k + length after.fraction) after.rest) value after.ending);
        },
        omega arith,
      )

  at_once : (d k : ℕ) (text : List ℕ) → Ending d k text → AfterPoint d k text
  at_once d k text ending =
      let far : k ≡ k + 0 = omega arith in
      record {
        fraction = [];
        rest = text;
        parts = refl;
        all = tt;
        ending = subst (λ p. Ending d p text) far ending;
      }

  fraction_tail : (d k : ℕ) (text : List ℕ) → Reads (at_phase Fraction n d k false 0) text v
      → AfterPoint d k text
  fraction_tail d k [] reads = at_once d k [] (no_ending d k reads)
  fraction_tail d k (b ∷ bs) reads =
      go (symbol_of b) refl reads (λ e. fraction_tail (d * 10 + e) (suc k) bs)
    where
      go : (x : Symbol) → symbol_of b ≡ x → ReadsNext (at_phase Fraction n d k false 0) x bs v
          → ((e : ℕ) → Reads (at_phase Fraction n (d * 10 + e) (suc k) false 0) bs v
          → AfterPoint (d * 10 + e) (suc k) bs)
          → AfterPoint d k (b ∷ bs)
      go (Digit e) is reads more = (one_more_place d k b e bs is (more e reads)).0
      go Mark is reads more = at_once d k (b ∷ bs) (mark_ending d k b bs is reads)
      go _ is reads more = absurd (cc reads)

  -- what may follow a digit before any point
  record AfterWhole (d : ℕ) (text : List ℕ) : Type 0 where
    pub whole : List ℕ
    pub point : List ℕ
    pub fraction : List ℕ
    pub rest : List ℕ
    pub parts : text ≡ whole ++ (point ++ (fraction ++ rest))
    pub whole_digits : IsDigits whole
    pub fraction_digits : IsDigits fraction
    pub one_point : (point ≡ codes ".") ⊎ ((point ≡ []) × (fraction ≡ []))
    pub ending : Ending (digits_value_after 10 d (whole ++ fraction)) (length fraction) rest

  no_more : (d : ℕ) (text : List ℕ) → Ending d 0 text → AfterWhole d text
  no_more d text ending = record {
    whole = [];
    point = [];
    fraction = [];
    rest = text;
    parts = refl;
    whole_digits = tt;
    fraction_digits = tt;
    one_point = inr (refl, refl);
    ending = ending;
  }

  whole_tail : (d : ℕ) (text : List ℕ) → Reads (at_phase Whole n d 0 false 0) text v
      → AfterWhole d text
  whole_tail d [] reads = no_more d [] (no_ending d 0 reads)
  whole_tail d (b ∷ bs) reads =
      go (symbol_of b) refl reads (λ e. whole_tail (d * 10 + e) bs)
    where
      go : (x : Symbol) → symbol_of b ≡ x → ReadsNext (at_phase Whole n d 0 false 0) x bs v
          → ((e : ℕ) → Reads (at_phase Whole n (d * 10 + e) 0 false 0) bs v
          → AfterWhole (d * 10 + e) bs)
          → AfterWhole d (b ∷ bs)
      go (Digit e) is reads more =
          let digit = digit_from b e is in
          let after = more e reads in
          let value : digits_value_after 10 (d * 10 + e) (after.whole ++ after.fraction)
          ≡ digits_value_after 10 (d * 10 + digit_value b) (after.whole ++ after.fraction) =
          ap (λ c. digits_value_after 10 (d * 10 + c) (after.whole ++ after.fraction))
          (sym digit.1) in
          record {
            whole = b ∷ after.whole;
            point = after.point;
            fraction = after.fraction;
            rest = after.rest;
            parts = ap (λ u. b ∷ u) after.parts;
            whole_digits = (digit.0, after.whole_digits);
            fraction_digits = after.fraction_digits;
            one_point = after.one_point;
            ending = subst (λ c. Ending c (length after.fraction) after.rest) value after.ending;
          }
      go Point is reads more =
          let after = fraction_tail d 0 bs reads in
          record {
            whole = [];
            point = codes ".";
            fraction = after.fraction;
            rest = after.rest;
            parts = ap (λ c. c ∷ bs) (point_from b is) ∙ ap (λ u. 46 ∷ u) after.parts;
            whole_digits = tt;
            fraction_digits = after.all;
            one_point = inl refl;
            ending = subst (λ p. Ending (digits_value_after 10 d after.fraction) p after.rest)
                (zero-add (length after.fraction)) after.ending;
          }
      go Mark is reads more = no_more d (b ∷ bs) (mark_ending d 0 b bs is reads)
      go _ is reads more = absurd (cc reads)

  -- what may follow the sign
  record AfterSign (text : List ℕ) : Type 0 where
    pub mantissa : List ℕ
    pub rest : List ℕ
    pub digits : ℕ
    pub places : ℕ
    pub parts : text ≡ mantissa ++ rest
    pub a_mantissa : IsMantissa mantissa digits places
    pub ending : Ending digits places rest

  digit_front : (b e : ℕ) (bs : List ℕ) → symbol_of b ≡ Digit e
      → Reads (at_phase Whole n (0 * 10 + e) 0 false 0) bs v → AfterSign (b ∷ bs)
  digit_front b e bs is reads =
      let digit = digit_from b e is in
      let after = whole_tail (0 * 10 + e) bs reads in
      let value : digits_value_after 10 (0 * 10 + e) (after.whole ++ after.fraction)
      ≡ digits_value 10 (b ∷ (after.whole ++ after.fraction)) =
      ap (λ c. digits_value_after 10 (0 * 10 + c) (after.whole ++ after.fraction)) (sym digit.1) in
      record {
        mantissa = b ∷ (after.whole ++ (after.point ++ after.fraction));
        rest = after.rest;
        digits = digits_value 10 (b ∷ (after.whole ++ after.fraction));
        places = length after.fraction;
        parts = ap (λ u. b ∷ u) (after.parts ∙ simp append_assoc);
        a_mantissa = record {
          whole = b ∷ after.whole;
          point = after.point;
          fraction = after.fraction;
          parts = refl;
          whole_digits = (digit.0, after.whole_digits);
          fraction_digits = after.fraction_digits;
          a_digit = omega arith;
          one_point = after.one_point;
          digits_are = refl;
          places_are = refl;
        };
        ending = subst (λ c. Ending c (length after.fraction) after.rest) value after.ending;
      }

  bare_tail : (text : List ℕ) → Reads (at_phase Bare n 0 0 false 0) text v
      → (after : AfterPoint 0 0 text) × (0 < length after.fraction)
  bare_tail [] reads = absurd (cc reads)
  bare_tail (b ∷ bs) reads = go (symbol_of b) refl reads
    where
      go : (x : Symbol) → symbol_of b ≡ x → ReadsNext (at_phase Bare n 0 0 false 0) x bs v
          → (after : AfterPoint 0 0 (b ∷ bs)) × (0 < length after.fraction)
      go (Digit e) is reads = one_more_place 0 0 b e bs is (fraction_tail (0 * 10 + e) 1 bs reads)
      go _ is reads = absurd (cc reads)

  point_front : (b : ℕ) (bs : List ℕ) → symbol_of b ≡ Point
      → Reads (at_phase Bare n 0 0 false 0) bs v → AfterSign (b ∷ bs)
  point_front b bs is reads =
      let bare = bare_tail bs reads in
      let after = bare.0 in
      record {
        mantissa = 46 ∷ after.fraction;
        rest = after.rest;
        digits = digits_value 10 after.fraction;
        places = length after.fraction;
        parts = ap (λ c. c ∷ bs) (point_from b is) ∙ ap (λ u. 46 ∷ u) after.parts;
        a_mantissa = record {
          whole = [];
          point = codes ".";
          fraction = after.fraction;
          parts = refl;
          whole_digits = tt;
          fraction_digits = after.all;
          a_digit = let some = bare.1 in omega arith;
          one_point = inl refl;
          digits_are = refl;
          places_are = refl;
        };
        ending = subst (λ p. Ending (digits_value 10 after.fraction) p after.rest)
            (zero-add (length after.fraction)) after.ending;
      }

  signed_tail : (text : List ℕ) → Reads (at_phase Signed n 0 0 false 0) text v → AfterSign text
  signed_tail [] reads = absurd (cc reads)
  signed_tail (b ∷ bs) reads = go (symbol_of b) refl reads
    where
      go : (x : Symbol) → symbol_of b ≡ x → ReadsNext (at_phase Signed n 0 0 false 0) x bs v
          → AfterSign (b ∷ bs)
      go (Digit e) is reads = digit_front b e bs is reads
      go Point is reads = point_front b bs is reads
      go _ is reads = absurd (cc reads)

  -- the number of a sign and what follows it
  number_with : (text sign after : List ℕ) → text ≡ sign ++ after → IsSign n sign → AfterSign after
      → IsNumber text v
  number_with text sign after parts a_sign tail =
      let e = tail.ending in
      record {
        sign = sign;
        mantissa = tail.mantissa;
        exponent = tail.rest;
        places = tail.places;
        power = e.power;
        parts = parts ∙ ap (λ t. sign ++ t) tail.parts;
        a_sign = subst (λ m. IsSign m sign) (ap (λ u. u.negative) (sym e.is)) a_sign;
        a_mantissa =
            subst (λ d. IsMantissa tail.mantissa d tail.places) (ap (λ u. u.digits) (sym e.is))
            tail.a_mantissa;
        an_exponent = e.an_exponent;
        exponent_is = ap (λ u. u.exponent) e.is;
      }

-- what the machine reads is a number's text
pub number_from_read : (text : List ℕ) (v : Spelled) → result step final start text ≡ Some v
    → IsNumber text v
number_from_read [] v reads = absurd (cc reads)
number_from_read (b ∷ bs) v reads = go (symbol_of b) refl reads
  where
    go : (x : Symbol) → symbol_of b ≡ x → ReadsNext start x bs v → IsNumber (b ∷ bs) v
    go (Digit e) is reads =
        number_with false v (b ∷ bs) [] (b ∷ bs) refl (inr refl)
        (digit_front false v b e bs is reads)
    go Point is reads =
        number_with false v (b ∷ bs) [] (b ∷ bs) refl (inr refl) (point_front false v b bs is reads)
    go (Sign true) is reads =
        number_with true v (b ∷ bs) (codes "-") bs (ap (λ c. c ∷ bs) (sign_from b true is)) refl
        (signed_tail true v bs reads)
    go (Sign false) is reads =
        number_with false v (b ∷ bs) (codes "+") bs (ap (λ c. c ∷ bs) (sign_from b false is))
        (inl refl)
        (signed_tail false v bs reads)
    go _ is reads = absurd (cc reads)
