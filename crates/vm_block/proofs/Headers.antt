-- Headers and their bytes.
use Rattle.std.proofs.Common.{◌≡◌, ◌==◌, ℕ, suc, ◌+◌, ◌^◌, ◌<◌, ◌≤◌, Bool, true, false, ℤ, pos, negsuc, ◌≤ℤ◌, unsigned_abs, List, [], ◌∷◌, ◌++◌, length, get_or, slice_index, take, drop, Some, None, is_some, refl, ap, ap₂, sym, ◌∙◌, inl, inr, arith, w16, w64}
use Rattle.std.proofs.Math.Seq.{take-add}
use Rattle.std.proofs.lemmas.Bool.{cases_eq, cases_lt}
use Rattle.std.proofs.lemmas.Bool.Decides.{nat_tests}
use Rattle.std.proofs.lemmas.Int.{ints, to_z-of_z, of_z-to_z, fits_signed_from_abs}
use Rattle.std.proofs.lemmas.List.{get_or-take, get_or-drop, get_or_past, length-take-le, length-drop, take_all}
use Rattle.std.proofs.lemmas.Nat.{be_bytes_2, be_bytes_4, be_bytes_8, from_be_bytes-to_be_bytes_2, from_be_bytes-to_be_bytes_4, from_be_bytes-to_be_bytes_8}
use Rattle.std.specs.Int.{from_be_bytes, to_be_bytes, cast_signed, cast_unsigned}
use Rattle.vm_codec.specs.Coding.{coding_number, coding_of, in_bounds}
use Rattle.vm_codec.specs.declared.coding.Coding.{Coding}
use Rattle.vm_codec.specs.declared.coding.Coding.TheVariants.{DeltaConst, Const, NearestDelta2, NearestDelta}
use Rattle.vm_block.specs.Header.{is_count, is_exponent, is_time, is_last_time, is_column_len, IsHeader, header_bytes, field, field_rules, len_rules, first_broken}
use Rattle.vm_block.specs.inner.Reading.{AreFields}
use Rattle.vm_block.specs.declared.header.BlockHeader.{BlockHeader}

-- ---- rules

-- all rules are kept
module _ (c t v e z f l m tl vl : Bool) where
  abbrev rules : List (ℕ × Bool)
  rules = (0, c) ∷ (2, t) ∷ (3, v) ∷ (4, e) ∷ (6, z) ∷ (8, f) ∷ (16, l) ∷ (24, m) ∷ (32, tl)
      ∷ (36, vl) ∷ []

  all_kept : c ≡ true → t ≡ true → v ≡ true → e ≡ true → z ≡ true → f ≡ true → l ≡ true → m ≡ true
      → tl ≡ true → vl ≡ true
      → first_broken rules ≡ None
  all_kept hc ht hv he hz hf hl hm htl hvl = rw (hc, ht, hv, he, hz, hf, hl, hm, htl, hvl) refl

  -- all rules of the fields before the lengths are kept
  lens_left : (at : ℕ) (more : List (ℕ × Bool)) → c ≡ true → t ≡ true → v ≡ true → e ≡ true
      → z ≡ true → f ≡ true → l ≡ true → m ≡ true
      → first_broken more ≡ Some at
      → first_broken
      ((0, c) ∷ (2, t) ∷ (3, v) ∷ (4, e) ∷ (6, z) ∷ (8, f) ∷ (16, l) ∷ (24, m) ∷ more) ≡ Some at
  lens_left at more hc ht hv he hz hf hl hm broken = rw (hc, ht, hv, he, hz, hf, hl, hm) broken

pub lens_broken : (bytes : List ℕ) (at : ℕ) → is_count (from_be_bytes w16 (field 2 0 bytes)) ≡ true
    → is_some (coding_of (slice_index bytes 2)) ≡ true
    → is_some (coding_of (slice_index bytes 3)) ≡ true
    → is_exponent (cast_signed w16 (from_be_bytes w16 (field 2 4 bytes))) ≡ true
    → (from_be_bytes w16 (field 2 6 bytes) == 0) ≡ true
    → is_time (from_be_bytes w64 (field 8 8 bytes)) ≡ true
    → is_last_time (from_be_bytes w64 (field 8 8 bytes)) (from_be_bytes w64 (field 8 16 bytes))
    ≡ true
    → in_bounds (cast_signed w64 (from_be_bytes w64 (field 8 24 bytes))) ≡ true
    → first_broken (len_rules bytes) ≡ Some at → first_broken (field_rules bytes) ≡ Some at
lens_broken bytes at hc ht hv he hz hf hl hm broken =
    lens_left _ _ _ _ _ _ _ _ true true at (len_rules bytes) hc ht hv he hz hf hl hm broken

-- ---- codings

coding_again : (coding : Coding) → coding_of (coding_number coding) ≡ Some coding
coding_again DeltaConst = refl
coding_again Const = refl
coding_again NearestDelta2 = refl
coding_again NearestDelta = refl

number_again : (number : ℕ) (coding : Coding) → coding_of number ≡ Some coding
    → coding_number coding ≡ number
number_again number coding is =
    is_one 2 DeltaConst refl refl (λ no2.
    is_one 3 Const refl refl (λ no3.
    is_one 5 NearestDelta2 refl refl (λ no5.
    is_one 6 NearestDelta refl refl (λ no6.
    let none : coding_of number ≡ None = rw (no2, no3, no5, no6) refl in
    absurd (cc)))))
  where
    is_one : (one : ℕ) (its : Coding) → coding_of one ≡ Some its → coding_number its ≡ one
        → ((number == one) ≡ false → coding_number coding ≡ number) → coding_number coding ≡ number
    is_one one its has back other =
        elim (cases_eq number one) [
          | inl same ↦
              let both : Some its ≡ Some coding = sym has ∙ ap coding_of (sym same) ∙ is in
              let again : its ≡ coding = cc in
              ap coding_number (sym again) ∙ back ∙ sym same
          | inr apart ↦ other (grind (arith, nat_tests))
        ]

-- ---- signed numbers

small_16 : (z : ℤ) → unsigned_abs z < 2 ^ 15 → cast_unsigned w16 z < 2 ^ 16
small_16 (pos n) small = omega arith
small_16 (negsuc n) small = omega arith

small_64 : (z : ℤ) → unsigned_abs z < 2 ^ 63 → cast_unsigned w64 z < 2 ^ 64
small_64 (pos n) small = omega arith
small_64 (negsuc n) small = omega arith

signed_16 : (z : ℤ) → unsigned_abs z < 2 ^ 15
    → cast_signed w16 (from_be_bytes w16 (to_be_bytes w16 (cast_unsigned w16 z))) ≡ z
signed_16 z small =
    ap (cast_signed w16) (from_be_bytes-to_be_bytes_2 (cast_unsigned w16 z) (small_16 z small))
    ∙ to_z-of_z w16 z (fits_signed_from_abs w16 z small)

signed_64 : (z : ℤ) → unsigned_abs z < 2 ^ 63
    → cast_signed w64 (from_be_bytes w64 (to_be_bytes w64 (cast_unsigned w64 z))) ≡ z
signed_64 z small =
    ap (cast_signed w64) (from_be_bytes-to_be_bytes_8 (cast_unsigned w64 z) (small_64 z small))
    ∙ to_z-of_z w64 z (fits_signed_from_abs w64 z small)

-- ---- what the rules say

few : (n : ℕ) → is_count n ≡ true → (1 ≤ n) × (n ≤ 8192)
few n is = grind (arith, nat_tests)

near : (e : ℤ) → is_exponent e ≡ true → unsigned_abs e < 2 ^ 15
near (pos n) is = grind (arith, nat_tests, ints)
near (negsuc n) is = grind (arith, nat_tests, ints)

early : (time : ℕ) → is_time time ≡ true → time < 2 ^ 48
early time is = grind (arith, nat_tests)

late : (first last : ℕ) → is_last_time first last ≡ true → (last < 2 ^ 48) × (first ≤ last)
late first last is = grind (arith, nat_tests)

short : (len : ℕ) → is_column_len len ≡ true → len ≤ 81920
short len is = grind (arith, nat_tests)

within : (m : ℤ) → in_bounds m ≡ true → unsigned_abs m < 10 ^ 18
within m is = grind (arith, nat_tests)

low : (e : ℤ) → is_exponent e ≡ true → negsuc 349 ≤ℤ e
low (pos n) is = grind (arith, nat_tests, ints)
low (negsuc n) is = grind (arith, nat_tests, ints)

-- what a header that keeps its rules says of its numbers
pub record HasRanges (h : BlockHeader) : Type 0 where
  pub some : 1 ≤ h.count
  pub few : h.count ≤ 8192
  pub exponent : unsigned_abs h.exponent < 2 ^ 15
  pub low : negsuc 349 ≤ℤ h.exponent
  pub first_time : h.first_time < 2 ^ 48
  pub last_time : h.last_time < 2 ^ 48
  pub first_m : unsigned_abs h.first_m < 10 ^ 18
  pub times_len : h.times_len ≤ 81920
  pub values_len : h.values_len ≤ 81920

pub ranges : (h : BlockHeader) → IsHeader h → HasRanges h
ranges h is =
    let count = few h.count is.count in
    record {
      some = count.0;
      few = count.1;
      exponent = near h.exponent is.exponent;
      low = low h.exponent is.exponent;
      first_time = early h.first_time is.first_time;
      last_time = (late h.first_time h.last_time is.last_time).0;
      first_m = within h.first_m is.first_m;
      times_len = short h.times_len is.times_len;
      values_len = short h.values_len is.values_len;
    }

-- ---- what is written is read

pub fields_again : (h : BlockHeader) → IsHeader h → AreFields (header_bytes h) h
unfolding header_bytes
fields_again h is =
    let r = ranges h is in
    let count : from_be_bytes w16 (to_be_bytes w16 h.count) ≡ h.count =
    from_be_bytes-to_be_bytes_2 h.count (omega (arith, r.few)) in
    let exponent = signed_16 h.exponent r.exponent in
    let first = from_be_bytes-to_be_bytes_8 h.first_time (omega (arith, r.first_time)) in
    let last = from_be_bytes-to_be_bytes_8 h.last_time (omega (arith, r.last_time)) in
    let m = signed_64 h.first_m (omega (arith, r.first_m)) in
    let times_len = from_be_bytes-to_be_bytes_4 h.times_len (omega (arith, r.times_len)) in
    let values_len = from_be_bytes-to_be_bytes_4 h.values_len (omega (arith, r.values_len)) in
    record {
      count = sym count;
      times = coding_again h.times;
      values = coding_again h.values;
      exponent = sym exponent;
      first_time = sym first;
      last_time = sym last;
      first_m = sym m;
      times_len = sym times_len;
      values_len = sym values_len;
      zero = refl;
      keeps = is;
    }

-- fields that keep their rules leave none that breaks its
pub fields_kept : (bytes : List ℕ) (h : BlockHeader) → AreFields bytes h
    → first_broken (field_rules bytes) ≡ None
fields_kept bytes h fields =
    let is = fields.keeps in
    all_kept _ _ _ _ _ _ _ _ _ _ (ap is_count (sym fields.count) ∙ is.count)
    (ap is_some fields.times) (ap is_some fields.values)
    (ap is_exponent (sym fields.exponent) ∙ is.exponent) (ap (λ n. n == 0) fields.zero)
    (ap is_time (sym fields.first_time) ∙ is.first_time)
    (ap₂ is_last_time (sym fields.first_time) (sym fields.last_time) ∙ is.last_time)
    (ap in_bounds (sym fields.first_m) ∙ is.first_m)
    (ap is_column_len (sym fields.times_len) ∙ is.times_len)
    (ap is_column_len (sym fields.values_len) ∙ is.values_len)

-- ---- what is read was written

below_16 : (bs : List ℕ) → ((i : ℕ) → get_or bs i 0 < 256) → from_be_bytes w16 bs < 2 ^ 16
below_16 bs are = omega (arith, are 0, are 1)

below_64 : (bs : List ℕ) → ((i : ℕ) → get_or bs i 0 < 256) → from_be_bytes w64 bs < 2 ^ 64
below_64 bs are = omega (arith, are 0, are 1, are 2, are 3, are 4, are 5, are 6, are 7)

-- the fields of a header of 40 bytes are as long as they are, and of bytes
field_len : (bytes : List ℕ) (len at : ℕ) → length bytes ≡ 40 → len + at ≤ 40
    → length (field len at bytes) ≡ len
field_len bytes len at all fits =
    length-take-le len (drop at bytes) (omega (arith, length-drop at bytes))

field_bytes : (bytes : List ℕ) (len at : ℕ) → ((i : ℕ) → get_or bytes i 0 < 256) → length bytes ≡ 40
    → len + at ≤ 40
    → (i : ℕ) → get_or (field len at bytes) i 0 < 256
field_bytes bytes len at are all fits i =
    elim (cases_lt i len) [
      | inl inside ↦
          rw (get_or-take len (drop at bytes) i 0 inside, get_or-drop at bytes i 0) (are (at + i))
      | inr past ↦
          rw (get_or_past (field len at bytes) i 0 (omega (arith, field_len bytes len at all fits)))
          (omega arith)
    ]

-- a front and the field after it
front_more : (bytes : List ℕ) (at len end : ℕ) (front its : List ℕ) → at + len ≡ end
    → take at bytes ≡ front → field len at bytes ≡ its
    → take end bytes ≡ front ++ its
front_more bytes at len end front its is before field =
    ap (λ n. take n bytes) (sym is) ∙ take-add at len bytes ∙ ap₂ (λ x y. x ++ y) before field

-- two bytes, one by one
two_bytes : (bytes : List ℕ) (at a b : ℕ) → suc at < length bytes → get_or bytes at 0 ≡ a
    → get_or bytes (suc at) 0 ≡ b
    → field 2 at bytes ≡ a ∷ b ∷ []
two_bytes bytes at a b fits one two =
    drop_two (drop at bytes) (omega (arith, length-drop at bytes))
    (get_or-drop at bytes 0 0 ∙ ap (λ n. get_or bytes n 0) (omega arith) ∙ one)
    (get_or-drop at bytes 1 0 ∙ ap (λ n. get_or bytes n 0) (omega arith) ∙ two)
  where
    drop_two : (bs : List ℕ) → 2 ≤ length bs → get_or bs 0 0 ≡ a → get_or bs 1 0 ≡ b
        → take 2 bs ≡ a ∷ b ∷ []
    drop_two [] some one two = absurd (omega arith)
    drop_two (x ∷ []) some one two = absurd (omega arith)
    drop_two (x ∷ y ∷ more) some one two = ap₂ (λ m n. m ∷ n ∷ []) one two

pub fields_header : (bytes : List ℕ) (h : BlockHeader) → length bytes ≡ 40
    → ((i : ℕ) → get_or bytes i 0 < 256) → AreFields bytes h
    → IsHeader h × (header_bytes h ≡ bytes)
unfolding header_bytes
fields_header bytes h all are fields =
    let f0 : take 2 bytes ≡ to_be_bytes w16 h.count =
    sym (be_bytes_2 (field 2 0 bytes) h.count (len 2 0 (omega arith)) (of 2 0 (omega arith))
    fields.count) in
    let f1 = front_more bytes 2 2 4 _ _ refl f0
    (two_bytes bytes 2 _ _ (omega arith)
    (sym (number_again (slice_index bytes 2) h.times fields.times))
    (sym (number_again (slice_index bytes 3) h.values fields.values))) in
    let f2 =
    front_more bytes 4 2 6 _ _ refl f1
    (sym (be_bytes_2 (field 2 4 bytes) _ (len 2 4 (omega arith)) (of 2 4 (omega arith))
    (unsigned_16 fields.exponent))) in
    let f3 =
    front_more bytes 6 2 8 _ _ refl f2
    (sym (be_bytes_2 (field 2 6 bytes) 0 (len 2 6 (omega arith)) (of 2 6 (omega arith))
    (sym fields.zero))) in
    let f4 =
    front_more bytes 8 8 16 _ _ refl f3
    (sym (be_bytes_8 (field 8 8 bytes) h.first_time (len 8 8 (omega arith))
    (of 8 8 (omega arith)) fields.first_time)) in
    let f5 =
    front_more bytes 16 8 24 _ _ refl f4
    (sym (be_bytes_8 (field 8 16 bytes) h.last_time (len 8 16 (omega arith))
    (of 8 16 (omega arith)) fields.last_time)) in
    let f6 =
    front_more bytes 24 8 32 _ _ refl f5
    (sym (be_bytes_8 (field 8 24 bytes) _ (len 8 24 (omega arith)) (of 8 24 (omega arith))
    (unsigned_64 fields.first_m))) in
    let f7 =
    front_more bytes 32 4 36 _ _ refl f6
    (sym (be_bytes_4 (field 4 32 bytes) h.times_len (len 4 32 (omega arith))
    (of 4 32 (omega arith)) fields.times_len)) in
    let f8 =
    front_more bytes 36 4 40 _ _ refl f7
    (sym (be_bytes_4 (field 4 36 bytes) h.values_len (len 4 36 (omega arith))
    (of 4 36 (omega arith)) fields.values_len)) in
    (fields.keeps, sym f8 ∙ take_all 40 bytes (omega arith))
  where
    len : (n at : ℕ) → n + at ≤ 40 → length (field n at bytes) ≡ n
    len n at = field_len bytes n at all

    of : (n at : ℕ) → n + at ≤ 40 → (i : ℕ) → get_or (field n at bytes) i 0 < 256
    of n at fits = field_bytes bytes n at are all fits

    unsigned_16 : h.exponent ≡ cast_signed w16 (from_be_bytes w16 (field 2 4 bytes))
        → cast_unsigned w16 h.exponent ≡ from_be_bytes w16 (field 2 4 bytes)
    unsigned_16 is = ap (cast_unsigned w16) is
        ∙ of_z-to_z w16 (from_be_bytes w16 (field 2 4 bytes))
        (below_16 (field 2 4 bytes) (of 2 4 (omega arith)))

    unsigned_64 : h.first_m ≡ cast_signed w64 (from_be_bytes w64 (field 8 24 bytes))
        → cast_unsigned w64 h.first_m ≡ from_be_bytes w64 (field 8 24 bytes)
    unsigned_64 is = ap (cast_unsigned w64) is
        ∙ of_z-to_z w64 (from_be_bytes w64 (field 8 24 bytes))
        (below_64 (field 8 24 bytes) (of 8 24 (omega arith)))

-- ---- one header

pub one_header : (bytes : List ℕ) (h other : BlockHeader) → AreFields bytes h
    → AreFields bytes other → h ≡ other
one_header bytes h other one two = λ i. record {
  count = (one.count ∙ sym two.count) i;
  times = times i;
  values = values i;
  exponent = (one.exponent ∙ sym two.exponent) i;
  first_time = (one.first_time ∙ sym two.first_time) i;
  last_time = (one.last_time ∙ sym two.last_time) i;
  first_m = (one.first_m ∙ sym two.first_m) i;
  times_len = (one.times_len ∙ sym two.times_len) i;
  values_len = (one.values_len ∙ sym two.values_len) i;
}
  where
    one_coding : (a b : Coding) → Some a ≡ Some b → a ≡ b
    one_coding a b same = cc

    times : h.times ≡ other.times
    times = one_coding h.times other.times (sym one.times ∙ two.times)

    values : h.values ≡ other.values
    values = one_coding h.values other.values (sym one.values ∙ two.values)

-- ---- writing

-- a field written after a front
pub front_put : (before after : List ℕ) (at end : ℕ) (front its field : List ℕ)
    → take (at + length field) after ≡ take at before ++ field
    → field ≡ its → at + length its ≡ end → take at before ≡ front → take end after ≡ front ++ its
front_put before after at end front its field put is len stood =
    ap (λ n. take n after) (sym len ∙ ap (λ bs. at + length bs) (sym is)) ∙ put
    ∙ ap₂ (λ x y. x ++ y) stood is
