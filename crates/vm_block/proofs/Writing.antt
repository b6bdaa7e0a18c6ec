-- What is written of samples is their block.
use Rattle.std.proofs.Common.{◌≡◌, ◌==◌, ◌&&◌, ◌||◌, nat_lt, nat_le, int_le, int_lt, ℕ, zero, suc, ◌+◌, ◌-◌, ◌^◌, ◌<◌, ◌≤◌, true, ℤ, pos, ◌+ℤ◌, ◌-ℤ◌, ◌*ℤ◌, unsigned_abs, All, List, [], ◌∷◌, ◌++◌, length, get_or, take, drop, map, slice_get, Some, refl, ap, ap₂, sym, subst, ◌∙◌, arith, length-append}
use Rattle.std.proofs.lemmas.Bool.{and_from, and_parts}
use Rattle.std.proofs.lemmas.Bool.Decides.{nat_tests, Decides-int_eq}
use Rattle.std.proofs.lemmas.Int.{ints}
use Rattle.std.proofs.lemmas.List.{take_at, drop_at, length-map}
use Rattle.std.proofs.lemmas.Option.{get_or_from_slice_get}
use Rattle.std.specs.List.{AllByRecursion, list_all}
use Rattle.std.specs.Ordering.{int_eq}
use Rattle.vm_base.specs.Sample.{is_sample}
use Rattle.vm_base.specs.Sorted.{IsUp}
use Rattle.vm_base.specs.Stamped.{is_in_order}
use Rattle.vm_base.specs.declared.stamped.Stamped.{Stamped}
use Rattle.vm_codec.specs.Coding.{IsColumn, IsInBounds, in_bounds, chosen}
use Rattle.vm_block.specs.Block.{times_of, values_of, rise_from, scaled_by, common_shift, common_exponent}
use Rattle.vm_block.specs.Cut.{AreOneBlock, fit_one_block}
use Rattle.vm_block.specs.Header.{is_count, is_exponent, is_time, is_last_time, is_column_len, header_bytes}
use Rattle.vm_block.specs.inner.Reading.{raised_by}
use Rattle.vm_block.specs.Written.{IsWritten}
use Rattle.vm_block.specs.declared.header.BlockHeader.{BlockHeader}
use Rattle.vm_block.proofs.Blocks.{moved_column}

-- ---- times

in_order_times : (s t : Stamped) → is_in_order s t ≡ true → s.time ≤ t.time
in_order_times s t up = by_parts s.time t.time s.value t.value up
  where
    by_parts : (a b : ℕ) (y z : ℤ) → (nat_lt a b || (a == b && int_le y z)) ≡ true → a ≤ b
    by_parts a b y z up = grind (arith, nat_tests)

not_before : (s : Stamped) (samples : List Stamped)
    → AllByRecursion (λ t. is_in_order s t ≡ true) samples
    → AllByRecursion (λ t. s.time ≤ t.time) samples
not_before s [] all = tt
not_before s (t ∷ samples) all = (in_order_times s t all.0, not_before s samples all.1)

follows : (last time : ℕ) → last ≤ time → time < 2 ^ 48
    → (int_le (pos last) (pos time) && int_lt (pos time) (pos (2 ^ 48))) ≡ true
follows last time order early = grind (arith, nat_tests, ints)

pub rise_up : (last : ℕ) (samples : List Stamped) → AllByRecursion (λ t. last ≤ t.time) samples
    → IsUp is_in_order samples
    → AllByRecursion (λ s. s.time < 2 ^ 48) samples → rise_from (pos last) (times_of samples) ≡ true
rise_up last [] before up times = refl
rise_up last (s ∷ samples) before up times =
    and_from (int_le (pos last) (pos s.time) && int_lt (pos s.time) (pos (2 ^ 48)))
    (rise_from (pos s.time) (times_of samples))
    (follows last s.time before.0 times.0)
    (rise_up s.time samples (not_before s samples up.0) up.1 times.1)

from_zero : (samples : List Stamped) → AllByRecursion (λ t. 0 ≤ t.time) samples
from_zero [] = tt
from_zero (s ∷ samples) = (omega arith, from_zero samples)

each_of : (P : Stamped → Type 0) (samples : List Stamped) → All P samples → AllByRecursion P samples
each_of P [] all = tt
each_of P (s ∷ samples) all =
    (all 0 s (omega arith), each_of P samples (λ k d inside. all (suc k) d (omega arith)))

pub rises : (samples : List Stamped) → AreOneBlock samples
    → rise_from (pos 0) (times_of samples) ≡ true
rises samples are =
    rise_up 0 samples (from_zero samples) are.order
    (each_of (λ s. s.time < 2 ^ 48) samples are.times)

-- a time at its place, in its range and not before the first one
pub early_time : (samples : List Stamped) (i time : ℕ) → All (λ s. s.time < 2 ^ 48) samples
    → slice_get (times_of samples) i ≡ Some (pos time) → time < 2 ^ 48
early_time [] i time all at = absurd (cc)
early_time (s ∷ samples) zero time all at =
    let same : s.time ≡ time = cc in
    let early : s.time < 2 ^ 48 = all 0 s (omega arith) in
    omega arith
early_time (s ∷ samples) (suc i) time all at =
    early_time samples i time (λ k d h. all (suc k) d (omega arith)) at

later_time : (samples : List Stamped) (i first time : ℕ)
    → AllByRecursion (λ t. first ≤ t.time) samples
    → slice_get (times_of samples) i ≡ Some (pos time) → first ≤ time
later_time [] i first time all at = absurd (cc)
later_time (s ∷ samples) zero first time all at = let same : s.time ≡ time =
    cc in omega (arith, all.0)
later_time (s ∷ samples) (suc i) first time all at = later_time samples i first time all.1 at

first_last : (samples : List Stamped) (i first last : ℕ) → IsUp is_in_order samples
    → slice_get (times_of samples) 0 ≡ Some (pos first)
    → slice_get (times_of samples) i ≡ Some (pos last) → first ≤ last
first_last [] i first last up begins ends = absurd (cc)
first_last (s ∷ samples) zero first last up begins ends = let same : first ≡ last =
    cc in omega arith
first_last (s ∷ samples) (suc i) first last up begins ends =
    let begin : s.time ≡ first = cc in
    let after = later_time samples i s.time last (not_before s samples up.0) ends in
    omega arith

-- a time at its place
pub time_at : (samples : List Stamped) (i : ℕ) (d s : Stamped) → i < length samples
    → s ≡ get_or samples i d → slice_get (times_of samples) i ≡ Some (pos s.time)
time_at [] i d s inside is = absurd (omega arith)
time_at (t ∷ samples) zero d s inside is = ap (λ x. Some (pos x.time)) (sym is)
time_at (t ∷ samples) (suc i) d s inside is = time_at samples i d s (omega arith) is

-- ---- rules of the header

count_rule : (n : ℕ) → 1 ≤ n → n ≤ 8192 → is_count n ≡ true
count_rule n some few = grind (arith, nat_tests)

time_rule : (time : ℕ) → time < 2 ^ 48 → is_time time ≡ true
time_rule time early = grind (arith, nat_tests)

last_rule : (first last : ℕ) → last < 2 ^ 48 → first ≤ last → is_last_time first last ≡ true
last_rule first last early order = grind (arith, nat_tests)

len_rule : (len : ℕ) → len ≤ 81920 → is_column_len len ≡ true
len_rule len short = grind (arith, nat_tests)

bound_rule : (m : ℤ) → unsigned_abs m < 10 ^ 18 → in_bounds m ≡ true
bound_rule m within = grind (arith, nat_tests)

pub exponent_rule : (shift : ℕ) → 650 ≤ shift → shift ≤ 1350
    → is_exponent (pos shift -ℤ pos 1000) ≡ true
exponent_rule shift low high = grind (arith, nat_tests, ints)

scaled-raised : (shift : ℕ) (m : ℤ) → raised_by shift m ≡ scaled_by (pos shift -ℤ pos 1000) m
scaled-raised shift m =
    let same : shift ≡ unsigned_abs (pos shift -ℤ pos 1000 +ℤ pos 1000) = omega (arith, ints) in
    ap (λ n. m *ℤ pos (10 ^ n)) same

all_scaled : (shift : ℕ) (ms : List ℤ)
    → map (raised_by shift) ms ≡ map (scaled_by (pos shift -ℤ pos 1000)) ms
all_scaled shift [] = refl
all_scaled shift (m ∷ ms) = ap₂ (λ x xs. x ∷ xs) (scaled-raised shift m) (all_scaled shift ms)

pub few_samples : (samples : List Stamped) → fit_one_block samples ≡ true → length samples ≤ 8192
few_samples samples fit = few (length samples) (and_parts (nat_le (length samples) 8192) _ fit).0
  where
    few : (n : ℕ) → nat_le n 8192 ≡ true → n ≤ 8192
    few n h = grind (arith, nat_tests)

-- ---- a header, two columns and their samples

pub written : (h : BlockHeader) (samples : List Stamped) (ms : List ℤ) (tb vb : List ℕ) (shift : ℕ)
    → AreOneBlock samples → slice_get (times_of samples) 0 ≡ Some (pos h.first_time)
    → slice_get (times_of samples) (length samples - 1) ≡ Some (pos h.last_time)
    → shift ≡ common_shift (values_of samples) → 650 ≤ shift → shift ≤ 1350
    → values_of samples ≡ map (raised_by shift) ms → All IsInBounds ms
    → list_all is_sample (values_of samples) ≡ true
    → h.count ≡ length samples → h.times ≡ chosen (times_of samples) → h.values ≡ chosen ms
    → h.exponent ≡ pos shift -ℤ pos 1000
    → slice_get ms 0 ≡ Some h.first_m → h.times_len ≡ length tb → h.values_len ≡ length vb
    → length tb ≤ 81920 → length vb ≤ 81920
    → IsColumn h.times (pos h.first_time) (length samples) tb (times_of samples)
    → IsColumn h.values h.first_m (length ms) vb ms
    → IsWritten (header_bytes h ++ (tb ++ vb)) samples
written h samples ms tb vb shift are begins ends shift_is low high values bounds samples_are count
    times_coding values_coding exponent first_m times_len values_len times_short values_short
    times_column values_column =
    let some = are.some in
    let first_early = early_time samples 0 h.first_time are.times begins in
    let last_early = early_time samples (length samples - 1) h.last_time are.times ends in
    let order =
    first_last samples (length samples - 1) h.first_time h.last_time are.order begins ends in
    let ms_len : length ms ≡ length samples =
    sym (length-map ms (raised_by shift)) ∙ ap length (sym values)
    ∙ length-map samples (λ s. s.value) in
    let scaled : values_of samples ≡ map (scaled_by h.exponent) ms =
    values ∙ all_scaled shift ms ∙ ap (λ e. map (scaled_by e) ms) (sym exponent) in
    let e : common_exponent (values_of samples) ≡ h.exponent =
    ap (λ n. pos n -ℤ pos 1000) (sym shift_is) ∙ sym exponent in
    let front : take h.times_len (tb ++ vb) ≡ tb = take_at tb vb h.times_len (sym times_len) in
    let back : drop h.times_len (tb ++ vb) ≡ vb = drop_at tb vb h.times_len (sym times_len) in
    record {
      header = h;
      body = tb ++ vb;
      parts = refl;
      block = record {
        mantissas = ms;
        header = record {
          count = ap is_count count
              ∙ count_rule (length samples) some (few_samples samples are.fit);
          exponent = ap is_exponent exponent ∙ exponent_rule shift low high;
          first_time = time_rule h.first_time first_early;
          last_time = last_rule h.first_time h.last_time last_early order;
          first_m =
              bound_rule h.first_m
              (subst IsInBounds (get_or_from_slice_get ms 0 h.first_m h.first_m first_m)
              (bounds 0 h.first_m (omega arith)));
          times_len = ap is_column_len times_len ∙ len_rule (length tb) times_short;
          values_len = ap is_column_len values_len ∙ len_rule (length vb) values_short;
        };
        len = length-append tb vb ∙ ap₂ (λ m n. m + n) (sym times_len) (sym values_len);
        times =
            moved_column h.times (pos h.first_time) (pos h.first_time) (length samples) h.count tb
            (take h.times_len (tb ++ vb)) (times_of samples) (times_of samples)
            refl (sym count) (sym front) refl times_column;
        rise = rises samples are;
        last = ap (λ n. slice_get (times_of samples) (n - 1)) count ∙ ends;
        column =
            moved_column h.values h.first_m h.first_m (length ms) h.count vb
            (drop h.times_len (tb ++ vb)) ms ms
            refl (ms_len ∙ sym count) (sym back) refl values_column;
        values = scaled;
        exponent =
            and_from (list_all is_sample (values_of samples))
            (int_eq (common_exponent (values_of samples)) h.exponent) samples_are
            (same_int (common_exponent (values_of samples)) h.exponent e);
        order = are.order;
      };
      times = times_coding;
      values = values_coding;
    }
  where
    same_int : (one two : ℤ) → one ≡ two → int_eq one two ≡ true
    same_int one two same = (Decides-int_eq one two).1 same
