-- Numbers and columns written one byte and one integer after the other.
use Rattle.std.proofs.Common.{◌≡◌, ℕ, zero, suc, add-one, ℤ, pos, ◌+◌, ◌-◌, ◌*◌, ◌/◌, ◌%◌, ◌^◌, ◌<◌, ◌≤◌, ◌-ℤ◌, unsigned_abs, w64, to_z, of_z, List, [], ◌∷◌, ◌++◌, length, take, drop, set, get_or, ap, ap₂, sym, ◌∙◌, arith, append_assoc}
use Rattle.std.proofs.Math.Nat.{pow-suc}
use Rattle.std.proofs.lemmas.Nat.{div_below}
use Rattle.std.proofs.Math.Seq.{drop-cons}
use Rattle.std.proofs.lemmas.Int.{ints}
use Rattle.vm_codec.specs.declared.coding.Coding.{Coding}
use Rattle.vm_codec.specs.inner.Reading.{lean_after}
use Rattle.vm_codec.proofs.Columns.{spelled_from}
use Rattle.std.proofs.lemmas.List.{append-nil, drop_all, take_more_set, drop-set-lt, drop-drop, length-append}
use Rattle.vm_codec.specs.Integer.{groups, integer}
use Rattle.vm_codec.proofs.Integers.{groups-last, groups-more}

-- a number of two groups or more
two_groups : (count number : ℕ) → 128 ≤ number → number < 128 ^ count → 2 ≤ count
two_groups zero number high small = absurd (omega arith)
two_groups (suc zero) number high small = absurd (omega arith)
two_groups (suc (suc count)) number high small = omega arith

-- where a number's bytes stand after one more of its groups
pub record IsWritten (at end number left : ℕ) (into old : List ℕ) : Type 0 where
  pub begins : at ≤ end
  pub few : end ≤ at + 9
  pub small : left < 128 ^ (10 - (end - at))
  pub front : take end into ++ groups (10 - (end - at)) left ≡ take at old ++ groups 10 number
  pub back : drop end into ≡ drop end old

next_back : (end byte : ℕ) (into old : List ℕ) → drop end into ≡ drop end old
    → drop (end + 1) (set into end byte) ≡ drop (end + 1) old
next_back end byte into old back =
    drop-set-lt (end + 1) into end byte (omega arith) ∙ sym (drop-drop 1 end into)
    ∙ ap (drop 1) back ∙ drop-drop 1 end old

pub one_byte : (at end number left : ℕ) (into old : List ℕ) → end < length into → 128 ≤ left
    → IsWritten at end number left into old
    → IsWritten at (end + 1) number (left / 128) (set into end (left % 128 + 128)) old
one_byte at end number left into old within high so_far =
    let two = two_groups (10 - (end - at)) left high so_far.small in
    let few : end ≤ at + 8 = omega (arith, so_far.begins, so_far.few) in
    let count : 10 - (end - at) ≡ suc (10 - (end + 1 - at)) = omega (arith, so_far.begins) in
    let below : left < 128 ^ (10 - (end + 1 - at)) * 128 =
    omega (arith, so_far.small, ap (λ n. 128 ^ n) count, pow-suc 128 (10 - (end + 1 - at))) in
    let byte = left % 128 + 128 in
    let rest = groups (10 - (end + 1 - at)) (left / 128) in
    record {
      begins = omega (arith, so_far.begins);
      few = omega arith;
      small = div_below left 128 (128 ^ (10 - (end + 1 - at))) (omega arith) below;
      front =
          ap (λ bs. bs ++ rest) (take_more_set into end byte within)
          ∙ append_assoc (take end into) (byte ∷ []) rest
          ∙ ap (λ bs. take end into ++ bs) (sym (groups-more (10 - (end + 1 - at)) left high))
          ∙ ap (λ n. take end into ++ groups n left) (sym count) ∙ so_far.front;
      back = next_back end byte into old so_far.back;
    }

pub last_byte : (at end number left : ℕ) (into old : List ℕ) → end < length into → left < 128
    → IsWritten at end number left into old
    → take (end + 1) (set into end left) ≡ take at old ++ groups 10 number
last_byte at end number left into old within low so_far =
    let count : 10 - (end - at) ≡ suc (9 - (end - at)) = omega (arith, so_far.begins, so_far.few) in
    take_more_set into end left within
    ∙ ap (λ bs. take end into ++ bs) (sym (groups-last (9 - (end - at)) left low))
    ∙ ap (λ n. take end into ++ groups n left) (sym count) ∙ so_far.front

-- ---- how many bytes

pub record IsCounted (len left number : ℕ) : Type 0 where
  pub begins : 1 ≤ len
  pub few : len ≤ 10
  pub small : left < 128 ^ (11 - len)
  pub total : len + length (groups (11 - len) left) ≡ length (groups 10 number) + 1

pub one_counted : (len left number : ℕ) → 128 ≤ left → IsCounted len left number
    → IsCounted (len + 1) (left / 128) number
one_counted len left number high so_far =
    let two = two_groups (11 - len) left high so_far.small in
    let count : 11 - len ≡ suc (11 - (len + 1)) = omega arith in
    let below : left < 128 ^ (11 - (len + 1)) * 128 =
    omega (arith, so_far.small, ap (λ n. 128 ^ n) count, pow-suc 128 (11 - (len + 1))) in
    let one : length (groups (11 - len) left)
    ≡ suc (length (groups (11 - (len + 1)) (left / 128))) =
    ap (λ n. length (groups n left)) count ∙ ap length (groups-more (11 - (len + 1)) left high) in
    record {
      begins = omega arith;
      few = omega arith;
      small = div_below left 128 (128 ^ (11 - (len + 1))) (omega arith) below;
      total = omega (arith, so_far.total);
    }

pub all_counted : (len left number : ℕ) → left < 128 → IsCounted len left number
    → len ≡ length (groups 10 number)
all_counted len left number low so_far =
    let count : 11 - len ≡ suc (10 - len) = omega (arith, so_far.few) in
    let one : length (groups (11 - len) left) ≡ 1 = ap (λ n. length (groups n left)) count
    ∙ ap length (groups-last (10 - len) left low) in
    omega (arith, so_far.total)

-- ---- one integer after the other

pub written_more :
    (coding : Coding) (value lean next put gap : ℤ) (place : ℕ) (values : List ℤ)
    (front whole total : List ℕ)
    → place < length values → next ≡ get_or values place (pos 0) → put ≡ next
    → gap ≡ lean_after coding (next -ℤ value)
    → whole ≡ front ++ integer (next -ℤ value -ℤ lean)
    → front ++ spelled_from coding value lean (drop place values) ≡ total
    → whole ++ spelled_from coding put gap (drop (place + 1) values) ≡ total
written_more coding value lean next put gap place values front whole total within is same after text
    so_far =
    let rest =
    spelled_from coding next (lean_after coding (next -ℤ value)) (drop (place + 1) values) in
    let split : drop place values ≡ next ∷ drop (place + 1) values =
    drop-cons values place (pos 0) within
    ∙ ap₂ (λ n k. n ∷ drop k values) (sym is) (sym (add-one place)) in
    ap₂ (λ p g. whole ++ spelled_from coding p g (drop (place + 1) values)) same after
    ∙ ap (λ bs. bs ++ rest) text ∙ append_assoc front (integer (next -ℤ value -ℤ lean)) rest
    ∙ ap (λ vs. front ++ spelled_from coding value lean vs) (sym split) ∙ so_far

pub gap_fits : (next value lean : ℤ) → unsigned_abs next < 10 ^ 18 → unsigned_abs value < 10 ^ 18
    → unsigned_abs lean < 2 * 10 ^ 18
    → to_z w64 (of_z w64 (next -ℤ value -ℤ lean)) ≡ next -ℤ value -ℤ lean
gap_fits next value lean n v l = omega (arith, ints)

-- what is the same from a place on is the same further on
pub further : (end more : ℕ) (into old : List ℕ) → end ≤ more → drop end into ≡ drop end old
    → drop more into ≡ drop more old
further end more into old above same =
    let sum : end + (more - end) ≡ more = omega arith in
    ap (λ n. drop n into) (sym sum) ∙ sym (drop-drop (more - end) end into)
    ∙ ap (drop (more - end)) same
    ∙ drop-drop (more - end) end old ∙ ap (λ n. drop n old) sum

-- the end of the values is the end of their bytes
pub written_all :
    (coding : Coding) (value lean : ℤ) (place : ℕ) (values : List ℤ) (front total : List ℕ)
    → length values ≤ place
    → front ++ spelled_from coding value lean (drop place values) ≡ total → front ≡ total
written_all coding value lean place values front total end so_far =
    sym (append-nil front)
    ∙ ap (λ vs. front ++ spelled_from coding value lean vs) (sym (drop_all place values end))
    ∙ so_far

-- ---- how many bytes the integers take

pub counted_more :
    (coding : Coding) (value lean next put gap : ℤ) (place : ℕ) (values : List ℤ)
    (len more total : ℕ)
    → place < length values → next ≡ get_or values place (pos 0) → put ≡ next
    → gap ≡ lean_after coding (next -ℤ value)
    → more ≡ length (integer (next -ℤ value -ℤ lean))
    → len + length (spelled_from coding value lean (drop place values)) ≡ total
    → len + more + length (spelled_from coding put gap (drop (place + 1) values)) ≡ total
counted_more coding value lean next put gap place values len more total within is same after text
    so_far =
    let rest =
    spelled_from coding next (lean_after coding (next -ℤ value)) (drop (place + 1) values) in
    let split : drop place values ≡ next ∷ drop (place + 1) values =
    drop-cons values place (pos 0) within
    ∙ ap₂ (λ n k. n ∷ drop k values) (sym is) (sym (add-one place)) in
    let whole : len + length (integer (next -ℤ value -ℤ lean) ++ rest) ≡ total =
    ap (λ vs. len + length (spelled_from coding value lean vs)) (sym split) ∙ so_far in
    ap₂ (λ p g. len + more + length (spelled_from coding p g (drop (place + 1) values))) same after
    ∙ omega (arith, length-append (integer (next -ℤ value -ℤ lean)) rest)

pub counted_all : (coding : Coding) (value lean : ℤ) (place : ℕ) (values : List ℤ) (len total : ℕ)
    → length values ≤ place
    → len + length (spelled_from coding value lean (drop place values)) ≡ total → len ≡ total
counted_all coding value lean place values len total end so_far =
    let none : length (spelled_from coding value lean (drop place values)) ≡ 0 =
    ap (λ vs. length (spelled_from coding value lean vs)) (drop_all place values end) in
    omega arith
