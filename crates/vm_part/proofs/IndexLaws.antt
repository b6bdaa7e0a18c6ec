-- Where a label table and its postings break, and where that is in a file.
use Rattle.std.proofs.Common.{◌≡◌, ℕ, ◌+◌, ◌-◌, ◌≤◌, Bool, true, false, cond, nat_lt, List, ◌++◌, length, drop, Some, None, Result, Ok, Err, is_some, refl, ap, ◌∙◌, arith, length-append, w32}
use Rattle.std.specs.Int.{to_be_bytes}
use Rattle.std.proofs.lemmas.List.{length-drop, length-take-le}
use Rattle.vm_labels.specs.Bytes.{fields_of, label_set_bytes, label_set_of, placed}
use Rattle.vm_labels.specs.Labels.{limit_of}
use Rattle.vm_labels.specs.declared.pair.Pair.{Pair}
use Rattle.vm_index.specs.Bytes.{framed, postings_fields, table_bytes}
use Rattle.vm_index.specs.Index.{postings_of}
use Rattle.vm_index.specs.Reading.{BreaksBehind, IsRefused, TableBreaks, behind_all, first_off, off_place}
use Rattle.vm_index.specs.Reading.BreaksBehind.{left_over, no_length, past_the_end, no_set, no_rise}
use Rattle.vm_index.specs.declared.fault.IndexFault.TheVariants.{BrokenTable, BrokenPostings}
use Rattle.vm_part.specs.Broken.{between, postings_in, table_in}
use Rattle.vm_part.specs.inner.Reading.{AreSections}
use Rattle.vm_part.specs.declared.footer.Footer.{Footer}

label_within : (bytes : List ℕ) (at : ℕ) → label_set_of bytes ≡ Err at → at ≤ length bytes
unfolding label_set_of
label_within bytes at is = go (fields_of bytes) is
  where
    limit : (b : Bool) (pairs : List Pair) → cond b (Err 0) (Ok pairs) ≡ Err at → at ≤ length bytes
    limit true pairs h = let same : 0 ≡ at = cc in omega arith
    limit false pairs h = absurd (cc)

    go : (r : Result (List Pair) ℕ) → placed (length bytes) r ≡ Err at → at ≤ length bytes
    go (Err left) h = let same : length bytes - left ≡ at = cc in omega arith
    go (Ok pairs) h = limit (is_some (limit_of pairs)) pairs h

four : (n : ℕ) → length (to_be_bytes w32 n) ≡ 4
four n = refl

behind_within : (sets : List (List Pair)) (due : ℕ) (rest : List ℕ) (place : ℕ)
    → BreaksBehind sets due rest place → place ≤ length rest
behind_within sets due rest _ (left_over all some) = omega arith
behind_within sets due rest _ (no_length some short) = omega arith
behind_within sets due rest _ (past_the_end n more some small is long) = omega arith
behind_within sets due rest _ (no_set bytes more at some small is why) =
    let whole = ap length is ∙ length-append (to_be_bytes w32 (length bytes) ++ bytes) more in
    omega (
      arith,
      whole,
      length-append (to_be_bytes w32 (length bytes)) bytes,
      four (length bytes),
      label_within bytes at why,
    )
behind_within sets due rest _ (no_rise set more some has is low) =
    let whole = ap length is ∙ length-append (framed set) more in
    omega (
      arith,
      whole,
      length-append (to_be_bytes w32 (length (label_set_bytes set))) (label_set_bytes set),
      four (length (label_set_bytes set)),
    )

pub table_within : (count : ℕ) (table : List ℕ) (at : ℕ) → TableBreaks count table at
    → at ≤ length table
table_within count table at breaks =
    let rest =
    behind_within breaks.sets (count - length breaks.sets) breaks.rest breaks.place
    breaks.broken in
    omega (
      arith,
      breaks.is,
      ap length breaks.parts
          ∙ length-append (table_bytes breaks.sets) breaks.rest,
    )

pub off_within : (fields : List (List ℕ)) (bytes : List ℕ) (at : ℕ)
    → first_off fields bytes ≡ Some at → at ≤ length bytes
off_within fields bytes at is = go (behind_all fields bytes) is
  where
    left : (b : Bool) (n : ℕ) → cond b (Some (length bytes - n)) None ≡ Some at → at ≤ length bytes
    left true n h = let same : length bytes - n ≡ at = cc in omega arith
    left false n h = absurd (cc)

    go : (r : Result (List ℕ) ℕ) → off_place (length bytes) r ≡ Some at → at ≤ length bytes
    go (Ok rest) h = left (nat_lt 0 (length rest)) (length rest) h
    go (Err n) h = let same : length bytes - n ≡ at = cc in omega arith

-- ---- places in the file

within_file : (bytes : List ℕ) (a b n : ℕ) → a ≤ b → b ≤ length bytes
    → n ≤ length (between a b bytes) → a + n ≤ length bytes
within_file bytes a b n rise inside within =
    omega (arith, length-take-le (b - a) (drop a bytes) (omega (arith, length-drop a bytes)))

pub table_place : (at : ℕ) (bytes : List ℕ) (f : Footer) (n : ℕ) → AreSections at bytes f
    → IsRefused f.series (table_in f bytes) (postings_in at f bytes) (BrokenTable n)
    → f.table_at + n ≤ length bytes
table_place at bytes f n s why =
    within_file bytes f.table_at f.postings_at n s.table (omega (arith, s.postings, s.whole))
    (table_within f.series (table_in f bytes) n why)

pub postings_place : (at : ℕ) (bytes : List ℕ) (f : Footer) (n : ℕ) → AreSections at bytes f
    → IsRefused f.series (table_in f bytes) (postings_in at f bytes) (BrokenPostings n)
    → f.postings_at + n ≤ length bytes
postings_place at bytes f n s why =
    within_file bytes f.postings_at at n s.postings (omega (arith, s.whole))
    (off_within (postings_fields (postings_of why.0)) (postings_in at f bytes) n why.2)
