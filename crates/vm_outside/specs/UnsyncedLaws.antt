-- What a crash may leave of a file, one call after the other.
use Rattle.std.proofs.Common.{◌≡◌, ℕ, ◌+◌, ◌-◌, ◌≤◌, ◌<◌, max, min, Bool, true, false, List, [], ◌∷◌, ◌++◌, length, take, drop, replicate, length-append, length-drop, refl, sym, ap, ◌∙◌, arith}
use Rattle.std.proofs.lemmas.Bool.Decides.{nat_tests}
use Rattle.std.specs.Prelude.{nat_le, nat_lt, nat_eq, slice_get, if◌then◌else◌}
use Rattle.std.proofs.Math.ListN.{get_or}
use Rattle.std.proofs.lemmas.List.{length-take, get_or-take, get_or-drop, get_or_append_left, ext_get_or, length-replicate}
use Rattle.vm_outside.specs.Disk.{Image, Torn, Dropped}
use Rattle.vm_outside.specs.MemDisk.{written, replayed, unsynced}
use Rattle.vm_outside.specs.Unsynced.{IsLeft, is_in, all_synced, after_write, after_drop}
use Rattle.vm_outside.specs.declared.unsynced.Unsynced.{Unsynced}
use Rattle.vm_outside.specs.declared.disk_call.DiskCall.{DiskCall}
use Rattle.vm_outside.specs.declared.disk_call.DiskCall.TheVariants.{Len, Read, Write, Sync, DropFile}
use Rattle.vm_outside.specs.Splices.{splice, splice_length, before_splice, in_splice, after_splice, same_byte, byte_same}

-- A file is as long as its synced bytes, and was written wherever it is longer.
pub record IsCovered (file : Unsynced) : Type 0 where
  pub fits : length file.synced ≤ file.longest
  pub covers : (i : ℕ) → length file.synced ≤ i → i < file.longest → is_in file.ranges i ≡ true

all_synced_covered : (bytes : List ℕ) → IsCovered (all_synced bytes)
all_synced_covered bytes =
    record { fits = omega arith; covers = λ i from less. absurd (omega (arith, from, less)) }

in_range : (at n i : ℕ) (ranges : List (ℕ × ℕ)) → at ≤ i → i < at + n
    → is_in ((at, n) ∷ ranges) i ≡ true
in_range at n i ranges from less = grind (arith, nat_tests, from, less)

in_others : (at n i : ℕ) (ranges : List (ℕ × ℕ)) → is_in ranges i ≡ true
    → is_in ((at, n) ∷ ranges) i ≡ true
in_others at n i ranges is = grind (arith, nat_tests, is)

before_range : (at n i : ℕ) (ranges : List (ℕ × ℕ)) → i < at → is_in ranges i ≡ false
    → is_in ((at, n) ∷ ranges) i ≡ false
before_range at n i ranges less out = grind (arith, nat_tests, less, out)

behind_range : (at n i : ℕ) (ranges : List (ℕ × ℕ)) → at + n ≤ i → is_in ranges i ≡ false
    → is_in ((at, n) ∷ ranges) i ≡ false
behind_range at n i ranges from out = grind (arith, nat_tests, from, out)

after_write_covered : (at n : ℕ) (file : Unsynced) → IsCovered file
    → IsCovered (after_write at n file)
after_write_covered at n file covered = go (nat_le at file.longest) refl
  where
    covers : at ≤ file.longest → (i : ℕ) → length file.synced ≤ i → i < max file.longest (at + n)
        → is_in ((at, n) ∷ file.ranges) i ≡ true
    covers order i from less = within (nat_lt i file.longest) refl
      where
        within : (b : Bool) → nat_lt i file.longest ≡ b → is_in ((at, n) ∷ file.ranges) i ≡ true
        within true is =
            in_others at n i file.ranges (covered.covers i from (grind (arith, nat_tests, is)))
        within false is =
            in_range at n i file.ranges (grind (arith, nat_tests, is, order))
            (grind (arith, nat_tests, is, less))

    go : (b : Bool) → nat_le at file.longest ≡ b
        → IsCovered
        (if b then record {
          synced = file.synced;
          ranges = (at, n) ∷ file.ranges;
          longest = max file.longest (at + n);
        } else file)
    go true is =
        record {
          fits = omega (arith, covered.fits);
          covers = covers (grind (arith, nat_tests, is));
        }
    go false is = covered

after_drop_covered : (file : Unsynced) → IsCovered (after_drop file)
after_drop_covered file = record {
  fits = omega arith;
  covers = λ i from less. in_range 0 file.longest i [] (omega arith) (omega (arith, less));
}

chosen_covered : (b : Bool) (file other : Unsynced) → IsCovered file → IsCovered other
    → IsCovered (if b then file else other)
chosen_covered true file other this that = this
chosen_covered false file other this that = that

-- so is each file of a disk in memory, after any calls
pub covered : (first : Image) (past : List DiskCall) (file : ℕ)
    → IsCovered (unsynced first past file)
covered first [] file = all_synced_covered (first file)
covered first (Len f ∷ past) file = covered first past file
covered first (Read f at n ∷ past) file = covered first past file
covered first (Write f at bytes done ∷ past) file =
    chosen_covered (nat_eq f file) (after_write at (length bytes) (unsynced first past file))
    (unsynced first past file)
    (after_write_covered at (length bytes) (unsynced first past file) (covered first past file))
    (covered first past file)
covered first (Sync f true ∷ past) file =
    chosen_covered (nat_eq f file) (all_synced (replayed first past file))
    (unsynced first past file)
    (all_synced_covered (replayed first past file)) (covered first past file)
covered first (Sync f false ∷ past) file = covered first past file
covered first (DropFile f done ∷ past) file =
    chosen_covered (nat_eq f file) (after_drop (unsynced first past file))
    (unsynced first past file)
    (after_drop_covered (unsynced first past file)) (covered first past file)

-- what lies in no range lies within the synced bytes
synced_within : (file : Unsynced) (i : ℕ) → IsCovered file → i < file.longest
    → is_in file.ranges i ≡ false
    → i < length file.synced
synced_within file i is less out = go (nat_lt i (length file.synced)) refl
  where
    go : (b : Bool) → nat_lt i (length file.synced) ≡ b → i < length file.synced
    go true less = grind (arith, nat_tests, less)
    go false no_less = absurd (cc (out, is.covers i (grind (arith, nat_tests, no_less)) less))

-- after a sync a crash may leave the synced bytes
pub synced_left : (bytes : List ℕ) → IsLeft (all_synced bytes) bytes
synced_left bytes =
    record { no_shorter = omega arith; no_longer = omega arith; elsewhere = λ i less out. refl }

-- after a sync a crash leaves the synced bytes and nothing else
pub only_synced : (bytes left : List ℕ) → IsLeft (all_synced bytes) left → left ≡ bytes
only_synced bytes left is =
    ext_get_or 0 left bytes (omega (arith, is.no_shorter, is.no_longer))
    (λ i less. byte_same left bytes i less (is.elsewhere i less refl))

-- what a crash may tear may also stay as it was
pub torn_itself : (at n : ℕ) (left : List ℕ) → Torn at n left left
torn_itself at n left =
    record { before = refl; after = refl; no_shorter = omega arith; no_longer = omega arith }

module _ (at n : ℕ) (file : Unsynced) (left : List ℕ) (is : IsCovered file)
    (order : at ≤ file.longest)
    (image :
    IsLeft (record {
      synced = file.synced;
      ranges = (at, n) ∷ file.ranges;
      longest = max file.longest (at + n);
    }) left) where
  -- what was left, no longer than the file might have been
  abbrev cut : List ℕ
  cut = take file.longest left

  cut_length : length cut ≡ min file.longest (length left)
  cut_length = length-take file.longest left

  -- the synced bytes in the range
  abbrev bytes : List ℕ
  bytes = take n (drop at file.synced)

  bytes_length : length bytes ≡ min n (length file.synced - at)
  bytes_length = omega (arith, length-take n (drop at file.synced), length-drop at file.synced)

  cut_byte : (i : ℕ) → i < length cut → get_or cut i 0 ≡ get_or left i 0
  cut_byte i less = get_or-take file.longest left i 0 (omega (arith, cut_length, less))

  -- outside the ranges and the new one are the synced bytes
  elsewhere : (i : ℕ) → i < length left → i < length file.synced
      → is_in ((at, n) ∷ file.ranges) i ≡ false
      → get_or left i 0 ≡ get_or file.synced i 0
  elsewhere i less within out = byte_same left file.synced i less (image.elsewhere i less out)

  -- the range lies after all that is left: nothing was torn
  short : length cut < at → (before : List ℕ) × IsLeft file before × Torn at n before left
  short less = (
    left,
    record {
      no_shorter = image.no_shorter;
      no_longer = omega (arith, less, cut_length, order);
      elsewhere =
          λ i within out.
          image.elsewhere i within
          (before_range at n i file.ranges (omega (arith, less, cut_length, order, within)) out);
    },
    torn_itself at n left,
  )

  abbrev was : List ℕ
  was = splice at bytes cut

  was_length : at ≤ length cut → length was ≡ length cut
  was_length within =
      omega (
        arith,
        splice_length at bytes cut within,
        bytes_length,
        cut_length,
        image.no_shorter,
        is.fits,
        within,
      )

  was_left : at ≤ length cut → (i : ℕ) → i < length was → is_in file.ranges i ≡ false
      → get_or was i 0 ≡ get_or file.synced i 0
  was_left within i less out = first (nat_lt i at) refl
    where
      in_file : i < length file.synced
      in_file = synced_within file i is (omega (arith, less, was_length within, cut_length)) out

      in_cut : i < length cut
      in_cut = omega (arith, less, was_length within)

      in_left : i < length left
      in_left = omega (arith, in_cut, cut_length)

      second : at ≤ i → (b : Bool) → nat_lt i (at + length bytes) ≡ b
          → get_or was i 0 ≡ get_or file.synced i 0
      second from true less_more =
          let inner : i < at + length bytes = grind (arith, nat_tests, less_more) in
          in_splice at i bytes cut within from inner
          ∙ get_or-take n (drop at file.synced) (i - at) 0
          (omega (arith, bytes_length, from, inner))
          ∙ get_or-drop at file.synced (i - at) 0
          ∙ ap (λ k. get_or file.synced k 0) (omega (arith, from))
      second from false no_less =
          let past : at + length bytes ≤ i = grind (arith, nat_tests, no_less) in
          after_splice at i bytes cut within past
          ∙ cut_byte i in_cut
          ∙ elsewhere i in_left in_file
          (behind_range at n i file.ranges (omega (arith, bytes_length, in_file, past, from)) out)

      first : (b : Bool) → nat_lt i at ≡ b → get_or was i 0 ≡ get_or file.synced i 0
      first true less_at =
          let front : i < at = grind (arith, nat_tests, less_at) in
          before_splice at i bytes cut within front
          ∙ cut_byte i in_cut
          ∙ elsewhere i in_left in_file (before_range at n i file.ranges front out)
      first false no_less =
          second (grind (arith, nat_tests, no_less)) (nat_lt i (at + length bytes)) refl

  same_front : at ≤ length cut → take at left ≡ take at was
  same_front within = ext_get_or 0 (take at left) (take at was)
      (omega (
        arith,
        length-take at left,
        length-take at was,
        was_length within,
        cut_length,
        within,
      ))
      (λ i less. let front : i < at = omega (arith, less, length-take at left) in
      get_or-take at left i 0 front
      ∙ sym (cut_byte i (omega (arith, front, within)))
      ∙ sym (before_splice at i bytes cut within front)
      ∙ sym (get_or-take at was i 0 front))

  same_back : at ≤ length cut → drop (at + n) left ≡ drop (at + n) was
  same_back within = ext_get_or 0 (drop (at + n) left) (drop (at + n) was)
      (omega (
        arith,
        length-drop (at + n) left,
        length-drop (at + n) was,
        was_length within,
        cut_length,
        image.no_longer,
      ))
      (λ i less. let in_left : at + n + i
      < length left = omega (arith, less, length-drop (at + n) left) in
      get_or-drop (at + n) left i 0
      ∙ sym (cut_byte (at + n + i) (omega (arith, cut_length, in_left, image.no_longer)))
      ∙ sym (after_splice at (at + n + i) bytes cut within (omega (arith, bytes_length)))
      ∙ sym (get_or-drop (at + n) was i 0))

  long : at ≤ length cut → (before : List ℕ) × IsLeft file before × Torn at n before left
  long within = (
    was,
    record {
      no_shorter = omega (arith, was_length within, cut_length, image.no_shorter, is.fits);
      no_longer = omega (arith, was_length within, cut_length);
      elsewhere = λ i less out. same_byte was file.synced i less
          (synced_within file i is (omega (arith, less, was_length within, cut_length)) out)
          (was_left within i less out);
    },
    record {
      before = same_front within;
      after = same_back within;
      no_shorter = omega (arith, was_length within, cut_length);
      no_longer = omega (arith, was_length within, cut_length, image.no_longer);
    },
  )

  was_torn_within : (before : List ℕ) × IsLeft file before × Torn at n before left
  was_torn_within = go (nat_lt (length cut) at) refl
    where
      go : (b : Bool) → nat_lt (length cut) at ≡ b → (before : List ℕ) × IsLeft file before
          × Torn at n before left
      go true less = short (grind (arith, nat_tests, less))
      go false no_less = long (grind (arith, nat_tests, no_less))

-- what a crash may leave after a write is what it might have left before, with the range torn
pub was_torn : (at n : ℕ) (file : Unsynced) (left : List ℕ) → IsCovered file
    → IsLeft (after_write at n file) left
    → (before : List ℕ) × IsLeft file before × Torn at n before left
was_torn at n file left is image = go (nat_le at file.longest) refl image
  where
    go : (b : Bool) → nat_le at file.longest ≡ b
        → IsLeft
        (if b then record {
          synced = file.synced;
          ranges = (at, n) ∷ file.ranges;
          longest = max file.longest (at + n);
        } else file) left
        → (before : List ℕ) × IsLeft file before × Torn at n before left
    go true order image = was_torn_within at n file left is (grind (arith, nat_tests, order)) image
    go false past image = (left, image, torn_itself at n left)

-- the synced bytes and zeros, as long as the file might have been
abbrev padded : Unsynced → List ℕ
padded file = file.synced ++ replicate (file.longest - length file.synced) 0

padded_length : (file : Unsynced) → IsCovered file → length (padded file) ≡ file.longest
padded_length file is = omega (
  arith,
  length-append file.synced (replicate (file.longest - length file.synced) 0),
  length-replicate {A = ℕ} (file.longest - length file.synced) 0,
  is.fits,
)

padded_left : (file : Unsynced) → IsCovered file → IsLeft file (padded file)
padded_left file is = record {
  no_shorter = omega (arith, padded_length file is, is.fits);
  no_longer = omega (arith, padded_length file is);
  elsewhere = λ i less out.
      let within : i < length file.synced =
      synced_within file i is (omega (arith, less, padded_length file is)) out in
      same_byte (padded file) file.synced i less within
      (get_or_append_left file.synced (replicate (file.longest - length file.synced) 0) 0 i within);
}

-- what a crash may leave of a dropped file is no longer than something that it might have left
-- before
pub was_dropped : (file : Unsynced) (left : List ℕ) → IsCovered file → IsLeft (after_drop file) left
    → (before : List ℕ) × IsLeft file before × Dropped before left
was_dropped file left is image =
    (padded file, padded_left file is, omega (arith, padded_length file is, image.no_longer))

out_of_others : (at n i : ℕ) (ranges : List (ℕ × ℕ)) → is_in ((at, n) ∷ ranges) i ≡ false
    → is_in ranges i ≡ false
out_of_others at n i ranges out = go (is_in ranges i) refl
  where
    go : (b : Bool) → is_in ranges i ≡ b → is_in ranges i ≡ false
    go true is = absurd (cc (out, in_others at n i ranges is))
    go false is = is

-- a file that a failed write didn't change
unwritten_left : (at n : ℕ) (file : Unsynced) (left : List ℕ) → IsLeft file left
    → IsLeft (after_write at n file) left
unwritten_left at n file left image = go (nat_le at file.longest)
  where
    go : (b : Bool)
        → IsLeft
        (if b then record {
          synced = file.synced;
          ranges = (at, n) ∷ file.ranges;
          longest = max file.longest (at + n);
        } else file) left
    go true = record {
      no_shorter = image.no_shorter;
      no_longer = omega (arith, image.no_longer);
      elsewhere = λ i less out. image.elsewhere i less (out_of_others at n i file.ranges out);
    }
    go false = image

-- a file that a write changed
spliced_left : (at : ℕ) (bytes : List ℕ) (file : Unsynced) (left : List ℕ) → IsLeft file left
    → at ≤ length left
    → IsLeft
    (record {
      synced = file.synced;
      ranges = (at, length bytes) ∷ file.ranges;
      longest = max file.longest (at + length bytes);
    })
    (splice at bytes left)
spliced_left at bytes file left image within = record {
  no_shorter = omega (arith, splice_length at bytes left within, image.no_shorter);
  no_longer = omega (arith, splice_length at bytes left within, image.no_longer);
  elsewhere = λ i less out. same i less out (nat_lt i at) refl;
}
  where
    stays : (i : ℕ) → i < length (splice at bytes left) → i < length left
        → is_in ((at, length bytes) ∷ file.ranges) i ≡ false
        → get_or (splice at bytes left) i 0 ≡ get_or left i 0
        → slice_get (splice at bytes left) i ≡ slice_get file.synced i
    stays i less inner out is =
        same_byte (splice at bytes left) left i less inner is
        ∙ image.elsewhere i inner (out_of_others at (length bytes) i file.ranges out)

    behind : (i : ℕ) → i < length (splice at bytes left) → at ≤ i
        → is_in ((at, length bytes) ∷ file.ranges) i ≡ false
        → (b : Bool) → nat_lt i (at + length bytes) ≡ b
        → slice_get (splice at bytes left) i ≡ slice_get file.synced i
    behind i less from out true is =
        absurd (cc
        (out, in_range at (length bytes) i file.ranges from (grind (arith, nat_tests, is))))
    behind i less from out false is =
        let past : at + length bytes ≤ i = grind (arith, nat_tests, is) in
        stays i less (omega (arith, less, splice_length at bytes left within, past)) out
        (after_splice at i bytes left within past)

    same : (i : ℕ) → i < length (splice at bytes left)
        → is_in ((at, length bytes) ∷ file.ranges) i ≡ false
        → (b : Bool) → nat_lt i at ≡ b
        → slice_get (splice at bytes left) i ≡ slice_get file.synced i
    same i less out true is =
        let front : i < at = grind (arith, nat_tests, is) in
        stays i less (omega (arith, front, within)) out (before_splice at i bytes left within front)
    same i less out false is =
        behind i less (grind (arith, nat_tests, is)) out (nat_lt i (at + length bytes)) refl

written_left : (at : ℕ) (bytes : List ℕ) (file : Unsynced) (left : List ℕ) → IsLeft file left
    → IsLeft (after_write at (length bytes) file) (written at bytes left)
written_left at bytes file left image = go (nat_le at (length left)) refl
  where
    go : (b : Bool) → nat_le at (length left) ≡ b
        → IsLeft (after_write at (length bytes) file) (if b then splice at bytes left else left)
    go true is =
        let within : at ≤ length left = grind (arith, nat_tests, is) in
        let reaches : nat_le at file.longest ≡ true =
        grind (arith, nat_tests, within, image.no_longer) in
        rw reaches (spliced_left at bytes file left image within)
    go false is = unwritten_left at (length bytes) file left image

dropped_left : (file : Unsynced) (left : List ℕ) → length left ≤ file.longest
    → IsLeft (after_drop file) left
dropped_left file left fits = record {
  no_shorter = omega arith;
  no_longer = fits;
  elsewhere =
      λ i less out.
      absurd (cc (out, in_range 0 file.longest i [] (omega arith) (omega (arith, less, fits))));
}

chosen_left : (b : Bool) (file other : Unsynced) (left : List ℕ) → IsLeft file left
    → IsLeft other left
    → IsLeft (if b then file else other) left
chosen_left true file other left this that = this
chosen_left false file other left this that = that

chosen_both : (b : Bool) (file other : Unsynced) (left rest : List ℕ) → IsLeft file left
    → IsLeft other rest
    → IsLeft (if b then file else other) (if b then left else rest)
chosen_both true file other left rest this that = this
chosen_both false file other left rest this that = that

-- what reads give is what a crash may leave
pub reads_left : (first : Image) (past : List DiskCall) (file : ℕ)
    → IsLeft (unsynced first past file) (replayed first past file)
reads_left first [] file = synced_left (first file)
reads_left first (Len f ∷ past) file = reads_left first past file
reads_left first (Read f at n ∷ past) file = reads_left first past file
reads_left first (Write f at bytes true ∷ past) file =
    chosen_both (nat_eq f file) (after_write at (length bytes) (unsynced first past file))
    (unsynced first past file)
    (written at bytes (replayed first past file)) (replayed first past file)
    (written_left at bytes (unsynced first past file) (replayed first past file)
    (reads_left first past file))
    (reads_left first past file)
reads_left first (Write f at bytes false ∷ past) file =
    chosen_left (nat_eq f file) (after_write at (length bytes) (unsynced first past file))
    (unsynced first past file)
    (replayed first past file)
    (unwritten_left at (length bytes) (unsynced first past file) (replayed first past file)
    (reads_left first past file))
    (reads_left first past file)
reads_left first (Sync f true ∷ past) file =
    chosen_left (nat_eq f file) (all_synced (replayed first past file)) (unsynced first past file)
    (replayed first past file)
    (synced_left (replayed first past file)) (reads_left first past file)
reads_left first (Sync f false ∷ past) file = reads_left first past file
reads_left first (DropFile f true ∷ past) file =
    chosen_both (nat_eq f file) (after_drop (unsynced first past file))
    (unsynced first past file) [] (replayed first past file)
    (dropped_left (unsynced first past file) [] (omega arith)) (reads_left first past file)
reads_left first (DropFile f false ∷ past) file =
    chosen_left (nat_eq f file) (after_drop (unsynced first past file)) (unsynced first past file)
    (replayed first past file)
    (dropped_left (unsynced first past file) (replayed first past file)
    ((reads_left first past file).no_longer))
    (reads_left first past file)
