-- The laws of a disk, of one in memory.
use Rattle.std.specs.Prelude.{◌≡◌, ◌≤◌, ℕ, List, reverse, length}
use Rattle.std.proofs.Common.{[], ◌∷◌, inl, ⊎_elim, sym, subst, arith}
use Rattle.std.proofs.lemmas.List.{length-reverse}
use Rattle.vm_outside.specs.Disk.{Image, Each}
use Rattle.vm_outside.specs.MemDisk.{replayed, unsynced, remains, remains_since}
use Rattle.vm_outside.specs.Unsynced.{IsLeft}
use Rattle.vm_outside.specs.declared.disk_call.DiskCall.{DiskCall}
use Rattle.vm_outside.specs.UnsyncedLaws.{reads_left}

counts : (first : Image) (past : List DiskCall) (since : ℕ) (image : Image) → since ≤ length past
    → Each (remains first past) image → remains_since first since past image
counts first [] since image within each = each
counts first (call ∷ past) since image within each = inl each

only_last : (first : Image) (past : List DiskCall) (image : Image)
    → remains_since first (length past) past image
    → Each (remains first past) image
only_last first [] image left = left
only_last first (call ∷ past) image left =
    ⊎_elim (λ now. now) (λ before. absurd (omega (arith, before.0))) left

-- what reads give is what a crash may leave
pub reads_as_left : (first : Image) (calls : List DiskCall) (file : ℕ) (content : List ℕ)
    → content ≡ replayed first (reverse calls) file → remains first (reverse calls) file content
reads_as_left first calls file content is =
    subst (λ bytes. IsLeft (unsynced first (reverse calls) file) bytes) (sym is)
    (reads_left first (reverse calls) file)

-- a crash at this moment is one since any earlier moment
pub counted_now : (first : Image) (calls : List DiskCall) (since : ℕ) (image : Image)
    → since ≤ length calls
    → Each (remains first (reverse calls)) image → remains_since first since (reverse calls) image
counted_now first calls since image within each =
    counts first (reverse calls) since image (omega (arith, within, length-reverse calls)) each

-- since this moment there is no other
pub only_last_now : (first : Image) (calls : List DiskCall) (image : Image)
    → remains_since first (length calls) (reverse calls) image
    → Each (remains first (reverse calls)) image
only_last_now first calls image left =
    only_last first (reverse calls) image
    (subst (λ n. remains_since first n (reverse calls) image) (sym (length-reverse calls)) left)
