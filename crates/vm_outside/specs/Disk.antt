-- What the calls of a disk do to its files, and what a crash may leave of them.
use Rattle.std.specs.Prelude.{◌≡◌, ◌≢◌, ◌≤◌, ℕ, ◌+◌, max, Bool, List, [], ◌++◌, length, take, drop, ◌⊎◌, IsTrue}

-- the bytes of each file, by its number: as reads give them, or as a crash may leave them
abbrev pub Image : Type 0
Image = ℕ → List ℕ

-- The new content is the old one with these bytes at this place.
abbrev pub Holds : ℕ → List ℕ → List ℕ → List ℕ → Type 0
Holds at bytes old new = new ≡ take at old ++ bytes ++ drop (at + length bytes) old

-- The new content is the old one with any bytes in the range, or in a part of it up to a new end.
pub record Torn (at n : ℕ) (old new : List ℕ) : Type 0 where
  pub before : take at new ≡ take at old
  pub after : drop (at + n) new ≡ drop (at + n) old
  pub no_shorter : length old ≤ length new
  pub no_longer : length new ≤ max (length old) (at + n)

-- any bytes, no more than the old ones
abbrev pub Dropped : List ℕ → List ℕ → Type 0
Dropped old new = length new ≤ length old

-- no bytes
abbrev pub Emptied : List ℕ → List ℕ → Type 0
Emptied old new = new ≡ []

-- This file has changed by the step, and no other has changed.
pub record Changes (file : ℕ) (step : List ℕ → List ℕ → Type 0) (old new : Image) : Type 0 where
  pub own : step (old file) (new file)
  pub others : (other : ℕ) → other ≢ file → new other ≡ old other

-- What a crash may leave of this file is what it might have left, after the step; of another, what
-- it might have left.
pub record Follows (file : ℕ) (step : List ℕ → List ℕ → Type 0)
    (old new : ℕ → List ℕ → Type 0) : Type 0 where
  pub own : (left : List ℕ) → new file left → (before : List ℕ) × old file before × step before left
  pub others : (other : ℕ) → other ≢ file → (left : List ℕ) → new other left → old other left

-- A crash may leave nothing that it might not have left before.
abbrev pub NoMore : (ℕ → List ℕ → Type 0) → (ℕ → List ℕ → Type 0) → Type 0
NoMore old new = (file : ℕ) (left : List ℕ) → new file left → old file left

-- Each file of the image is one that a crash may leave, whatever it leaves of the others.
abbrev pub Each : (ℕ → List ℕ → Type 0) → Image → Type 0
Each may_leave image = (file : ℕ) → may_leave file (image file)

-- An image that follows by the step from what a crash might have left.
abbrev pub MayFollow : ℕ → (List ℕ → List ℕ → Type 0) → (ℕ → List ℕ → Type 0) → Image → Type 0
MayFollow file step may_leave image = Follows file step may_leave (λ f left. left ≡ image f)

-- what a disk tells at one moment
pub record DiskState : Type 1 where
  -- it tells its content, and keeps what it tells
  pub honest : Bool
  -- what reads give of each file
  pub reads : Image
  -- which contents a crash at this moment may leave of each file
  pub may_leave : ℕ → List ℕ → Type 0
  -- the moment: how many calls were made so far
  pub moment : ℕ
  -- what a crash at any moment from that one on may have left, within a call or between two
  pub left_since : ℕ → Image → Type 0
  -- how many calls of `len` and `read` failed, up to 2^64 - 1
  pub read_faults : ℕ
  -- how many calls of `write`, `sync` and `drop_file` failed, up to 2^64 - 1
  pub write_faults : ℕ
  -- how many bytes its reads have given
  pub bytes_read : ℕ

-- At most so many calls passed. A crash since an old moment may have left what it might have left
-- before them, or an image with P.
pub record Elapses (calls : ℕ) (P : Image → Type 0) (old new : DiskState) : Type 0 where
  pub later : old.moment ≤ new.moment
  pub at_most : new.moment ≤ old.moment + calls
  pub nothing_else : (since : ℕ) (image : Image) → since ≤ old.moment → new.left_since since image
      → old.left_since since image ⊎ P image
  pub keeps : (since : ℕ) (image : Image) → since ≤ old.moment → old.left_since since image
      → new.left_since since image

-- One call passed at most: a crash since then leaves what it may leave now.
abbrev pub Passes : DiskState → DiskState → Type 0
Passes old new = Elapses 1 (Each new.may_leave) old new

-- What calls leave that write nothing: what reads give stays, and a crash leaves what it might have
-- left before.
pub record Quiet (old new : DiskState) : Type 0 where
  pub honest : new.honest ≡ old.honest
  pub content : IsTrue old.honest → new.reads ≡ old.reads
  pub crash : NoMore old.may_leave new.may_leave
  pub read_faults : old.read_faults ≤ new.read_faults
  pub write_faults : old.write_faults ≤ new.write_faults

-- What calls leave that only read: they write nothing, fail at no write, and give at most so many
-- bytes.
pub record OnlyReads (bytes : ℕ) (old new : DiskState) : Type 0 where
  pub quiet : Quiet old new
  pub no_more_faults : new.write_faults ≡ old.write_faults
  pub bytes_read : IsTrue old.honest
      → (old.bytes_read ≤ new.bytes_read) × (new.bytes_read ≤ old.bytes_read + bytes)

-- What calls leave that change this file alone and read nothing: a crash leaves the file as it
-- might have been left before, after the step.
pub record OnlyChanges (file : ℕ) (step : List ℕ → List ℕ → Type 0)
    (old new : DiskState) : Type 0 where
  pub honest : new.honest ≡ old.honest
  pub others : IsTrue old.honest → (other : ℕ) → other ≢ file → new.reads other ≡ old.reads other
  pub bytes_read : IsTrue old.honest → new.bytes_read ≡ old.bytes_read
  pub crash : Follows file step old.may_leave new.may_leave
  pub read_faults : new.read_faults ≡ old.read_faults
  pub write_faults : old.write_faults ≤ new.write_faults
