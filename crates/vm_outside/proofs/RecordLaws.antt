-- A disk in memory, one call after the other.
use Rattle.std.proofs.Common.{◌≡◌, ◌≢◌, ℕ, ◌+◌, ◌<◌, ◌≤◌, Bool, true, false, ◌⊎◌, inl, inr, ⊎_elim, List, [], ◌∷◌, ◌++◌, length, reverse, take, get_or, refl, sym, ap, ◌∙◌, arith, subst, length-append}
use Rattle.std.specs.Prelude.{nat_eq, if◌then◌else◌}
use Rattle.std.proofs.lemmas.Bool.Decides.{nat_tests}
use Rattle.std.proofs.lemmas.List.{reverse-append, length-reverse, take_more}
use Rattle.vm_outside.specs.Disk.{Image, DiskState, Torn, Dropped, Each, Follows, NoMore, Passes}
use Rattle.vm_outside.specs.MemDisk.{file_of, given, replayed, unsynced, remains, remains_since}
use Rattle.vm_outside.specs.Unsynced.{IsLeft, all_synced, after_write, after_drop}
use Rattle.vm_outside.specs.declared.disk_call.DiskCall.{DiskCall}
use Rattle.vm_outside.specs.declared.disk_call.DiskCall.TheVariants.{Len, Read, Write, Sync, DropFile}
use Rattle.vm_outside.specs.UnsyncedLaws.{covered, torn_itself, was_torn, was_dropped, reads_left, only_synced}

same_number : (file : ℕ) → nat_eq file file ≡ true
same_number file = grind (arith, nat_tests)

other_number : (file other : ℕ) → other ≢ file → nat_eq file other ≡ false
other_number file other apart = go (nat_eq file other) refl
  where
    go : (b : Bool) → nat_eq file other ≡ b → nat_eq file other ≡ false
    go true is = absurd (apart (grind (arith, nat_tests, is)))
    go false is = is

-- a call of another file

pub other_replayed : (first : Image) (past : List DiskCall) (call : DiskCall) (file : ℕ)
    → file_of call ≢ file
    → replayed first (call ∷ past) file ≡ replayed first past file
other_replayed first past (Len f) file apart = refl
other_replayed first past (Read f at n) file apart = refl
other_replayed first past (Write f at bytes true) file apart =
    rw (other_number f file (λ is. apart (sym is))) refl
other_replayed first past (Write f at bytes false) file apart = refl
other_replayed first past (Sync f done) file apart = refl
other_replayed first past (DropFile f true) file apart =
    rw (other_number f file (λ is. apart (sym is))) refl
other_replayed first past (DropFile f false) file apart = refl

pub other_unsynced : (first : Image) (past : List DiskCall) (call : DiskCall) (file : ℕ)
    → file_of call ≢ file
    → unsynced first (call ∷ past) file ≡ unsynced first past file
other_unsynced first past (Len f) file apart = refl
other_unsynced first past (Read f at n) file apart = refl
other_unsynced first past (Write f at bytes done) file apart =
    rw (other_number f file (λ is. apart (sym is))) refl
other_unsynced first past (Sync f true) file apart =
    rw (other_number f file (λ is. apart (sym is))) refl
other_unsynced first past (Sync f false) file apart = refl
other_unsynced first past (DropFile f done) file apart =
    rw (other_number f file (λ is. apart (sym is))) refl

-- what a crash may leave, one call on

pub write_follows :
    (first : Image) (past : List DiskCall) (file at : ℕ) (bytes : List ℕ) (done : Bool)
    → Follows file (Torn at (length bytes)) (remains first past)
    (remains first (Write file at bytes done ∷ past))
write_follows first past file at bytes done = record {
  own = λ left is.
      was_torn at (length bytes) (unsynced first past file) left (covered first past file)
      (subst (λ b.
      IsLeft (if b then after_write at (length bytes) (unsynced first past file)
      else unsynced first past file) left)
      (same_number file) is);
  others = λ other apart left is.
      subst (λ b.
      IsLeft (if b then after_write at (length bytes) (unsynced first past other)
      else unsynced first past other) left)
      (other_number file other apart) is;
}

pub drop_follows : (first : Image) (past : List DiskCall) (file : ℕ) (done : Bool)
    → Follows file Dropped (remains first past) (remains first (DropFile file done ∷ past))
drop_follows first past file done = record {
  own = λ left is. was_dropped (unsynced first past file) left (covered first past file)
      (subst (λ b.
      IsLeft (if b then after_drop (unsynced first past file) else unsynced first past file)
      left)
      (same_number file) is);
  others = λ other apart left is.
      subst (λ b.
      IsLeft (if b then after_drop (unsynced first past other) else unsynced first past other)
      left)
      (other_number file other apart) is;
}

pub sync_no_more : (first : Image) (past : List DiskCall) (file : ℕ)
    → NoMore (remains first past) (remains first (Sync file true ∷ past))
sync_no_more first past file other left is = go (nat_eq file other) is
  where
    go : (b : Bool)
        → IsLeft (if b then all_synced (replayed first past other) else unsynced first past other)
        left
        → IsLeft (unsynced first past other) left
    go true is =
        subst (λ l. IsLeft (unsynced first past other) l)
        (sym (only_synced (replayed first past other) left is))
        (reads_left first past other)
    go false is = is

pub sync_durable : (first : Image) (past : List DiskCall) (file : ℕ) (left : List ℕ)
    → remains first (Sync file true ∷ past) file left → left ≡ replayed first past file
sync_durable first past file left is =
    only_synced (replayed first past file) left
    (subst (λ b.
    IsLeft (if b then all_synced (replayed first past file) else unsynced first past file) left)
    (same_number file) is)

-- the moments, one call on

-- at most one call more, and what a crash may have left since a moment
pub record Moves (before now : ℕ) (past since : ℕ → Image → Type 0)
    (may_leave : ℕ → List ℕ → Type 0) : Type 0 where
  pub later : before ≤ now
  pub by_one : now ≤ before + 1
  pub nothing_else : (moment : ℕ) (image : Image) → moment ≤ before → since moment image
      → past moment image ⊎ Each may_leave image
  pub keeps : (moment : ℕ) (image : Image) → moment ≤ before → past moment image
      → since moment image

pub passes : (old new : DiskState)
    → Moves old.moment new.moment old.left_since new.left_since new.may_leave → Passes old new
passes old new is =
    record {
      later = is.later;
      at_most = is.by_one;
      nothing_else = is.nothing_else;
      keeps = is.keeps;
    }

elapses_more : (first : Image) (past : List DiskCall) (call : DiskCall)
    → Moves (length past) (length (call ∷ past))
    (λ since image. remains_since first since past image)
    (λ since image. remains_since first since (call ∷ past) image) (remains first (call ∷ past))
elapses_more first past call = record {
  later = omega arith;
  by_one = omega arith;
  nothing_else = λ since image within left. ⊎_elim (λ now. inr now) (λ before. inl before.1) left;
  keeps = λ since image within before. inr (within, before);
}

pub reverse_push : (calls : List DiskCall) (call : DiskCall)
    → reverse (calls ++ call ∷ []) ≡ call ∷ reverse calls
reverse_push calls call = reverse-append calls (call ∷ [])

pub elapses_push : (first : Image) (calls later : List DiskCall) (call : DiskCall) → later ≡ calls
    ++ call ∷ []
    → Moves (length calls) (length later)
    (λ since image. remains_since first since (reverse calls) image)
    (λ since image. remains_since first since (reverse later) image) (remains first (reverse later))
elapses_push first calls later call is =
    let n : length calls ≡ length (reverse calls) = sym (length-reverse calls) in
    let m : length later ≡ length (call ∷ reverse calls) =
    ap length is ∙ omega (arith, length-append calls (call ∷ []), length-reverse calls) in
    let r : reverse later ≡ call ∷ reverse calls = ap (λ l. reverse l) is
    ∙ reverse_push calls call in
    rw (n, m, r) (elapses_more first (reverse calls) call)

-- no call was made
pub elapses_not : (first : Image) (calls : List DiskCall)
    → Moves (length calls) (length calls)
    (λ since image. remains_since first since (reverse calls) image)
    (λ since image. remains_since first since (reverse calls) image) (remains first (reverse calls))
elapses_not first calls = record {
  later = omega arith;
  by_one = omega arith;
  nothing_else = λ since image within left. inl left;
  keeps = λ since image within before. before;
}

-- a call that gives no bytes
pub gives_none : (call : DiskCall) → ((past : List DiskCall) → given (call ∷ past) ≡ given past)
    → (calls later : List DiskCall)
    → (later ≡ calls ++ call ∷ []) ⊎ (later ≡ calls) → given (reverse later) ≡ given (reverse calls)
gives_none call none calls later (inl is) =
    ap (λ l. given (reverse l)) is ∙ ap (λ l. given l) (reverse_push calls call)
    ∙ none (reverse calls)
gives_none call none calls later (inr is) = ap (λ l. given (reverse l)) is

-- the same of disks: what their files held at first, and their calls in order

pub noted_elapses : (first now : Image) (calls later : List DiskCall) (call : DiskCall)
    → now ≡ first
    → later ≡ calls ++ call ∷ []
    → Moves (length calls) (length later)
    (λ since image. remains_since first since (reverse calls) image)
    (λ since image. remains_since now since (reverse later) image) (remains now (reverse later))
noted_elapses first now calls later call same is =
    subst (λ f.
    Moves (length calls) (length later)
    (λ since image. remains_since first since (reverse calls) image)
    (λ since image. remains_since f since (reverse later) image) (remains f (reverse later)))
    (sym same) (elapses_push first calls later call is)

pub may_elapse : (first now : Image) (calls later : List DiskCall) (call : DiskCall) → now ≡ first
    → (later ≡ calls ++ call ∷ []) ⊎ (later ≡ calls)
    → Moves (length calls) (length later)
    (λ since image. remains_since first since (reverse calls) image)
    (λ since image. remains_since now since (reverse later) image) (remains now (reverse later))
may_elapse first now calls later call same (inl is) =
    noted_elapses first now calls later call same is
may_elapse first now calls later call same (inr is) =
    subst (λ f.
    Moves (length calls) (length later)
    (λ since image. remains_since first since (reverse calls) image)
    (λ since image. remains_since f since (reverse later) image) (remains f (reverse later)))
    (sym same)
    (subst (λ l.
    Moves (length calls) (length l)
    (λ since image. remains_since first since (reverse calls) image)
    (λ since image. remains_since first since (reverse l) image) (remains first (reverse l)))
    (sym is) (elapses_not first calls))

-- what is left after a call that was written down
noted_left :
    (first now : Image) (calls later : List DiskCall) (call : DiskCall) (file : ℕ) (left : List ℕ)
    → now ≡ first
    → later ≡ calls ++ call ∷ [] → remains now (reverse later) file left
    → remains first (call ∷ reverse calls) file left
noted_left first now calls later call file left same is remained =
    subst (λ f. remains f (call ∷ reverse calls) file left) same
    (subst (λ past. remains now past file left) (ap (λ l. reverse l) is ∙ reverse_push calls call)
    remained)

same_left : (first now : Image) (calls later : List DiskCall) (file : ℕ) (left : List ℕ)
    → now ≡ first
    → later ≡ calls → remains now (reverse later) file left
    → remains first (reverse calls) file left
same_left first now calls later file left same is remained =
    subst (λ f. remains f (reverse calls) file left) same
    (subst (λ l. remains now (reverse l) file left) is remained)

pub noted_sync_no_more : (first now : Image) (calls later : List DiskCall) (file : ℕ) → now ≡ first
    → later ≡ calls ++ Sync file true ∷ []
    → NoMore (remains first (reverse calls)) (remains now (reverse later))
noted_sync_no_more first now calls later file same is other left remained =
    sync_no_more first (reverse calls) file other left
    (noted_left first now calls later (Sync file true) other left same is remained)

pub noted_sync_durable :
    (first now : Image) (calls later : List DiskCall) (file : ℕ) (content : List ℕ) → now ≡ first
    → later ≡ calls ++ Sync file true ∷ [] → content ≡ replayed first (reverse calls) file
    → (left : List ℕ) → remains now (reverse later) file left → left ≡ content
noted_sync_durable first now calls later file content same is holds left remained =
    sync_durable first (reverse calls) file left
    (noted_left first now calls later (Sync file true) file left same is remained)
    ∙ sym holds

pub may_write :
    (first now : Image) (calls later : List DiskCall) (file at : ℕ) (bytes : List ℕ) (done : Bool)
    → now ≡ first
    → (later ≡ calls ++ Write file at bytes done ∷ []) ⊎ (later ≡ calls)
    → Follows file (Torn at (length bytes)) (remains first (reverse calls))
    (remains now (reverse later))
may_write first now calls later file at bytes done same (inl is) =
    let follows :
    Follows file (Torn at (length bytes)) (remains first (reverse calls))
    (remains first (Write file at bytes done ∷ reverse calls)) =
    write_follows first (reverse calls) file at bytes done in
    record {
      own = λ left remained.
          follows.own left
          (noted_left first now calls later (Write file at bytes done) file left same is remained);
      others = λ other apart left remained.
          follows.others other apart left
          (noted_left first now calls later (Write file at bytes done) other left same is
          remained);
    }
may_write first now calls later file at bytes done same (inr is) = record {
  own = λ left remained. (
    left,
    same_left first now calls later file left same is remained,
    torn_itself at (length bytes) left,
  );
  others = λ other apart left remained. same_left first now calls later other left same is remained;
}

pub may_drop : (first now : Image) (calls later : List DiskCall) (file : ℕ) (done : Bool)
    → now ≡ first
    → (later ≡ calls ++ DropFile file done ∷ []) ⊎ (later ≡ calls)
    → Follows file Dropped (remains first (reverse calls)) (remains now (reverse later))
may_drop first now calls later file done same (inl is) =
    let follows :
    Follows file Dropped (remains first (reverse calls))
    (remains first (DropFile file done ∷ reverse calls)) =
    drop_follows first (reverse calls) file done in
    record {
      own = λ left remained.
          follows.own left
          (noted_left first now calls later (DropFile file done) file left same is remained);
      others = λ other apart left remained.
          follows.others other apart left
          (noted_left first now calls later (DropFile file done) other left same is remained);
    }
may_drop first now calls later file done same (inr is) = record {
  own = λ left remained.
      (left, same_left first now calls later file left same is remained, omega arith);
  others = λ other apart left remained. same_left first now calls later other left same is remained;
}

-- a disk that wasn't called yet

pub nothing_left : (first : Image) (calls : List DiskCall) → length calls ≡ 0
    → (file : ℕ) (left : List ℕ)
    → remains first (reverse calls) file left → left ≡ first file
nothing_left first [] none file left remained = only_synced (first file) left remained
nothing_left first (call ∷ calls) none file left remained = absurd (omega (arith, none))

pub nothing_replayed : (first : Image) (calls : List DiskCall) → length calls ≡ 0 → (file : ℕ)
    → replayed first (reverse calls) file ≡ first file
nothing_replayed first [] none file = refl
nothing_replayed first (call ∷ calls) none file = absurd (omega (arith, none))

-- one call more of a record
pub reverse_more : (calls : List DiskCall) (i : ℕ) (call : DiskCall) → get_or calls i call ≡ call
    → i < length calls
    → reverse (take (i + 1) calls) ≡ call ∷ reverse (take i calls)
reverse_more calls i call is within =
    ap (λ l. reverse l) (take_more calls i call within ∙ ap (λ x. take i calls ++ x ∷ []) is)
    ∙ reverse_push (take i calls) call
