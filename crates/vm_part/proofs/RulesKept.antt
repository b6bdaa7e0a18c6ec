-- The fields of a part keep their rules.
use Rattle.std.proofs.Common.{◌≡◌, ℕ, zero, suc, ◌+◌, ◌-◌, ◌*◌, ◌%◌, ◌^◌, ◌≤◌, ◌<◌, Bool, true, ◌&&◌, ◌||◌, if◌then◌else◌, nat_le, nat_lt, ◌==◌, not, int_le, List, [], ◌∷◌, ◌++◌, length, take, flat_map, Option, Some, None, refl, ap, ap₂, sym, ◌∙◌, subst, ⊎_elim, arith, append-nil, length-append}
use Rattle.std.specs.Prelude.{bytes_eq}
use Rattle.std.specs.List.{AllByRecursion}
use Rattle.std.proofs.lemmas.Bool.{and_from, and_parts, cond-false, eq-eqb, eqb-true, le-leb, lt-ltb, ltb-true, ne_eqb, or_cases, or_left}
use Rattle.std.proofs.lemmas.Slice.Eq.{bytes_eq-Decides}
use Rattle.vm_base.specs.Sorted.{IsUp, last_of}
use Rattle.vm_base.specs.Stamped.{is_in_order}
use Rattle.vm_base.specs.declared.stamped.Stamped.{Stamped}
use Rattle.vm_block.specs.Header.{field, first_broken, is_last_time, is_time}
use Rattle.vm_block.proofs.Headers.{ranges}
use Rattle.vm_part.specs.Broken.{ends_there, entries_at, entries_rules, entry_at, entry_rules, footer_at, is_whole, may_start, none_without_blocks, number_at, rules}
use Rattle.vm_part.specs.Part.{AreStored, Block, IsStored, SaysSamples, Stored, block_bytes, blocks_bytes, end_mark, entries, entries_from, entries_of, entry_of, first_of, front, front_mark, postings, samples_in, samples_of, series_bytes, table, time_of}
use Rattle.vm_part.specs.inner.Reading.{entries_section_rules, front_rules, has_mark}
use Rattle.vm_part.specs.declared.entry.Entry.{Entry}
use Rattle.vm_part.specs.declared.footer.Footer.{Footer}
use Rattle.vm_part.proofs.BlockLaws.{block_long, ends, last_append, samples_many}
use Rattle.vm_part.proofs.EntryLaws.{entries_many}
use Rattle.vm_part.proofs.FileLaws.{rules_kept}
use Rattle.vm_part.proofs.LayoutLaws.{HasLayout, entries_long, footer_of, front_long}
use Rattle.vm_part.proofs.RuleLaws.{kept_front}
use Rattle.vm_part.proofs.SectionLaws.{none_broken}

-- ---- the rules of entries

-- the rules of entries, as they stand in a list
abbrev pub list_rules : (end rows at : ℕ) → Option Entry → (so_far : ℕ) → List Entry
    → List (ℕ × Bool)
list_rules end rows at before so_far [] = []
list_rules end rows at before so_far (e ∷ es) =
    entry_rules end at before (length es == 0) (not (length es == 0) || so_far + e.rows == rows) e
    ++ list_rules end rows (at + 40) (Some e) (so_far + e.rows) es

-- are those of the bytes
pub rules_listed : (end rows n at : ℕ) (bytes : List ℕ) (before : Option Entry) (so_far : ℕ)
    → entries_rules end bytes rows n at before so_far
    ≡ list_rules end rows at before so_far (entries_at n at bytes)
rules_listed end rows zero at bytes before so_far = refl
rules_listed end rows (suc n) at bytes before so_far =
    let e = entry_at at bytes in
    ap₂ (λ k rest. entry_rules end at before (k == 0) (not (k == 0) || so_far + e.rows == rows) e
    ++ rest) (sym (entries_many n (at + 40) bytes))
    (rules_listed end rows n (at + 40) bytes (Some e) (so_far + e.rows))

module _ (at : ℕ) (b0 b1 b2 b3 b4 : Bool) where
  five_kept : b0 ≡ true → b1 ≡ true → b2 ≡ true → b3 ≡ true → b4 ≡ true
      → first_broken ((at, b0) ∷ (at + 8, b1) ∷ (at + 16, b2) ∷ (at + 24, b3) ∷ (at + 32, b4) ∷ [])
      ≡ None
  five_kept h0 h1 h2 h3 h4 = rw (h0, h1, h2, h3, h4) refl

-- ---- the times of samples

in_time : (x y : Stamped) → is_in_order x y ≡ true → x.time ≤ y.time
in_time x y h =
    ⊎_elim (λ before. let less = ltb-true x.time y.time before in omega arith)
    (λ same.
    let is =
    eqb-true x.time y.time
    (and_parts (x.time == y.time) (int_le x.value y.value) same).0 in omega arith)
    (or_cases (nat_lt x.time y.time) (x.time == y.time && int_le x.value y.value) h)

last_behind : (x y : Stamped) (ys : List Stamped)
    → AllByRecursion (λ z. is_in_order x z ≡ true) (y ∷ ys) → x.time ≤ time_of (last_of (y ∷ ys))
last_behind x y [] all = in_time x y all.0
last_behind x y (z ∷ zs) all = last_behind x z zs all.1

-- of samples in order the last one is not before the first one
times_rise : (samples : List Stamped) → IsUp is_in_order samples
    → time_of (first_of samples) ≤ time_of (last_of samples)
times_rise [] up = omega arith
times_rise (x ∷ []) up = omega arith
times_rise (x ∷ y ∷ ys) up = last_behind x y ys up.0

-- the last sample of two lists is that of one of them
last_early : (xs ys : List Stamped) → time_of (last_of xs) < 2 ^ 48 → time_of (last_of ys) < 2 ^ 48
    → time_of (last_of (xs ++ ys)) < 2 ^ 48
last_early xs [] first behind =
    subst (λ ss. time_of (last_of ss) < 2 ^ 48) (sym (append-nil xs)) first
last_early xs (y ∷ ys) first behind =
    subst (λ s. time_of s < 2 ^ 48) (sym (last_append xs y ys)) behind

-- ---- blocks

-- how many bytes and samples blocks have, and when they end
record HasSizes (blocks : List Block) : Type 0 where
  pub room : 40 * length blocks ≤ length (blocks_bytes blocks)
  pub some : length blocks ≤ length (samples_in blocks)
  pub most : length (samples_in blocks) ≤ 8192 * length blocks
  pub last : time_of (last_of (samples_in blocks)) < 2 ^ 48

sizes : (blocks : List Block) → AllByRecursion SaysSamples blocks → HasSizes blocks
sizes [] say =
    record { room = omega arith; some = omega arith; most = omega arith; last = omega arith }
sizes (b ∷ blocks) say =
    let more = sizes blocks say.1 in
    let room = more.room in
    let some = more.some in
    let most = more.most in
    let r = ranges b.header say.0.header in
    let least = r.some in
    let few = r.few in
    let ending = r.last_time in
    let long = block_long b.header b.body say.0.len in
    let whole = length-append (block_bytes b) (blocks_bytes blocks) in
    let many = samples_many b.header b.body b.samples say.0 in
    let all = length-append b.samples (samples_in blocks) in
    record {
      room = omega arith;
      some = omega arith;
      most = omega arith;
      last = last_early b.samples (samples_in blocks)
          (subst (λ t. t < 2 ^ 48) (sym (ends b.header b.body b.samples say.0).ends) ending)
          more.last;
    }

-- the blocks behind them may start where these end
next_starts : (start : ℕ) (blocks : List Block) → HasSizes blocks
    → (if length blocks == 0 then start + length (blocks_bytes blocks) == start
    else nat_le (start + 40 * length blocks) (start + length (blocks_bytes blocks))) ≡ true
next_starts start [] has = eq-eqb (start + 0) start (omega arith)
next_starts start (b ∷ blocks) has =
    let room = has.room in
    let behind = start + length (blocks_bytes (b ∷ blocks)) in
    cond-false (length (b ∷ blocks) == 0) (behind == start)
    (nat_le (start + 40 * length (b ∷ blocks)) behind)
    (ne_eqb (length (b ∷ blocks)) 0 (λ same. absurd (omega arith)))
    ∙ le-leb (start + 40 * length (b ∷ blocks)) behind (omega arith)

-- no blocks, no time
no_times : (blocks : List Block) (time : List Stamped → ℕ) → time [] ≡ 0
    → (nat_lt 0 (length blocks) || time (samples_in blocks) == 0) ≡ true
no_times [] time none = eq-eqb (time []) 0 none
no_times (b ∷ blocks) time none =
    or_left (nat_lt 0 (length (b ∷ blocks))) (time (samples_in (b ∷ blocks)) == 0)
    (lt-ltb 0 (length (b ∷ blocks)) (omega arith))

-- where no blocks are last, all blocks end
place_ends : (end start : ℕ) (blocks : List Block) → start + length (blocks_bytes blocks) ≡ end
    → (nat_lt 0 (length blocks) || start == end) ≡ true
place_ends end start [] ends_at = eq-eqb start end (omega arith)
place_ends end start (b ∷ blocks) ends_at =
    or_left (nat_lt 0 (length (b ∷ blocks))) (start == end)
    (lt-ltb 0 (length (b ∷ blocks)) (omega arith))

-- ---- one entry

last_ends : (end start : ℕ) (s : Stored) (more : List Stored)
    → start + length (flat_map series_bytes (s ∷ more)) ≡ end
    → ends_there end (length (entries_from (start + length (blocks_bytes s.blocks)) more) == 0)
    (entry_of start s) ≡ true
last_ends end start s [] whole =
    place_ends end start s.blocks (omega (arith, whole, length-append (blocks_bytes s.blocks) []))
last_ends end start s (t ∷ more) whole =
    ap (λ is_last. ends_there end is_last (entry_of start s))
    (ne_eqb (length (entries_from (start + length (blocks_bytes s.blocks)) (t ∷ more))) 0
    (λ same. absurd (omega arith)))

-- where no entry is after it, the rows of all add up
rows_add_up : (rows so_far start : ℕ) (s : Stored) (more : List Stored)
    → so_far + length (flat_map samples_of (s ∷ more)) ≡ rows
    → (not (length (entries_from start more) == 0) || so_far + length (samples_of s) == rows) ≡ true
rows_add_up rows so_far start s [] whole =
    eq-eqb (so_far + length (samples_of s)) rows
    (omega (arith, whole, length-append (samples_of s) []))
rows_add_up rows so_far start s (t ∷ more) whole =
    ap (λ is_last. not is_last || so_far + length (samples_of s) == rows)
    (ne_eqb (length (entries_from start (t ∷ more))) 0 (λ same. absurd (omega arith)))

entry_keeps : (end at start : ℕ) (before : Option Entry) (is_last adds_up : Bool) (s : Stored)
    → IsStored s
    → start + length (blocks_bytes s.blocks) ≤ end → may_start before start ≡ true
    → ends_there end is_last (entry_of start s) ≡ true
    → adds_up ≡ true
    → first_broken (entry_rules end at before is_last adds_up (entry_of start s)) ≡ None
entry_keeps end at start before is_last adds_up s is fits begins ends_so adds =
    let has = sizes s.blocks is.blocks in
    let room = has.room in
    let rise = times_rise (samples_of s) is.order in
    let late = has.last in
    let e = entry_of start s in
    five_kept at (may_start before e.start && ends_there end is_last e)
    (nat_le (e.start + 40 * e.blocks) end)
    (nat_le e.blocks e.rows && nat_le e.rows (8192 * e.blocks) && adds_up)
    (is_time e.first_time && none_without_blocks e e.first_time)
    (is_last_time e.first_time e.last_time && none_without_blocks e e.last_time)
    (and_from (may_start before e.start) (ends_there end is_last e) begins ends_so)
    (le-leb (e.start + 40 * e.blocks) end (omega arith))
    (and_from (nat_le e.blocks e.rows && nat_le e.rows (8192 * e.blocks)) adds_up
    (and_from (nat_le e.blocks e.rows) (nat_le e.rows (8192 * e.blocks))
    (le-leb e.blocks e.rows has.some) (le-leb e.rows (8192 * e.blocks) has.most)) adds)
    (and_from (is_time e.first_time) (none_without_blocks e e.first_time)
    (lt-ltb e.first_time (2 ^ 48) (omega arith))
    (no_times s.blocks (λ ss. time_of (first_of ss)) refl))
    (and_from (is_last_time e.first_time e.last_time) (none_without_blocks e e.last_time)
    (and_from (is_time e.last_time) (nat_le e.first_time e.last_time)
    (lt-ltb e.last_time (2 ^ 48) late) (le-leb e.first_time e.last_time rise))
    (no_times s.blocks (λ ss. time_of (last_of ss)) refl))

-- ---- all entries

entries_keep : (end rows at start : ℕ) (before : Option Entry) (so_far : ℕ) (all : List Stored)
    → start + length (flat_map series_bytes all) ≡ end
    → so_far + length (flat_map samples_of all) ≡ rows → may_start before start ≡ true
    → AllByRecursion IsStored all
    → first_broken (list_rules end rows at before so_far (entries_from start all)) ≡ None
entries_keep end rows at start before so_far [] whole counted begins each = refl
entries_keep end rows at start before so_far (s ∷ more) whole counted begins each =
    let next = start + length (blocks_bytes s.blocks) in
    let is_last = length (entries_from next more) == 0 in
    let adds_up = not is_last || so_far + length (samples_of s) == rows in
    let later = so_far + length (samples_of s) in
    let long = length-append (blocks_bytes s.blocks) (flat_map series_bytes more) in
    let many = length-append (samples_of s) (flat_map samples_of more) in
    kept_front (entry_rules end at before is_last adds_up (entry_of start s))
    (list_rules end rows (at + 40) (Some (entry_of start s)) later (entries_from next more))
    (entry_keeps end at start before is_last adds_up s each.0 (omega arith) begins
    (last_ends end start s more whole)
    (rows_add_up rows so_far next s more counted))
    ∙ entries_keep end rows (at + 40) next (Some (entry_of start s)) later more (omega arith)
    (omega arith)
    (next_starts start s.blocks (sizes s.blocks each.0.blocks)) each.1

-- each entry of a part keeps its rules
pub entries_keep_rules : (all : List Stored) (at : ℕ) → AllByRecursion IsStored all
    → first_broken
    (list_rules (length (front all)) (length (flat_map samples_of all)) at None 0 (entries_of all))
    ≡ None
entries_keep_rules all at each =
    entries_keep (length (front all)) (length (flat_map samples_of all)) at 8 None 0 all
    (sym (front_long all)) (omega arith) refl each

-- ---- the footer

-- what the places of sections say, as tests
record PlacesPass (at e t p s : ℕ) : Type 0 where
  pub low : nat_le 8 e ≡ true
  pub within : nat_le e at ≡ true
  pub rise : nat_lt e t ≡ true
  pub whole : ((t - e) % 40 == 0) ≡ true
  pub table : nat_le t at ≡ true
  pub behind : nat_le t p ≡ true
  pub postings : nat_le p at ≡ true
  pub many : (s * 40 == t - e) ≡ true

places_pass : (at e t p s : ℕ) → 8 ≤ e → 1 ≤ s → e + 40 * s ≡ t → t ≤ p → p ≤ at
    → PlacesPass at e t p s
places_pass at e t p s low some entries table postings = record {
  low = le-leb 8 e low;
  within = le-leb e at (omega arith);
  rise = lt-ltb e t (omega arith);
  whole = eq-eqb ((t - e) % 40) 0 (omega arith);
  table = le-leb t at (omega arith);
  behind = le-leb t p table;
  postings = le-leb p at postings;
  many = eq-eqb (s * 40) (t - e) (omega arith);
}

is_marked : (at : ℕ) (bytes mark : List ℕ) → at + 8 ≤ length bytes → field 8 at bytes ≡ mark
    → has_mark at bytes mark ≡ true
is_marked at bytes mark within is =
    and_from (is_whole at bytes) (bytes_eq (field 8 at bytes) mark)
    (le-leb (at + 8) (length bytes) within) ((bytes_eq-Decides (field 8 at bytes) mark).1 is)

-- the front and the footer keep their rules, where the footer says places of sections
front_kept : (at : ℕ) (bytes : List ℕ) → at + 48 ≤ length bytes → take 8 bytes ≡ front_mark
    → field 8 (at + 40) bytes ≡ end_mark
    → PlacesPass at (number_at at bytes) (number_at (at + 8) bytes) (number_at (at + 16) bytes)
    (number_at (at + 24) bytes)
    → first_broken (front_rules at bytes) ≡ None
front_kept at bytes within front_is mark_is pass =
    let e = number_at at bytes in
    let t = number_at (at + 8) bytes in
    let p = number_at (at + 16) bytes in
    let s = number_at (at + 24) bytes in
    none_broken at bytes (is_marked 0 bytes front_mark (omega arith) front_is)
    (and_from (is_whole at bytes && nat_le 8 e) (nat_le e at)
    (and_from (is_whole at bytes) (nat_le 8 e) (le-leb (at + 8) (length bytes) (omega arith))
    pass.low) pass.within)
    (and_from (is_whole (at + 8) bytes && nat_lt e t && (t - e) % 40 == 0) (nat_le t at)
    (and_from (is_whole (at + 8) bytes && nat_lt e t) ((t - e) % 40 == 0)
    (and_from (is_whole (at + 8) bytes) (nat_lt e t)
    (le-leb (at + 8 + 8) (length bytes) (omega arith)) pass.rise) pass.whole) pass.table)
    (and_from (is_whole (at + 16) bytes && nat_le t p) (nat_le p at)
    (and_from (is_whole (at + 16) bytes) (nat_le t p)
    (le-leb (at + 16 + 8) (length bytes) (omega arith)) pass.behind) pass.postings)
    (and_from (is_whole (at + 24) bytes) (s * 40 == t - e)
    (le-leb (at + 24 + 8) (length bytes) (omega arith)) pass.many)
    (le-leb (at + 32 + 8) (length bytes) (omega arith))
    (is_marked (at + 40) bytes end_mark (omega arith) mark_is)

-- ---- the whole

-- the places that a part's footer says
footer_passes : (at : ℕ) (all : List Stored) (f : Footer) → 1 ≤ length all
    → at ≡ length (front all) + length (entries all) + length (table all) + length (postings all)
    → f ≡ footer_of all
    → PlacesPass at f.entries_at f.table_at f.postings_at f.series
footer_passes at all f some at_is is =
    subst (λ (g : Footer). PlacesPass at g.entries_at g.table_at g.postings_at g.series) (sym is)
    (places_pass at (length (front all)) (length (front all) + length (entries all))
    (length (front all) + length (entries all) + length (table all)) (length all)
    (omega (arith, front_long all)) some (omega (arith, entries_long 8 all)) (omega arith)
    (omega arith))

entries_part : (bytes : List ℕ) (all : List Stored) → AllByRecursion IsStored all
    → entries_at (length all) (length (front all)) bytes ≡ entries_of all
    → first_broken (entries_section_rules (footer_of all) bytes) ≡ None
entries_part bytes all each is =
    let at = length (front all) in
    let rows = length (flat_map samples_of all) in
    ap first_broken (rules_listed at rows (length all) at bytes None 0)
    ∙ ap (λ es. first_broken (list_rules at rows at None 0 es)) is
    ∙ entries_keep_rules all at each

-- all fields of a part keep their rules
pub rules_are_kept : (bytes : List ℕ) (all : List Stored) → AreStored all → HasLayout bytes all
    → first_broken (rules (length bytes - 48) bytes) ≡ None
rules_are_kept bytes all are has =
    let at = length bytes - 48 in
    let long = has.long in
    rules_kept at bytes (footer_of all)
    (front_kept at bytes (omega arith) has.front has.mark
    (footer_passes at all (footer_at at bytes) are.some (omega arith) has.footer))
    (sym has.footer) (entries_part bytes all are.each has.entries)
