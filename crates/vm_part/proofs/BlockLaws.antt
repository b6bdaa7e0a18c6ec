-- Blocks of a series one behind the other: their samples, their bytes, and what was seen of them.
use Rattle.std.proofs.Common.{◌≡◌, ℕ, zero, suc, ◌+◌, ◌-◌, ◌≤◌, ◌<◌, Bool, true, false, ◌&&◌, ◌||◌, not, nat_le, nat_lt, ◌==◌, ℤ, pos, List, [], ◌∷◌, ◌++◌, length, get_or, take, drop, map, Option, Some, None, if◌then◌else◌, refl, ap, ap₂, sym, ◌∙◌, subst, ⊎_elim, arith, length-append}
use Rattle.std.specs.List.{AllByRecursion, list_all, slice_get}
use Rattle.std.proofs.Math.Seq.{take-add}
use Rattle.std.proofs.lemmas.Bool.{and_parts, eq-eqb, eqb-true, leb-true}
use Rattle.std.proofs.lemmas.List.{append-nil, drop-drop, drop_all, drop_more, length-drop, length-map, length-take, length-take-le, take-take}
use Rattle.std.proofs.lemmas.List.Concat.{flat_map-append}
use Rattle.vm_base.specs.Sample.{is_sample}
use Rattle.vm_base.specs.Sorted.{IsUp, last_of}
use Rattle.vm_base.specs.Stamped.{is_in_order}
use Rattle.vm_base.specs.declared.stamped.Stamped.{Stamped}
use Rattle.vm_base.proofs.StampedLaws.{stamped_order}
use Rattle.vm_block.specs.Block.{BreaksAt, IsBlock, scaled_by, times_of, values_of}
use Rattle.vm_block.specs.Block.BreaksAt.{no_times, times_fall, another_end, no_mantissas, another_exponent, values_fall}
use Rattle.vm_block.proofs.Blocks.{broken_within as column_within}
use Rattle.vm_block.specs.Header.{field, field_rules, header_bytes}
use Rattle.vm_block.specs.declared.header.BlockHeader.{BlockHeader}
use Rattle.vm_block.proofs.Headers.{ranges}
use Rattle.vm_index.proofs.ListLaws.{all_append, all_more}
use Rattle.vm_part.specs.Broken.{BreaksBehind, SeriesBreaks, SeriesStands, SomeBreaks, Stand, between, end_of, first_sample, may_follow, may_stand}
use Rattle.vm_part.specs.Broken.BreaksBehind.{no_header, bad_header, misplaced, bad_body}
use Rattle.vm_part.specs.Broken.SomeBreaks.{here as breaks_first, later as breaks_later}
use Rattle.vm_part.specs.Broken.Stand.{none, next}
use Rattle.vm_part.specs.Part.{Block, SaysSamples, block_bytes, blocks_bytes, first_of, samples_in, time_of}
use Rattle.vm_part.specs.inner.Reading.{AllStand, HasAllBlocks, HasSeries, HasHeader, IsBlockFault, IsBlocksFault, IsBodyFault, IsSeriesFault, Joins, NoHeader, PlacesRise, Saw, may_come}
use Rattle.vm_part.specs.inner.Reading.AllStand.{none as no_series, next as series_more}
use Rattle.vm_part.specs.declared.blocks.Seen.{Seen}
use Rattle.vm_part.specs.declared.entry.Entry.{Entry}
use Rattle.vm_part.specs.declared.fault.ReadFault.{ReadFault}
use Rattle.vm_part.specs.declared.fault.ReadFault.TheVariants.{Broken, Memory}
use Rattle.vm_part.proofs.RuleLaws.{broken_within}

-- ---- one block

pub header_long : (h : BlockHeader) → length (header_bytes h) ≡ 40
unfolding header_bytes
header_long h = refl

pub block_long : (h : BlockHeader) (body : List ℕ) → length body ≡ h.times_len + h.values_len
    → length (header_bytes h ++ body) ≡ 40 + h.times_len + h.values_len
block_long h body len = omega (arith, length-append (header_bytes h) body, header_long h, len)

pub samples_many : (h : BlockHeader) (body : List ℕ) (samples : List Stamped)
    → IsBlock h body samples → length samples ≡ h.count
samples_many h body samples is = sym (length-map samples (λ s. pos s.time)) ∙ is.times.len

-- what a header says of the first and the last of its samples
pub record Ends (h : BlockHeader) (samples : List Stamped) : Type 0 where
  pub first : Stamped
  pub more : List Stamped
  pub is : samples ≡ first ∷ more
  pub sample : first_sample h ≡ Some first
  pub begins : first.time ≡ h.first_time
  pub ends : time_of (last_of samples) ≡ h.last_time

last_time : (samples : List Stamped) (n t : ℕ) → suc n ≡ length samples
    → slice_get (times_of samples) n ≡ Some (pos t) → time_of (last_of samples) ≡ t
last_time [] n t long is = absurd (cc)
last_time (x ∷ []) zero t long is = let same : x.time ≡ t = cc in same
last_time (x ∷ []) (suc n) t long is = absurd (cc)
last_time (x ∷ y ∷ more) zero t long is = absurd (omega arith)
last_time (x ∷ y ∷ more) (suc n) t long is = last_time (y ∷ more) n t (omega arith) is

pub ends : (h : BlockHeader) (body : List ℕ) (samples : List Stamped) → IsBlock h body samples
    → Ends h samples
ends h body samples is =
    go samples is.mantissas (samples_many h body samples is) is.times.begins is.column.begins
    is.values (and_parts _ _ is.exponent).0 is.last
  where
    some : 1 ≤ h.count
    some = (ranges h is.header).some

    go : (ss : List Stamped) (ms : List ℤ) → length ss ≡ h.count
        → slice_get (times_of ss) 0 ≡ Some (pos h.first_time) → slice_get ms 0 ≡ Some h.first_m
        → values_of ss ≡ map (scaled_by h.exponent) ms → list_all is_sample (values_of ss) ≡ true
        → slice_get (times_of ss) (h.count - 1) ≡ Some (pos h.last_time) → Ends h ss
    go [] ms many begins mantissa values are last = absurd (cc)
    go (x ∷ xs) [] many begins mantissa values are last = absurd (cc)
    go (x ∷ xs) (m ∷ ms) many begins mantissa values are last =
        let time : x.time ≡ h.first_time = cc in
        let value : x.value ≡ scaled_by h.exponent m = cc in
        let same : m ≡ h.first_m = cc in
        let its : scaled_by h.exponent h.first_m ≡ x.value = ap (scaled_by h.exponent) (sym same)
        ∙ sym value in
        let test : is_sample (scaled_by h.exponent h.first_m) ≡ true = ap is_sample its
        ∙ (and_parts (is_sample x.value) (list_all is_sample (values_of xs)) are).0 in
        let made : ℕ → ℤ → Stamped = λ t v. record { time = t; value = v } in
        record {
          first = x;
          more = xs;
          is = refl;
          sample =
              ap (λ b. if b then Some (made h.first_time (scaled_by h.exponent h.first_m))
              else None) test
              ∙ ap Some (ap₂ made (sym time) its);
          begins = time;
          ends = last_time (x ∷ xs) (h.count - 1) h.last_time (omega arith) last;
        }

-- ---- samples one behind the other

pub last_append : (xs : List Stamped) (y : Stamped) (ys : List Stamped)
    → last_of (xs ++ y ∷ ys) ≡ last_of (y ∷ ys)
last_append [] y ys = refl
last_append (x ∷ []) y ys = refl
last_append (x ∷ z ∷ xs) y ys = last_append (z ∷ xs) y ys

reaches : (x : Stamped) (xs : List Stamped) (y : Stamped) → IsUp is_in_order (x ∷ xs)
    → may_follow (last_of (x ∷ xs)) (Some y) ≡ true → is_in_order x y ≡ true
reaches x [] y up h = h
reaches x (z ∷ zs) y up h = stamped_order.chain x z y up.0.0 (reaches z zs y up.1 h)

up_append : (xs : List Stamped) (y : Stamped) (ys : List Stamped) → IsUp is_in_order xs
    → IsUp is_in_order (y ∷ ys)
    → may_follow (last_of xs) (Some y) ≡ true → IsUp is_in_order (xs ++ y ∷ ys)
up_append [] y ys up behind h = behind
up_append (x ∷ xs) y ys up behind h =
    let before = reaches x xs y up h in (
      all_append (λ z. is_in_order x z ≡ true) xs (y ∷ ys) up.0 (
        before,
        all_more (λ z. is_in_order y z ≡ true) (λ z. is_in_order x z ≡ true)
            (λ z after. stamped_order.chain x y z before after) ys behind.0,
      ),
      up_append xs y ys up.1 behind (further xs h),
    )
  where
    further : (zs : List Stamped) → may_follow (last_of (x ∷ zs)) (Some y) ≡ true
        → may_follow (last_of zs) (Some y) ≡ true
    further [] k = refl
    further (z ∷ zs) k = k

pub samples_more : (before : List Block) (b : Block)
    → samples_in (before ++ b ∷ []) ≡ samples_in before ++ b.samples
samples_more before b =
    flat_map-append (λ (x : Block). x.samples) before (b ∷ [])
    ∙ ap (λ ss. samples_in before ++ ss) (append-nil b.samples)

pub bytes_more : (before : List Block) (b : Block)
    → blocks_bytes (before ++ b ∷ []) ≡ blocks_bytes before ++ block_bytes b
bytes_more before b =
    flat_map-append block_bytes before (b ∷ [])
    ∙ ap (λ bs. blocks_bytes before ++ bs) (append-nil (block_bytes b))

-- ---- what was seen

module _ (room : ℕ) (e : Entry) (h : BlockHeader) where
  abbrev may : (blocks rows : ℕ) → Option Stamped → Bool
  may blocks rows last =
      let len = 40 + h.times_len + h.values_len in
      let is_last = suc blocks == e.blocks in
      let all = rows + h.count in
      (if is_last then len == room else nat_le len room)
      && may_follow last (first_sample h)
      && (if is_last then all == e.rows else nat_le all e.rows)
      && (nat_lt 0 blocks || h.first_time == e.first_time)
      && (not is_last || h.last_time == e.last_time)

  -- what may stand behind blocks may come behind what was seen of them
  pub may_same : (before : List Block) (seen : Seen) → Saw before seen
      → may_stand room e before h ≡ may_come room e seen h
  may_same before seen saw =
      ap (λ n. may n (length (samples_in before)) (last_of (samples_in before))) saw.blocks
      ∙ ap₂ (may seen.blocks) saw.rows saw.last

pub saw_none : (seen : Seen) → seen.blocks ≡ 0 → seen.rows ≡ 0 → seen.last ≡ None → Saw [] seen
saw_none seen blocks rows last = record { blocks = sym blocks; rows = sym rows; last = sym last }

pub saw_more : (before : List Block) (b : Block) (old new : Seen)
    → IsBlock b.header b.body b.samples → new.blocks ≡ old.blocks + 1
    → new.rows ≡ old.rows + length b.samples → new.last ≡ last_of b.samples → Saw before old
    → Saw (before ++ b ∷ []) new
saw_more before b old new is blocks rows last saw =
    let e = ends b.header b.body b.samples is in
    record {
      blocks = length-append before (b ∷ []) ∙ ap (λ n. n + 1) saw.blocks ∙ sym blocks;
      rows = ap length (samples_more before b) ∙ length-append (samples_in before) b.samples
          ∙ ap (λ n. n + length b.samples) saw.rows ∙ sym rows;
      last =
          ap last_of (samples_more before b ∙ ap (λ ss. samples_in before ++ ss) e.is)
          ∙ last_append (samples_in before) e.first e.more
          ∙ ap last_of (sym e.is) ∙ sym last;
    }

-- ---- what blocks that stand say

-- what the parts of these tests say
pub record Coming (room : ℕ) (e : Entry) (h : BlockHeader) (blocks rows : ℕ)
    (last : Option Stamped) : Type 0 where
  pub fits : 40 + h.times_len + h.values_len ≤ room
  pub follows : may_follow last (first_sample h) ≡ true
  pub few : rows + h.count ≤ e.rows
  pub first : blocks ≡ 0 → h.first_time ≡ e.first_time
  pub fills : suc blocks ≡ e.blocks → 40 + h.times_len + h.values_len ≡ room
  pub all : suc blocks ≡ e.blocks → rows + h.count ≡ e.rows
  pub ends : suc blocks ≡ e.blocks → h.last_time ≡ e.last_time

clash : (b : Bool) → b ≡ true → b ≡ false → ⊥
clash b holds fails = cc

filled : (b : Bool) (n m : ℕ) → (if b then n == m else nat_le n m) ≡ true → n ≤ m
filled true n m h = let same = eqb-true n m h in omega arith
filled false n m h = leb-true n m h

filled_whole : (b : Bool) (n m : ℕ) → b ≡ true → (if b then n == m else nat_le n m) ≡ true → n ≡ m
filled_whole true n m is h = eqb-true n m h
filled_whole false n m is h = absurd (clash false is refl)

or_other : (b : Bool) (n m : ℕ) → b ≡ false → (b || n == m) ≡ true → n ≡ m
or_other true n m is h = absurd (clash true refl is)
or_other false n m is h = eqb-true n m h

or_not : (b : Bool) (n m : ℕ) → b ≡ true → (not b || n == m) ≡ true → n ≡ m
or_not true n m is h = eqb-true n m h
or_not false n m is h = absurd (clash false is refl)

coming : (room : ℕ) (e : Entry) (h : BlockHeader) (blocks rows : ℕ) (last : Option Stamped)
    → may room e h blocks rows last ≡ true
    → Coming room e h blocks rows last
coming room e h blocks rows last is =
    let len = 40 + h.times_len + h.values_len in
    let is_last = suc blocks == e.blocks in
    let all = rows + h.count in
    let t1 = (if is_last then len == room else nat_le len room) in
    let t2 = may_follow last (first_sample h) in
    let t3 = (if is_last then all == e.rows else nat_le all e.rows) in
    let t4 = (nat_lt 0 blocks || h.first_time == e.first_time) in
    let t5 = (not is_last || h.last_time == e.last_time) in
    let p5 = and_parts (t1 && t2 && t3 && t4) t5 is in
    let p4 = and_parts (t1 && t2 && t3) t4 p5.0 in
    let p3 = and_parts (t1 && t2) t3 p4.0 in
    let p2 = and_parts t1 t2 p3.0 in
    record {
      fits = filled is_last len room p2.0;
      follows = p2.1;
      few = filled is_last all e.rows p3.1;
      first = λ empty.
          or_other (nat_lt 0 blocks) h.first_time e.first_time (ap (nat_lt 0) empty) p4.1;
      fills = λ whole. filled_whole is_last len room (eq-eqb (suc blocks) e.blocks whole) p2.0;
      all = λ whole. filled_whole is_last all e.rows (eq-eqb (suc blocks) e.blocks whole) p3.1;
      ends = λ whole.
          or_not is_last h.last_time e.last_time (eq-eqb (suc blocks) e.blocks whole) p5.1;
    }

pub seen_coming : (room : ℕ) (e : Entry) (h : BlockHeader) (seen : Seen)
    → may_come room e seen h ≡ true → Coming room e h seen.blocks seen.rows seen.last
seen_coming room e h seen is = coming room e h seen.blocks seen.rows seen.last is

standing : (room : ℕ) (e : Entry) (before : List Block) (h : BlockHeader)
    → may_stand room e before h ≡ true
    → Coming room e h (length before) (length (samples_in before)) (last_of (samples_in before))
standing room e before h is =
    coming room e h (length before) (length (samples_in before)) (last_of (samples_in before)) is

-- blocks that stand take no more room than there is
pub stand_fits : (room : ℕ) (e : Entry) (blocks : List Block) → Stand room e blocks
    → length (blocks_bytes blocks) ≤ room
stand_fits room e [] none = omega arith
stand_fits room e _ (next before b stand is may) =
    let s = standing (room - length (blocks_bytes before)) e before b.header may in
    let len = block_long b.header b.body is.len in
    let fits = s.fits in
    let whole = ap length (bytes_more before b)
    ∙ length-append (blocks_bytes before) (block_bytes b) in
    omega (arith, stand_fits room e before stand)

pub stand_order : (room : ℕ) (e : Entry) (blocks : List Block) → Stand room e blocks
    → IsUp is_in_order (samples_in blocks)
stand_order room e [] none = tt
stand_order room e _ (next before b stand is may) =
    let s = standing (room - length (blocks_bytes before)) e before b.header may in
    let ends = ends b.header b.body b.samples is in
    subst (IsUp is_in_order)
    (ap (λ ss. samples_in before ++ ss) (sym ends.is) ∙ sym (samples_more before b))
    (up_append (samples_in before) ends.first ends.more (stand_order room e before stand)
    (subst (IsUp is_in_order) ends.is is.order)
    (ap (may_follow (last_of (samples_in before))) (sym ends.sample) ∙ s.follows))

pub stand_blocks : (room : ℕ) (e : Entry) (blocks : List Block) → Stand room e blocks
    → AllByRecursion SaysSamples blocks
stand_blocks room e [] none = tt
stand_blocks room e _ (next before b stand is may) =
    all_append SaysSamples before (b ∷ []) (stand_blocks room e before stand) (is, tt)

-- the first time of blocks that stand is the entry's
pub stand_first : (room : ℕ) (e : Entry) (blocks : List Block) → Stand room e blocks
    → 1 ≤ length blocks
    → (1 ≤ length (samples_in blocks)) × (time_of (first_of (samples_in blocks)) ≡ e.first_time)
stand_first room e [] none some = absurd (omega arith)
stand_first room e _ (next before b stand is may) some =
    go before refl (stand_first room e before stand)
  where
    ends_of : Ends b.header b.samples
    ends_of = ends b.header b.body b.samples is

    first_append : (xs ys : List Stamped) → 1 ≤ length xs → first_of (xs ++ ys) ≡ first_of xs
    first_append [] ys some = absurd (omega arith)
    first_append (x ∷ xs) ys some = refl

    go : (bs : List Block) → before ≡ bs
        → (1 ≤ length before → (1 ≤ length (samples_in before))
        × (time_of (first_of (samples_in before)) ≡ e.first_time))
        → (1 ≤ length (samples_in (before ++ b ∷ [])))
        × (time_of (first_of (samples_in (before ++ b ∷ []))) ≡ e.first_time)
    go [] empty earlier =
        let s = standing (room - length (blocks_bytes before)) e before b.header may in
        let all : samples_in (before ++ b ∷ []) ≡ ends_of.first ∷ ends_of.more =
        samples_more before b ∙ ap (λ bs. samples_in bs ++ b.samples) empty ∙ ends_of.is in (
          subst (λ ss. 1 ≤ length ss) (sym all) (omega arith),
          ap (λ ss. time_of (first_of ss)) all ∙ ends_of.begins ∙ s.first (ap length empty),
        )
    go (x ∷ more) are earlier =
        let long : 1 ≤ length before = subst (λ bs. 1 ≤ length bs) (sym are) (omega arith) in
        let said = earlier long in (
          subst (λ ss. 1 ≤ length ss) (sym (samples_more before b))
              (omega (arith, length-append (samples_in before) b.samples, said.0)),
          ap time_of
              (ap first_of (samples_more before b)
              ∙ first_append (samples_in before) b.samples said.0) ∙ said.1,
        )

-- what all blocks of a series say
pub record Whole (room : ℕ) (e : Entry) (blocks : List Block) : Type 0 where
  pub bytes : length (blocks_bytes blocks) ≡ room
  pub rows : length (samples_in blocks) ≡ e.rows
  pub first : time_of (first_of (samples_in blocks)) ≡ e.first_time
  pub last : time_of (last_of (samples_in blocks)) ≡ e.last_time

pub stand_whole : (room : ℕ) (e : Entry) (blocks : List Block) → Stand room e blocks
    → length blocks ≡ e.blocks → 1 ≤ e.blocks → Whole room e blocks
stand_whole room e [] none all some = absurd (omega arith)
stand_whole room e _ (next before b stand is may) all some =
    let s = standing (room - length (blocks_bytes before)) e before b.header may in
    let fits = stand_fits room e before stand in
    let len = block_long b.header b.body is.len in
    let whole = ap length (bytes_more before b)
    ∙ length-append (blocks_bytes before) (block_bytes b) in
    let many : suc (length before) ≡ e.blocks = omega (arith, length-append before (b ∷ [])) in
    let ends = ends b.header b.body b.samples is in
    record {
      bytes = omega (arith, s.fills many);
      rows =
          ap length (samples_more before b) ∙ length-append (samples_in before) b.samples
          ∙ ap (λ n. length (samples_in before) + n) (samples_many b.header b.body b.samples is)
          ∙ s.all many;
      first = (stand_first room e (before ++ b ∷ []) (next before b stand is may)
          (omega (arith, length-append before (b ∷ [])))).1;
      last =
          ap time_of
          (ap last_of (samples_more before b ∙ ap (λ ss. samples_in before ++ ss) ends.is)
          ∙ last_append (samples_in before) ends.first ends.more
          ∙ ap last_of (sym ends.is))
          ∙ ends.ends ∙ s.ends many;
    }

-- ---- a loop over the blocks of a series

-- bytes at a place, in two parts
pub split_field : (bytes : List ℕ) (n m at following : ℕ) → following ≡ at + n
    → field (n + m) at bytes ≡ field n at bytes ++ field m following bytes
split_field bytes n m at following is =
    take-add n m (drop at bytes)
    ∙ ap (λ rest. take n (drop at bytes) ++ take m rest)
    (drop-drop n at bytes ∙ ap (λ k. drop k bytes) (sym is))

-- so many blocks stand there, and these were seen
pub record SoFar (bytes : List ℕ) (end : ℕ) (e : Entry) (at many : ℕ) (seen : Seen) : Type 0 where
  pub before : List Block
  pub stand : Stand (end - e.start) e before
  pub spelled : field (length (blocks_bytes before)) e.start bytes ≡ blocks_bytes before
  pub place : at ≡ e.start + length (blocks_bytes before)
  pub count : length before ≡ many
  pub saw : Saw before seen
  pub within : at ≤ end
  pub rows : seen.rows ≤ e.rows

pub none_so_far : (bytes : List ℕ) (end : ℕ) (e : Entry) (seen : Seen) → e.start ≤ end
    → seen.blocks ≡ 0 → seen.rows ≡ 0 → seen.last ≡ None
    → SoFar bytes end e e.start 0 seen
none_so_far bytes end e seen begins blocks rows last = record {
  before = [];
  stand = none;
  spelled = refl;
  place = omega arith;
  count = refl;
  saw = saw_none seen blocks rows last;
  within = begins;
  rows = omega (arith, rows);
}

pub block_joins : (bytes : List ℕ) (entries end : ℕ) (e : Entry) (at many len : ℕ) (old new : Seen)
    → end ≤ entries
    → SoFar bytes end e at many old → Joins (end - at) e (between at entries bytes) old new len
    → new.rows ≤ e.rows
    → SoFar bytes end e (at + len) (many + 1) new
block_joins bytes entries end e at many len old new inside so joins rows =
    let before = so.before in
    let b = joins.block in
    let place = so.place in
    let within = so.within in
    let fits = joins.fits in
    let room : end - e.start - length (blocks_bytes before) ≡ end - at = omega arith in
    let whole = ap length (bytes_more before b)
    ∙ length-append (blocks_bytes before) (block_bytes b) in
    let mine : field len at bytes ≡ block_bytes b =
    sym (take-take len (entries - at) (drop at bytes) (omega arith)) ∙ joins.spelled in
    record {
      before = before ++ b ∷ [];
      stand = next before b so.stand joins.is
          (may_same (end - e.start - length (blocks_bytes before)) e b.header before old so.saw
          ∙ ap (λ r. may_come r e old b.header) room ∙ joins.may);
      spelled =
          ap (λ n. field n e.start bytes)
          (whole ∙ ap (λ n. length (blocks_bytes before) + n) (sym joins.long))
          ∙ split_field bytes (length (blocks_bytes before)) len e.start at place
          ∙ ap₂ (λ xs ys. xs ++ ys) so.spelled mine ∙ sym (bytes_more before b);
      place = omega (arith, whole, joins.long);
      count = length-append before (b ∷ []) ∙ ap (λ n. n + 1) so.count;
      saw = joins.seen before so.saw;
      within = omega arith;
      rows = rows;
    }

pub series_breaks :
    (bytes : List ℕ) (entries end : ℕ) (e : Entry) (at many place p : ℕ) (seen : Seen)
    → SoFar bytes end e at many seen → many < e.blocks
    → ((before : List Block) → Saw before seen
    → BreaksBehind (end - at) e before (between at entries bytes) place) → p ≡ at + place
    → SeriesBreaks bytes entries end e p
series_breaks bytes entries end e at many place p seen so few breaks is =
    let at_is = so.place in
    record {
      before = so.before;
      place = place;
      stand = so.stand;
      spelled = so.spelled;
      few = omega (arith, so.count);
      broken =
          subst (λ n.
          BreaksBehind n e so.before
          (between (e.start + length (blocks_bytes so.before)) entries bytes) place)
          (room at_is)
          (subst (λ n. BreaksBehind (end - at) e so.before (between n entries bytes) place) at_is
          (breaks so.before so.saw));
      is = is ∙ ap (λ n. n + place) at_is;
    }
  where
    room : at ≡ e.start + length (blocks_bytes so.before)
        → end - at ≡ end - e.start - length (blocks_bytes so.before)
    room at_is = omega arith

pub series_stands : (bytes : List ℕ) (end : ℕ) (e : Entry) (at many : ℕ) (seen : Seen)
    → SoFar bytes end e at many seen → many ≡ e.blocks → HasSeries bytes end e
series_stands bytes end e at many seen so all = record {
  blocks = so.before;
  stand = record { stand = so.stand; spelled = so.spelled; all = so.count ∙ all };
}

-- ---- why a block is refused

pub no_header_there : (room : ℕ) (e : Entry) (seen : Seen) (rest : List ℕ) (at : ℕ)
    → NoHeader rest at → IsBlockFault room e seen rest (Broken at)
no_header_there room e seen rest at why =
    ⊎_elim
    (λ short. (
      omega (arith, short.1),
      λ before saw. subst (BreaksBehind room e before rest) (sym short.1) (no_header short.0),
    ))
    (λ bad. (
      omega (
        arith,
        bad.0,
        broken_within (field_rules (take 40 rest)) 36 at (places (take 40 rest)) bad.1,
      ),
      λ before saw. bad_header at bad.0 bad.1,
    ))
    why
  where
    places : (bytes : List ℕ) → AllByRecursion (λ x. x.0 ≤ 36) (field_rules bytes)
    places bytes = (
      omega arith,
      (
        omega arith,
        (
          omega arith,
          (
            omega arith,
            (
              omega arith,
              (omega arith, (omega arith, (omega arith, (omega arith, (omega arith, tt))))),
            ),
          ),
        ),
      ),
    )

body_within : (h : BlockHeader) (body : List ℕ) (at : ℕ) → length body ≡ h.times_len + h.values_len
    → BreaksAt h body at → at ≤ 40 + h.times_len + h.values_len
body_within h body at len (no_times place broken is) =
    let within =
    column_within h.times (pos h.first_time) h.count (take h.times_len body) place broken in
    omega (arith, length-take h.times_len body)
body_within h body at len (times_fall times says falls is) = omega arith
body_within h body at len (another_end times says rise end is) = omega arith
body_within h body at len (no_mantissas times says rise end place broken is) =
    let within = column_within h.values h.first_m h.count (drop h.times_len body) place broken in
    omega (arith, length-drop h.times_len body)
body_within h body at len (another_exponent times mantissas says rise end column another is) =
    omega arith
body_within h body at len
    (values_fall samples mantissas says rise end column values exponent falls is) = omega arith

pub no_body_there :
    (room : ℕ) (e : Entry) (seen : Seen) (rest body : List ℕ) (h : BlockHeader) (fault : ReadFault)
    → HasHeader rest h
    → may_come room e seen h ≡ true → room ≤ length rest
    → body ≡ field (h.times_len + h.values_len) 40 rest → IsBodyFault h body fault
    → IsBlockFault room e seen rest fault
no_body_there room e seen rest body h Memory has may within is why = tt
no_body_there room e seen rest body h (Broken at) has may within is why =
    let fits = (seen_coming room e h seen may).fits in
    let len : length (field (h.times_len + h.values_len) 40 rest) ≡ h.times_len + h.values_len =
    length-take-le (h.times_len + h.values_len) (drop 40 rest)
    (omega (arith, length-drop 40 rest)) in
    let breaks = subst (λ bs. BreaksAt h bs at) is why in (
      omega (arith, body_within h (field (h.times_len + h.values_len) 40 rest) at len breaks),
      λ before saw.
          bad_body h at has.keeps has.spelled (may_same room e h before seen saw ∙ may) breaks,
    )

pub not_there : (room : ℕ) (e : Entry) (seen : Seen) (rest : List ℕ) (h : BlockHeader)
    → HasHeader rest h → may_come room e seen h ≡ false
    → IsBlockFault room e seen rest (Broken 0)
not_there room e seen rest h has may = (
  omega arith,
  λ before saw. misplaced h has.keeps has.spelled (may_same room e h before seen saw ∙ may),
)

-- a header and a body that stand there are a block more
pub joins :
    (room : ℕ) (e : Entry) (rest its : List ℕ) (h : BlockHeader) (samples : List Stamped)
    (old new : Seen) (len : ℕ) → HasHeader rest h
    → may_come room e old h ≡ true → room ≤ length rest
    → its ≡ field (h.times_len + h.values_len) 40 rest → IsBlock h its samples
    → new.blocks ≡ old.blocks + 1 → new.rows ≡ old.rows + length samples
    → new.last ≡ last_of samples → len ≡ 40 + (h.times_len + h.values_len)
    → Joins room e rest old new len
joins room e rest its h samples old new len has may within body_is block blocks rows last len_is =
    let fits = (seen_coming room e h old may).fits in
    let body = field (h.times_len + h.values_len) 40 rest in
    let is : IsBlock h body samples = subst (λ bs. IsBlock h bs samples) body_is block in
    let b : Block = record { header = h; body = body; samples = samples } in
    record {
      block = b;
      is = is;
      may = may;
      spelled =
          ap (λ n. take n rest) len_is ∙ take-add 40 (h.times_len + h.values_len) rest
          ∙ ap (λ bs. bs ++ body) has.spelled;
      long = sym (block_long h body is.len ∙ omega arith);
      fits = omega arith;
      seen = λ before saw. saw_more before b old new is blocks rows last saw;
    }

-- ---- a loop over series

module _ (bytes : List ℕ) (entries : ℕ) (es : List Entry) (place : ℕ) (e : Entry)
    (within : place < length es) (is : get_or es place e ≡ e) where
  here : drop place es ≡ e ∷ drop (place + 1) es
  here = drop_more es place e within ∙ ap (λ x. x ∷ drop (place + 1) es) is

  pub rise_here : PlacesRise entries (drop place es)
      → (e.start ≤ end_of entries (drop (place + 1) es))
      × (end_of entries (drop (place + 1) es) ≤ entries) × PlacesRise entries (drop (place + 1) es)
  rise_here rise = subst (PlacesRise entries) here rise

  pub stands_here : (end : ℕ) → end ≡ end_of entries (drop (place + 1) es) → HasSeries bytes end e
      → ((others : List (List Block)) → AllStand bytes entries (drop place es) others
      → HasAllBlocks bytes entries es)
      → (others : List (List Block)) → AllStand bytes entries (drop (place + 1) es) others
      → HasAllBlocks bytes entries es
  stands_here end end_is has so_far others rest =
      so_far (has.blocks ∷ others)
      (subst (λ xs. AllStand bytes entries xs (has.blocks ∷ others)) (sym here)
      (series_more e (drop (place + 1) es) has.blocks others
      (subst (λ n. SeriesStands bytes n e has.blocks) end_is has.stand) rest))

  pub later_breaks : (end : ℕ) → end ≡ end_of entries (drop (place + 1) es) → HasSeries bytes end e
      → ((at : ℕ) → SomeBreaks bytes entries (drop place es) at → SomeBreaks bytes entries es at)
      → (at : ℕ) → SomeBreaks bytes entries (drop (place + 1) es) at
      → SomeBreaks bytes entries es at
  later_breaks end end_is has so_far at breaks =
      so_far at (subst (λ xs. SomeBreaks bytes entries xs at) (sym here)
      (breaks_later e (drop (place + 1) es) has.blocks at
      (subst (λ n. SeriesStands bytes n e has.blocks) end_is has.stand) breaks))

  pub breaks_here : (end : ℕ) (fault : ReadFault) → end ≡ end_of entries (drop (place + 1) es)
      → IsSeriesFault bytes entries end e fault
      → ((at : ℕ) → SomeBreaks bytes entries (drop place es) at → SomeBreaks bytes entries es at)
      → IsBlocksFault bytes entries es fault
  breaks_here end Memory end_is why so_far = tt
  breaks_here end (Broken at) end_is why so_far =
      so_far at (subst (λ xs. SomeBreaks bytes entries xs at) (sym here)
      (breaks_first e (drop (place + 1) es) at
      (subst (λ n. SeriesBreaks bytes entries n e at) end_is why)))

pub all_stand : (bytes : List ℕ) (entries : ℕ) (es : List Entry) (place : ℕ) → length es ≤ place
    → ((others : List (List Block)) → AllStand bytes entries (drop place es) others
    → HasAllBlocks bytes entries es) → HasAllBlocks bytes entries es
all_stand bytes entries es place past so_far =
    so_far [] (subst (λ xs. AllStand bytes entries xs []) (sym (drop_all place es past)) no_series)

-- where the blocks of the series before a place end
pub end_here : (n : ℕ) (es : List Entry) (i : ℕ) (e : Entry) → slice_get es i ≡ Some e
    → e.start ≡ end_of n (drop i es)
end_here n [] i e is = absurd (cc)
end_here n (x ∷ es) zero e is = let same : x ≡ e = cc in ap (λ (y : Entry). y.start) (sym same)
end_here n (x ∷ es) (suc i) e is = end_here n es i e is

pub end_past : (n : ℕ) (es : List Entry) (i : ℕ) → slice_get es i ≡ None → n ≡ end_of n (drop i es)
end_past n [] zero is = refl
end_past n [] (suc i) is = refl
end_past n (x ∷ es) zero is = absurd (cc)
end_past n (x ∷ es) (suc i) is = end_past n es i is

-- what may come has its samples within those of the entry
pub rows_within :
    (room : ℕ) (e : Entry) (h : BlockHeader) (body : List ℕ) (samples : List Stamped) (seen : Seen)
    → may_come room e seen h ≡ true
    → IsBlock h body samples → (seen.rows + length samples ≤ e.rows) × (1 ≤ length samples)
rows_within room e h body samples seen may is =
    let few = (seen_coming room e h seen may).few in
    let many = samples_many h body samples is in
    let some = (ranges h is.header).some in
    (omega arith, omega arith)

-- and its bytes within the room
pub bytes_within : (room : ℕ) (e : Entry) (h : BlockHeader) (seen : Seen) (rest : List ℕ)
    → may_come room e seen h ≡ true → room ≤ length rest
    → 40 + (h.times_len + h.values_len) ≤ length rest
bytes_within room e h seen rest may within = let fits =
    (seen_coming room e h seen may).fits in omega arith

-- ---- the last sample

last_at : (xs : List Stamped) (n : ℕ) (x : Stamped) → suc n ≡ length xs → x ≡ get_or xs n x
    → Some x ≡ last_of xs
last_at [] n x long is = absurd (cc)
last_at (y ∷ []) zero x long is = ap Some is
last_at (y ∷ []) (suc n) x long is = absurd (cc)
last_at (y ∷ z ∷ more) zero x long is = absurd (omega arith)
last_at (y ∷ z ∷ more) (suc n) x long is = last_at (z ∷ more) n x (omega arith) is

pub last_read : (xs : List Stamped) (x : Stamped) → 1 ≤ length xs → x ≡ get_or xs (length xs - 1) x
    → Some x ≡ last_of xs
last_read xs x some is = last_at xs (length xs - 1) x (omega arith) is
