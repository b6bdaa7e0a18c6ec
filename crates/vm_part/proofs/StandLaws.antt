-- The blocks of a part break nowhere: bytes have one reading as blocks, and each block of a series
-- may stand behind those before it.
use Rattle.std.proofs.Common.{◌≡◌, ◌⊎◌, ℕ, suc, ◌+◌, ◌-◌, ◌<◌, ◌≤◌, Bool, true, false, ◌&&◌, ◌||◌, not, nat_le, nat_lt, ◌==◌, if◌then◌else◌, List, [], ◌∷◌, ◌++◌, length, take, drop, flat_map, Option, Some, None, inl, inr, refl, ap, ap₂, sym, ◌∙◌, subst, ⊎_elim, arith, append_assoc, append-nil, length-append}
use Rattle.std.specs.List.{AllByRecursion}
use Rattle.std.proofs.Math.Seq.{take-append-add}
use Rattle.std.proofs.lemmas.Bool.{and_from, eq-eqb, eqb-true, le-leb, ltb-false}
use Rattle.std.proofs.lemmas.List.{drop-drop, drop_at, take-append-drop, take_at}
use Rattle.std.proofs.lemmas.List.Concat.{flat_map-append}
use Rattle.vm_base.specs.Sorted.{IsUp, last_of}
use Rattle.vm_base.specs.Stamped.{is_in_order}
use Rattle.vm_base.specs.declared.stamped.Stamped.{Stamped}
use Rattle.vm_block.specs.Header.{field, field_rules, first_broken, header_bytes}
use Rattle.vm_block.specs.declared.header.BlockHeader.{BlockHeader}
use Rattle.vm_block.proofs.Blocks.{unbroken}
use Rattle.vm_block.proofs.Headers.{fields_again, fields_kept}
use Rattle.vm_block.proofs.Rereading.{header_len, header_of_bytes}
use Rattle.vm_part.specs.Broken.{BreaksBehind, SeriesBreaks, SomeBreaks, between, end_of, first_sample, may_follow, may_stand}
use Rattle.vm_part.specs.Broken.BreaksBehind.{no_header, bad_header, misplaced, bad_body}
use Rattle.vm_part.specs.Broken.SomeBreaks.{here as breaks_first, later as breaks_later}
use Rattle.vm_part.specs.Part.{Block, IsPart, IsStored, SaysSamples, Stored, block_bytes, blocks_bytes, entries, entries_from, entries_of, entry_of, first_of, footer, front, front_mark, postings, samples_in, series_bytes, table, time_of}
use Rattle.vm_part.specs.declared.entry.Entry.{Entry}
use Rattle.vm_part.proofs.BlockLaws.{Coming, Ends, block_long, ends, last_append, samples_many, stand_blocks}
use Rattle.vm_part.proofs.SampleLaws.{Behind, behind, block_there, image_front, samples_same}

-- ---- one block at the front

same_block : (b c : Block) → b.header ≡ c.header → b.body ≡ c.body → b.samples ≡ c.samples → b ≡ c
same_block b c header body samples =
    λ i. record { header = header i; body = body i; samples = samples i }

header_front : (b : Block) (more : List ℕ) → take 40 (block_bytes b ++ more) ≡ header_bytes b.header
header_front b more =
    ap (take 40) (append_assoc (header_bytes b.header) b.body more)
    ∙ take_at (header_bytes b.header) (b.body ++ more) 40 (header_len b.header)

-- the block at the front of bytes is the only one there
pub one_block_front : (b c : Block) (x y : List ℕ) → SaysSamples b → SaysSamples c → block_bytes b
    ++ x ≡ block_bytes c ++ y → (b ≡ c) × (x ≡ y)
one_block_front b c x y one two same =
    let bytes : List ℕ = block_bytes b ++ x in
    let len : ℕ = b.header.times_len + b.header.values_len in
    let spelled : header_bytes b.header ≡ take 40 bytes = sym (header_front b x) in
    let mine : Behind (drop 40 bytes) len b.header b x =
    behind bytes (take 40 bytes) (drop 40 bytes) len b.header b x
    (record { block = one; spelled = refl }) refl refl one.header spelled refl in
    let its : Behind (drop 40 bytes) len b.header c y =
    behind bytes (take 40 bytes) (drop 40 bytes) len b.header c y
    (record { block = two; spelled = same }) refl refl one.header spelled refl in
    let body : b.body ≡ c.body = sym mine.body ∙ its.body in (
      same_block b c its.same body (samples_same b.header b.body c b.samples its.same body two one),
      sym mine.more_is ∙ its.more_is,
    )

-- ---- blocks at the front

-- of blocks at the front, the first one is the same, and so is what stands behind it
one_of_blocks : (b c : Block) (bs cs : List Block) (x y : List ℕ) → SaysSamples b → SaysSamples c
    → blocks_bytes (b ∷ bs) ++ x ≡ blocks_bytes (c ∷ cs) ++ y
    → (b ≡ c) × (blocks_bytes bs ++ x ≡ blocks_bytes cs ++ y)
one_of_blocks b c bs cs x y one two same =
    one_block_front b c (blocks_bytes bs ++ x) (blocks_bytes cs ++ y) one two
    (sym (append_assoc (block_bytes b) (blocks_bytes bs) x) ∙ same
    ∙ append_assoc (block_bytes c) (blocks_bytes cs) y)

-- so are as many blocks
pub one_blocks_front : (bs cs : List Block) (x y : List ℕ) → AllByRecursion SaysSamples bs
    → AllByRecursion SaysSamples cs → length bs ≡ length cs
    → blocks_bytes bs ++ x ≡ blocks_bytes cs ++ y → (bs ≡ cs) × (x ≡ y)
one_blocks_front [] [] x y one two many same = (refl, same)
one_blocks_front [] (c ∷ cs) x y one two many same = absurd (omega (arith, many))
one_blocks_front (b ∷ bs) [] x y one two many same = absurd (omega (arith, many))
one_blocks_front (b ∷ bs) (c ∷ cs) x y one two many same =
    let first = one_of_blocks b c bs cs x y one.0 two.0 same in
    let rest = one_blocks_front bs cs x y one.1 two.1 (omega (arith, many)) first.1 in
    (ap₂ (λ (z : Block) (zs : List Block). z ∷ zs) first.0 rest.0, rest.1)

-- fewer blocks are the first of more
pub first_blocks : (bs cs : List Block) (x y : List ℕ) → AllByRecursion SaysSamples bs
    → AllByRecursion SaysSamples cs → length bs < length cs
    → blocks_bytes bs ++ x ≡ blocks_bytes cs ++ y
    → (c : Block) × (more : List Block) × (cs ≡ bs ++ c ∷ more) × (x ≡ blocks_bytes (c ∷ more) ++ y)
first_blocks [] [] x y one two few same = absurd (omega (arith, few))
first_blocks [] (c ∷ cs) x y one two few same = (c, cs, refl, same)
first_blocks (b ∷ bs) [] x y one two few same = absurd (omega (arith, few))
first_blocks (b ∷ bs) (c ∷ cs) x y one two few same =
    let first = one_of_blocks b c bs cs x y one.0 two.0 same in
    let rest = first_blocks bs cs x y one.1 two.1 (omega (arith, few)) first.1 in
    (rest.0, rest.1, ap₂ (λ (z : Block) (zs : List Block). z ∷ zs) (sym first.0) rest.2, rest.3)

-- ---- what stands there doesn't break

not_both : (o : Option ℕ) (at : ℕ) → o ≡ None → o ≡ Some at → ⊥
not_both o at none some = cc

not_false : (b : Bool) → b ≡ true → b ≡ false → ⊥
not_false b holds fails = cc

-- what stands behind blocks of a series is no place where they break
pub no_break_there :
    (room : ℕ) (e : Entry) (before : List Block) (b : Block) (rest more : List ℕ) (place : ℕ)
    → SaysSamples b
    → may_stand room e before b.header ≡ true → rest ≡ block_bytes b ++ more
    → BreaksBehind room e before rest place → ⊥
no_break_there room e before b rest more _ says may is (no_header short) =
    omega (
      arith,
      ap length is,
      length-append (block_bytes b) more,
      block_long b.header b.body says.len,
    )
no_break_there room e before b rest more _ says may is (bad_header at long broken) =
    not_both (first_broken (field_rules (take 40 rest))) at
    (ap (λ bs. first_broken (field_rules bs)) (ap (take 40) is ∙ header_front b more)
    ∙ fields_kept (header_bytes b.header) b.header (fields_again b.header says.header)) broken
no_break_there room e before b rest more _ says may is (misplaced h keeps spelled fails) =
    let same : h ≡ b.header =
    header_of_bytes h b.header keeps says.header
    (sym spelled ∙ ap (take 40) is ∙ header_front b more) in
    not_false (may_stand room e before b.header) may
    (ap (may_stand room e before) (sym same) ∙ fails)
no_break_there room e before b rest more _ says may is (bad_body h at keeps spelled passes breaks) =
    let len : ℕ = h.times_len + h.values_len in
    let its : Behind (drop 40 rest) len h b more =
    behind rest (take 40 rest) (drop 40 rest) len h b more (record { block = says; spelled = is })
    refl refl keeps (sym spelled) refl in
    unbroken h (field len 40 rest) at b.samples
    (block_there h (field len 40 rest) b its.same its.body says) breaks

-- ---- the tests of a block

whole_or_less : (b : Bool) (n m : ℕ) → n ≤ m → (b ≡ true → n ≡ m)
    → (if b then n == m else nat_le n m) ≡ true
whole_or_less true n m within whole = eq-eqb n m (whole refl)
whole_or_less false n m within whole = le-leb n m within

or_passes : (b p : Bool) → (b ≡ false → p ≡ true) → (b || p) ≡ true
or_passes true p is = refl
or_passes false p is = is refl

not_or_passes : (b p : Bool) → (b ≡ true → p ≡ true) → (not b || p) ≡ true
not_or_passes true p is = is refl
not_or_passes false p is = refl

-- the parts of the tests say that it may stand
stands_so : (room : ℕ) (e : Entry) (before : List Block) (h : BlockHeader)
    → Coming room e h (length before) (length (samples_in before)) (last_of (samples_in before))
    → may_stand room e before h ≡ true
stands_so room e before h c =
    let len : ℕ = 40 + h.times_len + h.values_len in
    let is_last : Bool = suc (length before) == e.blocks in
    let rows : ℕ = length (samples_in before) + h.count in
    let t1 : Bool = (if is_last then len == room else nat_le len room) in
    let t2 : Bool = may_follow (last_of (samples_in before)) (first_sample h) in
    let t3 : Bool = (if is_last then rows == e.rows else nat_le rows e.rows) in
    let t4 : Bool = (nat_lt 0 (length before) || h.first_time == e.first_time) in
    let t5 : Bool = (not is_last || h.last_time == e.last_time) in
    let last : is_last ≡ true → suc (length before) ≡ e.blocks =
    λ is. eqb-true (suc (length before)) e.blocks is in
    let p1 : t1 ≡ true = whole_or_less is_last len room c.fits (λ is. c.fills (last is)) in
    let p3 : t3 ≡ true = whole_or_less is_last rows e.rows c.few (λ is. c.all (last is)) in
    let p4 : t4 ≡ true =
    or_passes (nat_lt 0 (length before)) (h.first_time == e.first_time)
    (λ is. eq-eqb h.first_time e.first_time (c.first (none (length before) is))) in
    let p5 : t5 ≡ true =
    not_or_passes is_last (h.last_time == e.last_time)
    (λ is. eq-eqb h.last_time e.last_time (c.ends (last is))) in
    and_from (t1 && t2 && t3 && t4) t5
    (and_from (t1 && t2 && t3) t4 (and_from (t1 && t2) t3 (and_from t1 t2 p1 c.follows) p3) p4)
    p5
  where
    none : (n : ℕ) → nat_lt 0 n ≡ false → n ≡ 0
    none n is = omega (arith, ltb-false 0 n is)

-- ---- the blocks of a stored series may stand

all_there : (P : Block → Type 0) (xs : List Block) (y : Block) (ys : List Block)
    → AllByRecursion P (xs ++ y ∷ ys) → P y
all_there P [] y ys all = all.0
all_there P (x ∷ xs) y ys all = all_there P xs y ys all.1

-- in samples in order, the last one before a sample may stand before it
in_front : (xs : List Stamped) (y : Stamped) (ys : List Stamped) → IsUp is_in_order (xs ++ y ∷ ys)
    → may_follow (last_of xs) (Some y) ≡ true
in_front [] y ys up = refl
in_front (x ∷ []) y ys up = up.0.0
in_front (x ∷ z ∷ xs) y ys up = in_front (z ∷ xs) y ys up.1

first_there : (before : List Block) (x : Stamped) (xs : List Stamped) → length before ≡ 0
    → first_of (samples_in before ++ x ∷ xs) ≡ Some x
first_there [] x xs none = refl
first_there (b ∷ before) x xs none = absurd (omega (arith, none))

none_behind : (before : List Block) (b : Block) (more : List Block)
    → suc (length before) ≡ length (before ++ b ∷ more) → more ≡ []
none_behind before b [] whole = refl
none_behind before b (c ∷ more) whole =
    absurd (omega (arith, whole, length-append before (b ∷ c ∷ more)))

-- each block of a stored series may stand behind those before it
pub may_stand_there :
    (start room : ℕ) (s : Stored) (before : List Block) (b : Block) (more : List Block) → IsStored s
    → s.blocks ≡ before ++ b ∷ more
    → room ≡ length (blocks_bytes (b ∷ more))
    → may_stand room (entry_of start s) before b.header ≡ true
may_stand_there start room s before b more stored are room_is =
    stands_so room (entry_of start s) before b.header (record {
      fits = omega (arith, room_long, len);
      follows = ap (may_follow (last_of (samples_in before))) its.sample
          ∙ in_front (samples_in before) its.first (its.more ++ samples_in more) up;
      few = omega (arith, rows, many);
      first = λ none.
          sym its.begins
          ∙ sym (ap time_of (first_there before its.first (its.more ++ samples_in more) none))
          ∙ sym (ap (λ ss. time_of (first_of ss)) all);
      fills = λ whole. let no_more = no_bytes whole in omega (arith, room_long, len);
      all = λ whole. let no_more = no_samples whole in omega (arith, rows, many);
      ends = λ whole.
          sym its.ends
          ∙ ap (λ ss. time_of (last_of ss))
          (its.is ∙ ap (λ ss. its.first ∷ ss) (sym (append-nil its.more)
          ∙ ap (λ bs. its.more ++ samples_in bs) (sym (no_blocks whole))))
          ∙ sym (ap time_of
          (last_append (samples_in before) its.first (its.more ++ samples_in more)))
          ∙ sym (ap (λ ss. time_of (last_of ss)) all);
    })
  where
    says : SaysSamples b
    says = all_there SaysSamples before b more
        (subst (AllByRecursion SaysSamples) are stored.blocks)

    its : Ends b.header b.samples
    its = ends b.header b.body b.samples says

    len : length (block_bytes b) ≡ 40 + b.header.times_len + b.header.values_len
    len = block_long b.header b.body says.len

    many : length b.samples ≡ b.header.count
    many = samples_many b.header b.body b.samples says

    room_long : room ≡ length (block_bytes b) + length (blocks_bytes more)
    room_long = room_is ∙ length-append (block_bytes b) (blocks_bytes more)

    parts : samples_in s.blocks ≡ samples_in before ++ (b.samples ++ samples_in more)
    parts = ap samples_in are ∙ flat_map-append (λ (x : Block). x.samples) before (b ∷ more)

    all : samples_in s.blocks ≡ samples_in before ++ its.first ∷ (its.more ++ samples_in more)
    all = parts ∙ ap (λ ss. samples_in before ++ (ss ++ samples_in more)) its.is

    up : IsUp is_in_order (samples_in before ++ its.first ∷ (its.more ++ samples_in more))
    up = subst (IsUp is_in_order) all stored.order

    rows : length (samples_in s.blocks) ≡ length (samples_in before)
        + (length b.samples + length (samples_in more))
    rows =
        ap length parts ∙ length-append (samples_in before) (b.samples ++ samples_in more)
        ∙ ap (λ n. length (samples_in before) + n) (length-append b.samples (samples_in more))

    no_blocks : suc (length before) ≡ length s.blocks → more ≡ []
    no_blocks whole = none_behind before b more (whole ∙ ap length are)

    no_bytes : suc (length before) ≡ length s.blocks → length (blocks_bytes more) ≡ 0
    no_bytes whole = ap (λ bs. length (blocks_bytes bs)) (no_blocks whole)

    no_samples : suc (length before) ≡ length s.blocks → length (samples_in more) ≡ 0
    no_samples whole = ap (λ bs. length (samples_in bs)) (no_blocks whole)

-- ---- no series breaks

enough : (entries start all n its left others : ℕ) → all ≡ n + left → left ≡ its + others
    → start + all ≤ entries
    → entries - (start + n) ≡ its + (entries - (start + n) - its)
enough entries start all n its left others long longer within = omega arith

room_left : (start all n left : ℕ) → all ≡ n + left → start + all - start - n ≡ left
room_left start all n left long = omega arith

-- the blocks of a stored series don't break where they stand
pub no_series_breaks :
    (bytes : List ℕ) (entries : ℕ) (s : Stored) (before more : List ℕ) (start at : ℕ) → IsStored s
    → bytes ≡ before ++ (blocks_bytes s.blocks ++ more) → start ≡ length before
    → start + length (blocks_bytes s.blocks) ≤ entries
    → SeriesBreaks bytes entries (start + length (blocks_bytes s.blocks)) (entry_of start s) at → ⊥
no_series_breaks bytes entries s before more start at stored are start_is within breaks =
    let e : Entry = entry_of start s in
    let all : ℕ = length (blocks_bytes s.blocks) in
    let blocks : List Block = breaks.before in
    let n : ℕ = length (blocks_bytes blocks) in
    let rest : List ℕ = drop n (drop start bytes) in
    let there : drop start bytes ≡ blocks_bytes s.blocks ++ more =
    ap (drop start) are ∙ drop_at before (blocks_bytes s.blocks ++ more) start (sym start_is) in
    let parts : blocks_bytes blocks ++ rest ≡ blocks_bytes s.blocks ++ more =
    ap (λ bs. bs ++ rest) (sym breaks.spelled) ∙ take-append-drop n (drop start bytes) ∙ there in
    let found =
    first_blocks blocks s.blocks rest more
    (stand_blocks (start + all - start) e blocks breaks.stand) stored.blocks breaks.few parts in
    let b : Block = found.0 in
    let others : List Block = found.1 in
    let long : all ≡ n + length (blocks_bytes (b ∷ others)) =
    ap (λ bs. length (blocks_bytes bs)) found.2
    ∙ ap length (flat_map-append block_bytes blocks (b ∷ others))
    ∙ length-append (blocks_bytes blocks) (blocks_bytes (b ∷ others)) in
    let its : ℕ = length (block_bytes b) in
    let longer : length (blocks_bytes (b ∷ others)) ≡ its + length (blocks_bytes others) =
    length-append (block_bytes b) (blocks_bytes others) in
    let tail : List ℕ = blocks_bytes others ++ more in
    let begins : between (start + n) entries bytes ≡ block_bytes b
    ++ take (entries - (start + n) - its) tail =
    ap (take (entries - (start + n)))
    (sym (drop-drop n start bytes) ∙ found.3
    ∙ append_assoc (block_bytes b) (blocks_bytes others) more)
    ∙ ap (λ k. take k (block_bytes b ++ tail))
    (enough entries start all n its (length (blocks_bytes (b ∷ others)))
    (length (blocks_bytes others)) long longer within)
    ∙ take-append-add (block_bytes b) tail (entries - (start + n) - its) in
    no_break_there (start + all - start - n) e blocks b (between (start + n) entries bytes)
    (take (entries - (start + n) - its) tail) breaks.place
    (all_there SaysSamples blocks b others
    (subst (AllByRecursion SaysSamples) found.2 stored.blocks))
    (may_stand_there start (start + all - start - n) s blocks b others stored found.2
    (room_left start all n (length (blocks_bytes (b ∷ others))) long))
    begins breaks.broken

-- ---- none of a part does

-- where series stand up to the entries, the one before them ends where they begin
end_next : (entries start : ℕ) (all : List Stored)
    → entries ≡ start + length (flat_map series_bytes all)
    → end_of entries (entries_from start all) ≡ start
end_next entries start [] is = omega (arith, is)
end_next entries start (s ∷ more) is = refl

no_entries : (bytes : List ℕ) (entries at : ℕ) → SomeBreaks bytes entries [] at → ⊥
no_entries bytes entries at breaks = elim breaks [ ]

first_or_later : (bytes : List ℕ) (entries : ℕ) (e : Entry) (more : List Entry) (at : ℕ)
    → SomeBreaks bytes entries (e ∷ more) at
    → SeriesBreaks bytes entries (end_of entries more) e at ⊎ SomeBreaks bytes entries more at
first_or_later bytes entries _ _ _ (breaks_first e more at breaks) = inl breaks
first_or_later bytes entries _ _ _ (breaks_later e more blocks at stands breaks) = inr breaks

-- of series whose blocks stand from a place on, up to the entries
none_from : (all : List Stored) (bytes before more : List ℕ) (start entries at : ℕ)
    → AllByRecursion IsStored all
    → bytes ≡ before ++ (flat_map series_bytes all ++ more) → start ≡ length before
    → entries ≡ start + length (flat_map series_bytes all)
    → SomeBreaks bytes entries (entries_from start all) at → ⊥
none_from [] bytes before more start entries at each are start_is ends breaks =
    no_entries bytes entries at breaks
none_from (s ∷ all) bytes before more start entries at each are start_is ends breaks =
    let its : List ℕ = series_bytes s in
    let tail : List ℕ = flat_map series_bytes all in
    let next : ℕ = start + length its in
    let end : entries ≡ next + length tail = omega (arith, ends, length-append its tail) in
    let same : bytes ≡ before ++ (its ++ (tail ++ more)) = are
    ∙ ap (λ bs. before ++ bs) (append_assoc its tail more) in
    ⊎_elim
    (λ first.
    no_series_breaks bytes entries s before (tail ++ more) start at each.0 same start_is
    (omega (arith, end))
    (subst (λ n. SeriesBreaks bytes entries n (entry_of start s) at) (end_next entries next all end)
    first))
    (λ later.
    none_from all bytes (before ++ its) more next entries at each.1
    (same ∙ sym (append_assoc before its (tail ++ more)))
    (ap (λ n. n + length its) start_is ∙ sym (length-append before its)) end later)
    (first_or_later bytes entries (entry_of start s) (entries_from next all) at breaks)

-- the blocks of a part break nowhere
pub none_breaks : (bytes : List ℕ) (all : List Stored) (at : ℕ) → IsPart bytes all
    → SomeBreaks bytes (length (front all)) (entries_of all) at → ⊥
none_breaks bytes all at is breaks =
    none_from all bytes front_mark (entries all ++ (table all ++ (postings all ++ footer all))) 8
    (length (front all)) at is.stored.each
    (is.spelled ∙ image_front all) refl (length-append front_mark (flat_map series_bytes all))
    breaks
