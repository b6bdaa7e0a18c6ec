-- Bytes that are no part break at one place.
use Rattle.std.proofs.Common.{◌≡◌, ◌⊎◌, inl, inr, ⊎_elim, ℕ, ◌+◌, ◌-◌, ◌<◌, ◌≤◌, true, false, List, [], ◌∷◌, ◌++◌, length, take, drop, Some, None, refl, ap, ap₂, sym, ◌∙◌, subst, arith, append_assoc, length-append}
use Rattle.std.specs.List.{AllByRecursion}
use Rattle.std.proofs.Math.Seq.{take-append_seam}
use Rattle.std.proofs.lemmas.Bool.{cases_lt}
use Rattle.std.proofs.lemmas.List.{drop-drop, length-take, take-append-drop, take-take}
use Rattle.vm_block.specs.Header.{IsHeader, field, field_rules, first_broken, header_bytes}
use Rattle.vm_block.specs.declared.header.BlockHeader.{BlockHeader}
use Rattle.vm_block.proofs.Blocks.{one_break}
use Rattle.vm_block.proofs.Headers.{fields_again, fields_kept}
use Rattle.vm_block.proofs.Rereading.{header_len, header_of_bytes}
use Rattle.vm_block.specs.Block.{BreaksAt}
use Rattle.vm_index.specs.Bytes.{postings_bytes, postings_fields}
use Rattle.vm_index.specs.Index.{postings_of}
use Rattle.vm_index.specs.Reading.{IsRefused, IsTable, first_off}
use Rattle.vm_index.specs.declared.fault.IndexFault.TheVariants.{BrokenPostings, BrokenTable, Memory as NoRoom}
use Rattle.vm_index.proofs.TableLaws.{one_place, one_table, only_memory, table_is_sound}
use Rattle.vm_labels.specs.declared.pair.Pair.{Pair}
use Rattle.vm_part.specs.Broken.{Breaks, BreaksBehind, SeriesBreaks, SeriesStands, SomeBreaks, Stand, between, end_of, entries_at, footer_at, may_stand, postings_in, rules, table_in}
use Rattle.vm_part.specs.Broken.Breaks.{in_blocks, in_postings, in_table, too_short, wrong_field}
use Rattle.vm_part.specs.Broken.BreaksBehind.{bad_body, bad_header, misplaced, no_header}
use Rattle.vm_part.specs.Broken.SomeBreaks.{here, later}
use Rattle.vm_part.specs.Broken.Stand.{next, none}
use Rattle.vm_part.specs.Part.{Block, SaysSamples, block_bytes, blocks_bytes}
use Rattle.vm_part.specs.inner.Reading.{PlacesRise, entries_section_rules, front_rules}
use Rattle.vm_part.specs.declared.entry.Entry.{Entry}
use Rattle.vm_part.specs.declared.footer.Footer.{Footer}
use Rattle.vm_part.proofs.BlockLaws.{stand_blocks, stand_fits}
use Rattle.vm_part.proofs.FileLaws.{entries_rise}
use Rattle.vm_part.proofs.RuleLaws.{kept_parts}
use Rattle.vm_part.proofs.StandLaws.{first_blocks, no_break_there, one_blocks_front}

-- ---- behind some blocks

-- a header that keeps its rules has no broken field
header_kept : (h : BlockHeader) (front : List ℕ) (at : ℕ) → IsHeader h → front ≡ header_bytes h
    → first_broken (field_rules front) ≡ Some at → ⊥
header_kept h front at is spelled broken =
    let kept : first_broken (field_rules (header_bytes h)) ≡ None =
    fields_kept (header_bytes h) h (fields_again h is) in
    let both : Some at ≡ None = sym broken ∙ ap (λ bs. first_broken (field_rules bs)) spelled
    ∙ kept in
    absurd (cc)

short_front : (h : BlockHeader) (rest : List ℕ) → length rest < 40 → take 40 rest ≡ header_bytes h
    → ⊥
short_front h rest short spelled =
    omega (arith, ap length spelled, header_len h, length-take 40 rest)

-- what may stand, and what may not
may_or_not : (room : ℕ) (e : Entry) (before : List Block) (h g : BlockHeader) → IsHeader h
    → IsHeader g → header_bytes h ≡ header_bytes g
    → may_stand room e before h ≡ true → may_stand room e before g ≡ false → ⊥
may_or_not room e before h g is other same may not =
    let both : true ≡ false = sym may
    ∙ ap (may_stand room e before) (header_of_bytes h g is other same) ∙ not in
    absurd (cc)

one_place_behind : (room : ℕ) (e : Entry) (before : List Block) (rest : List ℕ) (p q : ℕ)
    → BreaksBehind room e before rest p → BreaksBehind room e before rest q → p ≡ q
one_place_behind room e before rest p q (no_header short) (no_header _) = refl
one_place_behind room e before rest p q (no_header short) (bad_header at long broken) =
    absurd (omega arith)
one_place_behind room e before rest p q (no_header short) (misplaced h is spelled not) = refl
one_place_behind room e before rest p q (no_header short) (bad_body h at is spelled may breaks) =
    absurd (short_front h rest short spelled)
one_place_behind room e before rest p q (bad_header at long broken) (no_header short) =
    absurd (omega arith)
one_place_behind room e before rest p q (bad_header at long broken) (bad_header other _ again) =
    let same : Some p ≡ Some q = sym broken ∙ again in
    cc
one_place_behind room e before rest p q (bad_header at long broken) (misplaced h is spelled not) =
    absurd (header_kept h (take 40 rest) p is spelled broken)
one_place_behind room e before rest p q (bad_header at long broken)
    (bad_body h other is spelled may breaks) =
    absurd (header_kept h (take 40 rest) p is spelled broken)
one_place_behind room e before rest p q (misplaced h is spelled not) (no_header short) = refl
one_place_behind room e before rest p q (misplaced h is spelled not) (bad_header at long broken) =
    absurd (header_kept h (take 40 rest) q is spelled broken)
one_place_behind room e before rest p q (misplaced h is spelled not) (misplaced g other again _) =
    refl
one_place_behind room e before rest p q (misplaced h is spelled not)
    (bad_body g at other again may breaks) =
    absurd (may_or_not room e before g h other is (sym again ∙ spelled) may not)
one_place_behind room e before rest p q (bad_body h at is spelled may breaks) (no_header short) =
    absurd (short_front h rest short spelled)
one_place_behind room e before rest p q (bad_body h at is spelled may breaks)
    (bad_header other long broken) =
    absurd (header_kept h (take 40 rest) q is spelled broken)
one_place_behind room e before rest p q (bad_body h at is spelled may breaks)
    (misplaced g other again not) =
    absurd (may_or_not room e before h g is other (sym spelled ∙ again) may not)
one_place_behind room e before rest p q (bad_body h at is spelled may breaks)
    (bad_body g at2 other again may2 breaks2) =
    let same = header_of_bytes h g is other (sym spelled ∙ again) in
    one_break g (field (g.times_len + g.values_len) 40 rest) p q
    (subst (λ x. BreaksAt x (field (x.times_len + x.values_len) 40 rest) p) same breaks) breaks2

-- ---- blocks of a series

-- two ways to part a list: at its last item, or before that
last_or_before : {X : Type 0} (front : List X) (last : X) (before : List X) (x : X) (more : List X)
    → front ++ last ∷ [] ≡ before ++ x ∷ more
    → ((front ≡ before) × (last ≡ x)) ⊎ ((less : List X) × (front ≡ before ++ x ∷ less))
last_or_before [] last [] x more is = let same : last ≡ x = cc in inl (refl, same)
last_or_before [] last (y ∷ before) x more is =
    absurd (omega (arith, ap length is, length-append before (x ∷ more)))
last_or_before (z ∷ front) last [] x more is = let same : z ≡ x =
    cc in inr (front, ap (λ v. v ∷ front) same)
last_or_before (z ∷ front) last (y ∷ before) x more is =
    let same : z ≡ y = cc in
    let rest : front ++ last ∷ [] ≡ before ++ x ∷ more = cc in
    ⊎_elim
    (λ both. inl (ap₂ ◌∷◌ same both.0, both.1))
    (λ less. inr (less.0, ap₂ ◌∷◌ same less.1))
    (last_or_before front last before x more rest)

all_right : {X : Type 0} (P : X → Type 0) (xs ys : List X) → AllByRecursion P (xs ++ ys)
    → AllByRecursion P ys
all_right P [] ys all = all
all_right P (x ∷ xs) ys all = all_right P xs ys all.1

-- a block behind others that stand may stand there
stands_behind : (room : ℕ) (e : Entry) (all before : List Block) (c : Block) (more : List Block)
    → Stand room e all → all ≡ before ++ c ∷ more
    → may_stand (room - length (blocks_bytes before)) e before c.header ≡ true
stands_behind room e all before c more none is =
    absurd (omega (arith, ap length is, length-append before (c ∷ more)))
stands_behind room e all before c more (next front b stand block may) is =
    ⊎_elim
    (λ same. subst (λ bs. may_stand (room - length (blocks_bytes bs)) e bs c.header ≡ true) same.0
    (subst (λ (x : Block). may_stand (room - length (blocks_bytes front)) e front x.header ≡ true)
    same.1 may))
    (λ less. stands_behind room e front before c less.0 stand less.1)
    (last_or_before front b before c more is)

-- the front of bytes whose front is known
parted : (n : ℕ) (bytes front : List ℕ) → take n bytes ≡ front → bytes ≡ front ++ drop n bytes
parted n bytes front is = sym (take-append-drop n bytes) ∙ ap (λ bs. bs ++ drop n bytes) is

front_within : (n : ℕ) (front more : List ℕ) → length front ≤ n → take n (front ++ more) ≡ front
    ++ drop (length front) (take n (front ++ more))
front_within n front more within =
    parted (length front) (take n (front ++ more)) front
    (take-take (length front) n (front ++ more) within ∙ take-append_seam front more)

-- where a series breaks, no block stands next
no_next_block :
    (bytes : List ℕ) (entries end : ℕ) (e : Entry) (at : ℕ)
    (b : SeriesBreaks bytes entries end e at) (c : Block) (more : List Block) (after : List ℕ)
    → Stand (end - e.start) e (b.before ++ c ∷ more)
    → drop (length (blocks_bytes b.before)) (drop e.start bytes) ≡ blocks_bytes (c ∷ more) ++ after
    → e.start ≤ end → end ≤ entries → ⊥
no_next_block bytes entries end e at b c more after stand behind begins ends =
    let before = b.before in
    let n = length (blocks_bytes before) in
    let m : ℕ = entries - (e.start + n) in
    let z : List ℕ = blocks_bytes more ++ after in
    let room = stand_fits (end - e.start) e (before ++ c ∷ more) stand in
    let within : length (block_bytes c) ≤ m =
    omega (arith, room, blocks_long before c more, begins, ends) in
    let rest : between (e.start + n) entries bytes ≡ take m (block_bytes c ++ z) =
    ap (take m)
    (sym (drop-drop n e.start bytes) ∙ behind
    ∙ append_assoc (block_bytes c) (blocks_bytes more) after) in
    let its =
    all_right SaysSamples before (c ∷ more)
    (stand_blocks (end - e.start) e (before ++ c ∷ more) stand) in
    no_break_there (end - e.start - n) e before c (between (e.start + n) entries bytes)
    (drop (length (block_bytes c)) (take m (block_bytes c ++ z))) b.place its.0
    (stands_behind (end - e.start) e (before ++ c ∷ more) before c more stand refl)
    (rest ∙ front_within m (block_bytes c) z within) b.broken
  where
    blocks_long : (bs : List Block) (c : Block) (cs : List Block)
        → length (blocks_bytes (bs ++ c ∷ cs)) ≡ length (blocks_bytes bs)
        + (length (block_bytes c) + length (blocks_bytes cs))
    blocks_long [] c cs = omega (arith, length-append (block_bytes c) (blocks_bytes cs))
    blocks_long (b ∷ bs) c cs =
        omega (
          arith,
          length-append (block_bytes b) (blocks_bytes (bs ++ c ∷ cs)),
          length-append (block_bytes b) (blocks_bytes bs),
          blocks_long bs c cs,
        )

-- so no more blocks stand there than before it
no_block_there :
    (bytes : List ℕ) (entries end : ℕ) (e : Entry) (at : ℕ) (all : List Block)
    (b : SeriesBreaks bytes entries end e at)
    → Stand (end - e.start) e all
    → field (length (blocks_bytes all)) e.start bytes ≡ blocks_bytes all → e.start ≤ end
    → end ≤ entries
    → length b.before < length all → ⊥
no_block_there bytes entries end e at all b stand spelled begins ends less =
    let tail = drop e.start bytes in
    let n = length (blocks_bytes b.before) in
    let m = length (blocks_bytes all) in
    let room = end - e.start in
    let joined : blocks_bytes b.before ++ drop n tail ≡ blocks_bytes all ++ drop m tail =
    sym (parted n tail (blocks_bytes b.before) b.spelled)
    ∙ parted m tail (blocks_bytes all) spelled in
    let f = first_blocks b.before all (drop n tail) (drop m tail)
    (stand_blocks room e b.before b.stand) (stand_blocks room e all stand) less joined in
    no_next_block bytes entries end e at b f.0 f.1 (drop m tail) (subst (Stand room e) f.2 stand)
    f.3 begins ends

one_place_in_series : (bytes : List ℕ) (entries end : ℕ) (e : Entry) (p q : ℕ) → e.start ≤ end
    → end ≤ entries
    → SeriesBreaks bytes entries end e p → SeriesBreaks bytes entries end e q → p ≡ q
one_place_in_series bytes entries end e p q begins ends a b =
    ⊎_elim
    (λ less.
    absurd (no_block_there bytes entries end e p b.before a b.stand b.spelled begins ends less))
    (λ most. ⊎_elim
    (λ less.
    absurd (no_block_there bytes entries end e q a.before b a.stand a.spelled begins ends less))
    (λ least. same (omega arith))
    (cases_lt (length b.before) (length a.before)))
    (cases_lt (length a.before) (length b.before))
  where
    tail : List ℕ
    tail = drop e.start bytes

    same : length a.before ≡ length b.before → p ≡ q
    same many =
        let room = end - e.start in
        let n = length (blocks_bytes a.before) in
        let m = length (blocks_bytes b.before) in
        let front =
        one_blocks_front a.before b.before (drop n tail) (drop m tail)
        (stand_blocks room e a.before a.stand) (stand_blocks room e b.before b.stand) many
        (sym (parted n tail (blocks_bytes a.before) a.spelled)
        ∙ parted m tail (blocks_bytes b.before) b.spelled) in
        let behind : List Block → ℕ → Type 0 = λ bs place.
        BreaksBehind (end - e.start - length (blocks_bytes bs)) e bs
        (between (e.start + length (blocks_bytes bs)) entries bytes) place in
        let places : a.place ≡ b.place =
        one_place_behind (room - m) e b.before (between (e.start + m) entries bytes) a.place b.place
        (subst (λ bs. behind bs a.place) front.0 a.broken) b.broken in
        a.is ∙ ap₂ (λ bs place. e.start + length (blocks_bytes bs) + place) front.0 places
        ∙ sym b.is

-- where the blocks of a series stand, it breaks nowhere
stands_or_breaks : (bytes : List ℕ) (entries end : ℕ) (e : Entry) (at : ℕ) (blocks : List Block)
    → e.start ≤ end → end ≤ entries
    → SeriesStands bytes end e blocks → SeriesBreaks bytes entries end e at → ⊥
stands_or_breaks bytes entries end e at blocks begins ends stands b =
    no_block_there bytes entries end e at blocks b stands.stand stands.spelled begins ends
    (omega (arith, b.few, stands.all))

-- ---- all series

pub one_place_in_blocks : (bytes : List ℕ) (entries : ℕ) (es : List Entry) (p q : ℕ)
    → PlacesRise entries es
    → SomeBreaks bytes entries es p → SomeBreaks bytes entries es q → p ≡ q
one_place_in_blocks bytes entries es p q rise (here e more at a) (here _ _ other b) =
    one_place_in_series bytes entries (end_of entries more) e p q rise.0 rise.1 a b
one_place_in_blocks bytes entries es p q rise (here e more at a) (later _ _ blocks other stands b) =
    absurd (stands_or_breaks bytes entries (end_of entries more) e p blocks rise.0 rise.1 stands a)
one_place_in_blocks bytes entries es p q rise (later e more blocks at stands a) (here _ _ other b) =
    absurd (stands_or_breaks bytes entries (end_of entries more) e q blocks rise.0 rise.1 stands b)
one_place_in_blocks bytes entries es p q rise (later e more blocks at stands a)
    (later _ _ others other stand b) =
    one_place_in_blocks bytes entries more p q rise.2 a b

-- ---- the whole file

-- A break, section by section.
abbrev InIndex : List ℕ → Footer → List ℕ → ℕ → Type 0
InIndex bytes f postings at =
    ((n : ℕ) × IsRefused f.series (table_in f bytes) postings (BrokenTable n)
    × (at ≡ f.table_at + n))
    ⊎ ((n : ℕ) × IsRefused f.series (table_in f bytes) postings (BrokenPostings n)
    × (at ≡ f.postings_at + n))

abbrev InBlocks : List ℕ → Footer → List ℕ → ℕ → Type 0
InBlocks bytes f postings at =
    (sets : List (List Pair)) × IsTable f.series (table_in f bytes) sets
    × (postings ≡ postings_bytes (postings_of sets))
    × SomeBreaks bytes f.entries_at (entries_at f.series f.entries_at bytes) at

abbrev InFields : ℕ → List ℕ → ℕ → Type 0
InFields foot bytes at =
    let f = footer_at foot bytes in
    (first_broken (rules foot bytes) ≡ Some at)
    ⊎ ((first_broken (rules foot bytes) ≡ None)
    × (InIndex bytes f (postings_in foot f bytes) at
    ⊎ InBlocks bytes f (postings_in foot f bytes) at))

abbrev InFile : ℕ → List ℕ → ℕ → Type 0
InFile len bytes at = ((len < 56) × (at ≡ 0)) ⊎ ((56 ≤ len) × InFields (len - 48) bytes at)

by_sections : (len : ℕ) (bytes : List ℕ) (at : ℕ) → Breaks len bytes at → InFile len bytes at
by_sections len bytes at (too_short short) = inl (short, refl)
by_sections len bytes at (wrong_field place long broken) = inr (long, inl broken)
by_sections len bytes at (in_table f n long kept is refused) =
    subst (λ (g : Footer). InFile len bytes (g.table_at + n)) (sym is)
    (inr (
      long,
      inr (
        kept,
        inl (inl (
          n,
          subst (λ (g : Footer).
              IsRefused g.series (table_in g bytes) (postings_in (len - 48) g bytes)
              (BrokenTable n)) is
              refused,
          refl,
        )),
      ),
    ))
by_sections len bytes at (in_postings f n long kept is refused) =
    subst (λ (g : Footer). InFile len bytes (g.postings_at + n)) (sym is)
    (inr (
      long,
      inr (
        kept,
        inl (inr (
          n,
          subst (λ (g : Footer).
              IsRefused g.series (table_in g bytes) (postings_in (len - 48) g bytes)
              (BrokenPostings n))
              is refused,
          refl,
        )),
      ),
    ))
by_sections len bytes at (in_blocks f sets place long kept is table postings some) =
    inr (
      long,
      inr (
        kept,
        inr (subst (λ (g : Footer). InBlocks bytes g (postings_in (len - 48) g bytes) at) is
            (sets, table, postings, some)),
      ),
    )

one_index : (bytes : List ℕ) (f : Footer) (postings : List ℕ) (p q : ℕ) → InIndex bytes f postings p
    → InIndex bytes f postings q → p ≡ q
one_index bytes f postings p q (inl a) (inl b) =
    a.2 ∙ ap (λ n. f.table_at + n) (one_place f.series (table_in f bytes) a.0 b.0 a.1 b.1) ∙ sym b.2
one_index bytes f postings p q (inl a) (inr b) =
    absurd (table_is_sound f.series (table_in f bytes) b.1.0 a.0 b.1.1 a.1)
one_index bytes f postings p q (inr a) (inl b) =
    absurd (table_is_sound f.series (table_in f bytes) a.1.0 b.0 a.1.1 b.1)
one_index bytes f postings p q (inr a) (inr b) =
    let sets = one_table f.series (table_in f bytes) a.1.0 b.1.0 a.1.1 b.1.1 in
    let both : Some a.0 ≡ Some b.0 = sym a.1.2
    ∙ ap (λ s. first_off (postings_fields (postings_of s)) postings) sets ∙ b.1.2 in
    let same : a.0 ≡ b.0 = cc in
    a.2 ∙ ap (λ n. f.postings_at + n) same ∙ sym b.2

index_or_blocks : (bytes : List ℕ) (f : Footer) (postings : List ℕ) (p q : ℕ)
    → InIndex bytes f postings p → InBlocks bytes f postings q → ⊥
index_or_blocks bytes f postings p q (inl a) b =
    table_is_sound f.series (table_in f bytes) b.0 a.0 b.1 a.1
index_or_blocks bytes f postings p q (inr a) b =
    let none : BrokenPostings a.0 ≡ NoRoom =
    only_memory f.series (table_in f bytes) postings b.0 (BrokenPostings a.0) b.1 b.2 a.1 in
    absurd (cc)

places_there : (foot : ℕ) (bytes : List ℕ) → first_broken (rules foot bytes) ≡ None
    → PlacesRise (footer_at foot bytes).entries_at
    (entries_at (footer_at foot bytes).series (footer_at foot bytes).entries_at bytes)
places_there foot bytes kept =
    let f = footer_at foot bytes in
    entries_rise bytes f (entries_at f.series f.entries_at bytes) refl
    (kept_parts (front_rules foot bytes) (entries_section_rules f bytes) kept).1

one_field : (foot : ℕ) (bytes : List ℕ) (p q : ℕ) → InFields foot bytes p → InFields foot bytes q
    → p ≡ q
one_field foot bytes p q (inl a) (inl b) = let both : Some p ≡ Some q = sym a ∙ b in cc
one_field foot bytes p q (inl a) (inr b) = let both : Some p ≡ None = sym a ∙ b.0 in absurd (cc)
one_field foot bytes p q (inr a) (inl b) = let both : Some q ≡ None = sym b ∙ a.0 in absurd (cc)
one_field foot bytes p q (inr a) (inr b) =
    let f = footer_at foot bytes in
    let postings = postings_in foot f bytes in
    ⊎_elim
    (λ x. ⊎_elim (λ y. one_index bytes f postings p q x y)
    (λ y. absurd (index_or_blocks bytes f postings p q x y)) b.1)
    (λ x. ⊎_elim
    (λ y. absurd (index_or_blocks bytes f postings q p y x))
    (λ y. one_place_in_blocks bytes f.entries_at (entries_at f.series f.entries_at bytes) p q
    (places_there foot bytes a.0) x.3 y.3)
    b.1)
    a.1

one_file : (len : ℕ) (bytes : List ℕ) (p q : ℕ) → InFile len bytes p → InFile len bytes q → p ≡ q
one_file len bytes p q (inl a) (inl b) = a.1 ∙ sym b.1
one_file len bytes p q (inl a) (inr b) = absurd (omega arith)
one_file len bytes p q (inr a) (inl b) = absurd (omega arith)
one_file len bytes p q (inr a) (inr b) = one_field (len - 48) bytes p q a.1 b.1

-- bytes that are no part break at one place
pub one_break_in_file : (len : ℕ) (bytes : List ℕ) (p q : ℕ) → Breaks len bytes p
    → Breaks len bytes q → p ≡ q
one_break_in_file len bytes p q a b =
    one_file len bytes p q (by_sections len bytes p a) (by_sections len bytes q b)
