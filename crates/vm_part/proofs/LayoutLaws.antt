-- What a reader finds in the bytes of a part: each section where the footer says, and the numbers
-- that were written.
use Rattle.std.proofs.Common.{◌≡◌, ℕ, ◌+◌, ◌-◌, ◌*◌, ◌^◌, ◌<◌, ◌≤◌, List, [], ◌∷◌, ◌++◌, length, take, flat_map, refl, sym, ap, ap₂, ◌∙◌, subst, arith, append_assoc, append-nil, length-append, w64}
use Rattle.std.specs.Int.{from_be_bytes, to_be_bytes}
use Rattle.std.specs.List.{AllByRecursion}
use Rattle.std.proofs.lemmas.List.{drop_at, take_at}
use Rattle.std.proofs.lemmas.List.Concat.{flat_map-append}
use Rattle.std.proofs.lemmas.Nat.{from_be_bytes-to_be_bytes_8}
use Rattle.vm_base.specs.Sorted.{last_of}
use Rattle.vm_base.specs.declared.stamped.Stamped.{Stamped}
use Rattle.vm_block.specs.Header.{field}
use Rattle.vm_block.proofs.Headers.{ranges}
use Rattle.vm_part.specs.Broken.{between, entries_at, entry_at, footer_at, number_at, postings_in, table_in}
use Rattle.vm_part.specs.Part.{Block, IsPart, IsStored, SaysSamples, Stored, block_bytes, blocks_bytes, end_mark, entries, entries_from, entries_of, entry_bytes, entry_of, first_of, footer, front, front_mark, image, postings, samples_in, samples_of, series_bytes, table, time_of}
use Rattle.vm_part.specs.declared.entry.Entry.{Entry}
use Rattle.vm_part.specs.declared.footer.Footer.{Footer}
use Rattle.vm_part.proofs.BlockLaws.{block_long, ends, last_append}

-- ---- bytes at their place

-- so many bytes, behind others
pub field_here : (before middle more : List ℕ) (n at : ℕ) → n ≡ length middle → at ≡ length before
    → field n at (before ++ (middle ++ more)) ≡ middle
field_here before middle more n at many is =
    ap (take n) (drop_at before (middle ++ more) at (sym is)) ∙ take_at middle more n (sym many)

pub between_here : (before middle more : List ℕ) (from to : ℕ) → from ≡ length before
    → to ≡ length before + length middle
    → between from to (before ++ (middle ++ more)) ≡ middle
between_here before middle more from to begins ends_at =
    field_here before middle more (to - from) from (omega (arith, begins, ends_at)) begins

-- a number of eight bytes
pub number_here : (before : List ℕ) (n : ℕ) (more : List ℕ) (at : ℕ) → n < 2 ^ 64
    → at ≡ length before
    → number_at at (before ++ (to_be_bytes w64 n ++ more)) ≡ n
number_here before n more at small is =
    ap (from_be_bytes w64) (field_here before (to_be_bytes w64 n) more 8 at refl is)
    ∙ from_be_bytes-to_be_bytes_8 n small

abbrev numbers : List ℕ → List ℕ
numbers ns = flat_map (to_be_bytes w64) ns

eight : (n : ℕ) → length (to_be_bytes w64 n) ≡ 8
eight n = refl

numbers_long : (ns : List ℕ) → length (numbers ns) ≡ 8 * length ns
numbers_long [] = refl
numbers_long (n ∷ ns) =
    omega (arith, length-append (to_be_bytes w64 n) (numbers ns), eight n, numbers_long ns)

-- a number among others
number_among : (before ns : List ℕ) (n : ℕ) (others more : List ℕ) (at : ℕ) → n < 2 ^ 64
    → at ≡ length before + 8 * length ns
    → number_at at (before ++ (numbers (ns ++ n ∷ others) ++ more)) ≡ n
number_among before ns n others more at small is =
    ap (number_at at) parted
    ∙ number_here (before ++ numbers ns) n (numbers others ++ more) at small
    (omega (arith, is, length-append before (numbers ns), numbers_long ns))
  where
    parted : before ++ (numbers (ns ++ n ∷ others) ++ more) ≡ (before ++ numbers ns)
        ++ (to_be_bytes w64 n ++ (numbers others ++ more))
    parted =
        ap (λ bs. before ++ (bs ++ more)) (flat_map-append (to_be_bytes w64) ns (n ∷ others))
        ∙ ap (λ bs. before ++ bs) (append_assoc (numbers ns) (numbers (n ∷ others)) more
        ∙ ap (λ bs. numbers ns ++ bs) (append_assoc (to_be_bytes w64 n) (numbers others) more))
        ∙ sym (append_assoc before (numbers ns) (to_be_bytes w64 n ++ (numbers others ++ more)))

-- the five numbers of an entry, or of a footer
record AreSmall (a b c d e : ℕ) : Type 0 where
  pub first : a < 2 ^ 64
  pub second : b < 2 ^ 64
  pub third : c < 2 ^ 64
  pub fourth : d < 2 ^ 64
  pub fifth : e < 2 ^ 64

record Five (at : ℕ) (bytes : List ℕ) (a b c d e : ℕ) : Type 0 where
  pub first : number_at at bytes ≡ a
  pub second : number_at (at + 8) bytes ≡ b
  pub third : number_at (at + 16) bytes ≡ c
  pub fourth : number_at (at + 24) bytes ≡ d
  pub fifth : number_at (at + 32) bytes ≡ e

five_here : (before : List ℕ) (a b c d e : ℕ) (more : List ℕ) (at : ℕ) → AreSmall a b c d e
    → at ≡ length before
    → Five at (before ++ (numbers (a ∷ b ∷ c ∷ d ∷ e ∷ []) ++ more)) a b c d e
five_here before a b c d e more at small is = record {
  first = number_among before [] a (b ∷ c ∷ d ∷ e ∷ []) more at small.first (omega (arith, is));
  second =
      number_among before (a ∷ []) b (c ∷ d ∷ e ∷ []) more (at + 8) small.second
      (omega (arith, is));
  third = number_among before (a ∷ b ∷ []) c (d ∷ e ∷ []) more (at + 16) small.third
      (omega (arith, is));
  fourth =
      number_among before (a ∷ b ∷ c ∷ []) d (e ∷ []) more (at + 24) small.fourth
      (omega (arith, is));
  fifth = number_among before (a ∷ b ∷ c ∷ d ∷ []) e [] more (at + 32) small.fifth
      (omega (arith, is));
}

-- ---- entries

-- the numbers of an entry are numbers of eight bytes
abbrev IsSmall : Entry → Type 0
IsSmall e = AreSmall e.start e.blocks e.rows e.first_time e.last_time

entry_here : (before : List ℕ) (e : Entry) (more : List ℕ) (at : ℕ) → IsSmall e → at ≡ length before
    → entry_at at (before ++ (entry_bytes e ++ more)) ≡ e
entry_here before e more at small is =
    let five = five_here before e.start e.blocks e.rows e.first_time e.last_time more at small is in
    λ i. record {
      start = five.first i;
      blocks = five.second i;
      rows = five.third i;
      first_time = five.fourth i;
      last_time = five.fifth i;
    }

entry_long : (e : Entry) → length (entry_bytes e) ≡ 40
entry_long e = numbers_long (e.start ∷ e.blocks ∷ e.rows ∷ e.first_time ∷ e.last_time ∷ [])

pub entries_long : (start : ℕ) (all : List Stored)
    → length (flat_map entry_bytes (entries_from start all)) ≡ 40 * length all
entries_long start [] = refl
entries_long start (s ∷ all) =
    let later : ℕ = start + length (blocks_bytes s.blocks) in
    let e : Entry = entry_of start s in
    omega (
      arith,
      length-append (entry_bytes e) (flat_map entry_bytes (entries_from later all)),
      entry_long e,
      entries_long later all,
    )

-- entries one behind the other
entries_here : (before : List ℕ) (start : ℕ) (all : List Stored) (more : List ℕ) (at : ℕ)
    → AllByRecursion IsSmall (entries_from start all)
    → at ≡ length before
    → entries_at (length all) at (before ++ (flat_map entry_bytes (entries_from start all) ++ more))
    ≡ entries_from start all
entries_here before start [] more at small is = refl
entries_here before start (s ∷ all) more at small is =
    let e : Entry = entry_of start s in
    let later : ℕ = start + length (blocks_bytes s.blocks) in
    let others : List ℕ = flat_map entry_bytes (entries_from later all) in
    let here : before ++ ((entry_bytes e ++ others) ++ more) ≡ before
    ++ (entry_bytes e ++ (others ++ more)) =
    ap (λ bs. before ++ bs) (append_assoc (entry_bytes e) others more) in
    let beyond : before ++ ((entry_bytes e ++ others) ++ more) ≡ (before ++ entry_bytes e)
    ++ (others ++ more) =
    here ∙ sym (append_assoc before (entry_bytes e) (others ++ more)) in
    ap₂ (λ (x : Entry) xs. x ∷ xs)
    (ap (entry_at at) here ∙ entry_here before e (others ++ more) at small.0 is)
    (ap (entries_at (length all) (at + 40)) beyond
    ∙ entries_here (before ++ entry_bytes e) later all more (at + 40) small.1
    (omega (arith, is, length-append before (entry_bytes e), entry_long e)))

-- ---- the numbers of entries are numbers of eight bytes

-- a block has some bytes
blocks_many : (blocks : List Block) → AllByRecursion SaysSamples blocks
    → length blocks ≤ length (blocks_bytes blocks)
blocks_many [] say = omega arith
blocks_many (b ∷ blocks) say =
    omega (
      arith,
      blocks_many blocks say.1,
      length-append (block_bytes b) (blocks_bytes blocks),
      block_long b.header b.body say.0.len,
    )

first_small : (blocks : List Block) → AllByRecursion SaysSamples blocks
    → time_of (first_of (samples_in blocks)) < 2 ^ 64
first_small [] say = omega arith
first_small (b ∷ blocks) say =
    let e = ends b.header b.body b.samples say.0 in
    let same : time_of (first_of (b.samples ++ samples_in blocks)) ≡ e.first.time =
    ap (λ xs. time_of (first_of (xs ++ samples_in blocks))) e.is in
    omega (arith, same, e.begins, (ranges b.header say.0.header).first_time)

last_small : (blocks : List Block) → AllByRecursion SaysSamples blocks
    → time_of (last_of (samples_in blocks)) < 2 ^ 64
last_small [] say = omega arith
last_small (b ∷ []) say =
    let same : time_of (last_of (b.samples ++ [])) ≡ b.header.last_time =
    ap (λ xs. time_of (last_of xs)) (append-nil b.samples)
    ∙ (ends b.header b.body b.samples say.0).ends in
    omega (arith, same, (ranges b.header say.0.header).last_time)
last_small (b ∷ c ∷ blocks) say =
    let e = ends c.header c.body c.samples say.1.0 in
    let others : List Stamped = samples_in blocks in
    let same : time_of (last_of (b.samples ++ (c.samples ++ others)))
    ≡ time_of (last_of (c.samples ++ others)) =
    ap (λ xs. time_of (last_of (b.samples ++ (xs ++ others)))) e.is
    ∙ ap time_of (last_append b.samples e.first (e.more ++ others))
    ∙ ap (λ xs. time_of (last_of (xs ++ others))) (sym e.is) in
    subst (λ n. n < 2 ^ 64) (sym same) (last_small (c ∷ blocks) say.1)

entries_small : (start : ℕ) (all : List Stored) → AllByRecursion IsStored all
    → start + length (flat_map series_bytes all) < 2 ^ 64
    → length (flat_map samples_of all) < 2 ^ 64 → AllByRecursion IsSmall (entries_from start all)
entries_small start [] each fits few = tt
entries_small start (s ∷ all) each fits few =
    let bytes = length-append (blocks_bytes s.blocks) (flat_map series_bytes all) in
    let rows = length-append (samples_of s) (flat_map samples_of all) in
    let its : IsSmall (entry_of start s) = record {
      first = omega (arith, fits);
      second = omega (arith, fits, bytes, blocks_many s.blocks each.0.blocks);
      third = omega (arith, few, rows);
      fourth = first_small s.blocks each.0.blocks;
      fifth = last_small s.blocks each.0.blocks;
    } in (
      its,
      entries_small (start + length (blocks_bytes s.blocks)) all each.1
          (omega (arith, fits, bytes)) (omega (arith, few, rows)),
    )

-- ---- sections one behind the other

-- five pieces and where each of them begins
record Pieces (bytes f e t p q : List ℕ) : Type 0 where
  pub second : bytes ≡ f ++ (e ++ (t ++ (p ++ q)))
  pub third : bytes ≡ (f ++ e) ++ (t ++ (p ++ q))
  pub fourth : bytes ≡ ((f ++ e) ++ t) ++ (p ++ q)
  pub third_at : length (f ++ e) ≡ length f + length e
  pub fourth_at : length ((f ++ e) ++ t) ≡ length f + length e + length t
  pub fifth_at : length (((f ++ e) ++ t) ++ p) ≡ length f + length e + length t + length p
  pub long : length bytes ≡ length f + length e + length t + length p + length q

pieces : (bytes f e t p q : List ℕ) → bytes ≡ (((f ++ e) ++ t) ++ p) ++ q → Pieces bytes f e t p q
pieces bytes f e t p q is =
    let fourth = is ∙ append_assoc ((f ++ e) ++ t) p q in
    let third = fourth ∙ append_assoc (f ++ e) t (p ++ q) in
    let one = length-append f e in
    let two = length-append (f ++ e) t in
    let three = length-append ((f ++ e) ++ t) p in
    let four = length-append (((f ++ e) ++ t) ++ p) q in
    record {
      second = third ∙ append_assoc f e (t ++ (p ++ q));
      third = third;
      fourth = fourth;
      third_at = one;
      fourth_at = omega (arith, one, two);
      fifth_at = omega (arith, one, two, three);
      long = omega (arith, ap length is, one, two, three, four);
    }

-- the footer of a part that holds these series
abbrev pub footer_of : List Stored → Footer
footer_of all = record {
  entries_at = length (front all);
  table_at = length (front all) + length (entries all);
  postings_at = length (front all) + length (entries all) + length (table all);
  series = length all;
  rows = length (flat_map samples_of all);
}

footer_here : (bytes before : List ℕ) (a b c d e : ℕ) (mark : List ℕ) (at : ℕ) → AreSmall a b c d e
    → bytes ≡ before ++ (numbers (a ∷ b ∷ c ∷ d ∷ e ∷ []) ++ mark) → at ≡ length before
    → footer_at at bytes
    ≡ record { entries_at = a; table_at = b; postings_at = c; series = d; rows = e }
footer_here bytes before a b c d e mark at small spelled is =
    let five = five_here before a b c d e mark at small is in
    ap (footer_at at) spelled ∙ (λ i. record {
      entries_at = five.first i;
      table_at = five.second i;
      postings_at = five.third i;
      series = five.fourth i;
      rows = five.fifth i;
    })

mark_here : (bytes before ns mark : List ℕ) (at : ℕ) → length mark ≡ 8 → bytes ≡ before
    ++ (numbers ns ++ mark) → at ≡ length before + 8 * length ns
    → field 8 at bytes ≡ mark
mark_here bytes before ns mark at eight_long spelled is =
    ap (field 8 at)
    (spelled ∙ sym (append_assoc before (numbers ns) mark)
    ∙ ap (λ bs. (before ++ numbers ns) ++ bs) (sym (append-nil mark)))
    ∙ field_here (before ++ numbers ns) mark [] 8 at (sym eight_long)
    (omega (arith, is, length-append before (numbers ns), numbers_long ns))

-- ---- the whole

-- what stands in the bytes of a part, read by its places
pub record HasLayout (bytes : List ℕ) (all : List Stored) : Type 0 where
  pub long : length bytes ≡ length (front all) + length (entries all) + length (table all)
      + length (postings all) + 48
  pub entries : entries_at (length all) (length (front all)) bytes ≡ entries_of all
  pub table : table_in (footer_of all) bytes ≡ table all
  pub postings : postings_in (length bytes - 48) (footer_of all) bytes ≡ postings all
  pub front : take 8 bytes ≡ front_mark
  pub footer : footer_at (length bytes - 48) bytes ≡ footer_of all
  pub mark : field 8 (length bytes - 48 + 40) bytes ≡ end_mark

-- the front is 8 bytes and those of all blocks
pub front_long : (all : List Stored) → length (front all) ≡ 8 + length (flat_map series_bytes all)
front_long all = length-append front_mark (flat_map series_bytes all)

image_pieces : (all : List Stored)
    → image all ≡ (((front all ++ entries all) ++ table all) ++ postings all) ++ footer all
unfolding image
image_pieces all = refl

module _ (bytes : List ℕ) (all : List Stored) (is : IsPart bytes all) where
  abbrev blocks : List ℕ
  blocks = flat_map series_bytes all

  abbrev entries_place : ℕ
  entries_place = length (front all)

  abbrev table_place : ℕ
  table_place = length (front all) + length (entries all)

  abbrev postings_place : ℕ
  postings_place = length (front all) + length (entries all) + length (table all)

  abbrev rows : ℕ
  rows = length (flat_map samples_of all)

  abbrev said : List ℕ
  said = entries_place ∷ table_place ∷ postings_place ∷ length all ∷ rows ∷ []

  abbrev behind_front : List ℕ
  behind_front = entries all ++ (table all ++ (postings all ++ footer all))

  abbrev before_footer : List ℕ
  before_footer = front all ++ entries all ++ table all ++ postings all

  spelled : bytes ≡ before_footer ++ (numbers said ++ end_mark)
  spelled = is.spelled ∙ image_pieces all

  parts : Pieces bytes (front all) (entries all) (table all) (postings all) (footer all)
  parts = pieces bytes (front all) (entries all) (table all) (postings all) (footer all) spelled

  footer_long : length (footer all) ≡ 48
  footer_long = omega (arith, length-append (numbers said) end_mark, numbers_long said)

  whole_long : length bytes ≡ length (front all) + length (entries all) + length (table all)
      + length (postings all) + 48
  whole_long = omega (arith, parts.long, footer_long)

  at_footer : length bytes - 48 ≡ length before_footer
  at_footer = omega (arith, whole_long, parts.fifth_at)

  small : AreSmall entries_place table_place postings_place (length all) rows
  small = record {
    first = omega (arith, is.long, whole_long);
    second = omega (arith, is.long, whole_long);
    third = omega (arith, is.long, whole_long);
    fourth = omega (arith, is.long, whole_long, entries_long 8 all);
    fifth = is.rows;
  }

  -- a part has its sections where its footer says, and its numbers are read as they were written
  pub layout : HasLayout bytes all
  layout = record {
    long = whole_long;
    entries =
        ap (entries_at (length all) entries_place) parts.second
        ∙ entries_here (front all) 8 all (table all ++ (postings all ++ footer all)) entries_place
        (entries_small 8 all is.stored.each (omega (arith, is.long, whole_long, front_long all))
        is.rows) refl;
    table =
        ap (between table_place postings_place) parts.third
        ∙ between_here (front all ++ entries all) (table all) (postings all ++ footer all)
        table_place postings_place
        (sym parts.third_at) (omega (arith, parts.third_at));
    postings =
        ap (between postings_place (length bytes - 48)) parts.fourth
        ∙ between_here (front all ++ entries all ++ table all) (postings all) (footer all)
        postings_place (length bytes - 48)
        (sym parts.fourth_at) (omega (arith, parts.fourth_at, whole_long));
    front = ap (take 8) (parts.second ∙ append_assoc front_mark blocks behind_front)
        ∙ take_at front_mark (blocks ++ behind_front) 8 refl;
    footer =
        footer_here bytes before_footer entries_place table_place postings_place (length all) rows
        end_mark (length bytes - 48) small spelled at_footer;
    mark = mark_here bytes before_footer said end_mark (length bytes - 48 + 40) refl spelled
        (omega (arith, at_footer));
  }
