-- Samples read from blocks that stand in bytes.
use Rattle.std.proofs.Common.{◌≡◌, ℕ, zero, suc, ◌+◌, ◌-◌, ◌<◌, ◌≤◌, List, [], ◌∷◌, ◌++◌, length, take, drop, map, flat_map, slice_get, Some, option_map, refl, sym, ap, ◌∙◌, subst, arith, append_assoc, append-nil, length-append}
use Rattle.std.specs.List.{AllByRecursion}
use Rattle.std.proofs.lemmas.List.{drop_at, take_at, take_more}
use Rattle.std.proofs.lemmas.Option.{slice_get-map, slice_get_within, get_or_from_slice_get}
use Rattle.vm_base.specs.declared.stamped.Stamped.{Stamped}
use Rattle.vm_block.specs.Block.{IsBlock}
use Rattle.vm_block.specs.Header.{IsHeader, header_bytes}
use Rattle.vm_block.specs.declared.header.BlockHeader.{BlockHeader}
use Rattle.vm_block.proofs.Blocks.{one_block}
use Rattle.vm_block.proofs.Rereading.{header_len, header_of_bytes}
use Rattle.vm_part.specs.Part.{Block, IsPart, IsStored, Stored, block_bytes, blocks_bytes, entries, entries_from, entries_of, entry_of, footer, front_mark, image, postings, samples_in, samples_of, series_bytes, table}
use Rattle.vm_part.specs.Said.{Kept}
use Rattle.vm_part.specs.inner.Standing.{AreHeader, BeginsWith, BeginsWithAll, HasBlock, HasBlocks, StandAt}
use Rattle.vm_part.specs.declared.entry.Entry.{Entry}

-- ---- one block at the front

regrouped : (bytes : List ℕ) (b : Block) (more : List ℕ) → BeginsWith bytes b more
    → bytes ≡ header_bytes b.header ++ (b.body ++ more)
regrouped bytes b more begins = begins.spelled ∙ append_assoc (header_bytes b.header) b.body more

front_is : (bytes : List ℕ) (b : Block) (more : List ℕ) → BeginsWith bytes b more
    → take 40 bytes ≡ header_bytes b.header
front_is bytes b more begins =
    ap (take 40) (regrouped bytes b more begins)
    ∙ take_at (header_bytes b.header) (b.body ++ more) 40 (header_len b.header)

behind_is : (bytes : List ℕ) (b : Block) (more : List ℕ) → BeginsWith bytes b more
    → drop 40 bytes ≡ b.body ++ more
behind_is bytes b more begins =
    ap (drop 40) (regrouped bytes b more begins)
    ∙ drop_at (header_bytes b.header) (b.body ++ more) 40 (header_len b.header)

pub header_within : (bytes : List ℕ) → HasBlock bytes → 40 ≤ length bytes
header_within bytes has =
    let b = has.first in
    omega (
      arith,
      ap length (regrouped bytes b has.more has.begins),
      length-append (header_bytes b.header) (b.body ++ has.more),
      header_len b.header,
    )

pub header_there : (bytes front : List ℕ) → HasBlock bytes → front ≡ take 40 bytes → AreHeader front
header_there bytes front has is = record {
  header = has.first.header;
  is = has.begins.block.header;
  spelled = sym (is ∙ front_is bytes has.first has.more has.begins);
}

-- what stands behind a header
pub record Behind (rest : List ℕ) (len : ℕ) (h : BlockHeader) (b : Block) (more : List ℕ) :
    Type 0 where
  pub same : h ≡ b.header
  pub within : len ≤ length rest
  pub body : take len rest ≡ b.body
  pub more_is : drop len rest ≡ more

pub behind : (bytes front rest : List ℕ) (len : ℕ) (h : BlockHeader) (b : Block) (more : List ℕ)
    → BeginsWith bytes b more
    → front ≡ take 40 bytes → rest ≡ drop 40 bytes → IsHeader h → header_bytes h ≡ front
    → len ≡ h.times_len + h.values_len
    → Behind rest len h b more
behind bytes front rest len h b more begins front_at rest_at is spelled len_is =
    let same : h ≡ b.header =
    header_of_bytes h b.header is begins.block.header
    (spelled ∙ front_at ∙ front_is bytes b more begins) in
    let body_len : length b.body ≡ len =
    begins.block.len ∙ ap (λ (x : BlockHeader). x.times_len + x.values_len) (sym same)
    ∙ sym len_is in
    let rest_is : rest ≡ b.body ++ more = rest_at ∙ behind_is bytes b more begins in
    record {
      same = same;
      within = omega (arith, ap length rest_is, length-append b.body more, body_len);
      body = ap (take len) rest_is ∙ take_at b.body more len body_len;
      more_is = ap (drop len) rest_is ∙ drop_at b.body more len body_len;
    }

-- its samples are those that are read
pub samples_same : (h : BlockHeader) (body : List ℕ) (b : Block) (read : List Stamped)
    → h ≡ b.header → body ≡ b.body
    → IsBlock b.header b.body b.samples → IsBlock h body read → read ≡ b.samples
samples_same h body b read same body_is block its =
    one_block h body read b.samples its
    (subst (λ bs. IsBlock h bs b.samples) (sym body_is)
    (subst (λ x. IsBlock x b.body b.samples) (sym same) block))

pub block_there : (h : BlockHeader) (body : List ℕ) (b : Block) → h ≡ b.header → body ≡ b.body
    → IsBlock b.header b.body b.samples
    → IsBlock h body b.samples
block_there h body b same body_is block =
    subst (λ bs. IsBlock h bs b.samples) (sym body_is)
    (subst (λ x. IsBlock x b.body b.samples) (sym same) block)

-- ---- one block after the other

-- of blocks: so many are left at the front of the rest, and the samples of the others are read
pub record RestOf (blocks : List Block) (samples : List Stamped) (rest : List ℕ) (left : ℕ) :
    Type 0 where
  pub due : List Block
  pub many : length due ≡ left
  pub begun : BeginsWithAll rest due
  pub whole : samples ++ samples_in due ≡ samples_in blocks

pub all_due : (bytes rest : List ℕ) (entry : Entry) (blocks : List Block) (samples : List Stamped)
    → StandAt bytes entry blocks
    → rest ≡ drop entry.start bytes → samples ≡ [] → RestOf blocks samples rest (entry.blocks - 0)
all_due bytes rest entry blocks samples stand is none_read = record {
  due = blocks;
  many = omega (arith, stand.many);
  begun = subst (λ bs. BeginsWithAll bs blocks) (sym is) stand.begun;
  whole = ap (λ xs. xs ++ samples_in blocks) none_read;
}

first_of_all : (rest : List ℕ) (b : Block) (due : List Block) (begun : BeginsWithAll rest (b ∷ due))
    → BeginsWith rest b (blocks_bytes due ++ begun.more)
first_of_all rest b due begun = record {
  block = begun.say.0;
  spelled = begun.spelled ∙ append_assoc (block_bytes b) (blocks_bytes due) begun.more;
}

pub one_there : (blocks : List Block) (samples : List Stamped) (rest : List ℕ) (left : ℕ)
    → RestOf blocks samples rest left → 0 < left
    → HasBlock rest
one_there blocks samples rest left so_far some = go so_far.due so_far.many so_far.begun
  where
    go : (due : List Block) → length due ≡ left → BeginsWithAll rest due → HasBlock rest
    go [] many begun = absurd (omega (arith, many, some))
    go (b ∷ due) many begun =
        record {
          first = b;
          more = blocks_bytes due ++ begun.more;
          begins = first_of_all rest b due begun;
        }

pub one_read :
    (blocks : List Block) (samples after : List Stamped) (rest later : List ℕ) (left fewer : ℕ)
    → RestOf blocks samples rest left
    → left ≡ suc fewer
    → ((b : Block) (more : List ℕ) → BeginsWith rest b more → (after ≡ samples ++ b.samples)
    × (later ≡ more))
    → RestOf blocks after later fewer
one_read blocks samples after rest later left fewer so_far is said =
    go so_far.due so_far.many so_far.begun so_far.whole
  where
    go : (due : List Block) → length due ≡ left → BeginsWithAll rest due → samples
        ++ samples_in due ≡ samples_in blocks
        → RestOf blocks after later fewer
    go [] many begun whole = absurd (omega (arith, many, is))
    go (b ∷ due) many begun whole =
        let its = said b (blocks_bytes due ++ begun.more) (first_of_all rest b due begun) in
        record {
          due = due;
          many = omega (arith, many, is);
          begun = record { more = begun.more; spelled = its.1; say = begun.say.1 };
          whole = ap (λ xs. xs ++ samples_in due) its.0
              ∙ append_assoc samples b.samples (samples_in due) ∙ whole;
        }

pub all_read : (blocks : List Block) (samples : List Stamped) (rest : List ℕ) (left : ℕ)
    → RestOf blocks samples rest left → left ≡ 0
    → samples ≡ samples_in blocks
all_read blocks samples rest left so_far none_left = go so_far.due so_far.many so_far.whole
  where
    go : (due : List Block) → length due ≡ left → samples ++ samples_in due ≡ samples_in blocks
        → samples ≡ samples_in blocks
    go [] many whole = sym (append-nil samples) ∙ whole
    go (b ∷ due) many whole = absurd (omega (arith, many, none_left))

-- ---- the blocks of a series in a part

-- a series at its ordinal, and its blocks where its entry says
pub record StoredAt (bytes : List ℕ) (entry : Entry) (all : List Stored) (ordinal : ℕ) :
    Type 0 where
  pub series : Stored
  pub is : slice_get all ordinal ≡ Some series
  pub stand : StandAt bytes entry series.blocks

entry_stands : (before : List ℕ) (all : List Stored) (rest : List ℕ) (ordinal : ℕ) (entry : Entry)
    → slice_get (entries_from (length before) all) ordinal ≡ Some entry
    → AllByRecursion IsStored all
    → StoredAt (before ++ (flat_map series_bytes all ++ rest)) entry all ordinal
entry_stands before [] rest ordinal entry is each = absurd (cc)
entry_stands before (s ∷ all) rest zero entry is each =
    let tail : List ℕ = flat_map series_bytes (s ∷ all) ++ rest in
    let said : entry_of (length before) s ≡ entry = cc in
    let here : StandAt (before ++ tail) (entry_of (length before) s) s.blocks = record {
      within = omega (arith, length-append before tail);
      many = refl;
      begun = record {
        more = flat_map series_bytes all ++ rest;
        spelled = drop_at before tail (length before) refl
            ∙ append_assoc (blocks_bytes s.blocks) (flat_map series_bytes all) rest;
        say = each.0.blocks;
      };
    } in
    record {
      series = s;
      is = refl;
      stand = subst (λ e. StandAt (before ++ tail) e s.blocks) said here;
    }
entry_stands before (s ∷ all) rest (suc n) entry is each =
    let its : List ℕ = blocks_bytes s.blocks in
    let there : StoredAt ((before ++ its) ++ (flat_map series_bytes all ++ rest)) entry all n =
    entry_stands (before ++ its) all rest n entry
    (subst (λ k. slice_get (entries_from k all) n ≡ Some entry) (sym (length-append before its)) is)
    each.1 in
    let same : (before ++ its) ++ (flat_map series_bytes all ++ rest) ≡ before
    ++ ((its ++ flat_map series_bytes all) ++ rest) =
    append_assoc before its (flat_map series_bytes all ++ rest)
    ∙ ap (λ bs. before ++ bs) (sym (append_assoc its (flat_map series_bytes all) rest)) in
    record {
      series = there.series;
      is = there.is;
      stand = subst (λ bs. StandAt bs entry there.series.blocks) same there.stand;
    }

grouped : (m b e t p f : List ℕ) → ((((m ++ b) ++ e) ++ t) ++ p) ++ f ≡ m
    ++ (b ++ (e ++ (t ++ (p ++ f))))
grouped m b e t p f = simp append_assoc

-- the sections one behind the other
pub image_front : (all : List Stored)
    → image all ≡ front_mark
    ++ (flat_map series_bytes all ++ (entries all ++ (table all ++ (postings all ++ footer all))))
unfolding image
image_front all =
    grouped front_mark (flat_map series_bytes all) (entries all) (table all) (postings all)
    (footer all)

pub standing : (part : Kept) (all : List Stored) (ordinal : ℕ) (entry : Entry) (bytes : List ℕ)
    → IsPart part.bytes all
    → part.entries ≡ entries_of all → bytes ≡ part.bytes
    → slice_get part.entries ordinal ≡ Some entry → StoredAt bytes entry all ordinal
standing part all ordinal entry bytes is_part entries_are same is =
    let rest : List ℕ = entries all ++ (table all ++ (postings all ++ footer all)) in
    let here : StoredAt (front_mark ++ (flat_map series_bytes all ++ rest)) entry all ordinal =
    entry_stands front_mark all rest ordinal entry
    (subst (λ es. slice_get es ordinal ≡ Some entry) entries_are is) is_part.stored.each in
    record {
      series = here.series;
      is = here.is;
      stand = subst (λ bs. StandAt bs entry here.series.blocks)
          (sym (same ∙ is_part.spelled ∙ image_front all)) here.stand;
    }

pub blocks_there : (bytes : List ℕ) (entry : Entry) (all : List Stored) (ordinal : ℕ)
    → StoredAt bytes entry all ordinal → HasBlocks bytes entry
blocks_there bytes entry all ordinal at = record { found = at.series.blocks; stand = at.stand }

-- what is read of them are the samples of the series
pub series_read :
    (bytes : List ℕ) (entry : Entry) (all : List Stored) (ordinal : ℕ) (samples : List Stamped)
    → StoredAt bytes entry all ordinal
    → ((blocks : List Block) → StandAt bytes entry blocks → samples ≡ samples_in blocks)
    → slice_get (map samples_of all) ordinal ≡ Some samples
series_read bytes entry all ordinal samples at said =
    slice_get-map samples_of all ordinal ∙ ap (option_map samples_of) at.is
    ∙ ap Some (sym (said at.series.blocks at.stand))

-- one item more
pub taken : {X : Type 0} (xs : List X) (i : ℕ) (x : X) → slice_get xs i ≡ Some x
    → take (i + 1) xs ≡ take i xs ++ x ∷ []
taken xs i x is =
    take_more xs i x (slice_get_within xs i x is)
    ∙ ap (λ y. take i xs ++ y ∷ []) (get_or_from_slice_get xs i x x is)
