-- Bytes are the part of one list of series.
use Rattle.std.proofs.Common.{◌≡◌, ℕ, ◌+◌, List, [], ◌∷◌, ◌++◌, length, drop, flat_map, refl, ap, ap₂, sym, ◌∙◌, subst, append_assoc}
use Rattle.std.specs.List.{AllByRecursion}
use Rattle.std.proofs.Math.Seq.{drop-append_seam}
use Rattle.std.proofs.lemmas.List.{length-map}
use Rattle.vm_index.specs.Reading.{IsTable}
use Rattle.vm_index.proofs.TableLaws.{one_table}
use Rattle.vm_labels.specs.declared.pair.Pair.{Pair}
use Rattle.vm_part.specs.Broken.{entries_at, table_in}
use Rattle.vm_part.specs.Part.{Block, IsPart, IsStored, Stored, entries, entries_from, entries_of, footer, front_mark, postings, series_bytes, sets_of, table}
use Rattle.vm_part.specs.declared.entry.Entry.{Entry}
use Rattle.vm_part.specs.declared.footer.Footer.{Footer}
use Rattle.vm_part.proofs.LayoutLaws.{HasLayout, footer_of, layout}
use Rattle.vm_part.proofs.SampleLaws.{image_front}
use Rattle.vm_part.proofs.StandLaws.{one_blocks_front}

abbrev bytes_behind : List Stored → List ℕ
bytes_behind all = entries all ++ (table all ++ (postings all ++ footer all))

-- ---- from label sets, entries and blocks

first_set : (a b : List Pair) (more others : List (List Pair)) → a ∷ more ≡ b ∷ others → (a ≡ b)
    × (more ≡ others)
first_set a b more others same = (cc, cc)

first_entry : (a b : Entry) (more others : List Entry) → a ∷ more ≡ b ∷ others → (a ≡ b)
    × (more ≡ others)
first_entry a b more others same = (cc, cc)

-- series of the same label sets with as many blocks each, whose blocks begin the same bytes, are
-- the same
one_list : (some others : List Stored) (from at : ℕ) (x y : List ℕ) → AllByRecursion IsStored some
    → AllByRecursion IsStored others
    → sets_of some ≡ sets_of others → entries_from from some ≡ entries_from at others
    → flat_map series_bytes some ++ x ≡ flat_map series_bytes others ++ y → some ≡ others
one_list [] [] from at x y a b sets said same = refl
one_list [] (t ∷ others) from at x y a b sets said same = absurd (cc)
one_list (s ∷ some) [] from at x y a b sets said same = absurd (cc)
one_list (s ∷ some) (t ∷ others) from at x y a b sets said same =
    let labels = first_set s.labels t.labels (sets_of some) (sets_of others) sets in
    let later : ℕ = from + length (series_bytes s) in
    let there : ℕ = at + length (series_bytes t) in
    let each = first_entry _ _ (entries_from later some) (entries_from there others) said in
    let here =
    one_blocks_front s.blocks t.blocks (flat_map series_bytes some ++ x)
    (flat_map series_bytes others ++ y) a.0.blocks b.0.blocks
    (ap (λ (e : Entry). e.blocks) each.0)
    (sym (append_assoc (series_bytes s) (flat_map series_bytes some) x) ∙ same
    ∙ append_assoc (series_bytes t) (flat_map series_bytes others) y) in
    let made : List Pair → List Block → Stored =
    λ labels blocks. record { labels = labels; blocks = blocks } in
    ap₂ ◌∷◌ (ap₂ made labels.0 here.0)
    (one_list some others later there x y a.1 b.1 labels.1 each.1 here.1)

-- ---- from bytes

pub table_there : (bytes : List ℕ) (all : List Stored) → IsPart bytes all → HasLayout bytes all
    → IsTable (footer_of all).series (table_in (footer_of all) bytes) (sets_of all)
table_there bytes all is has = record {
  many = length-map all (λ (s : Stored). s.labels);
  labels = is.stored.sets;
  spelled = has.table;
}

pub one_part : (bytes : List ℕ) (some others : List Stored) → IsPart bytes some
    → IsPart bytes others → some ≡ others
one_part bytes some others a b =
    let one = layout bytes some a in
    let other = layout bytes others b in
    let feet : footer_of some ≡ footer_of others = sym one.footer ∙ other.footer in
    let sets : sets_of some ≡ sets_of others =
    one_table (footer_of others).series (table_in (footer_of others) bytes) (sets_of some)
    (sets_of others)
    (subst (λ (f : Footer). IsTable f.series (table_in f bytes) (sets_of some)) feet
    (table_there bytes some a one))
    (table_there bytes others b other) in
    let said : entries_of some ≡ entries_of others =
    sym one.entries ∙ ap (λ (f : Footer). entries_at f.series f.entries_at bytes) feet
    ∙ other.entries in
    let spelled : front_mark ++ (flat_map series_bytes some ++ bytes_behind some) ≡ front_mark
    ++ (flat_map series_bytes others ++ bytes_behind others) =
    sym (a.spelled ∙ image_front some) ∙ b.spelled ∙ image_front others in
    one_list some others 8 8 (bytes_behind some) (bytes_behind others) a.stored.each b.stored.each
    sets said
    (same_behind front_mark (flat_map series_bytes some ++ bytes_behind some)
    (flat_map series_bytes others ++ bytes_behind others) spelled)
  where
    same_behind : (m x y : List ℕ) → m ++ x ≡ m ++ y → x ≡ y
    same_behind m x y same = sym (drop-append_seam m x) ∙ ap (drop (length m)) same
        ∙ drop-append_seam m y
