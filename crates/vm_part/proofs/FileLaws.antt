-- What the checks of a file say of all of it: where it breaks, or which part it is.
use Rattle.std.proofs.Common.{◌≡◌, ℕ, ◌-◌, ◌^◌, ◌<◌, ◌≤◌, List, [], ◌∷◌, length, Some, None, ap, sym, ◌∙◌, subst, ⊎_elim, arith}
use Rattle.std.specs.List.{sum_by}
use Rattle.std.proofs.lemmas.Bool.{eqb-true}
use Rattle.vm_block.specs.Header.{first_broken}
use Rattle.vm_index.specs.Bytes.{postings_bytes}
use Rattle.vm_index.specs.Index.{postings_of}
use Rattle.vm_index.specs.Reading.{IsTable}
use Rattle.vm_index.proofs.ReadLaws.{IsBytes}
use Rattle.vm_labels.specs.declared.pair.Pair.{Pair}
use Rattle.vm_part.specs.Broken.{Breaks, IsReadFault, end_of, entries_at, footer_at, postings_in, rules, table_in}
use Rattle.vm_part.specs.Broken.Breaks.{wrong_field, in_table, in_postings, in_blocks}
use Rattle.vm_part.specs.inner.Reading.{AreSections, HasAllBlocks, IsBlocksFault, IsFaultOf, IsIndexFault, PlacesRise, entries_section_rules, front_rules}
use Rattle.vm_part.specs.Said.{Says}
use Rattle.vm_part.specs.declared.entry.Entry.{Entry}
use Rattle.vm_part.specs.declared.fault.ReadFault.{ReadFault}
use Rattle.vm_part.specs.declared.fault.ReadFault.TheVariants.{Broken, Memory}
use Rattle.vm_part.specs.declared.footer.Footer.{Footer}
use Rattle.vm_part.proofs.EntryLaws.{AllKeep, all_add_up, all_keep, entries_many, places_rise}
use Rattle.vm_part.proofs.RuleLaws.{broken_front, kept_front}
use Rattle.vm_part.proofs.WholeLaws.{says_all}

-- ---- rules

-- where the front and the footer keep their rules, the entries decide
sections_decide : (at : ℕ) (bytes : List ℕ) → first_broken (front_rules at bytes) ≡ None
    → first_broken (rules at bytes)
    ≡ first_broken (entries_section_rules (footer_at at bytes) bytes)
sections_decide at bytes kept =
    kept_front (front_rules at bytes) (entries_section_rules (footer_at at bytes) bytes) kept

pub footer_fault : (len : ℕ) (bytes : List ℕ) (at : ℕ) → 56 ≤ len
    → first_broken (front_rules (len - 48) bytes) ≡ Some at → Breaks len bytes at
footer_fault len bytes at long broken =
    let foot = len - 48 in
    wrong_field at long
    (broken_front (front_rules foot bytes) (entries_section_rules (footer_at foot bytes) bytes)
    at broken)

pub rules_kept : (at : ℕ) (bytes : List ℕ) (f : Footer) → first_broken (front_rules at bytes) ≡ None
    → f ≡ footer_at at bytes
    → first_broken (entries_section_rules f bytes) ≡ None → first_broken (rules at bytes) ≡ None
rules_kept at bytes f kept f_is all =
    sections_decide at bytes kept
    ∙ ap (λ g. first_broken (entries_section_rules g bytes)) (sym f_is) ∙ all

pub entries_fault : (len : ℕ) (bytes : List ℕ) (f : Footer) (fault : ReadFault) → 56 ≤ len
    → first_broken (front_rules (len - 48) bytes) ≡ None
    → f ≡ footer_at (len - 48) bytes → IsFaultOf (entries_section_rules f bytes) fault
    → IsReadFault len bytes fault
entries_fault len bytes f Memory long kept f_is why = tt
entries_fault len bytes f (Broken at) long kept f_is why =
    wrong_field at long
    (sections_decide (len - 48) bytes kept
    ∙ ap (λ g. first_broken (entries_section_rules g bytes)) (sym f_is) ∙ why)

pub index_fault : (len : ℕ) (bytes : List ℕ) (f : Footer) (fault : ReadFault) → 56 ≤ len
    → first_broken (rules (len - 48) bytes) ≡ None
    → f ≡ footer_at (len - 48) bytes → IsIndexFault (len - 48) f bytes fault
    → IsReadFault len bytes fault
index_fault len bytes f Memory long kept f_is why = tt
index_fault len bytes f (Broken at) long kept f_is why =
    ⊎_elim (λ table.
    subst (Breaks len bytes) (sym table.1) (in_table f table.0 long kept f_is table.2))
    (λ postings.
    subst (Breaks len bytes) (sym postings.1)
    (in_postings f postings.0 long kept f_is postings.2)) why

pub blocks_fault :
    (len : ℕ) (bytes : List ℕ) (f : Footer) (es : List Entry) (sets : List (List Pair))
    (fault : ReadFault) → 56 ≤ len
    → first_broken (rules (len - 48) bytes) ≡ None → f ≡ footer_at (len - 48) bytes
    → IsTable f.series (table_in f bytes) sets
    → postings_in (len - 48) f bytes ≡ postings_bytes (postings_of sets)
    → es ≡ entries_at f.series f.entries_at bytes
    → IsBlocksFault bytes f.entries_at es fault → IsReadFault len bytes fault
blocks_fault len bytes f es sets Memory long kept f_is table postings es_are why = tt
blocks_fault len bytes f es sets (Broken at) long kept f_is table postings es_are why =
    in_blocks f sets at long kept f_is table postings
    (subst (λ xs. IsBlocksFault bytes f.entries_at xs (Broken at)) es_are why)

-- ---- the entries

entries_keep : (bytes : List ℕ) (f : Footer) (es : List Entry)
    → es ≡ entries_at f.series f.entries_at bytes
    → first_broken (entries_section_rules f bytes) ≡ None → AllKeep f.entries_at None es
entries_keep bytes f es es_are all =
    subst (AllKeep f.entries_at None) (sym es_are)
    (all_keep f.entries_at bytes f.rows f.series f.entries_at None 0 all)

rows_are : (bytes : List ℕ) (f : Footer) (es : List Entry) → 1 ≤ f.series
    → es ≡ entries_at f.series f.entries_at bytes
    → first_broken (entries_section_rules f bytes) ≡ None → sum_by (λ e. e.rows) es ≡ f.rows
rows_are bytes f es some es_are all =
    ap (sum_by (λ (e : Entry). e.rows)) es_are
    ∙ all_add_up f.entries_at bytes f.rows f.series f.entries_at some all

pub entries_rise : (bytes : List ℕ) (f : Footer) (es : List Entry)
    → es ≡ entries_at f.series f.entries_at bytes
    → first_broken (entries_section_rules f bytes) ≡ None → PlacesRise f.entries_at es
entries_rise bytes f es es_are all =
    places_rise f.entries_at None es (entries_keep bytes f es es_are all)

first_place : (end : ℕ) (es : List Entry) → 1 ≤ length es → AllKeep end None es → end_of end es ≡ 8
first_place end [] some keep = absurd (omega arith)
first_place end (e ∷ more) some keep = eqb-true e.start 8 keep.0.start

-- ---- the part

pub file_says : (len : ℕ) (bytes : List ℕ) (f : Footer) (es : List Entry) (sets : List (List Pair))
    → IsBytes bytes → length bytes ≤ len → 56 ≤ len
    → f ≡ footer_at (len - 48) bytes → AreSections (len - 48) bytes f
    → es ≡ entries_at f.series f.entries_at bytes
    → first_broken (entries_section_rules f bytes) ≡ None → IsTable f.series (table_in f bytes) sets
    → postings_in (len - 48) f bytes ≡ postings_bytes (postings_of sets)
    → HasAllBlocks bytes f.entries_at es → len < 2 ^ 64 → f.rows < 2 ^ 64
    → Says (record { bytes = bytes; sets = sets; entries = es; rows = f.rows }) (λ all. Unit {0})
file_says len bytes f es sets are within long f_is s es_are all table postings has small few =
    let keep = entries_keep bytes f es es_are all in
    let many : length es ≡ f.series = ap length es_are ∙ entries_many f.series f.entries_at bytes in
    says_all (len - 48) bytes f es sets are (omega (arith, s.whole)) s f_is es_are many
    (first_place f.entries_at es (omega (arith, many, s.some)) keep) keep
    (rows_are bytes f es s.some es_are all) table postings has (omega arith) few

pub file_long : (len : ℕ) (bytes : List ℕ) (f : Footer) → length bytes ≤ len → 56 ≤ len
    → AreSections (len - 48) bytes f → length bytes ≡ len
file_long len bytes f within long s = omega (arith, s.whole)
