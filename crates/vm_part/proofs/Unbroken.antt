-- The bytes of a part break nowhere.
use Rattle.std.proofs.Common.{◌≡◌, ℕ, ◌-◌, ◌≤◌, List, length, flat_map, Some, None, refl, sym, ◌∙◌, subst, arith, length-append}
use Rattle.vm_block.specs.Header.{first_broken}
use Rattle.vm_index.specs.Reading.{IsRefused}
use Rattle.vm_index.specs.declared.fault.IndexFault.{IndexFault}
use Rattle.vm_index.specs.declared.fault.IndexFault.TheVariants.{BrokenPostings, BrokenTable, Memory as NoRoom}
use Rattle.vm_index.proofs.TableLaws.{only_memory}
use Rattle.vm_part.specs.Broken.{Breaks, IsReadFault, SomeBreaks, entries_at, footer_at, postings_in, rules, table_in}
use Rattle.vm_part.specs.Broken.Breaks.{in_blocks, in_postings, in_table, too_short, wrong_field}
use Rattle.vm_part.specs.Part.{IsPart, Stored, front, front_mark, series_bytes, sets_of}
use Rattle.vm_part.specs.declared.fault.ReadFault.{ReadFault}
use Rattle.vm_part.specs.declared.fault.ReadFault.TheVariants.{Broken, Memory}
use Rattle.vm_part.specs.declared.footer.Footer.{Footer}
use Rattle.vm_part.proofs.LayoutLaws.{HasLayout, footer_of, layout}
use Rattle.vm_part.proofs.OnePart.{table_there}
use Rattle.vm_part.proofs.RulesKept.{rules_are_kept}
use Rattle.vm_part.proofs.StandLaws.{none_breaks}

-- its front and its footer have 56 bytes
long_enough : (bytes : List ℕ) (all : List Stored) → HasLayout bytes all → 56 ≤ length bytes
long_enough bytes all has =
    omega (arith, has.long, length-append front_mark (flat_map series_bytes all))

-- its table and its postings are those of its label sets
index_sound : (bytes : List ℕ) (all : List Stored) (f : Footer) (fault : IndexFault)
    → IsPart bytes all → HasLayout bytes all → f ≡ footer_at (length bytes - 48) bytes
    → IsRefused f.series (table_in f bytes) (postings_in (length bytes - 48) f bytes) fault
    → fault ≡ NoRoom
index_sound bytes all f fault is has f_is refused =
    only_memory (footer_of all).series (table_in (footer_of all) bytes)
    (postings_in (length bytes - 48) (footer_of all) bytes) (sets_of all) fault
    (table_there bytes all is has) has.postings
    (subst (λ (g : Footer).
    IsRefused g.series (table_in g bytes) (postings_in (length bytes - 48) g bytes) fault)
    (f_is ∙ has.footer) refused)

pub breaks_nowhere : (bytes : List ℕ) (all : List Stored) (at : ℕ) → IsPart bytes all
    → Breaks (length bytes) bytes at → ⊥
breaks_nowhere bytes all at is breaks = go at breaks
  where
    has : HasLayout bytes all
    has = layout bytes all is

    go : (n : ℕ) → Breaks (length bytes) bytes n → ⊥
    go n (too_short short) = let long = long_enough bytes all has in omega arith
    go n (wrong_field place long broken) =
        let kept : first_broken (rules (length bytes - 48) bytes) ≡ None =
        rules_are_kept bytes all is.stored has in
        let both : None ≡ Some n = sym kept ∙ broken in
        absurd (cc)
    go n (in_table f place long kept f_is refused) =
        let same : BrokenTable place ≡ NoRoom =
        index_sound bytes all f (BrokenTable place) is has f_is refused in
        absurd (cc)
    go n (in_postings f place long kept f_is refused) =
        let same : BrokenPostings place ≡ NoRoom =
        index_sound bytes all f (BrokenPostings place) is has f_is refused in
        absurd (cc)
    go n (in_blocks f sets place long kept f_is table postings some) =
        none_breaks bytes all n is
        (subst (λ es. SomeBreaks bytes (length (front all)) es n) has.entries
        (subst (λ (g : Footer).
        SomeBreaks bytes g.entries_at (entries_at g.series g.entries_at bytes) n)
        (f_is ∙ has.footer) some))

-- so nothing but want of memory keeps a reader from it
pub nothing_but_memory : (len : ℕ) (bytes : List ℕ) (all : List Stored) (fault : ReadFault)
    → IsPart bytes all → length bytes ≡ len
    → IsReadFault len bytes fault → fault ≡ Memory
nothing_but_memory len bytes all Memory is long why = refl
nothing_but_memory len bytes all (Broken at) is long why =
    absurd (breaks_nowhere bytes all at is (subst (λ n. Breaks n bytes at) (sym long) why))
