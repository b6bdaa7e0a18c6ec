-- A table breaks at one place at most, and nowhere where it is the table of label sets.
use Rattle.std.proofs.Common.{◌≡◌, ◌⊎◌, ℕ, ◌+◌, ◌-◌, ◌^◌, ◌<◌, ◌≤◌, true, false, cond, List, [], ◌∷◌, ◌++◌, length, length-append, take, drop, append_assoc, Some, None, Result, Ok, Err, nat_lt, refl, sym, ap, ap₂, ◌∙◌, subst, arith, true≢false, inl, inr, ⊎_elim}
use Rattle.std.specs.Prelude.{◌==◌, bytes_eq}
use Rattle.std.specs.List.{AllByRecursion, concat, list_all}
use Rattle.std.specs.Int.{w32, to_be_bytes, from_be_bytes}
use Rattle.std.specs.Option.{option_map_or}
use Rattle.std.proofs.lemmas.Bool.Decides.{nat_tests}
use Rattle.std.proofs.lemmas.List.{append-nil}
use Rattle.std.proofs.lemmas.Slice.Eq.{bytes_eq-Decides}
use Rattle.std.proofs.lemmas.Nat.{from_be_bytes-to_be_bytes_4}
use Rattle.std.proofs.Math.Seq.{drop-append_seam, take-append_seam}
use Rattle.vm_labels.specs.Bytes.{HasBytes, label_set_bytes, label_set_of, ◌>>=◌}
use Rattle.vm_labels.specs.declared.pair.Pair.{Pair}
use Rattle.vm_labels.proofs.OrderLaws.{and_true}
use Rattle.vm_labels.proofs.ReadLaws.{one_spelling, set_again}
use Rattle.vm_index.specs.Bytes.{framed, postings_bytes, postings_fields, table_bytes}
use Rattle.vm_index.specs.Index.{AreSets, SetsRise, is_set_below, postings_of}
use Rattle.vm_index.specs.Reading.{IsTable, BreaksBehind, left_over, no_length, past_the_end, no_set, no_rise, TableBreaks, TableFault, IsRefused, behind, behind_all, first_off, frame_len, off_place}
use Rattle.vm_index.specs.declared.fault.IndexFault.{IndexFault}
use Rattle.vm_index.specs.declared.fault.IndexFault.TheVariants.{BrokenTable, BrokenPostings, Memory}
use Rattle.vm_index.proofs.BytesLaws.{set_fits}

abbrev Sets : Type 0
Sets = List (List Pair)

-- ---- the set at the front

one_front : (a b : List Pair) (x y : List ℕ) → HasBytes a → HasBytes b → framed a ++ x ≡ framed b
    ++ y → (a ≡ b) × (x ≡ y)
one_front a b x y has other same = one_spelling a b x y has other (ap (drop 4) same)

frame_none_at : (ys : List ℕ) → length ys < 4 → frame_len ys ≡ None
frame_none_at ys short =
    let a : nat_lt (length ys) 4 ≡ true = grind (arith, nat_tests) in
    rw a refl

-- a length that stands there, and so many bytes after it or less
frame_past : (n : ℕ) (more : List ℕ) → n < 2 ^ 32 → length more < n
    → frame_len (to_be_bytes w32 n ++ more) ≡ None
frame_past n more small past =
    let a : nat_lt (length (to_be_bytes w32 n ++ more)) 4 ≡ false = grind (arith, nat_tests) in
    let is : from_be_bytes w32 (take 4 (to_be_bytes w32 n ++ more)) ≡ n =
    from_be_bytes-to_be_bytes_4 n small in
    let b : nat_lt (length more) n ≡ true = grind (arith, nat_tests) in
    rw (a, is, b) refl

frame_here : (n : ℕ) (more : List ℕ) → n < 2 ^ 32 → n ≤ length more
    → frame_len (to_be_bytes w32 n ++ more) ≡ Some n
frame_here n more small within =
    let a : nat_lt (length (to_be_bytes w32 n ++ more)) 4 ≡ false = grind (arith, nat_tests) in
    let is : from_be_bytes w32 (take 4 (to_be_bytes w32 n ++ more)) ≡ n =
    from_be_bytes-to_be_bytes_4 n small in
    let b : nat_lt (length more) n ≡ false = grind (arith, nat_tests) in
    rw (a, is, b) refl

-- ---- the place after some sets

-- where the set at the front breaks, or doesn't rise
abbrev place_in : Result (List Pair) ℕ → ℕ
place_in (Ok set) = 4
place_in (Err at) = 4 + at

abbrev place_by : ℕ → List ℕ → ℕ
place_by due rest =
    cond (due == 0) 0
    (option_map_or (λ n. place_in (label_set_of (take n (drop 4 rest)))) (frame_len rest) 0)

place_framed : (due : ℕ) (bytes more rest : List ℕ) → 0 < due → length bytes < 2 ^ 32
    → rest ≡ to_be_bytes w32 (length bytes) ++ (bytes ++ more)
    → place_by due rest ≡ place_in (label_set_of bytes)
place_framed due bytes more rest some small parts =
    let a : (due == 0) ≡ false = grind (arith, nat_tests) in
    let b : frame_len (to_be_bytes w32 (length bytes) ++ (bytes ++ more)) ≡ Some (length bytes) =
    frame_here (length bytes) (bytes ++ more) small (omega (arith, length-append bytes more)) in
    ap (place_by due) parts
    ∙ ap (λ z.
    cond z 0
    (option_map_or (λ n. place_in (label_set_of (take n (bytes ++ more))))
    (frame_len (to_be_bytes w32 (length bytes) ++ (bytes ++ more))) 0)) a
    ∙ ap (λ o. option_map_or (λ n. place_in (label_set_of (take n (bytes ++ more)))) o 0) b
    ∙ ap (λ bs. place_in (label_set_of bs)) (take-append_seam bytes more)

place_is : (sets : Sets) (due : ℕ) (rest : List ℕ) (p : ℕ) → BreaksBehind sets due rest p
    → p ≡ place_by due rest
place_is sets due rest p (left_over none some) =
    let a : (due == 0) ≡ true = grind (arith, nat_tests) in
    rw a refl
place_is sets due rest p (no_length some short) =
    let a : (due == 0) ≡ false = grind (arith, nat_tests) in
    rw (a, frame_none_at rest short) refl
place_is sets due rest p (past_the_end n more some small parts past) =
    let a : (due == 0) ≡ false = grind (arith, nat_tests) in
    let b : frame_len rest ≡ None = ap frame_len parts ∙ frame_past n more small past in
    rw (a, b) refl
place_is sets due rest p (no_set bytes more at some small parts fault) =
    sym (place_framed due bytes more rest some small parts ∙ ap place_in fault)
place_is sets due rest p (no_rise set more some has parts falls) =
    sym (place_framed due (label_set_bytes set) more rest some (set_fits set has.limits)
    (parts ∙ append_assoc (to_be_bytes w32 (length (label_set_bytes set))) (label_set_bytes set)
    more) ∙ ap place_in (set_again set has))

-- ---- what breaks after sets is no set that could stand there

differ : (set : List Pair) (at : ℕ) → HasBytes set → label_set_of (label_set_bytes set) ≡ Err at → ⊥
differ set at has fault = let both : Ok set ≡ Err at = sym (set_again set has) ∙ fault in cc

no_next : (sets : Sets) (due : ℕ) (rest : List ℕ) (p : ℕ) (set : List Pair) (more : List ℕ)
    → BreaksBehind sets due rest p → 0 < due → HasBytes set
    → rest ≡ framed set ++ more → list_all (λ s. is_set_below s set) sets ≡ true → ⊥
no_next sets due rest p set more (left_over none some) wanted has is rises = omega arith
no_next sets due rest p set more (no_length some short) wanted has is rises =
    omega (arith, ap length is)
no_next sets due rest p set more (past_the_end n others some small parts past) wanted has is rises =
    let bytes = label_set_bytes set in
    let here : frame_len rest ≡ Some (length bytes) =
    ap frame_len (is ∙ append_assoc (to_be_bytes w32 (length bytes)) bytes more)
    ∙ frame_here (length bytes) (bytes ++ more) (set_fits set has.limits)
    (omega (arith, length-append bytes more)) in
    let none : frame_len rest ≡ None = ap frame_len parts ∙ frame_past n others small past in
    let both : Some (length bytes) ≡ None = sym here ∙ none in
    cc
no_next sets due rest p set more (no_set bytes others at some small parts fault) wanted has is
    rises =
    let mine = label_set_bytes set in
    let whole : to_be_bytes w32 (length bytes) ++ (bytes ++ others) ≡ to_be_bytes w32 (length mine)
    ++ (mine ++ more) =
    sym parts ∙ is ∙ append_assoc (to_be_bytes w32 (length mine)) mine more in
    let a : frame_len (to_be_bytes w32 (length bytes) ++ (bytes ++ others)) ≡ Some (length bytes) =
    frame_here (length bytes) (bytes ++ others) small (omega (arith, length-append bytes others)) in
    let b : frame_len (to_be_bytes w32 (length mine) ++ (mine ++ more)) ≡ Some (length mine) =
    frame_here (length mine) (mine ++ more) (set_fits set has.limits)
    (omega (arith, length-append mine more)) in
    let long : Some (length bytes) ≡ Some (length mine) = sym a ∙ ap frame_len whole ∙ b in
    let n : length bytes ≡ length mine = cc in
    let same : bytes ≡ mine =
    sym (take-append_seam bytes others) ∙ ap₂ take n (ap (drop 4) whole)
    ∙ take-append_seam mine more in
    differ set at has (ap label_set_of (sym same) ∙ fault)
no_next sets due rest p set more (no_rise other others some had parts falls) wanted has is rises =
    let front = one_front other set others more had has (sym parts ∙ is) in
    true≢false (sym rises ∙ ap (λ r. list_all (λ s. is_set_below s r) sets) (sym front.0) ∙ falls)

-- ---- the sets that two tables have in common

-- one of two lists goes on after the other, and so do the bytes
common : (us bs : Sets) (x y : List ℕ) → AllByRecursion HasBytes us → AllByRecursion HasBytes bs
    → table_bytes us ++ x ≡ table_bytes bs ++ y
    → ((more : Sets) × (bs ≡ us ++ more) × (x ≡ table_bytes more ++ y))
    ⊎ ((more : Sets) × (us ≡ bs ++ more) × (y ≡ table_bytes more ++ x))
common [] bs x y all others same = inl (bs, refl, same)
common (a ∷ us) [] x y all others same = inr (a ∷ us, refl, sym same)
common (a ∷ us) (b ∷ bs) x y all others same =
    let front = one_front a b (table_bytes us ++ x) (table_bytes bs ++ y) all.0 others.0
    (sym (append_assoc (framed a) (table_bytes us) x) ∙ same
    ∙ append_assoc (framed b) (table_bytes bs) y) in
    ⊎_elim
    (λ m. inl (m.0, ap₂ ◌∷◌ (sym front.0) m.1, m.2))
    (λ m. inr (m.0, ap₂ ◌∷◌ front.0 m.1, m.2))
    (common us bs x y all.1 others.1 front.1)

all_right : {X : Type 0} (P : X → Type 0) (xs ys : List X) → AllByRecursion P (xs ++ ys)
    → AllByRecursion P ys
all_right P [] ys all = all
all_right P (x ∷ xs) ys all = all_right P xs ys all.1

rises_there : (us : Sets) (c : List Pair) (more : Sets) → SetsRise (us ++ c ∷ more)
    → list_all (λ s. is_set_below s c) us ≡ true
rises_there [] c more up = refl
rises_there (a ∷ us) c more up =
    and_true (is_set_below a c) (list_all (λ s. is_set_below s c) us)
    (all_right (λ s. is_set_below a s ≡ true) us (c ∷ more) up.0).0 (rises_there us c more up.1)

-- a set that stands after those before it isn't where a table breaks
no_more :
    (count : ℕ) (table : List ℕ) (p : ℕ) (b : TableBreaks count table p) (c : List Pair)
    (more sets : Sets) (y : List ℕ) → AreSets sets → length sets ≤ count
    → sets ≡ b.sets ++ c ∷ more → b.rest ≡ table_bytes (c ∷ more) ++ y → ⊥
no_more count table p b c more sets y are few is rest =
    let all = subst AreSets is are in
    no_next b.sets (count - length b.sets) b.rest b.place c (table_bytes more ++ y) b.broken
    (omega (arith, few, ap length is, length-append b.sets (c ∷ more)))
    (all_right HasBytes b.sets (c ∷ more) all.written).0
    (rest ∙ append_assoc (framed c) (table_bytes more) y) (rises_there b.sets c more all.rising)

-- ---- one place

same_place :
    (count : ℕ) (table : List ℕ) (p q : ℕ) (a : TableBreaks count table p)
    (b : TableBreaks count table q) (more : Sets)
    → b.sets ≡ a.sets ++ more → a.rest ≡ table_bytes more ++ b.rest → p ≡ q
same_place count table p q a b [] is rest =
    let same : a.sets ≡ b.sets = sym (is ∙ append-nil a.sets) in
    let places : a.place ≡ b.place =
    place_is a.sets (count - length a.sets) a.rest a.place a.broken
    ∙ ap₂ (λ s r. place_by (count - length s) r) same rest
    ∙ sym (place_is b.sets (count - length b.sets) b.rest b.place b.broken) in
    a.is ∙ ap₂ (λ (s : Sets) n. length (table_bytes s) + n) same places ∙ sym b.is
same_place count table p q a b (c ∷ more) is rest =
    absurd (no_more count table p a c more b.sets b.rest b.labels b.few is rest)

-- a table breaks at one place
pub one_place : (count : ℕ) (table : List ℕ) (p q : ℕ) → TableBreaks count table p
    → TableBreaks count table q → p ≡ q
one_place count table p q a b =
    ⊎_elim
    (λ m. same_place count table p q a b m.0 m.1 m.2)
    (λ m. sym (same_place count table q p b a m.0 m.1 m.2))
    (common a.sets b.sets a.rest b.rest a.labels.written b.labels.written (sym a.parts ∙ b.parts))

nothing_breaks : (sets : Sets) (due : ℕ) (rest : List ℕ) (p : ℕ) → BreaksBehind sets due rest p
    → due ≡ 0 → rest ≡ [] → ⊥
nothing_breaks sets due rest p (left_over none some) done empty = omega (arith, ap length empty)
nothing_breaks sets due rest p (no_length some short) done empty = omega arith
nothing_breaks sets due rest p (past_the_end n more some small parts past) done empty = omega arith
nothing_breaks sets due rest p (no_set bytes more at some small parts fault) done empty =
    omega arith
nothing_breaks sets due rest p (no_rise set more some has parts falls) done empty = omega arith

-- and none where it is the table of label sets
pub table_is_sound : (count : ℕ) (table : List ℕ) (sets : Sets) (p : ℕ) → IsTable count table sets
    → TableBreaks count table p → ⊥
table_is_sound count table sets p is b =
    ⊎_elim
    (λ m. further m.0 m.1 m.2)
    (λ m. shorter m.0 m.1 m.2)
    (common b.sets sets b.rest [] b.labels.written is.labels.written
    (sym b.parts ∙ is.spelled ∙ sym (append-nil (table_bytes sets))))
  where
    further : (more : Sets) → sets ≡ b.sets ++ more → b.rest ≡ table_bytes more ++ [] → ⊥
    further [] same rest =
        nothing_breaks b.sets (count - length b.sets) b.rest b.place b.broken
        (omega (arith, is.many, ap length same, ap length (append-nil b.sets))) rest
    further (c ∷ more) same rest =
        no_more count table p b c more sets [] is.labels (omega (arith, is.many)) same rest

    shorter : (more : Sets) → b.sets ≡ sets ++ more → [] ≡ table_bytes more ++ b.rest → ⊥
    shorter [] same rest =
        nothing_breaks b.sets (count - length b.sets) b.rest b.place b.broken
        (omega (arith, is.many, ap length same, ap length (append-nil sets))) (sym rest)
    shorter (c ∷ more) same rest =
        omega (arith, is.many, ap length same, length-append sets (c ∷ more), b.few)

-- a table is that of one list of label sets
pub one_table : (count : ℕ) (table : List ℕ) (us bs : Sets) → IsTable count table us
    → IsTable count table bs → us ≡ bs
one_table count table us bs a b =
    ⊎_elim
    (λ m. sym (ends us bs m.0 m.1 (a.many ∙ sym b.many)))
    (λ m. ends bs us m.0 m.1 (b.many ∙ sym a.many))
    (common us bs [] [] a.labels.written b.labels.written
    (append-nil (table_bytes us) ∙ sym a.spelled ∙ b.spelled
    ∙ sym (append-nil (table_bytes bs))))
  where
    ends : (xs ys more : Sets) → ys ≡ xs ++ more → length xs ≡ length ys → ys ≡ xs
    ends xs ys [] is long = is ∙ append-nil xs
    ends xs ys (c ∷ more) is long =
        absurd (omega (arith, long, ap length is, length-append xs (c ∷ more)))

-- ---- what is accepted

behind_here : (f rest : List ℕ) → behind f (f ++ rest) ≡ Ok rest
behind_here f rest =
    let a : bytes_eq (take (length f) (f ++ rest)) f ≡ true =
    (bytes_eq-Decides (take (length f) (f ++ rest)) f).1 (take-append_seam f rest) in
    rw a (ap Ok (drop-append_seam f rest))

all_here : (fs : List (List ℕ)) → behind_all fs (concat fs) ≡ Ok []
all_here [] = refl
all_here (f ∷ fs) = ap (λ r. r >>= behind_all fs) (behind_here f (concat fs)) ∙ all_here fs

-- of a table and its postings no fault is told but that memory ran out
pub only_memory : (count : ℕ) (table postings : List ℕ) (sets : Sets) (fault : IndexFault)
    → IsTable count table sets → postings ≡ postings_bytes (postings_of sets)
    → IsRefused count table postings fault → fault ≡ Memory
only_memory count table postings sets Memory is spelled why = refl
only_memory count table postings sets (BrokenTable at) is spelled why =
    absurd (table_is_sound count table sets at is why)
only_memory count table postings sets (BrokenPostings at) is spelled why =
    let fields = postings_fields (postings_of sets) in
    let same : why.0 ≡ sets = one_table count table why.0 sets why.1 is in
    let off : first_off fields postings ≡ Some at =
    ap (λ s. first_off (postings_fields (postings_of s)) postings) (sym same) ∙ why.2 in
    let sound : first_off fields postings ≡ None = ap (first_off fields) spelled
    ∙ ap (off_place (length (concat fields))) (all_here fields) in
    let both : Some at ≡ None = sym off ∙ sound in
    absurd cc

-- a table that is refused is refused beside its postings too
pub refused : (count : ℕ) (table postings : List ℕ) (fault : IndexFault)
    → TableFault count table fault → IsRefused count table postings fault
refused count table postings Memory why = tt
refused count table postings (BrokenTable at) why = why
refused count table postings (BrokenPostings at) why = absurd why

-- ---- one refusal

one_postings : (count : ℕ) (table postings : List ℕ) (p q : ℕ)
    → IsRefused count table postings (BrokenPostings p)
    → IsRefused count table postings (BrokenPostings q) → p ≡ q
one_postings count table postings p q a b =
    let same : a.0 ≡ b.0 = one_table count table a.0 b.0 a.1 b.1 in
    let both : Some p ≡ Some q = sym a.2
    ∙ ap (λ s. first_off (postings_fields (postings_of s)) postings) same ∙ b.2 in
    cc

-- of bytes one fault is told, unless memory ran out
pub one_refusal : (count : ℕ) (table postings : List ℕ) (f g : IndexFault)
    → IsRefused count table postings f → IsRefused count table postings g
    → (f ≡ Memory) ⊎ (g ≡ Memory) ⊎ (f ≡ g)
one_refusal count table postings Memory g a b = inl refl
one_refusal count table postings (BrokenTable p) Memory a b = inr (inl refl)
one_refusal count table postings (BrokenTable p) (BrokenTable q) a b =
    inr (inr (ap BrokenTable (one_place count table p q a b)))
one_refusal count table postings (BrokenTable p) (BrokenPostings q) a b =
    absurd (table_is_sound count table b.0 p b.1 a)
one_refusal count table postings (BrokenPostings p) Memory a b = inr (inl refl)
one_refusal count table postings (BrokenPostings p) (BrokenTable q) a b =
    absurd (table_is_sound count table a.0 q a.1 b)
one_refusal count table postings (BrokenPostings p) (BrokenPostings q) a b =
    inr (inr (ap BrokenPostings (one_postings count table postings p q a b)))
