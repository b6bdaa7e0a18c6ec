-- The postings of a name stand together, and two searches find where.
use Rattle.std.proofs.Common.{◌≡◌, ℕ, zero, suc, ◌+◌, ◌<◌, ◌≤◌, Bool, true, false, List, [], ◌∷◌, length, get_or, take, drop, filter, refl, sym, ap, ◌∙◌, arith, true≢false}
use Rattle.std.specs.Prelude.{bytes_eq}
use Rattle.std.specs.List.Sorted.{IsNonDecreasingBy, IsPartitionedBy, IsPartitionPoint}
use Rattle.std.specs.Ordering.{is_lt, is_eq, ordering_index, ordering_then}
use Rattle.std.specs.Cmp.Lexicographic.{texts_ties}
use Rattle.std.specs.declared.cmp.Ordering.{Ordering}
use Rattle.std.specs.declared.cmp.Ordering.TheVariants.{Less, Equal, Greater}
use Rattle.std.proofs.lemmas.Cmp.{nat_list_cmp_total}
use Rattle.std.proofs.lemmas.List.{get_or-drop, length-drop}
use Rattle.std.proofs.lemmas.List.Sorted.{IsNonDecreasingBy-drop, searchable_from_sorted}
use Rattle.vm_labels.specs.Labels.{is_below, text_cmp}
use Rattle.vm_index.specs.declared.posting.Posting.{Posting}
use Rattle.vm_index.specs.Index.{PostingsRise}
use Rattle.vm_index.proofs.LookupLaws.{sorted_by}

-- ---- where a test holds from one place up to another

filtered_front : {X : Type 0} (p : X → Bool) (xs : List X) (n : ℕ) → n ≤ length xs
    → ((k : ℕ) (d : X) → k < n → p (get_or xs k d) ≡ true)
    → ((k : ℕ) (d : X) → n ≤ k → k < length xs → p (get_or xs k d) ≡ false)
    → take n xs ≡ filter p xs
filtered_front p [] zero within low high = refl
filtered_front p [] (suc n) within low high = absurd (omega arith)
filtered_front p (x ∷ xs) zero within low high =
    let apart : p x ≡ false = high 0 x (omega arith) (omega arith) in
    rw apart
    (filtered_front p xs zero (omega arith) (λ k d below. absurd (omega arith))
    (λ k d from below. high (suc k) d (omega arith) (omega arith)))
filtered_front p (x ∷ xs) (suc n) within low high =
    let here : p x ≡ true = low 0 x (omega arith) in
    rw here (ap (λ ys. x ∷ ys)
    (filtered_front p xs n (omega arith) (λ k d below. low (suc k) d (omega arith))
    (λ k d from below. high (suc k) d (omega arith) (omega arith))))

filtered_behind : {X : Type 0} (p : X → Bool) (xs : List X) (n : ℕ) → n ≤ length xs
    → ((k : ℕ) (d : X) → k < n → p (get_or xs k d) ≡ false)
    → filter p (drop n xs) ≡ filter p xs
filtered_behind p xs zero within low = refl
filtered_behind p [] (suc n) within low = absurd (omega arith)
filtered_behind p (x ∷ xs) (suc n) within low =
    let apart : p x ≡ false = low 0 x (omega arith) in
    rw apart (filtered_behind p xs n (omega arith) (λ k d below. low (suc k) d (omega arith)))

-- ---- how the names of postings compare with a name

abbrev beside : List ℕ → Posting → Ordering
beside name q = text_cmp q.pair.name name

abbrev pub is_before : List ℕ → Posting → Bool
is_before name q = is_below q.pair.name name

abbrev pub is_of : List ℕ → Posting → Bool
is_of name q = bytes_eq q.pair.name name

searchable : (name : List ℕ) (qs : List Posting) → PostingsRise qs
    → IsNonDecreasingBy (λ q. ordering_index (beside name q)) qs
searchable name qs up =
    searchable_from_sorted nat_list_cmp_total (λ (q : Posting). q.pair.name) qs name
    (λ k d from within.
    first (text_cmp (get_or qs (k + 1) d).pair.name (get_or qs k d).pair.name)
    (text_cmp (get_or qs (k + 1) d).pair.value (get_or qs k d).pair.value)
    (sorted_by qs up k d from within))
  where
    first : (o r : Ordering) → is_lt (ordering_then o r) ≡ false → is_lt o ≡ false
    first Less r h = h
    first Equal r h = refl
    first Greater r h = refl

-- ---- what the two searches ask

pub before_parts : (name : List ℕ) (qs : List Posting) → PostingsRise qs
    → IsPartitionedBy (is_before name) qs
before_parts name qs up i j d upto within low =
    lower (beside name (get_or qs i d)) (beside name (get_or qs j d))
    (searchable name qs up i j d upto within) low
  where
    lower : (o r : Ordering) → ordering_index o ≤ ordering_index r → is_lt r ≡ true → is_lt o ≡ true
    lower Less r upto h = refl
    lower Equal Less upto h = absurd (omega arith)
    lower Equal Equal upto h = h
    lower Equal Greater upto h = h
    lower Greater Less upto h = absurd (omega arith)
    lower Greater Equal upto h = h
    lower Greater Greater upto h = h

pub of_parts : (name : List ℕ) (qs : List Posting) (n : ℕ) → PostingsRise qs
    → ((k : ℕ) (d : Posting) → n ≤ k → k < length qs → is_before name (get_or qs k d) ≡ false)
    → IsPartitionedBy (is_of name) (drop n qs)
of_parts name qs n up from i j d upto within same =
    let rising =
    IsNonDecreasingBy-drop (λ q. ordering_index (beside name q)) n qs (searchable name qs up) i
    j d upto within in
    let low : is_lt (beside name (get_or (drop n qs) i d)) ≡ false =
    ap (is_before name) (get_or-drop n qs i d)
    ∙ from (n + i) d (omega arith) (omega (arith, length-drop n qs)) in
    texts_ties (get_or (drop n qs) i d).pair.name name
    ∙ middle (beside name (get_or (drop n qs) i d)) (beside name (get_or (drop n qs) j d)) rising
    low (sym (texts_ties (get_or (drop n qs) j d).pair.name name) ∙ same)
  where
    middle : (o r : Ordering) → ordering_index o ≤ ordering_index r → is_lt o ≡ false
        → is_eq r ≡ true → is_eq o ≡ true
    middle Less r upto low h = absurd (true≢false low)
    middle Equal r upto low h = refl
    middle Greater Less upto low h = absurd (omega arith)
    middle Greater Equal upto low h = absurd (omega arith)
    middle Greater Greater upto low h = h

-- ---- what they find

pub run_is : (name : List ℕ) (qs : List Posting) (n m : ℕ) → n ≤ length qs → m ≤ length (drop n qs)
    → IsPartitionPoint (λ q. is_before name q ≡ true) (λ q. is_before name q ≡ false) qs n
    → IsPartitionPoint (λ q. is_of name q ≡ true) (λ q. is_of name q ≡ false) (drop n qs) m
    → take m (drop n qs) ≡ filter (is_of name) qs
run_is name qs n m within inside before of =
    filtered_front (is_of name) (drop n qs) m inside (λ k d below. of.0 k d (omega arith) below)
    (λ k d from below. of.1 k d from below)
    ∙ filtered_behind (is_of name) qs n within
    (λ k d below. texts_ties (get_or qs k d).pair.name name
    ∙ apart (beside name (get_or qs k d)) (before.0 k d (omega arith) below))
  where
    apart : (o : Ordering) → is_lt o ≡ true → is_eq o ≡ false
    apart Less h = refl
    apart Equal h = absurd (true≢false (sym h))
    apart Greater h = refl
