-- How long the bytes of label sets are, and one item more of a loop that writes.
use Rattle.std.proofs.Common.{◌≡◌, ℕ, suc, ◌+◌, ◌*◌, ◌^◌, ◌<◌, ◌≤◌, Bool, true, false, cond, not, ◌||◌, List, [], ◌∷◌, ◌++◌, length, length-append, get_or, take, map, flat_map, append_assoc, Option, Some, None, option_map, eqb, ltb, refl, sym, ap, ◌∙◌, arith, true≢false}
use Rattle.std.specs.Prelude.{position}
use Rattle.std.specs.List.{AllByRecursion, prefix_len, concat, dedup}
use Rattle.std.specs.Int.{w16, to_be_bytes}
use Rattle.std.proofs.lemmas.Bool.{ltb-false}
use Rattle.std.proofs.lemmas.List.{take_more, map-append}
use Rattle.std.proofs.lemmas.List.Folds.{concat-append}
use Rattle.std.proofs.lemmas.List.Concat.{flat_map-append}
use Rattle.vm_labels.specs.Labels.{limit_of, is_too_long, pair_eq, is_in_pair_order}
use Rattle.vm_labels.specs.Bytes.{text_bytes, pair_bytes, label_set_bytes}
use Rattle.vm_labels.specs.declared.pair.Pair.{Pair}
use Rattle.vm_labels.specs.declared.fault.LimitFault.TheVariants.{NoLabel, TooMany, TooLong}
use Rattle.vm_base.specs.Sorted.{put_in, sorted}
use Rattle.vm_index.specs.declared.posting.Posting.{Posting}
use Rattle.vm_index.specs.Index.{KeepLimits, pairs_of, posting_of, postings_of}
use Rattle.vm_index.proofs.ListLaws.{all_append}
use Rattle.vm_index.proofs.DistinctLaws.{all_deduped}

-- ---- limits

all_prefix : {X : Type 0} (q : X → Bool) (xs : List X) → length xs ≤ prefix_len q xs
    → AllByRecursion (λ x. q x ≡ true) xs
all_prefix q [] h = tt
all_prefix q (x ∷ xs) h = go (q x) refl h (all_prefix q xs)
  where
    go : (b : Bool) → q x ≡ b → suc (length xs) ≤ cond b (1 + prefix_len q xs) 0
        → (length xs ≤ prefix_len q xs → AllByRecursion (λ y. q y ≡ true) xs)
        → AllByRecursion (λ y. q y ≡ true) (x ∷ xs)
    go true passes long more = (passes, more (omega arith))
    go false fails long more = absurd (omega arith)

abbrev pub Short : Pair → Type 0
Short p = is_too_long p ≡ false

short_all : (set : List Pair) → position is_too_long set ≡ None → AllByRecursion Short set
short_all set none = go (ltb (prefix_len (λ p. not (is_too_long p)) set) (length set)) refl none
  where
    negated : (b : Bool) → not b ≡ true → b ≡ false
    negated true h = absurd (true≢false (sym h))
    negated false h = refl

    each : (ps : List Pair) → AllByRecursion (λ p. not (is_too_long p) ≡ true) ps
        → AllByRecursion Short ps
    each [] all = tt
    each (p ∷ ps) all = (negated (is_too_long p) all.0, each ps all.1)

    go : (b : Bool) → ltb (prefix_len (λ p. not (is_too_long p)) set) (length set) ≡ b
        → cond b (Some (prefix_len (λ p. not (is_too_long p)) set)) None ≡ None
        → AllByRecursion Short set
    go true h none = absurd cc
    go false h none = each set (all_prefix (λ p. not (is_too_long p)) set (ltb-false _ _ h))

pub record Within (set : List Pair) : Type 0 where
  pub few : length set ≤ 40
  pub short : AllByRecursion Short set

pub within : (set : List Pair) → limit_of set ≡ None → Within set
within set h = go (eqb (length set) 0) (ltb 40 (length set)) (position is_too_long set) refl refl h
  where
    go : (empty many : Bool) (long : Option ℕ) → ltb 40 (length set) ≡ many
        → position is_too_long set ≡ long
        → cond empty (Some NoLabel)
        (cond many (Some (TooMany (length set))) (option_map TooLong long)) ≡ None → Within set
    go true many long b c none = absurd cc
    go false true long b c none = absurd cc
    go false false (Some i) b c none = absurd cc
    go false false None b c none =
        record { few = ltb-false 40 (length set) b; short = short_all set c }

either_false : (a b : Bool) → (a || b) ≡ false → (a ≡ false) × (b ≡ false)
either_false true b h = absurd (true≢false h)
either_false false b h = (refl, h)

pub short_texts : (p : Pair) → is_too_long p ≡ false → (length p.name ≤ 256)
    × (length p.value ≤ 4096)
short_texts p h =
    let both = either_false (ltb 256 (length p.name)) (ltb 4096 (length p.value)) h in
    (ltb-false 256 (length p.name) both.0, ltb-false 4096 (length p.value) both.1)

-- ---- lengths

two : (n : ℕ) → length (to_be_bytes w16 n) ≡ 2
two n = refl

text_long : (text : List ℕ) → length (text_bytes text) ≡ 2 + length text
text_long text =
    omega (arith, length-append (to_be_bytes w16 (length text)) text, two (length text))

pair_long : (p : Pair) → is_too_long p ≡ false → length (pair_bytes p) ≤ 4356
pair_long p h =
    omega (
      arith,
      length-append (text_bytes p.name) (text_bytes p.value),
      text_long p.name,
      text_long p.value,
      (short_texts p h).0,
      (short_texts p h).1,
    )

pairs_long : (ps : List Pair) → AllByRecursion Short ps
    → length (flat_map pair_bytes ps) ≤ 4356 * length ps
pairs_long [] all = omega arith
pairs_long (p ∷ ps) all =
    omega (
      arith,
      length-append (pair_bytes p) (flat_map pair_bytes ps),
      pair_long p all.0,
      pairs_long ps all.1,
    )

pub set_fits : (set : List Pair) → limit_of set ≡ None → length (label_set_bytes set) < 2 ^ 32
set_fits set limits =
    let w = within set limits in
    omega (
      arith,
      length-append (to_be_bytes w16 (length set)) (flat_map pair_bytes set),
      two (length set),
      pairs_long set w.short,
      w.few,
    )

-- ---- what is short stays so in postings

all_put_in : (x : Pair) (ys : List Pair) → Short x → AllByRecursion Short ys
    → AllByRecursion Short (put_in is_in_pair_order x ys)
all_put_in x [] h all = (h, tt)
all_put_in x (y ∷ ys) h all =
    elim (is_in_pair_order x y) as (λ b.
    AllByRecursion Short (cond b (x ∷ y ∷ ys) (y ∷ put_in is_in_pair_order x ys)))
    [ true ↦ (h, all) | false ↦ (all.0, all_put_in x ys h all.1) ]

all_sorted : (xs : List Pair) → AllByRecursion Short xs
    → AllByRecursion Short (sorted is_in_pair_order xs)
all_sorted [] all = tt
all_sorted (x ∷ xs) all = all_put_in x (sorted is_in_pair_order xs) all.0 (all_sorted xs all.1)

all_dedup : (xs : List Pair) → AllByRecursion Short xs → AllByRecursion Short (dedup pair_eq xs)
all_dedup [] all = tt
all_dedup (x ∷ xs) all = all_deduped pair_eq Short x xs all.0 all.1

all_sets : (sets : List (List Pair)) → KeepLimits sets
    → AllByRecursion Short (flat_map (λ set. set) sets)
all_sets [] limits = tt
all_sets (set ∷ sets) limits =
    all_append Short set (flat_map (λ s. s) sets) (within set limits.0).short
    (all_sets sets limits.1)

pub short_postings : (sets : List (List Pair)) → KeepLimits sets
    → AllByRecursion (λ (q : Posting). is_too_long q.pair ≡ false) (postings_of sets)
short_postings sets limits =
    each (pairs_of sets)
    (all_dedup (sorted is_in_pair_order (flat_map (λ set. set) sets))
    (all_sorted (flat_map (λ set. set) sets) (all_sets sets limits)))
  where
    each : (ps : List Pair) → AllByRecursion Short ps
        → AllByRecursion (λ (q : Posting). is_too_long q.pair ≡ false) (map (posting_of sets) ps)
    each [] all = tt
    each (p ∷ ps) all = (all.0, each ps all.1)

-- ---- a loop's step

append_nil : {A : Type 0} (ys : List A) → ys ++ [] ≡ ys
append_nil [] = refl
append_nil (y ∷ ys) = ap (λ zs. y ∷ zs) (append_nil ys)

pub flat_more : {X A : Type 0} (f : X → List A) (xs : List X) (i : ℕ) (x : X) → i < length xs
    → x ≡ get_or xs i x
    → flat_map f (take (i + 1) xs) ≡ flat_map f (take i xs) ++ f x
flat_more f xs i x within is =
    ap (flat_map f) (take_more xs i x within)
    ∙ flat_map-append f (take i xs) (get_or xs i x ∷ [])
    ∙ ap (λ y. flat_map f (take i xs) ++ flat_map f (y ∷ [])) (sym is)
    ∙ ap (λ zs. flat_map f (take i xs) ++ zs) (append_nil (f x))

pub fields_more : {X : Type 0} (f : X → List (List ℕ)) (head : List ℕ) (xs : List X) (i : ℕ) (x : X)
    → i < length xs → x ≡ get_or xs i x
    → (head ++ concat (flat_map f (take i xs))) ++ concat (f x) ≡ head
    ++ concat (flat_map f (take (i + 1) xs))
fields_more f head xs i x within is =
    append_assoc head (concat (flat_map f (take i xs))) (concat (f x))
    ∙ ap (λ bs. head ++ bs)
    (sym (concat-append (flat_map f (take i xs)) (f x))
    ∙ ap concat (sym (flat_more f xs i x within is)))

pub numbers_more : (f : ℕ → List ℕ) (done head ns : List ℕ) (i : ℕ) → i < length ns
    → (done ++ (head ++ concat (map f (take i ns)))) ++ f (get_or ns i 0) ≡ done
    ++ (head ++ concat (map f (take (i + 1) ns)))
numbers_more f done head ns i within =
    let n = get_or ns i 0 in
    append_assoc done (head ++ concat (map f (take i ns))) (f n)
    ∙ ap (λ bs. done ++ bs)
    (append_assoc head (concat (map f (take i ns))) (f n)
    ∙ ap (λ bs. head ++ bs)
    (ap (λ bs. concat (map f (take i ns)) ++ bs) (sym (append_nil (f n)))
    ∙ sym (concat-append (map f (take i ns)) (f n ∷ []))
    ∙ ap concat
    (sym (map-append f (take i ns) (n ∷ [])) ∙ ap (map f) (sym (take_more ns i 0 within)))))
