-- Entries gathered: the pairs that come out, and the ordinals of each.
use Rattle.std.proofs.Common.{◌≡◌, ℕ, suc, ◌+◌, Bool, true, false, cond, ◌<◌, List, [], ◌∷◌, ◌++◌, length, get_or, take, drop, filter, map, append_assoc, refl, sym, ap, ap₂, ◌∙◌, subst, arith, true≢false}
use Rattle.std.specs.List.{AllByRecursion, prefix_len, dedup_from}
use Rattle.std.specs.Ordering.{is_lt}
use Rattle.std.proofs.lemmas.List.{drop-drop}
use Rattle.vm_base.specs.Sorted.{IsUp}
use Rattle.vm_labels.specs.Labels.{pair_cmp, pair_eq, is_in_pair_order}
use Rattle.vm_labels.specs.declared.pair.Pair.{Pair}
use Rattle.vm_labels.proofs.OrderLaws.{pair_eq-Decides, pairs_tied, pair_cmp-total}
use Rattle.vm_index.specs.declared.posting.Posting.{Posting}
use Rattle.vm_index.specs.inner.Entries.{put_entry, gathered}
use Rattle.vm_index.proofs.DistinctLaws as distinct
use Rattle.vm_index.proofs.DistinctLaws.{begun}
use Rattle.vm_index.proofs.ListLaws.{all_more, filter_none}

abbrev Seen : Type 0
Seen = Pair × ℕ

abbrev posting : Pair → List ℕ → Posting
posting p ns = record { pair = p; ordinals = ns }

pub same_pair : (p q : Pair) → p ≡ q → pair_eq p q ≡ true
same_pair p q = (pair_eq-Decides p q).1

-- ---- the first group

module _ {E : Type 0} (f : E → Pair × ℕ) where
  -- how many entries at the front are of a pair
  abbrev group : Pair → List E → ℕ
  group p = prefix_len (λ e. pair_eq (f e).0 p)

  -- what an entry is put before, where that begins with its pair
  joins : (e : Seen) (p : Pair) (ns : List ℕ) (qs : List Posting) → e.0 ≡ p
      → put_entry e (posting p ns ∷ qs) ≡ posting p (e.1 ∷ ns) ∷ qs
  joins e p ns qs is =
      let same : pair_eq p e.0 ≡ true = same_pair p e.0 (sym is) in
      rw same (ap (λ q. posting q (e.1 ∷ ns) ∷ qs) is)

  stands : (e : Seen) (q : Posting) (qs : List Posting) → pair_eq q.pair e.0 ≡ false
      → put_entry e (q ∷ qs) ≡ posting e.0 (e.1 ∷ []) ∷ q ∷ qs
  stands e q qs apart = rw apart

  -- an entry stands apart from postings that begin with another's
  alone : (e g : Seen) (qs : List Posting) → pair_eq g.0 e.0 ≡ false
      → put_entry e (put_entry g qs) ≡ posting e.0 (e.1 ∷ []) ∷ put_entry g qs
  alone e g [] apart = stands e (posting g.0 (g.1 ∷ [])) [] apart
  alone e g (q ∷ qs) apart = go (pair_eq q.pair g.0)
    where
      go : (b : Bool)
          → put_entry e
          (cond b (posting g.0 (g.1 ∷ q.ordinals) ∷ qs) (posting g.0 (g.1 ∷ []) ∷ q ∷ qs))
          ≡ posting e.0 (e.1 ∷ [])
          ∷ cond b (posting g.0 (g.1 ∷ q.ordinals) ∷ qs) (posting g.0 (g.1 ∷ []) ∷ q ∷ qs)
      go true = stands e (posting g.0 (g.1 ∷ q.ordinals)) qs apart
      go false = stands e (posting g.0 (g.1 ∷ [])) (q ∷ qs) apart

  abbrev FirstGroup : Pair → List E → Type 0
  FirstGroup p xs =
      gathered (map f xs) ≡ posting p (map (λ e. (f e).1) (take (group p xs) xs))
      ∷ gathered (map f (drop (group p xs) xs))

  pub first_group : (p : Pair) (x : E) (xs : List E) → (f x).0 ≡ p → FirstGroup p (x ∷ xs)
  first_group p x [] is =
      let same : pair_eq (f x).0 p ≡ true = same_pair (f x).0 p is in
      rw same (ap (λ q. posting q ((f x).1 ∷ []) ∷ []) is)
  first_group p x (y ∷ ys) is = go (pair_eq (f y).0 p) refl (first_group p y ys)
    where
      here : pair_eq (f x).0 p ≡ true
      here = same_pair (f x).0 p is

      go : (b : Bool) → pair_eq (f y).0 p ≡ b → ((f y).0 ≡ p → FirstGroup p (y ∷ ys))
          → FirstGroup p (x ∷ y ∷ ys)
      go true same more =
          let next : 1 + group p (y ∷ ys) ≡ suc (group p (y ∷ ys)) = omega arith in
          let k = group p (y ∷ ys) in
          rw (here, next)
          (ap (put_entry (f x)) (more ((pair_eq-Decides (f y).0 p).0 same))
          ∙ joins (f x) p (map (λ e. (f e).1) (take k (y ∷ ys)))
          (gathered (map f (drop k (y ∷ ys)))) is)
      go false apart more =
          let other : pair_eq (f y).0 (f x).0 ≡ false =
          subst (λ q. pair_eq (f y).0 q ≡ false) (sym is) apart in
          rw (here, apart)
          (alone (f x) (f y) (gathered (map f ys)) other
          ∙ ap (λ q. posting q ((f x).1 ∷ []) ∷ gathered (map f (y ∷ ys))) is)

-- ---- the pairs

abbrev pairs : List Posting → List Pair
pairs = map (λ q. q.pair)

abbrev firsts : List Seen → List Pair
firsts = map (λ e. e.0)

pub pairs_gathered : (e : Seen) (es : List Seen)
    → pairs (gathered (e ∷ es)) ≡ dedup_from pair_eq e.0 (firsts es)
pairs_gathered e [] = refl
pairs_gathered e (g ∷ gs) =
    go (gathered (g ∷ gs)) (pairs_gathered g gs) (begun pair_eq g.0 (firsts gs))
  where
    apart : (b : Bool) (k : Pair) (ks : List Pair) → dedup_from pair_eq g.0 (firsts gs) ≡ k ∷ ks
        → pair_eq g.0 e.0 ≡ b → k ≡ g.0
        → cond b (e.0 ∷ ks) (e.0 ∷ k ∷ ks)
        ≡ cond b (dedup_from pair_eq e.0 (firsts gs)) (e.0 ∷ dedup_from pair_eq g.0 (firsts gs))
    apart true k ks begins same first =
        let is : g.0 ≡ e.0 = (pair_eq-Decides g.0 e.0).0 same in
        ap (λ p. p ∷ ks) (sym (first ∙ is)) ∙ sym begins
        ∙ ap (λ p. dedup_from pair_eq p (firsts gs)) is
    apart false k ks begins same first = ap (λ ps. e.0 ∷ ps) (sym begins)

    put : (b : Bool) (q : Posting) (qs : List Posting)
        → pairs (cond b (posting e.0 (e.1 ∷ q.ordinals) ∷ qs) (posting e.0 (e.1 ∷ []) ∷ q ∷ qs))
        ≡ cond b (e.0 ∷ pairs qs) (e.0 ∷ q.pair ∷ pairs qs)
    put true q qs = refl
    put false q qs = refl

    go : (r : List Posting) → pairs r ≡ dedup_from pair_eq g.0 (firsts gs) → (rest : List Pair)
        × (dedup_from pair_eq g.0 (firsts gs) ≡ g.0 ∷ rest)
        → pairs (put_entry e r)
        ≡ cond (pair_eq g.0 e.0) (dedup_from pair_eq e.0 (firsts gs))
        (e.0 ∷ dedup_from pair_eq g.0 (firsts gs))
    go [] is begins = let none : [] ≡ g.0 ∷ begins.0 = is ∙ begins.1 in absurd cc
    go (q ∷ qs) is begins =
        let both : q.pair ∷ pairs qs ≡ g.0 ∷ begins.0 = is ∙ begins.1 in
        let first : q.pair ≡ g.0 = cc in
        put (pair_eq q.pair e.0) q qs
        ∙ ap (λ p. cond (pair_eq p e.0) (e.0 ∷ pairs qs) (e.0 ∷ q.pair ∷ pairs qs)) first
        ∙ apart (pair_eq g.0 e.0) q.pair (pairs qs) (sym is) refl first

-- ---- pairs that rise

abbrev pub below : Pair → Pair → Bool
below p q = is_lt (pair_cmp p q)

strictly : (p q : Pair) → is_in_pair_order p q ≡ true → pair_eq q p ≡ false → below p q ≡ true
strictly = distinct.strictly pair_cmp pair_cmp-total pair_eq pair_eq-Decides pairs_tied

-- what is strictly below is no equal
pub below_apart : (p q : Pair) → below p q ≡ true → pair_eq q p ≡ false
below_apart = distinct.below_apart pair_cmp pair_cmp-total pair_eq pair_eq-Decides pairs_tied

below_chain : (p q r : Pair) → below p q ≡ true → below q r ≡ true → below p r ≡ true
below_chain = distinct.below_chain pair_cmp pair_cmp-total pair_eq pair_eq-Decides pairs_tied

below_le : (p q r : Pair) → below p q ≡ true → is_in_pair_order q r ≡ true → below p r ≡ true
below_le = distinct.below_upto pair_cmp pair_cmp-total pair_eq pair_eq-Decides pairs_tied

up_deduped : (k : Pair) (xs : List Pair) → IsUp is_in_pair_order (k ∷ xs)
    → IsUp below (dedup_from pair_eq k xs)
up_deduped k xs up =
    distinct.up_dedup pair_cmp pair_cmp-total pair_eq pair_eq-Decides pairs_tied (k ∷ xs) up

-- ---- the ordinals of each pair

abbrev pub ordinals_among : List Seen → Pair → List ℕ
ordinals_among es p = map (λ e. e.1) (filter (λ e. pair_eq p e.0) es)

abbrev pub InPairOrder : List Seen → Type 0
InPairOrder = IsUp (λ a b. is_in_pair_order a.0 b.0)

abbrev pub Right : List Seen → Posting → Type 0
Right es q = q.ordinals ≡ ordinals_among es q.pair

up_firsts : (es : List Seen) → InPairOrder es → IsUp is_in_pair_order (firsts es)
up_firsts [] up = tt
up_firsts (e ∷ es) up = (all_firsts (λ p. is_in_pair_order e.0 p ≡ true) es up.0, up_firsts es up.1)
  where
    all_firsts : (P : Pair → Type 0) (gs : List Seen) → AllByRecursion (λ g. P g.0) gs
        → AllByRecursion P (firsts gs)
    all_firsts P [] all = tt
    all_firsts P (g ∷ gs) all = (all.0, all_firsts P gs all.1)

-- postings of pairs that are no entry's stay right after it
still_right : (e : Seen) (es : List Seen) (qs : List Posting)
    → AllByRecursion (λ q. below e.0 q.pair ≡ true) qs
    → AllByRecursion (Right es) qs → AllByRecursion (Right (e ∷ es)) qs
still_right e es [] over all = tt
still_right e es (q ∷ qs) over all =
    let apart : pair_eq q.pair e.0 ≡ false = below_apart e.0 q.pair over.0 in
    (rw apart (all.0), still_right e es qs over.1 all.1)

over_pairs : (p : Pair) (qs : List Posting) → AllByRecursion (λ r. below p r ≡ true) (pairs qs)
    → AllByRecursion (λ q. below p q.pair ≡ true) qs
over_pairs p [] all = tt
over_pairs p (q ∷ qs) all = (all.0, over_pairs p qs all.1)

none_among : (e : Seen) (es : List Seen) → AllByRecursion (λ g. below e.0 g.0 ≡ true) es
    → ordinals_among es e.0 ≡ []
none_among e es over =
    ap (map (λ g. g.1))
    (filter_none (λ g. pair_eq e.0 g.0) es
    (all_more _ _ (λ g lt. turned e.0 g.0 (below_apart e.0 g.0 lt)) es over))
  where
    turned : (p q : Pair) → pair_eq q p ≡ false → pair_eq p q ≡ false
    turned p q apart = go (pair_eq p q) refl
      where
        go : (b : Bool) → pair_eq p q ≡ b → pair_eq p q ≡ false
        go true same =
            absurd (true≢false (sym (same_pair q p (sym ((pair_eq-Decides p q).0 same))) ∙ apart))
        go false h = h

pub right : (es : List Seen) → InPairOrder es → AllByRecursion (Right es) (gathered es)
right [] up = tt
right (e ∷ []) up =
    let same : pair_eq e.0 e.0 ≡ true = same_pair e.0 e.0 refl in
    (rw same, tt)
right (e ∷ g ∷ gs) up =
    go (gathered (g ∷ gs)) (right (g ∷ gs) up.1) (pairs_gathered g gs)
    (up_deduped g.0 (firsts gs) (up_firsts (g ∷ gs) up.1)) (begun pair_eq g.0 (firsts gs))
  where
    here : pair_eq e.0 e.0 ≡ true
    here = same_pair e.0 e.0 refl

    put : (b : Bool) (q : Posting) (qs : List Posting) → pair_eq q.pair e.0 ≡ b → q.pair ≡ g.0
        → Right (g ∷ gs) q → AllByRecursion (Right (g ∷ gs)) qs
        → AllByRecursion (λ r. below q.pair r.pair ≡ true) qs
        → AllByRecursion (Right (e ∷ g ∷ gs))
        (cond b (posting e.0 (e.1 ∷ q.ordinals) ∷ qs) (posting e.0 (e.1 ∷ []) ∷ q ∷ qs))
    put true q qs same first is all over =
        let equal : q.pair ≡ e.0 = (pair_eq-Decides q.pair e.0).0 same in
        let joined : ordinals_among (e ∷ g ∷ gs) e.0 ≡ e.1 ∷ ordinals_among (g ∷ gs) e.0 =
        rw here in (
          ap (λ ns. e.1 ∷ ns) (is ∙ ap (ordinals_among (g ∷ gs)) equal) ∙ sym joined,
          still_right e (g ∷ gs) qs
              (subst (λ p. AllByRecursion (λ r. below p r.pair ≡ true) qs) equal over) all,
        )
    put false q qs apart first is all over =
        let lt : below e.0 g.0 ≡ true =
        strictly e.0 g.0 up.0.0 (subst (λ p. pair_eq p e.0 ≡ false) first apart) in
        let lower : below e.0 q.pair ≡ true = subst (λ p. below e.0 p ≡ true) (sym first) lt in
        let far : AllByRecursion (λ x. below e.0 x.0 ≡ true) gs =
        all_more _ _ (λ x le. below_le e.0 g.0 x.0 lt le) gs up.1.0 in
        let joined : ordinals_among (e ∷ g ∷ gs) e.0 ≡ e.1 ∷ ordinals_among (g ∷ gs) e.0 =
        rw here in (
          ap (λ ns. e.1 ∷ ns) (sym (none_among e (g ∷ gs) (lt, far))) ∙ sym joined,
          still_right e (g ∷ gs) (q ∷ qs)
              (lower, all_more _ _ (λ r h. below_chain e.0 q.pair r.pair lower h) qs over)
              (is, all),
        )

    go : (r : List Posting) → AllByRecursion (Right (g ∷ gs)) r
        → pairs r ≡ dedup_from pair_eq g.0 (firsts gs)
        → IsUp below (dedup_from pair_eq g.0 (firsts gs)) → (rest : List Pair)
        × (dedup_from pair_eq g.0 (firsts gs) ≡ g.0 ∷ rest)
        → AllByRecursion (Right (e ∷ g ∷ gs)) (put_entry e r)
    go [] all is rises begins = let none : [] ≡ g.0 ∷ begins.0 = is ∙ begins.1 in absurd cc
    go (q ∷ qs) all is rises begins =
        let both : q.pair ∷ pairs qs ≡ g.0 ∷ begins.0 = is ∙ begins.1 in
        let first : q.pair ≡ g.0 = cc in
        let climbs : IsUp below (pairs (q ∷ qs)) = subst (IsUp below) (sym is) rises in
        put (pair_eq q.pair e.0) q qs refl first all.0 all.1 (over_pairs q.pair qs climbs.0)

-- ---- one group of a loop

module _ {E : Type 0} (f : E → Pair × ℕ) where
  -- the first of some entries has their first pair, so its group isn't empty
  pub group_some : (x : E) (xs : List E) → 0 < length xs → x ≡ get_or xs 0 x
      → 0 < prefix_len (λ e. pair_eq (f e).0 (f x).0) xs
  group_some x [] some is = absurd (omega arith)
  group_some x (y ∷ ys) some is =
      let same : pair_eq (f y).0 (f x).0 ≡ true =
      same_pair (f y).0 (f x).0 (ap (λ e. (f e).0) (sym is)) in
      rw same (omega arith)

  first_of : (x : E) (xs : List E) → 0 < length xs → x ≡ get_or xs 0 x → FirstGroup f (f x).0 xs
  first_of x [] some is = absurd (omega arith)
  first_of x (y ∷ ys) some is = first_group f (f x).0 y ys (ap (λ e. (f e).0) (sym is))

  pub group_more :
      (xs ys group : List E) (at len : ℕ) (x : E) (q : Posting) (done whole : List Posting)
      → ys ≡ drop at xs → group ≡ take len ys → 0 < length ys → x ≡ get_or ys 0 x
      → len ≡ prefix_len (λ e. pair_eq (f e).0 (f x).0) ys
      → q ≡ posting (f x).0 (map (λ e. (f e).1) group)
      → done ++ gathered (map f (drop at xs)) ≡ whole → (done ++ q ∷ [])
      ++ gathered (map f (drop (at + len) xs)) ≡ whole
  group_more xs ys group at len x q done whole rest front some is long made so_far =
      append_assoc done (q ∷ []) (gathered (map f (drop (at + len) xs)))
      ∙ ap (λ zs. done ++ zs)
      (ap₂ (λ r zs. r ∷ gathered (map f zs))
      (made ∙ ap (λ g. posting (f x).0 (map (λ e. (f e).1) g)) (front ∙ ap (λ n. take n ys) long))
      (sym (drop-drop len at xs) ∙ ap (drop len) (sym rest) ∙ ap (λ n. drop n ys) long)
      ∙ sym (first_of x ys some is) ∙ ap (λ zs. gathered (map f zs)) rest)
      ∙ so_far
