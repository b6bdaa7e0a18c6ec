-- The names and the values of postings are those of the label sets.
use Rattle.std.proofs.Common.{◌≡◌, ℕ, suc, ◌+◌, ◌-◌, ◌<◌, Bool, true, false, cond, ◌&&◌, ◌||◌, List, [], ◌∷◌, ◌++◌, length, get_or, take, filter, map, Some, None, refl, sym, ap, ◌∙◌, subst, arith}
use Rattle.std.specs.Prelude.{bytes_eq, slice_get}
use Rattle.std.specs.List.{AllByRecursion, list_any, dedup}
use Rattle.std.specs.Option.{option_map_or}
use Rattle.std.specs.Ordering.{is_lt, is_le, is_eq, ordering_then}
use Rattle.std.specs.Cmp.Lexicographic.{texts_ties}
use Rattle.std.specs.declared.cmp.Ordering.{Ordering}
use Rattle.std.specs.declared.cmp.Ordering.TheVariants.{Less, Equal, Greater}
use Rattle.std.proofs.lemmas.Cmp.{nat_list_cmp_total, tied_itself}
use Rattle.std.proofs.lemmas.List.{map-append, take_more}
use Rattle.std.proofs.lemmas.Slice.Eq.{bytes_eq-Decides}
use Rattle.vm_base.specs.Sorted.{IsUp, last_of}
use Rattle.vm_labels.specs.Labels.{text_cmp, is_below, pair_cmp, pair_eq}
use Rattle.vm_labels.specs.declared.pair.Pair.{Pair}
use Rattle.vm_labels.proofs.BuildLaws.{bytes_eq_back}
use Rattle.vm_index.specs.declared.posting.Posting.{Posting}
use Rattle.vm_index.specs.Index.{PostingsRise, pairs_of, posting_of, postings_of}
use Rattle.vm_index.specs.Texts.{AreTexts, is_last, is_name_in, is_value_in, put_new}
use Rattle.vm_index.proofs.DistinctLaws.{any_dedup, dedup_more, up_dedup}
use Rattle.vm_index.proofs.ListLaws.{all_own, up_filter}
use Rattle.vm_index.proofs.LookupLaws.{any_pair, postings_rise}

-- ---- names

abbrev names : List Posting → List (List ℕ)
names = map (λ q. q.pair.name)

any_name : (t : List ℕ → Bool) (sets : List (List Pair)) (ps : List Pair)
    → list_any t (names (map (posting_of sets) ps)) ≡ list_any (λ p. t p.name) ps
any_name t sets [] = refl
any_name t sets (p ∷ ps) = ap (λ b. t p.name || b) (any_name t sets ps)

up_names : (qs : List Posting) → PostingsRise qs → IsUp (λ a b. is_le (text_cmp a b)) (names qs)
up_names [] up = tt
up_names (q ∷ qs) up = (each qs up.0, up_names qs up.1)
  where
    upto : (o r : Ordering) → is_lt (ordering_then o r) ≡ true → is_le o ≡ true
    upto Less r h = refl
    upto Equal r h = refl
    upto Greater r h = h

    each : (rs : List Posting)
        → AllByRecursion (λ (r : Posting). is_lt (pair_cmp q.pair r.pair) ≡ true) rs
        → AllByRecursion (λ n. is_le (text_cmp q.pair.name n) ≡ true) (names rs)
    each [] all = tt
    each (r ∷ rs) all = (
      upto (text_cmp q.pair.name r.pair.name) (text_cmp q.pair.value r.pair.value) all.0,
      each rs all.1,
    )

texts_tied : (a b : List ℕ) → text_cmp a b ≡ Equal → a ≡ b
texts_tied a b tie = (bytes_eq-Decides a b).0 (texts_ties a b ∙ ap is_eq tie)

pub names_are : (sets : List (List Pair))
    → AreTexts (is_name_in sets) (dedup bytes_eq (names (postings_of sets)))
names_are sets =
    let qs = postings_of sets in
    record {
      rising =
          up_dedup text_cmp nat_list_cmp_total bytes_eq bytes_eq-Decides texts_tied (names qs)
          (up_names qs (postings_rise sets));
      same = λ text.
          any_dedup bytes_eq bytes_eq-Decides (bytes_eq text) (names qs)
          ∙ any_name (bytes_eq text) sets (pairs_of sets)
          ∙ any_pair (λ p. bytes_eq text p.name) sets;
    }

-- ---- the values of a name

abbrev values : List ℕ → List Posting → List (List ℕ)
values name qs = map (λ q. q.pair.value) (filter (λ q. bytes_eq q.pair.name name) qs)

any_value : (name value : List ℕ) (sets : List (List Pair)) (ps : List Pair)
    → list_any (bytes_eq value) (values name (map (posting_of sets) ps))
    ≡ list_any (pair_eq (record { name = name; value = value })) ps
any_value name value sets [] = refl
any_value name value sets (p ∷ ps) =
    go (bytes_eq p.name name) (bytes_eq_back p.name name) (any_value name value sets ps)
  where
    go : (b : Bool) → b ≡ bytes_eq name p.name
        → list_any (bytes_eq value) (values name (map (posting_of sets) ps))
        ≡ list_any (pair_eq (record { name = name; value = value })) ps
        → list_any (bytes_eq value)
        (map (λ (q : Posting). q.pair.value)
        (cond b (posting_of sets p
        ∷ filter (λ q. bytes_eq q.pair.name name) (map (posting_of sets) ps))
        (filter (λ q. bytes_eq q.pair.name name) (map (posting_of sets) ps))))
        ≡ ((bytes_eq name p.name && bytes_eq value p.value)
        || list_any (pair_eq (record { name = name; value = value })) ps)
    go true here more = rw (← here) (ap (λ b. bytes_eq value p.value || b) more)
    go false apart more = rw (← apart) more

-- postings of one name rise by their values
up_values : (name : List ℕ) (qs : List Posting)
    → AllByRecursion (λ (q : Posting). bytes_eq q.pair.name name ≡ true) qs → PostingsRise qs
    → IsUp is_below (map (λ (q : Posting). q.pair.value) qs)
up_values name [] alike up = tt
up_values name (q ∷ qs) alike up = (each qs alike.1 up.0, up_values name qs alike.1 up.1)
  where
    each : (rs : List Posting)
        → AllByRecursion (λ (r : Posting). bytes_eq r.pair.name name ≡ true) rs
        → AllByRecursion (λ (r : Posting). is_lt (pair_cmp q.pair r.pair) ≡ true) rs
        → AllByRecursion (λ v. is_below q.pair.value v ≡ true)
        (map (λ (r : Posting). r.pair.value) rs)
    each [] same all = tt
    each (r ∷ rs) same all =
        let is : q.pair.name ≡ r.pair.name = (bytes_eq-Decides q.pair.name name).0 alike.0
        ∙ sym ((bytes_eq-Decides r.pair.name name).0 same.0) in
        let tie : text_cmp q.pair.name r.pair.name ≡ Equal =
        subst (λ n. text_cmp q.pair.name n ≡ Equal) is
        (tied_itself nat_list_cmp_total q.pair.name) in (
          ap (λ o. is_lt (ordering_then o (text_cmp q.pair.value r.pair.value))) (sym tie)
              ∙ all.0,
          each rs same.1 all.1,
        )

pub values_are : (sets : List (List Pair)) (name : List ℕ)
    → AreTexts (is_value_in sets name) (values name (postings_of sets))
values_are sets name =
    let mine : Posting → Bool = λ q. bytes_eq q.pair.name name in
    let qs = postings_of sets in
    record {
      rising =
          up_values name (filter mine qs) (all_own mine qs)
          (up_filter (λ (a b : Posting). is_lt (pair_cmp a.pair b.pair)) mine qs
          (postings_rise sets));
      same = λ text. any_value name text sets (pairs_of sets)
          ∙ any_pair (pair_eq (record { name = name; value = text })) sets;
    }

-- ---- steps of loops

last_is : {X : Type 0} (xs : List X) → slice_get xs (length xs - 1) ≡ last_of xs
last_is [] = refl
last_is (x ∷ []) = refl
last_is (x ∷ y ∷ ys) =
    let back : length (x ∷ y ∷ ys) - 1 ≡ suc (length (y ∷ ys) - 1) = omega arith in
    ap (slice_get (x ∷ y ∷ ys)) back ∙ last_is (y ∷ ys)

pub is_last_some : (texts : List (List ℕ)) (text : List ℕ) (k : List ℕ)
    → slice_get texts (length texts - 1) ≡ Some k → is_last texts text ≡ bytes_eq text k
is_last_some texts text k is =
    ap (λ last. option_map_or (bytes_eq text) last false) (sym (last_is texts) ∙ is)

pub is_last_none : (texts : List (List ℕ)) (text : List ℕ)
    → slice_get texts (length texts - 1) ≡ None → is_last texts text ≡ false
is_last_none texts text is =
    ap (λ last. option_map_or (bytes_eq text) last false) (sym (last_is texts) ∙ is)

pub names_more : (qs : List Posting) (i : ℕ) (q : Posting) (done more : List (List ℕ))
    → i < length qs → q ≡ get_or qs i q
    → more ≡ put_new done q.pair.name → done ≡ dedup bytes_eq (names (take i qs))
    → more ≡ dedup bytes_eq (names (take (i + 1) qs))
names_more qs i q done more within is put so_far =
    put
    ∙ ap (λ ks. put_new ks q.pair.name) so_far
    ∙ sym (dedup_more bytes_eq (names (take i qs)) q.pair.name)
    ∙ ap (dedup bytes_eq) (sym front)
  where
    front : names (take (i + 1) qs) ≡ names (take i qs) ++ q.pair.name ∷ []
    front =
        ap names (take_more qs i q within)
        ∙ map-append (λ (r : Posting). r.pair.name) (take i qs) (get_or qs i q ∷ [])
        ∙ ap (λ (r : Posting). names (take i qs) ++ r.pair.name ∷ []) (sym is)
