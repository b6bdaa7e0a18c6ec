-- A map whose keys rise is told by what is found at each key.
use Rattle.std.proofs.Common.{◌≡◌, false, List, [], ◌∷◌, Some, None, refl, sym, ap, ◌∙◌}
use Rattle.std.specs.Cmp.{IsTotalOrder}
use Rattle.std.specs.Ordering.{is_eq, ordering_reverse}
use Rattle.std.specs.declared.cmp.Ordering.{Ordering}
use Rattle.std.specs.declared.cmp.Ordering.TheVariants.{Less, Equal, Greater}
use Rattle.std.specs.BTreeMap.{is_at}
use Rattle.std.specs.List.Sorted.{IsStrictlySortedBy}
use Rattle.std.specs.Map.{lookup, keys_of}
use Rattle.std.specs.Option.{unwrap_or}
use Rattle.std.proofs.lemmas.Map.{lookup-none}
use Rattle.std.proofs.lemmas.Map.Entries.{none_below_head, lookup_head, lookup_tail}
use Rattle.std.proofs.lemmas.Map.Keys.{sorted_head, sorted_tail}
use Rattle.std.proofs.lemmas.Cmp.{tied_itself}

module _ {K X : Type 0} {R : K → K → Ordering} (o : IsTotalOrder R) where
  here : (e : K × X) (es : List (K × X)) → lookup (is_at (R e.0)) (e ∷ es) ≡ Some e.1
  here e es = lookup_head (is_at (R e.0)) e es (ap is_eq (tied_itself o e.0))

  below : (q : K) (e : K × X) (es : List (K × X)) → IsStrictlySortedBy R (keys_of (e ∷ es))
      → R q e.0 ≡ Less
      → lookup (is_at (R q)) (e ∷ es) ≡ None
  below q e es up less = lookup-none (is_at (R q)) (e ∷ es) (none_below_head o q e es up less)

  past : (q : K) (e : K × X) (es : List (K × X)) → IsStrictlySortedBy R (keys_of (e ∷ es))
      → R q e.0 ≡ Equal
      → lookup (is_at (R q)) es ≡ None
  past q e [] up tied = refl
  past q e (f ∷ fs) up tied =
      below q f fs (sorted_tail R e.0 (keys_of (f ∷ fs)) up)
      (o.congr q e.0 f.0 tied ∙ (sorted_head R e.0 (keys_of (f ∷ fs)) up).0)

  tails : (e f : K × X) (es fs : List (K × X)) → e.0 ≡ f.0 → IsStrictlySortedBy R (keys_of (e ∷ es))
      → IsStrictlySortedBy R (keys_of (f ∷ fs))
      → ((q : K) → lookup (is_at (R q)) (e ∷ es) ≡ lookup (is_at (R q)) (f ∷ fs))
      → (q : K) → lookup (is_at (R q)) es ≡ lookup (is_at (R q)) fs
  tails e f es fs key up upf same q = go (R q e.0) refl
    where
      apart : is_eq (R q e.0) ≡ false → lookup (is_at (R q)) es ≡ lookup (is_at (R q)) fs
      apart no_match =
          sym (lookup_tail (is_at (R q)) e es no_match) ∙ same q
          ∙ lookup_tail (is_at (R q)) f fs (ap (λ k. is_eq (R q k)) (sym key) ∙ no_match)

      go : (r : Ordering) → R q e.0 ≡ r → lookup (is_at (R q)) es ≡ lookup (is_at (R q)) fs
      go Less h = apart (ap is_eq h)
      go Equal h = past q e es up h ∙ sym (past q f fs upf (ap (R q) (sym key) ∙ h))
      go Greater h = apart (ap is_eq h)

  first : (e f : K × X) (es fs : List (K × X)) → e.0 ≡ f.0
      → ((q : K) → lookup (is_at (R q)) (e ∷ es) ≡ lookup (is_at (R q)) (f ∷ fs)) → e ≡ f
  first e f es fs key same =
      let value : Some e.1 ≡ Some f.1 = sym (here e es) ∙ same e.0
      ∙ ap (λ k. lookup (is_at (R k)) (f ∷ fs)) key ∙ here f fs in
      ap (λ k. (k, e.1)) key ∙ ap (λ held. (f.0, unwrap_or held e.1)) value

  joined : ((a b : K) → R a b ≡ Equal → a ≡ b) → (e f : K × X) (es fs : List (K × X))
      → IsStrictlySortedBy R (keys_of (e ∷ es)) → IsStrictlySortedBy R (keys_of (f ∷ fs))
      → ((q : K) → lookup (is_at (R q)) (e ∷ es) ≡ lookup (is_at (R q)) (f ∷ fs))
      → (((q : K) → lookup (is_at (R q)) es ≡ lookup (is_at (R q)) fs) → es ≡ fs)
      → (e ∷ es) ≡ (f ∷ fs)
  joined exact e f es fs up upf same more = go (R e.0 f.0) refl
    where
      go : (r : Ordering) → R e.0 f.0 ≡ r → (e ∷ es) ≡ (f ∷ fs)
      go Less h = cc (below e.0 f fs upf h, same e.0, here e es)
      go Greater h =
          cc (below f.0 e es up (o.antisymm f.0 e.0 ∙ ap ordering_reverse h), same f.0, here f fs)
      go Equal h =
          let key : e.0 ≡ f.0 = exact e.0 f.0 h in
          cc (first e f es fs key same, more (tails e f es fs key up upf same))

  -- two maps with the same value at each key have the same entries
  pub same_entries : ((a b : K) → R a b ≡ Equal → a ≡ b)
      → (es fs : List (K × X)) → IsStrictlySortedBy R (keys_of es)
      → IsStrictlySortedBy R (keys_of fs)
      → ((q : K) → lookup (is_at (R q)) es ≡ lookup (is_at (R q)) fs) → es ≡ fs
  same_entries exact [] [] up upf same = refl
  same_entries exact [] (f ∷ fs) up upf same = cc (same f.0, here f fs)
  same_entries exact (e ∷ es) [] up upf same = cc (same e.0, here e es)
  same_entries exact (e ∷ es) (f ∷ fs) up upf same =
      joined exact e f es fs up upf same
      (same_entries exact es fs (sorted_tail R e.0 (keys_of es) up)
      (sorted_tail R f.0 (keys_of fs) upf))
