-- A label's value in quotes, read from after its opening quote.
use Rattle.std.proofs.Common.{◌≡◌, ◌⊎◌, inl, inr, ⊎_elim, ℕ, suc, ◌+◌, ◌-◌, ◌<◌, ◌≤◌, Bool, true, false, cond, List, [], ◌∷◌, ◌++◌, length, take, drop, Option, Some, None, Ok, Err, refl, ap, sym, subst, ◌∙◌, arith, true≢false, append_assoc, append-nil}
use Rattle.std.specs.Prelude.{◌==◌, ◌&&◌, not, IsUtf8}
use Rattle.std.specs.Option.{option_map}
use Rattle.std.specs.Str.{is_utf8}
use Rattle.std.proofs.Math.Seq.{take-append-add}
use Rattle.std.proofs.lemmas.Bool.{eqb-true, and_parts, cases_lt}
use Rattle.std.proofs.lemmas.Bool.Decides.{nat_tests}
use Rattle.std.proofs.lemmas.List.{take-append-drop, take-append-le, length-take}
use Rattle.std.proofs.lemmas.Str.{IsUtf8-append, IsUtf8-from_is_utf8, is_utf8-from_IsUtf8}
use Rattle.vm_base.specs.FirstWrong.{Begins, FirstWrong}
use Rattle.vm_promtext.specs.Grammar.{Quoted, Marked}
use Rattle.vm_promtext.specs.Quoted.{is_bare, IsBare, unescaped}
use Rattle.vm_promtext.specs.Reading.{quote_place, quoted_reading, value_before}
use Rattle.vm_promtext.specs.Utf8.{readable, nothing}
use Rattle.vm_promtext.proofs.Leads.{Leads, Stops, Follows, Of, behind, leads_all}
use Rattle.vm_promtext.proofs.Utf8Laws.{Goes, AreHigh, Cut, CanEnd, cut_is, utf8_from_bytes, bytes_from_utf8}

-- a value, its closing quote and a text of L
pub record Body (L : List ℕ → List ℕ → Type 0) (text : List ℕ) : Type 0 where
  pub raw : List ℕ
  pub rest : List ℕ
  pub parts : text ≡ raw ++ 34 ∷ rest
  pub utf8 : IsUtf8 raw
  pub bare : IsBare raw
  pub then : L (unescaped raw) rest

pub quoted_leads : (L : List ℕ → List ℕ → Type 0) (text : List ℕ)
    → Leads (Quoted L) (Marked 34 (Body L)) text text
quoted_leads L text = leads_all
    (λ more m.
    record {
      raw = m.then.raw;
      rest = m.then.rest;
      parts = m.parts
          ∙ ap (λ t. 34 ∷ t) m.then.parts;
      utf8 = m.then.utf8;
      bare = m.then.bare;
      then =
          m.then.then;
    })
    (λ more same q. record {
      rest = q.raw ++ 34 ∷ q.rest;
      parts = q.parts;
      then = record {
        raw = q.raw;
        rest = q.rest;
        parts = refl;
        utf8 = q.utf8;
        bare = q.bare;
        then = q.then;
      };
    })

same_parts : (a b x y : List ℕ) → a ++ x ≡ b ++ y → length a ≡ length b → (a ≡ b) × (x ≡ y)
same_parts [] [] x y is len = (refl, is)
same_parts [] (b ∷ bs) x y is len = absurd (omega arith)
same_parts (a ∷ as') [] x y is len = absurd (omega arith)
same_parts (a ∷ as') (b ∷ bs) x y is len =
    let head : a ≡ b = cc in
    let tail : as' ++ x ≡ bs ++ y = cc in
    let rest = same_parts as' bs x y tail (omega arith) in
    (λ i. head i ∷ rest.0 i, rest.1)

-- ---- quotes and escapes

-- the first quote that ends a value stands after it
bare_place : (escaped : Bool) (raw rest : List ℕ) → is_bare escaped raw ≡ true
    → quote_place escaped (raw ++ 34 ∷ rest) ≡ Some (length raw)
bare_place true [] rest bare = cc
bare_place false [] rest bare = refl
bare_place true (byte ∷ raw) rest bare = ap (option_map suc) (bare_place false raw rest bare)
bare_place false (byte ∷ raw) rest bare =
    let parts = and_parts (not (byte == 34)) (is_bare (byte == 92) raw) bare in
    go (byte == 34) refl parts.0 (bare_place (byte == 92) raw rest parts.1)
  where
    go : (b : Bool) → (byte == 34) ≡ b → not (byte == 34) ≡ true
        → quote_place (byte == 92) (raw ++ 34 ∷ rest) ≡ Some (length raw)
        → cond (byte == 34) (Some 0) (option_map suc (quote_place (byte == 92) (raw ++ 34 ∷ rest)))
        ≡ Some (suc (length raw))
    go true is other there = absurd (true≢false (sym other ∙ ap not is))
    go false is other there = rw is (ap (option_map suc) there)

-- no quote but in an escape; a backslash may stand alone at the end
abbrev is_open : Bool → List ℕ → Bool
is_open escaped [] = true
is_open true (byte ∷ more) = is_open false more
is_open false (byte ∷ more) = not (byte == 34) && is_open (byte == 92) more

and_both : (a b : Bool) → a ≡ true → b ≡ true → (a && b) ≡ true
and_both true b is other = other
and_both false b is other = is

bare_open : (escaped : Bool) (raw : List ℕ) → is_bare escaped raw ≡ true
    → is_open escaped raw ≡ true
bare_open escaped [] bare = refl
bare_open true (byte ∷ raw) bare = bare_open false raw bare
bare_open false (byte ∷ raw) bare =
    let parts = and_parts (not (byte == 34)) (is_bare (byte == 92) raw) bare in
    and_both (not (byte == 34)) (is_open (byte == 92) raw) parts.0
    (bare_open (byte == 92) raw parts.1)

open_front : (escaped : Bool) (front more : List ℕ) → is_open escaped (front ++ more) ≡ true
    → is_open escaped front ≡ true
open_front escaped [] more is = refl
open_front true (byte ∷ front) more is = open_front false front more is
open_front false (byte ∷ front) more is =
    let parts = and_parts (not (byte == 34)) (is_open (byte == 92) (front ++ more)) is in
    and_both (not (byte == 34)) (is_open (byte == 92) front) parts.0
    (open_front (byte == 92) front more parts.1)

not_quote : (byte : ℕ) → 128 ≤ byte → not (byte == 34) ≡ true
not_quote byte high = let is : (byte == 34) ≡ false = grind (arith, nat_tests) in rw is refl

open_high : (escaped : Bool) (more : List ℕ) → AreHigh more → is_open escaped more ≡ true
open_high escaped [] high = refl
open_high true (byte ∷ more) high = open_high false more high.1
open_high false (byte ∷ more) high =
    and_both (not (byte == 34)) (is_open (byte == 92) more) (not_quote byte high.0)
    (open_high (byte == 92) more high.1)

open_append : (escaped : Bool) (front more : List ℕ) → is_open escaped front ≡ true → AreHigh more
    → is_open escaped (front ++ more) ≡ true
open_append escaped [] more is high = open_high escaped more high
open_append true (byte ∷ front) more is high = open_append false front more is high
open_append false (byte ∷ front) more is high =
    let parts = and_parts (not (byte == 34)) (is_open (byte == 92) front) is in
    and_both (not (byte == 34)) (is_open (byte == 92) (front ++ more)) parts.0
    (open_append (byte == 92) front more parts.1 high)

-- an open text is a value, or is one with one more letter
open_ends : (escaped : Bool) (text : List ℕ) → is_open escaped text ≡ true
    → (is_bare escaped text ≡ true) ⊎ (is_bare escaped (text ++ 110 ∷ []) ≡ true)
open_ends true [] is = inr refl
open_ends false [] is = inl refl
open_ends true (byte ∷ text) is = open_ends false text is
open_ends false (byte ∷ text) is =
    let parts = and_parts (not (byte == 34)) (is_open (byte == 92) text) is in
    elim (open_ends (byte == 92) text parts.1) [
      | inl bare ↦ inl (and_both (not (byte == 34)) (is_bare (byte == 92) text) parts.0 bare)
      | inr bare ↦
          inr (and_both (not (byte == 34)) (is_bare (byte == 92) (text ++ 110 ∷ [])) parts.0 bare)
    ]

-- an open text at the front of a value and its quote is at the front of the value
open_within : (escaped : Bool) (front other raw rest : List ℕ) → is_open escaped front ≡ true
    → is_bare escaped raw ≡ true → front ++ other ≡ raw ++ 34 ∷ rest
    → (more : List ℕ) × (raw ≡ front ++ more)
open_within escaped [] other raw rest is bare same = (raw, refl)
open_within true (byte ∷ front) other [] rest is bare same = cc
open_within false (byte ∷ front) other [] rest is bare same =
    let quote : byte ≡ 34 = cc in
    let parts = and_parts (not (byte == 34)) (is_open (byte == 92) front) is in
    absurd (true≢false (sym parts.0 ∙ ap (λ b. not (b == 34)) quote))
open_within true (byte ∷ front) other (c ∷ raw) rest is bare same =
    let head : c ≡ byte = cc in
    let tail : front ++ other ≡ raw ++ 34 ∷ rest = cc in
    let more = open_within false front other raw rest is bare tail in
    (more.0, λ i. head i ∷ more.1 i)
open_within false (byte ∷ front) other (c ∷ raw) rest is bare same =
    let head : c ≡ byte = cc in
    let tail : front ++ other ≡ raw ++ 34 ∷ rest = cc in
    let parts = and_parts (not (byte == 34)) (is_open (byte == 92) front) is in
    let bare_parts = and_parts (not (c == 34)) (is_bare (c == 92) raw) bare in
    let bare_rest : is_bare (byte == 92) raw ≡ true = ap (λ b. is_bare (b == 92) raw) (sym head)
    ∙ bare_parts.1 in
    let more = open_within (byte == 92) front other raw rest parts.1 bare_rest tail in
    (more.0, λ i. head i ∷ more.1 i)

-- ---- the quote that is found

record Found (escaped : Bool) (text : List ℕ) (at : ℕ) : Type 0 where
  within : at < length text
  parts : text ≡ take at text ++ 34 ∷ drop (at + 1) text
  bare : is_bare escaped (take at text) ≡ true

found_place : (escaped : Bool) (text : List ℕ) (at : ℕ) → quote_place escaped text ≡ Some at
    → Found escaped text at
found_place escaped [] at is = cc
found_place true (byte ∷ text) at is = go (quote_place false text) refl is (found_place false text)
  where
    go : (o : Option ℕ) → quote_place false text ≡ o → option_map suc o ≡ Some at
        → ((n : ℕ) → quote_place false text ≡ Some n → Found false text n)
        → Found true (byte ∷ text) at
    go None there is rest = cc
    go (Some n) there is rest =
        let place : suc n ≡ at = cc in
        let found = rest n there in
        let behind : suc n + 1 ≡ suc (n + 1) = omega arith in
        subst (Found true (byte ∷ text)) place (record {
          within = omega (arith, found.within);
          parts = rw behind (ap (λ t. byte ∷ t) found.parts);
          bare = found.bare;
        })
found_place false (byte ∷ text) at is =
    go (byte == 34) (quote_place (byte == 92) text) refl refl is (found_place (byte == 92) text)
  where
    go : (b : Bool) (o : Option ℕ) → (byte == 34) ≡ b → quote_place (byte == 92) text ≡ o
        → cond b (Some 0) (option_map suc o) ≡ Some at
        → ((n : ℕ) → quote_place (byte == 92) text ≡ Some n → Found (byte == 92) text n)
        → Found false (byte ∷ text) at
    go true o quote there is rest =
        let place : 0 ≡ at = cc in
        subst (Found false (byte ∷ text)) place
        (record {
          within = omega arith;
          parts = ap (λ b. b ∷ text) (eqb-true byte 34 quote);
          bare = refl;
        })
    go false None quote there is rest = cc
    go false (Some n) quote there is rest =
        let place : suc n ≡ at = cc in
        let found = rest n there in
        let behind : suc n + 1 ≡ suc (n + 1) = omega arith in
        subst (Found false (byte ∷ text)) place (record {
          within = omega (arith, found.within);
          parts = rw behind (ap (λ t. byte ∷ t) found.parts);
          bare = and_both (not (byte == 34)) (is_bare (byte == 92) (take n text)) (ap not quote)
              found.bare;
        })

none_open : (escaped : Bool) (text : List ℕ) → quote_place escaped text ≡ None
    → is_open escaped text ≡ true
none_open escaped [] is = refl
none_open true (byte ∷ text) is = go (quote_place false text) refl is (none_open false text)
  where
    go : (o : Option ℕ) → quote_place false text ≡ o → option_map suc o ≡ None
        → (quote_place false text ≡ None → is_open false text ≡ true) → is_open false text ≡ true
    go None there is rest = rest there
    go (Some n) there is rest = cc
none_open false (byte ∷ text) is =
    go (byte == 34) (quote_place (byte == 92) text) refl refl is (none_open (byte == 92) text)
  where
    go : (b : Bool) (o : Option ℕ) → (byte == 34) ≡ b → quote_place (byte == 92) text ≡ o
        → cond b (Some 0) (option_map suc o) ≡ None
        → (quote_place (byte == 92) text ≡ None → is_open (byte == 92) text ≡ true)
        → (not (byte == 34) && is_open (byte == 92) text) ≡ true
    go true o quote there is rest = cc
    go false None quote there is rest =
        and_both (not (byte == 34)) (is_open (byte == 92) text) (ap not quote) (rest there)
    go false (Some n) quote there is rest = cc

-- ---- what the reader finds

module _ (L : List ℕ → List ℕ → Type 0) where
  body_leads : (text : List ℕ) (at : ℕ) → Found false text at → IsUtf8 (take at text)
      → Leads (Body L) (L (unescaped (take at text))) text (drop (at + 1) text)
  body_leads text at found utf8 =
      let raw = take at text in
      record {
        front = raw ++ 34 ∷ [];
        parts = found.parts ∙ sym (append_assoc raw (34 ∷ []) (drop (at + 1) text));
        into = λ more then.
            record {
              raw = raw;
              rest = more;
              parts = append_assoc raw (34 ∷ []) more;
              utf8 = utf8;
              bare = found.bare;
              then = then;
            };
        out = λ more same b.
            let is : raw ++ 34 ∷ more ≡ b.raw ++ 34 ∷ b.rest = sym (append_assoc raw (34 ∷ []) more)
            ∙ b.parts in
            let one = bare_place false raw more found.bare in
            let other = bare_place false b.raw b.rest b.bare in
            let same_place : Some (length raw) ≡ Some (length b.raw) = sym one
            ∙ ap (quote_place false) is ∙ other in
            let same_len : length raw ≡ length b.raw = cc in
            let split = same_parts raw b.raw (34 ∷ more) (34 ∷ b.rest) is same_len in
            let behind : b.rest ≡ more = cc (split.1) in
            subst (λ r. L (unescaped r) more) (sym split.0)
            (subst (L (unescaped b.raw)) behind b.then);
      }

  module _ (goes : (value : List ℕ) → (more : List ℕ) × L value more) where
    -- what is open and UTF-8 begins a value
    begins_value : (front more : List ℕ) → is_open false front ≡ true → AreHigh more
        → Goes nothing (front ++ more) → Begins (Body L) front
    begins_value front more is high reads =
        elim (open_ends false (front ++ more) (open_append false front more is high)) [
          | inl bare ↦ (
            more ++ 34 ∷ (goes (unescaped (front ++ more))).0,
            record {
              raw = front ++ more;
              rest = (goes (unescaped (front ++ more))).0;
              parts = sym (append_assoc front more (34 ∷ (goes (unescaped (front ++ more))).0));
              utf8 = utf8_from_bytes (front ++ more) reads;
              bare = bare;
              then = (goes (unescaped (front ++ more))).1;
            },
          )
          | inr bare ↦
              let raw = (front ++ more) ++ 110 ∷ [] in
              let rest = goes (unescaped raw) in
              let letter : IsUtf8 (110 ∷ []) = utf8_from_bytes (110 ∷ []) refl in (
                more ++ 110 ∷ 34 ∷ rest.0,
                record {
                  raw = raw;
                  rest = rest.0;
                  parts = sym (append_assoc front more (110 ∷ 34 ∷ rest.0))
                      ∙ sym (append_assoc (front ++ more) (110 ∷ []) (34 ∷ rest.0));
                  utf8 = IsUtf8-append (front ++ more) (110 ∷ [])
                      (utf8_from_bytes (front ++ more) reads) letter;
                  bare = bare;
                  then = rest.1;
                },
              )
        ]

    -- A value's open front stops being UTF-8 at n.
    begins_at : (value behind : List ℕ) (n : ℕ) → is_open false value ≡ true → n ≤ length value
        → Cut nothing value n → Begins (Body L) (take n (value ++ behind))
    begins_at value behind n is within cut =
        let front = take n value in
        let front_open : is_open false front ≡ true =
        open_front false front (drop n value)
        (ap (is_open false) (take-append-drop n value) ∙ is) in
        subst (Begins (Body L)) (sym (take-append-le n value behind within))
        (begins_value front cut.more front_open cut.are cut.goes)

    wrong_within : (value behind : List ℕ) (n : ℕ) → is_open false value ≡ true → n < length value
        → Cut nothing value n
        → Begins (Body L) (take (suc n) (value ++ behind)) → ⊥
    wrong_within value behind n is within cut begins =
        let front = take (suc n) value in
        let front_open : is_open false front ≡ true =
        open_front false front (drop (suc n) value)
        (ap (is_open false) (take-append-drop (suc n) value) ∙ is) in
        let b : Begins (Body L) front =
        subst (Begins (Body L)) (take-append-le (suc n) value behind within) begins in
        let inner = open_within false front b.0 b.1.raw b.1.rest front_open b.1.bare b.1.parts in
        cut.wrong within inner.0 (subst (Goes nothing) inner.1 (bytes_from_utf8 b.1.raw b.1.utf8))

    can : CanEnd nothing
    can = record { high = omega arith; some = omega arith }

    stops_closed : (text : List ℕ) (at : ℕ) → Found false text at → (IsUtf8 (take at text) → ⊥)
        → Stops (Body L) text (length text - readable nothing (take at text))
    stops_closed text at found not =
        let value = take at text in
        let behind = drop (at + 1) text in
        let n = readable nothing value in
        let cut = cut_is value nothing can in
        let inside = found.within in
        let len : length value ≡ at = omega (arith, length-take at text) in
        let fits : n ≤ length value = cut.within in
        let open_value = bare_open false value found.bare in
        let place : length text - (length text - n) ≡ n = omega arith in
        record {
          within = omega arith;
          first = subst (FirstWrong (Body L) text) (sym place) (record {
            within = omega arith;
            begins =
                subst (λ t. Begins (Body L) (take n t)) (sym found.parts)
                (begins_at value (34 ∷ behind) n open_value fits cut);
            wrong = λ below begins.
                let goes_on : Begins (Body L) (take (suc n) (value ++ 34 ∷ behind)) =
                subst (λ t. Begins (Body L) (take (suc n) t)) found.parts begins in
                ⊎_elim
                (λ before. wrong_within value (34 ∷ behind) n open_value before cut goes_on)
                (λ after.
                let end : suc n ≡ length value + 1 = omega arith in
                let front : take (suc n) (value ++ 34 ∷ behind) ≡ value ++ 34 ∷ [] =
                ap (λ k. take k (value ++ 34 ∷ behind)) end
                ∙ take-append-add value (34 ∷ behind) 1 in
                let b : Begins (Body L) (value ++ 34 ∷ []) =
                subst (Begins (Body L)) front goes_on in
                let is : value ++ 34 ∷ b.0 ≡ b.1.raw ++ 34 ∷ b.1.rest =
                sym (append_assoc value (34 ∷ []) b.0) ∙ b.1.parts in
                let same_place : Some (length value) ≡ Some (length b.1.raw) =
                sym (bare_place false value b.0 found.bare) ∙ ap (quote_place false) is
                ∙ bare_place false b.1.raw b.1.rest b.1.bare in
                let same_len : length value ≡ length b.1.raw = cc in
                let split = same_parts value b.1.raw (34 ∷ b.0) (34 ∷ b.1.rest) is same_len in
                not (subst IsUtf8 (sym split.0) b.1.utf8))
                (cases_lt n (length value));
            short = λ end. absurd (omega arith);
          });
        }

    stops_unclosed : (text : List ℕ) → quote_place false text ≡ None
        → Stops (Body L) text (length text - readable nothing text)
    stops_unclosed text none =
        let n = readable nothing text in
        let cut = cut_is text nothing can in
        let fits : n ≤ length text = cut.within in
        let open_text = none_open false text none in
        let place : length text - (length text - n) ≡ n = omega arith in
        let whole : text ++ [] ≡ text = append-nil text in
        record {
          within = omega arith;
          first = subst (FirstWrong (Body L) text) (sym place) (record {
            within = fits;
            begins =
                subst (λ t. Begins (Body L) (take n t)) whole
                (begins_at text [] n open_text fits cut);
            wrong = λ below begins.
                wrong_within text [] n open_text below cut
                (subst (λ t. Begins (Body L) (take (suc n) t)) (sym whole) begins);
            short = λ end b. let there =
                bare_place false b.raw b.rest b.bare in let same : quote_place false text
                ≡ Some (length b.raw) = ap (quote_place false) b.parts ∙ there in cc;
          });
        }

  pub body_follows : (Able : Type 0) → (Able → (value : List ℕ) → (more : List ℕ) × L value more)
      → (text : List ℕ)
      → Follows Able (Body L) (Of (λ raw. L (unescaped raw))) behind text (quoted_reading text)
  unfolding quoted_reading
  body_follows Able goes text = go (quote_place false text) refl
    where
      go_value : (at : ℕ) (b : Bool) → quote_place false text ≡ Some at → is_utf8 (take at text) ≡ b
          → Follows Able (Body L) (Of (λ raw. L (unescaped raw))) behind text
          (cond b (Ok (take at text, drop (at + 1) text))
          (Err (length text - readable nothing (take at text))))
      go_value at true there is =
          body_leads text at (found_place false text at there)
          (IsUtf8-from_is_utf8 (take at text) is)
      go_value at false there is =
          λ can. stops_closed (goes can) text at (found_place false text at there)
          (λ utf8. true≢false (sym (is_utf8-from_IsUtf8 (take at text) utf8) ∙ is))

      go : (o : Option ℕ) → quote_place false text ≡ o
          → Follows Able (Body L) (Of (λ raw. L (unescaped raw))) behind text (value_before text o)
      go None there = λ can. stops_unclosed (goes can) text there
      go (Some at) there = go_value at (is_utf8 (take at text)) there refl
