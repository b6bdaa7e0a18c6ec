-- What is read is spelled so, and what is spelled so is read.
use Rattle.std.proofs.Common.{◌≡◌, ℕ, zero, suc, ◌+◌, ◌^◌, ◌<◌, ◌≤◌, Bool, true, false, cond, eqb, ltb, List, [], ◌∷◌, ◌++◌, length, get_or, take, drop, Option, Some, None, Result, Ok, Err, refl, sym, ap, subst, ◌∙◌, append_assoc, arith, inl, inr}
use Rattle.std.specs.Prelude.{flat_map, is_some, IfOk}
use Rattle.std.specs.Int.{w16, from_be_bytes, to_be_bytes}
use Rattle.std.specs.List.{AllByRecursion, list_all}
use Rattle.std.specs.Str.{IsUtf8, is_utf8}
use Rattle.std.proofs.lemmas.Bool.{cases_lt, ltb-false, le-ltb, eqb-true}
use Rattle.std.proofs.lemmas.List.{take_at, drop_at, take-append-drop, length-append, length-take, length-drop, get_or-drop, get_or-take, get_or_past, append-nil, nil_from_length}
use Rattle.std.proofs.lemmas.Nat.{be_bytes_2, from_be_bytes-to_be_bytes_2}
use Rattle.std.proofs.lemmas.Str.{IsUtf8-from_is_utf8, is_utf8-from_IsUtf8}
use Rattle.vm_labels.specs.Name.{is_name}
use Rattle.vm_labels.specs.Labels.{IsLabels, has_value, is_below, names_rise, limit_of, is_too_long}
use Rattle.vm_labels.specs.Bytes.{◌>>=◌, text_bytes, pair_bytes, label_set_bytes, HasBytes, number_at, cut_at, ruled, text_at, is_next_name, is_value, pair_at, pairs_at, ended, fields_of, placed, label_set_of, limited, Reads, Stops, Breaks, fault_of}
use Rattle.vm_labels.specs.declared.bytes.Stop.{Stop}
use Rattle.vm_labels.specs.declared.bytes.Stop.TheVariants as stops
use Rattle.vm_labels.specs.declared.bytes.Stop.TheVariants.{At}
use Rattle.vm_labels.specs.declared.fault.ReadFault.{ReadFault}
use Rattle.vm_labels.specs.declared.pair.Pair.{Pair}
use Rattle.vm_labels.specs.declared.fault.LimitFault.{LimitFault}
use Rattle.vm_labels.proofs.OrderLaws.{both_true, and_true}
use Rattle.vm_labels.proofs.BuildLaws.{rise_next}
use Rattle.vm_labels.proofs.BytesLaws.{within, short_texts, next_is_name}

abbrev pub IsBytes : List ℕ → Type 0
IsBytes bytes = (i : ℕ) → get_or bytes i 0 < 256

IsBytes-drop : (n : ℕ) (bytes : List ℕ) → IsBytes bytes → IsBytes (drop n bytes)
IsBytes-drop n bytes h i = rw get_or-drop (h (n + i))

IsBytes-take : (n : ℕ) (bytes : List ℕ) → IsBytes bytes → IsBytes (take n bytes)
IsBytes-take n bytes h i =
    elim (cases_lt i n) [
      | inl lt ↦ rw (get_or-take n bytes i 0 lt) (h i)
      | inr le ↦
          rw (get_or_past (take n bytes) i 0 (omega (arith, length-take n bytes))) (omega arith)
    ]

-- ---- steps

-- the value of a step that did not fail
pub bind_ok : {A B : Type 0} (r : Result A ℕ) (f : A → Result B ℕ) (y : B) → (r >>= f) ≡ Ok y
    → (x : A) × (r ≡ Ok x) × (f x ≡ Ok y)
bind_ok (Ok x) f y e = (x, refl, e)
bind_ok (Err d) f y e = absurd cc

-- a test that did not fail, on either side
past_fault : {A : Type 0} (b : Bool) (d : ℕ) (x y : A) → cond b (Err d) (Ok x) ≡ Ok y → (b ≡ false)
    × (x ≡ y)
past_fault true d x y e = absurd cc
past_fault false d x y e = (refl, cc)

past_test : {A : Type 0} (b : Bool) (d : ℕ) (x y : A) → cond b (Ok x) (Err d) ≡ Ok y → (b ≡ true)
    × (x ≡ y)
past_test true d x y e = (refl, cc)
past_test false d x y e = absurd cc

abbrev done : {A : Type 0} → A → Result A ℕ
done x = Ok x

ok_is : {A : Type 0} (x y : A) → done x ≡ done y → x ≡ y
ok_is x y e = cc

-- what a reader took from the front
pub record Took (bytes text rest : List ℕ) : Type 0 where
  pub parts : bytes ≡ text ++ rest
  pub rest_fits : IsBytes rest

Took-then : (a x b y c : List ℕ) → Took a x b → Took b y c → Took a (x ++ y) c
Took-then a x b y c p q =
    record {
      parts = p.parts ∙ ap (λ (t : List ℕ). x ++ t) q.parts ∙ sym (append_assoc x y c);
      rest_fits = q.rest_fits;
    }

-- ---- numbers

pub number_took : (bytes : List ℕ) (n : ℕ) (rest : List ℕ) → IsBytes bytes
    → number_at bytes ≡ Ok (n, rest) → Took bytes (to_be_bytes w16 n) rest × (n < 2 ^ 16)
number_took bytes n rest fits e =
    let g = past_fault (ltb (length bytes) 2) (length bytes)
    (from_be_bytes w16 (take 2 bytes), drop 2 bytes) (n, rest) e in
    let long : 2 ≤ length bytes = ltb-false _ _ g.0 in
    let is : from_be_bytes w16 (take 2 bytes) ≡ n = ap (λ (p : ℕ × List ℕ). p.0) g.1 in
    let behind : drop 2 bytes ≡ rest = ap (λ (p : ℕ × List ℕ). p.1) g.1 in
    let fit = IsBytes-take 2 bytes fits in
    let front : to_be_bytes w16 n ≡ take 2 bytes =
    be_bytes_2 (take 2 bytes) n (omega (arith, length-take 2 bytes)) fit (sym is) in
    let small : from_be_bytes w16 (take 2 bytes) < 2 ^ 16 = omega (arith, fit 0, fit 1) in (
      record {
        parts = sym (take-append-drop 2 bytes) ∙ ap (λ t. t ++ drop 2 bytes) (sym front)
            ∙ ap (λ t. to_be_bytes w16 n ++ t) behind;
        rest_fits = subst IsBytes behind (IsBytes-drop 2 bytes fits);
      },
      subst (λ k. k < 2 ^ 16) is small,
    )

number_front : (front rest : List ℕ) → length front ≡ 2
    → number_at (front ++ rest) ≡ Ok (from_be_bytes w16 front, rest)
number_front front rest len =
    let long : ltb (length (front ++ rest)) 2 ≡ false =
    le-ltb _ _ (omega (arith, length-append front rest)) in
    rw (long, take_at front rest 2 len, drop_at front rest 2 len) refl

number_again : (n : ℕ) (rest : List ℕ) → n < 2 ^ 16
    → number_at (to_be_bytes w16 n ++ rest) ≡ Ok (n, rest)
number_again n rest small = number_front (to_be_bytes w16 n) rest refl
    ∙ ap (λ (k : ℕ). done (k, rest)) (from_be_bytes-to_be_bytes_2 n small)

-- ---- texts

pub text_took : (rule : List ℕ → Bool) (bytes text rest : List ℕ) → IsBytes bytes
    → text_at rule bytes ≡ Ok (text, rest)
    → Took bytes (text_bytes text) rest × (rule text ≡ true) × (length text < 2 ^ 16)
unfolding text_at
text_took rule bytes text rest fits e =
    let a = bind_ok (number_at bytes) (λ n. cut_at n.0 n.1 >>= λ t. ruled rule n.1 t) (text, rest)
    e in
    let n = a.0.0 in
    let tail = a.0.1 in
    let first = number_took bytes n tail fits a.1 in
    let b = bind_ok (cut_at n tail) (λ t. ruled rule tail t) (text, rest) a.2 in
    let cut = past_fault (ltb (length tail) n) (length tail) (take n tail, drop n tail) b.0 b.1 in
    let long : n ≤ length tail = ltb-false _ _ cut.0 in
    let test = past_test (rule b.0.0) (length tail) b.0 (text, rest) b.2 in
    let whole : (take n tail, drop n tail) ≡ (text, rest) = cut.1 ∙ test.1 in
    let is : take n tail ≡ text = ap (λ (p : List ℕ × List ℕ). p.0) whole in
    let behind : drop n tail ≡ rest = ap (λ (p : List ℕ × List ℕ). p.1) whole in
    let len : length text ≡ n = ap length (sym is) ∙ omega (arith, length-take n tail) in
    let second : Took tail text rest = record {
      parts = sym (take-append-drop n tail) ∙ ap (λ t. t ++ drop n tail) is
          ∙ ap (λ t. text ++ t) behind;
      rest_fits = subst IsBytes behind (IsBytes-drop n tail first.0.rest_fits);
    } in
    let both = Took-then bytes (to_be_bytes w16 n) tail text rest first.0 second in
    let named : rule text ≡ true = ap rule (ap (λ (p : List ℕ × List ℕ). p.0) (sym test.1))
    ∙ test.0 in (
      subst (λ (k : ℕ). Took bytes (to_be_bytes w16 k ++ text) rest) (sym len) both,
      named,
      omega (arith, first.1, len),
    )

text_again : (rule : List ℕ → Bool) (text rest : List ℕ) → rule text ≡ true → length text < 2 ^ 16
    → text_at rule (text_bytes text ++ rest) ≡ Ok (text, rest)
unfolding text_at
text_again rule text rest kept small =
    let regrouped : text_bytes text ++ rest ≡ to_be_bytes w16 (length text) ++ (text ++ rest) =
    append_assoc (to_be_bytes w16 (length text)) text rest in
    let long : ltb (length (text ++ rest)) (length text) ≡ false =
    le-ltb _ _ (omega (arith, length-append text rest)) in
    ap (text_at rule) regrouped
    ∙ rw (
      number_again (length text) (text ++ rest) small,
      long,
      take_at text rest (length text) refl,
      drop_at text rest (length text) refl,
      kept,
    ) refl

-- ---- pairs

-- what a pair is that stands after a name
pub record IsNext (last : Option (List ℕ)) (p : Pair) : Type 0 where
  pub name : is_next_name last p.name ≡ true
  pub value : is_value p.value ≡ true
  pub short_name : length p.name < 2 ^ 16
  pub short_value : length p.value < 2 ^ 16

pub pair_took : (last : Option (List ℕ)) (bytes : List ℕ) (p : Pair) (rest : List ℕ) → IsBytes bytes
    → pair_at last bytes ≡ Ok (p, rest) → Took bytes (pair_bytes p) rest × IsNext last p
unfolding pair_at
pair_took last bytes p rest fits e =
    let a = bind_ok (text_at (is_next_name last) bytes)
    (λ n. text_at is_value n.1 >>= λ v. Ok (record { name = n.0; value = v.0 }, v.1)) (p, rest)
    e in
    let b = bind_ok (text_at is_value a.0.1) (λ v. Ok (record { name = a.0.0; value = v.0 }, v.1))
    (p, rest) a.2 in
    let first = text_took (is_next_name last) bytes a.0.0 a.0.1 fits a.1 in
    let second = text_took is_value a.0.1 b.0.0 b.0.1 first.0.rest_fits b.1 in
    let both = Took-then bytes (text_bytes a.0.0) a.0.1 (text_bytes b.0.0) b.0.1 first.0 second.0 in
    let made : Pair × List ℕ = (record { name = a.0.0; value = b.0.0 }, b.0.1) in
    subst (λ (y : Pair × List ℕ). Took bytes (pair_bytes y.0) y.1 × IsNext last y.0)
    (ok_is made (p, rest) b.2) (
      both,
      record {
        name = first.1;
        value = second.1;
        short_name = first.2;
        short_value = second.2;
      },
    )

pair_again : (last : Option (List ℕ)) (p : Pair) (rest : List ℕ) → IsNext last p
    → pair_at last (pair_bytes p ++ rest) ≡ Ok (p, rest)
unfolding pair_at
pair_again last p rest next =
    let regrouped : pair_bytes p ++ rest ≡ text_bytes p.name ++ (text_bytes p.value ++ rest) =
    append_assoc (text_bytes p.name) (text_bytes p.value) rest in
    ap (pair_at last) regrouped
    ∙ rw (
      text_again (is_next_name last) p.name (text_bytes p.value ++ rest) next.name
          next.short_name,
      text_again is_value p.value rest next.value next.short_value,
    ) refl

-- pairs, each of which stands after the one before
abbrev pub Follow : Option (List ℕ) → List Pair → Type 0
Follow last [] = Unit {0}
Follow last (p ∷ ps) = IsNext last p × Follow (Some p.name) ps

pairs_took : (count : ℕ) (last : Option (List ℕ)) (bytes : List ℕ) (ps : List Pair) (rest : List ℕ)
    → IsBytes bytes → pairs_at count last bytes ≡ Ok (ps, rest)
    → Took bytes (flat_map pair_bytes ps) rest × (length ps ≡ count) × Follow last ps
unfolding pairs_at
pairs_took zero last bytes ps rest fits e =
    subst (λ (y : List Pair × List ℕ). Took bytes (flat_map pair_bytes y.0) y.1 × (length y.0 ≡ 0)
    × Follow last y.0) (ok_is ([], bytes) (ps, rest) e)
    (record { parts = refl; rest_fits = fits }, refl, tt)
pairs_took (suc n) last bytes ps rest fits e =
    let a = bind_ok (pair_at last bytes)
    (λ first. pairs_at n (Some first.0.name) first.1
    >>= λ others. Ok (first.0 ∷ others.0, others.1)) (ps, rest) e in
    let b = bind_ok (pairs_at n (Some a.0.0.name) a.0.1) (λ others. Ok (a.0.0 ∷ others.0, others.1))
    (ps, rest) a.2 in
    let first = pair_took last bytes a.0.0 a.0.1 fits a.1 in
    let others = pairs_took n (Some a.0.0.name) a.0.1 b.0.0 b.0.1 first.0.rest_fits b.1 in
    let both =
    Took-then bytes (pair_bytes a.0.0) a.0.1 (flat_map pair_bytes b.0.0) b.0.1 first.0
    others.0 in
    let made : List Pair × List ℕ = (a.0.0 ∷ b.0.0, b.0.1) in
    subst (λ (y : List Pair × List ℕ). Took bytes (flat_map pair_bytes y.0) y.1
    × (length y.0 ≡ suc n) × Follow last y.0) (ok_is made (ps, rest) b.2)
    (both, ap suc others.1, (first.1, others.2))

pairs_again : (last : Option (List ℕ)) (ps : List Pair) (rest : List ℕ) → Follow last ps
    → pairs_at (length ps) last (flat_map pair_bytes ps ++ rest) ≡ Ok (ps, rest)
unfolding pairs_at
pairs_again last [] rest all = refl
pairs_again last (p ∷ ps) rest all =
    let regrouped : flat_map pair_bytes (p ∷ ps) ++ rest ≡ pair_bytes p
    ++ (flat_map pair_bytes ps ++ rest) =
    append_assoc (pair_bytes p) (flat_map pair_bytes ps) rest in
    ap (pairs_at (suc (length ps)) last) regrouped
    ∙ rw (
      pair_again last p (flat_map pair_bytes ps ++ rest) all.0,
      pairs_again (Some p.name) ps rest all.1,
    ) refl

-- ---- a whole set

pub fields_took : (bytes : List ℕ) (ps : List Pair) → IsBytes bytes → fields_of bytes ≡ Ok ps
    → (bytes ≡ label_set_bytes ps) × Follow None ps
unfolding fields_of
fields_took bytes ps fits e =
    let a = bind_ok (number_at bytes) (λ n. pairs_at n.0 None n.1 >>= ended) ps e in
    let first = number_took bytes a.0.0 a.0.1 fits a.1 in
    let b = bind_ok (pairs_at a.0.0 None a.0.1) ended ps a.2 in
    let others = pairs_took a.0.0 None a.0.1 b.0.0 b.0.1 first.0.rest_fits b.1 in
    let test = past_test (eqb (length b.0.1) 0) (length b.0.1) b.0.0 ps b.2 in
    let none : b.0.1 ≡ [] = nil_from_length b.0.1 (eqb-true (length b.0.1) 0 test.0) in
    let both =
    Took-then bytes (to_be_bytes w16 a.0.0) a.0.1 (flat_map pair_bytes b.0.0) b.0.1 first.0
    others.0 in
    let spelled : bytes ≡ label_set_bytes b.0.0 =
    both.parts ∙ ap (λ t. (to_be_bytes w16 a.0.0 ++ flat_map pair_bytes b.0.0) ++ t) none
    ∙ append-nil _ ∙ ap (λ k. to_be_bytes w16 k ++ flat_map pair_bytes b.0.0) (sym others.1) in
    subst (λ qs. (bytes ≡ label_set_bytes qs) × Follow None qs) test.1 (spelled, others.2)

fields_again : (ps : List Pair) (rest : List ℕ) → length ps < 2 ^ 16 → Follow None ps
    → fields_of (label_set_bytes ps) ≡ Ok ps
unfolding fields_of
fields_again ps rest few all =
    let whole : flat_map pair_bytes ps ≡ flat_map pair_bytes ps ++ [] =
    sym (append-nil (flat_map pair_bytes ps)) in
    let read : pairs_at (length ps) None (flat_map pair_bytes ps) ≡ Ok (ps, []) =
    ap (pairs_at (length ps) None) whole ∙ pairs_again None ps [] all in
    rw (number_again (length ps) (flat_map pair_bytes ps) few, read) refl

-- ---- what pairs are that follow each other

follow_names : (last : Option (List ℕ)) (ps : List Pair) → Follow last ps
    → list_all (λ p. is_name p.name) ps ≡ true
follow_names last [] all = refl
follow_names last (p ∷ ps) all =
    and_true (is_name p.name) (list_all (λ q. is_name q.name) ps)
    (next_is_name last p.name all.0.name) (follow_names (Some p.name) ps all.1)

value_some : (p : Pair) → is_value p.value ≡ true → has_value p ≡ true
value_some p h = (both_true (has_value p) (is_utf8 p.value) h).0

follow_values : (last : Option (List ℕ)) (ps : List Pair) → Follow last ps
    → list_all has_value ps ≡ true
follow_values last [] all = refl
follow_values last (p ∷ ps) all =
    and_true (has_value p) (list_all has_value ps) (value_some p all.0.value)
    (follow_values (Some p.name) ps all.1)

follow_rise : (last : Option (List ℕ)) (ps : List Pair) → Follow last ps → names_rise ps ≡ true
follow_rise last [] all = refl
follow_rise last (p ∷ []) all = refl
follow_rise last (p ∷ q ∷ ps) all =
    rise_next p q ps (both_true (is_name q.name) (is_below p.name q.name) all.1.0.name).1
    ∙ follow_rise (Some p.name) (q ∷ ps) all.1

follow_texts : (last : Option (List ℕ)) (ps : List Pair) → Follow last ps
    → AllByRecursion (λ p. IsUtf8 p.value) ps
follow_texts last [] all = tt
follow_texts last (p ∷ ps) all = (
  IsUtf8-from_is_utf8 p.value (both_true (has_value p) (is_utf8 p.value) all.0.value).1,
  follow_texts (Some p.name) ps all.1,
)

pub follow_labels : (ps : List Pair) → Follow None ps → IsLabels ps
follow_labels ps all =
    record {
      named = follow_names None ps all;
      valued = follow_values None ps all;
      rising = follow_rise None ps all;
    }

-- a name after the last one, where there is one
all_above : Option (List ℕ) → List Pair → Type 0
all_above None ps = Unit {0}
all_above (Some last) ps = list_all (λ q. is_below last q.name) ps ≡ true

next_named : (last : Option (List ℕ)) (p : Pair) (ps : List Pair) → is_name p.name ≡ true
    → all_above last (p ∷ ps) → is_next_name last p.name ≡ true
unfolding all_above
next_named None p ps name above = name
next_named (Some last) p ps name above =
    and_true (is_name p.name) (is_below last p.name) name
    (both_true (is_below last p.name) (list_all (λ q. is_below last q.name) ps) above).0

follow_from : (last : Option (List ℕ)) (ps : List Pair) → list_all (λ p. is_name p.name) ps ≡ true
    → list_all has_value ps ≡ true → names_rise ps ≡ true
    → AllByRecursion (λ p. is_too_long p ≡ false) ps → AllByRecursion (λ p. IsUtf8 p.value) ps
    → all_above last ps → Follow last ps
unfolding all_above
follow_from last [] names values rises short texts above = tt
follow_from last (p ∷ ps) names values rises short texts above =
    let n = both_true (is_name p.name) (list_all (λ q. is_name q.name) ps) names in
    let v = both_true (has_value p) (list_all has_value ps) values in
    let r = both_true (list_all (λ q. is_below p.name q.name) ps) (names_rise ps) rises in
    let s = short_texts p short.0 in (
      record {
        name = next_named last p ps n.0 above;
        value = and_true (has_value p) (is_utf8 p.value) v.0 (is_utf8-from_IsUtf8 p.value texts.0);
        short_name = omega (arith, s.0);
        short_value = omega (arith, s.1);
      },
      follow_from (Some p.name) ps n.1 v.1 r.1 short.1 texts.1 r.0,
    )

pub follow_set : (ps : List Pair) → HasBytes ps → Follow None ps
unfolding all_above
follow_set ps set =
    follow_from None ps set.labels.named set.labels.valued set.labels.rising
    (within ps set.limits).short set.texts tt

few_pairs : (ps : List Pair) → HasBytes ps → length ps < 2 ^ 16
few_pairs ps set = omega (arith, (within ps set.limits).few)

-- ---- the three laws

within_set : (o : Option LimitFault) (ps qs : List Pair)
    → cond {A = Result (List Pair) ℕ} (is_some o) (Err 0) (Ok ps) ≡ Ok qs → (o ≡ None) × (ps ≡ qs)
within_set None ps qs e = (refl, cc)
within_set (Some f) ps qs e = absurd cc

placed_ok : (total : ℕ) (r : Result (List Pair) ℕ) (ps : List Pair) → placed total r ≡ Ok ps
    → (r ≡ Ok ps) × (limit_of ps ≡ None)
placed_ok total (Err left) ps e = absurd cc
placed_ok total (Ok qs) ps e =
    let parts = within_set (limit_of qs) qs ps e in
    (ap Ok parts.1, ap limit_of (sym parts.1) ∙ parts.0)

-- what is read is spelled so
pub set_took : (bytes : List ℕ) (ps : List Pair) → IsBytes bytes → label_set_of bytes ≡ Ok ps
    → HasBytes ps × (bytes ≡ label_set_bytes ps)
unfolding label_set_of
set_took bytes ps fits e =
    let placed = placed_ok (length bytes) (fields_of bytes) ps e in
    let fields = fields_took bytes ps fits placed.0 in (
      record {
        labels = follow_labels ps fields.1;
        limits = placed.1;
        texts = follow_texts None ps fields.1;
      },
      fields.0,
    )

-- what is spelled so is read
pub set_again : (ps : List Pair) → HasBytes ps → label_set_of (label_set_bytes ps) ≡ Ok ps
unfolding label_set_of
set_again ps set =
    ap (placed (length (label_set_bytes ps)))
    (fields_again ps [] (few_pairs ps set) (follow_set ps set))
    ∙ ap (λ o. cond (is_some o) (Err 0) (Ok ps)) set.limits

pub is_found : (bytes : List ℕ) (r : Result (List Pair) ReadFault) → IsBytes bytes
    → Reads r (label_set_of bytes) → IfOk r (λ ps. HasBytes ps × (bytes ≡ label_set_bytes ps))
is_found bytes (Ok ps) fits read = set_took bytes ps fits read
is_found bytes (Err fault) fits read = tt

-- no label set's bytes are the front of another's
front_of : List ℕ → Result (List Pair × List ℕ) ℕ
front_of bytes = number_at bytes >>= λ n. pairs_at n.0 None n.1

front_again : (ps : List Pair) (rest : List ℕ) → HasBytes ps
    → front_of (label_set_bytes ps ++ rest) ≡ Ok (ps, rest)
unfolding front_of
front_again ps rest set =
    let regrouped : label_set_bytes ps ++ rest ≡ to_be_bytes w16 (length ps)
    ++ (flat_map pair_bytes ps ++ rest) =
    append_assoc (to_be_bytes w16 (length ps)) (flat_map pair_bytes ps) rest in
    ap front_of regrouped
    ∙ rw (number_again (length ps) (flat_map pair_bytes ps ++ rest) (few_pairs ps set))
    (pairs_again None ps rest (follow_set ps set))

pub one_spelling : (ps qs : List Pair) (x y : List ℕ) → HasBytes ps → HasBytes qs
    → label_set_bytes ps ++ x ≡ label_set_bytes qs ++ y → (ps ≡ qs) × (x ≡ y)
one_spelling ps qs x y set other same =
    let both : (ps, x) ≡ (qs, y) =
    ok_is (ps, x) (qs, y)
    (sym (front_again ps x set) ∙ ap front_of same ∙ front_again qs y other) in
    (ap (λ (p : List Pair × List ℕ). p.0) both, ap (λ (p : List Pair × List ℕ). p.1) both)

-- ---- places

-- how many bytes are left is no more than there were
abbrev pub IsInside : {A : Type 0} → ℕ → Result (A × List ℕ) ℕ → Type 0
IsInside n (Err left) = left ≤ n
IsInside n (Ok x) = length x.1 ≤ n

bind_inside :
    {A B : Type 0} (n : ℕ) (r : Result (A × List ℕ) ℕ) (f : A × List ℕ → Result (B × List ℕ) ℕ)
    → IsInside n r
    → ((x : A × List ℕ) → length x.1 ≤ n → IsInside n (f x)) → IsInside n (r >>= f)
bind_inside n (Ok x) f here more = more x here
bind_inside n (Err left) f here more = here

number_inside : (n : ℕ) (bytes : List ℕ) → length bytes ≤ n → IsInside n (number_at bytes)
number_inside n bytes low =
    elim (ltb (length bytes) 2) as (λ b.
    IsInside n
    (cond b (Err (length bytes)) (Ok (from_be_bytes w16 (take 2 bytes), drop 2 bytes)))) [
      | true ↦ low
      | false ↦ omega (arith, length-drop 2 bytes)
    ]

text_inside : (rule : List ℕ → Bool) (n : ℕ) (bytes : List ℕ) → length bytes ≤ n
    → IsInside n (text_at rule bytes)
unfolding text_at
text_inside rule n bytes low =
    bind_inside n (number_at bytes) (λ k. cut_at k.0 k.1 >>= λ t. ruled rule k.1 t)
    (number_inside n bytes low)
    (λ k lower. bind_inside n (cut_at k.0 k.1) (λ t. ruled rule k.1 t)
    (elim (ltb (length k.1) k.0) as (λ b.
    IsInside n (cond b (Err (length k.1)) (Ok (take k.0 k.1, drop k.0 k.1)))) [
      | true ↦ lower
      | false ↦ omega (arith, length-drop k.0 k.1)
    ])
    (λ t lowest.
    elim (rule t.0) as (λ b. IsInside n (cond b (Ok t) (Err (length k.1)))) [
      | true ↦ lowest
      | false ↦ lower
    ]))

pair_inside : (last : Option (List ℕ)) (n : ℕ) (bytes : List ℕ) → length bytes ≤ n
    → IsInside n (pair_at last bytes)
unfolding pair_at
pair_inside last n bytes low =
    bind_inside n (text_at (is_next_name last) bytes)
    (λ t. text_at is_value t.1 >>= λ v. Ok (record { name = t.0; value = v.0 }, v.1))
    (text_inside (is_next_name last) n bytes low)
    (λ t lower.
    bind_inside n (text_at is_value t.1) (λ v. Ok (record { name = t.0; value = v.0 }, v.1))
    (text_inside is_value n t.1 lower) (λ v lowest. lowest))

pairs_inside : (count : ℕ) (last : Option (List ℕ)) (n : ℕ) (bytes : List ℕ) → length bytes ≤ n
    → IsInside n (pairs_at count last bytes)
unfolding pairs_at
pairs_inside zero last n bytes low = low
pairs_inside (suc k) last n bytes low =
    bind_inside n (pair_at last bytes)
    (λ first. pairs_at k (Some first.0.name) first.1
    >>= λ others. Ok (first.0 ∷ others.0, others.1)) (pair_inside last n bytes low)
    (λ first lower.
    bind_inside n (pairs_at k (Some first.0.name) first.1)
    (λ others. Ok (first.0 ∷ others.0, others.1))
    (pairs_inside k (Some first.0.name) n first.1 lower) (λ others lowest. lowest))

-- a fault lies within the bytes
ended_inside : (n : ℕ) (pairs : List Pair × List ℕ) (left : ℕ) → length pairs.1 ≤ n
    → ended pairs ≡ Err left → left ≤ n
ended_inside n pairs left low e = go (eqb (length pairs.1) 0) e
  where
    go : (b : Bool) → cond b (Ok pairs.0) (Err (length pairs.1)) ≡ Err left → left ≤ n
    go true h = absurd cc
    go false h = let same : length pairs.1 ≡ left = cc in omega (arith, same, low)

pub fields_inside : (bytes : List ℕ) (left : ℕ) → fields_of bytes ≡ Err left → left ≤ length bytes
unfolding fields_of
fields_inside bytes left e =
    go (number_at bytes >>= λ n. pairs_at n.0 None n.1)
    (bind_inside (length bytes) (number_at bytes) (λ n. pairs_at n.0 None n.1)
    (number_inside (length bytes) bytes (omega arith))
    (λ n lower. pairs_inside n.0 None (length bytes) n.1 lower))
    (rebound (number_at bytes) e)
  where
    go : (r : Result (List Pair × List ℕ) ℕ) → IsInside (length bytes) r → (r >>= ended) ≡ Err left
        → left ≤ length bytes
    go (Ok x) low h = ended_inside (length bytes) x left low h
    go (Err l) low h = let same : l ≡ left = cc in omega (arith, same, low)

    rebound : (r : Result (ℕ × List ℕ) ℕ) → (r >>= λ n. pairs_at n.0 None n.1 >>= ended) ≡ Err left
        → ((r >>= λ n. pairs_at n.0 None n.1) >>= ended) ≡ Err left
    rebound (Ok n) h = h
    rebound (Err l) h = h

pub stop_inside : (stop : Stop) (bytes : List ℕ) → Stops stop (fields_of bytes) → (left : ℕ)
    → stop ≡ At left → left ≤ length bytes
stop_inside stop bytes stopped left is =
    fields_inside bytes left (subst (λ s. Stops s (fields_of bytes)) is stopped)

pub broken_at : (stop : Stop) (bytes : List ℕ) (fault : ReadFault) → Stops stop (fields_of bytes)
    → fault ≡ fault_of (length bytes) stop → Breaks fault (label_set_of bytes)
unfolding label_set_of
broken_at stops.Memory bytes fault stopped is =
    subst (λ f. Breaks f (placed (length bytes) (fields_of bytes))) (sym is) tt
broken_at (At left) bytes fault stopped is =
    subst (λ f. Breaks f (placed (length bytes) (fields_of bytes))) (sym is)
    (ap (placed (length bytes)) stopped)

pub limits_kept : (bytes : List ℕ) (ps qs : List Pair) (r : Result (List Pair) ReadFault)
    → fields_of bytes ≡ Ok ps → qs ≡ ps → Reads r (limited qs) → Reads r (label_set_of bytes)
unfolding label_set_of
limits_kept bytes ps qs r read is kept =
    subst (Reads r) (ap limited is ∙ sym (ap (placed (length bytes)) read)) kept
