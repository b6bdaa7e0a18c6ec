-- A reader's fault is at the first field that breaks its rule.
use Rattle.std.proofs.Common.{◌≡◌, ◌≢◌, ◌⊎◌, ℕ, zero, suc, ◌-◌, ◌<◌, ◌^◌, Bool, true, false, cond, eqb, ltb, List, [], ◌∷◌, ◌++◌, length, take, drop, Option, Some, None, Result, Ok, Err, refl, sym, ap, subst, ◌∙◌, append_assoc, arith, inl, inr, true≢false}
use Rattle.std.specs.Prelude.{is_some, IfErr}
use Rattle.std.specs.Int.{w16, from_be_bytes, to_be_bytes}
use Rattle.std.proofs.lemmas.Bool.{ltb-true}
use Rattle.std.proofs.lemmas.List.{length-append, take_at}
use Rattle.vm_labels.specs.Labels.{limit_of}
use Rattle.vm_labels.specs.Bytes.{◌>>=◌, number_at, cut_at, ruled, text_at, is_next_name, is_value, pair_at, pairs_at, ended, fields_of, placed, label_set_of, Reads, text_bytes, pair_bytes}
use Rattle.vm_labels.specs.Broken.{Next, a_number, a_name_length, a_name, a_value_length, a_value, the_end, next_label, IsNumber, IsField, no_field, a_field, BreaksAt, IsFirstBroken, IsOverLimit, IsRefusal}
use Rattle.vm_labels.specs.declared.fault.ReadFault.{ReadFault}
use Rattle.vm_labels.specs.declared.fault.ReadFault.TheVariants.{Broken, Memory}
use Rattle.vm_labels.specs.declared.pair.Pair.{Pair}
use Rattle.vm_labels.specs.declared.fault.LimitFault.{LimitFault}
use Rattle.vm_labels.proofs.ReadLaws.{IsBytes, IsNext, bind_ok, number_took, text_took, pair_took, fields_took, follow_labels}

-- ---- a fault after a field

abbrev pub Breaks : Next → List ℕ → ℕ → Type 0
Breaks next bytes left = (rest : List ℕ) × BreaksAt next bytes rest × (left ≡ length rest)

here : (next : Next) (bytes : List ℕ)
    → ((field more : List ℕ) (behind : Next) → bytes ≡ field ++ more → IsField next field behind
    → ⊥)
    → (next ≡ the_end → bytes ≢ []) → Breaks next bytes (length bytes)
here next bytes broken open_end = (
  bytes,
  record {
    front = [];
    later = next;
    parts = refl;
    read = no_field;
    broken = broken;
    not_done = open_end;
  },
  refl,
)

past : (next later : Next) (bytes field rest : List ℕ) (left : ℕ) → bytes ≡ field ++ rest
    → IsField next field later → Breaks later rest left → Breaks next bytes left
past next later bytes field rest left parts is b = (
  b.0,
  record {
    front = field ++ b.1.front;
    later = b.1.later;
    parts = parts ∙ ap (λ t. field ++ t) b.1.parts ∙ sym (append_assoc field b.1.front b.0);
    read = a_field field b.1.front is b.1.read;
    broken = b.1.broken;
    not_done = b.1.not_done;
  },
  b.2,
)

-- ---- steps

err_is : {A : Type 0} (x y : ℕ) → ◌≡◌ {A = Result A ℕ} (Err x) (Err y) → x ≡ y
err_is x y e = cc

bind_err : {A B : Type 0} (r : Result A ℕ) (f : A → Result B ℕ) (left : ℕ) → (r >>= f) ≡ Err left
    → (r ≡ Err left) ⊎ ((x : A) × (r ≡ Ok x) × (f x ≡ Err left))
bind_err (Ok x) f left e = inr (x, refl, e)
bind_err {A} {B} (Err d) f left e = inl (ap Err (err_is {A = B} d left e))

pair_is : {A : Type 0} (x y : A) → ◌≡◌ {A = Result A ℕ} (Ok x) (Ok y) → x ≡ y
pair_is x y e = cc

some_none : (fault : LimitFault) → ◌≡◌ {A = Option LimitFault} (Some fault) None → ⊥
some_none fault e = absurd cc

-- a state that awaits a number
pub record AwaitsNumber (next : Next) (later : ℕ → Next) : Type 0 where
  pub number : (field : List ℕ) (behind : Next) → IsField next field behind → (n : ℕ)
      × IsNumber field n
  pub field : (field : List ℕ) (n : ℕ) → IsNumber field n → IsField next field (later n)
  pub not_end : next ≡ the_end → ⊥

-- a state that awaits a text of a length, which keeps a rule
pub record AwaitsText (rule : List ℕ → Bool) (next : Next) (len : ℕ) (later : List ℕ → Next) :
    Type 0 where
  pub text : (field : List ℕ) (behind : Next) → IsField next field behind → (length field ≡ len)
      × (rule field ≡ true)
  pub field : (field : List ℕ) → length field ≡ len → rule field ≡ true
      → IsField next field (later field)
  pub not_end : next ≡ the_end → ⊥

abbrev is_end : Next → Bool
is_end a_number = false
is_end (a_name_length more last) = false
is_end (a_name more last len) = false
is_end (a_value_length more name) = false
is_end (a_value more name len) = false
is_end the_end = true

apart : (next : Next) → is_end next ≡ false → next ≡ the_end → ⊥
apart next h e = true≢false (sym (ap is_end e) ∙ h)

number_awaited : AwaitsNumber a_number (λ n. next_label n None)
number_awaited =
    record {
      number = λ field behind is. (is.0, is.1);
      field = λ field n is. (n, is, refl);
      not_end = apart a_number refl;
    }

name_length_awaited : (more : ℕ) (last : Option (List ℕ))
    → AwaitsNumber (a_name_length more last) (a_name more last)
name_length_awaited more last =
    record {
      number = λ field behind is. (is.0, is.1);
      field = λ field n is. (n, is, refl);
      not_end = apart (a_name_length more last) refl;
    }

value_length_awaited : (more : ℕ) (name : List ℕ)
    → AwaitsNumber (a_value_length more name) (a_value more name)
value_length_awaited more name =
    record {
      number = λ field behind is. (is.0, is.1);
      field = λ field n is. (n, is, refl);
      not_end = apart (a_value_length more name) refl;
    }

name_awaited : (more : ℕ) (last : Option (List ℕ)) (len : ℕ)
    → AwaitsText (is_next_name last) (a_name more last len) len (a_value_length more)
name_awaited more last len =
    record {
      text = λ field behind is. (is.0, is.1);
      field = λ field same right. (same, right, refl);
      not_end = apart (a_name more last len) refl;
    }

value_awaited : (more : ℕ) (name : List ℕ) (len : ℕ)
    → AwaitsText is_value (a_value more name len) len (λ _. next_label more (Some name))
value_awaited more name len =
    record {
      text = λ field behind is. (is.0, is.1);
      field = λ field same right. (same, right, refl);
      not_end = apart (a_value more name len) refl;
    }

-- ---- one field

short_number : (bytes field more : List ℕ) (n : ℕ) → length bytes < 2 → bytes ≡ field ++ more
    → IsNumber field n → ⊥
short_number bytes field more n short parts is =
    let len : length field ≡ 2 = ap length is.1 in
    omega (arith, short, ap length parts, length-append field more, len)

short_text : (bytes field more : List ℕ) (n : ℕ) → length bytes < n → bytes ≡ field ++ more
    → length field ≡ n → ⊥
short_text bytes field more n short parts len =
    omega (arith, short, ap length parts, length-append field more, len)

ruled_out : (rule : List ℕ → Bool) (bytes field more : List ℕ) (n : ℕ) → rule (take n bytes) ≡ false
    → bytes ≡ field ++ more → length field ≡ n → rule field ≡ true → ⊥
ruled_out rule bytes field more n wrong parts len right =
    true≢false (sym right ∙ ap rule (sym (ap (take n) parts ∙ take_at field more n len)) ∙ wrong)

number_broken : (next : Next) (later : ℕ → Next) → AwaitsNumber next later
    → (bytes : List ℕ) (left : ℕ) → number_at bytes ≡ Err left → Breaks next bytes left
number_broken next later awaits bytes left e = go (ltb (length bytes) 2) refl e
  where
    go : (b : Bool) → ltb (length bytes) 2 ≡ b
        → ◌≡◌ {A = Result (ℕ × List ℕ) ℕ}
        (cond b (Err (length bytes)) (Ok (from_be_bytes w16 (take 2 bytes), drop 2 bytes)))
        (Err left) → Breaks next bytes left
    go true short h =
        subst (Breaks next bytes) (err_is {A = ℕ × List ℕ} (length bytes) left h)
        (here next bytes
        (λ field more behind parts is.
        let n = awaits.number field behind is in short_number bytes field more n.0
        (ltb-true (length bytes) 2 short) parts n.1)
        (λ end. absurd (awaits.not_end end)))
    go false long h = absurd cc

text_rest_broken : (rule : List ℕ → Bool) (next : Next) (len : ℕ) (later : List ℕ → Next)
    → AwaitsText rule next len later → (bytes : List ℕ) (left : ℕ)
    → (cut_at len bytes >>= λ t. ruled rule bytes t) ≡ Err left → Breaks next bytes left
text_rest_broken rule next len later awaits bytes left e = cut (ltb (length bytes) len) refl e
  where
    test : (b : Bool) → rule (take len bytes) ≡ b
        → ◌≡◌ {A = Result (List ℕ × List ℕ) ℕ}
        (cond b (Ok (take len bytes, drop len bytes)) (Err (length bytes))) (Err left)
        → Breaks next bytes left
    test true right h = absurd cc
    test false wrong h =
        subst (Breaks next bytes) (err_is {A = List ℕ × List ℕ} (length bytes) left h)
        (here next bytes
        (λ field more behind parts is.
        let t = awaits.text field behind is in ruled_out rule bytes field more len wrong parts
        t.0 t.1)
        (λ end. absurd (awaits.not_end end)))

    cut : (b : Bool) → ltb (length bytes) len ≡ b
        → (cond b (Err (length bytes)) (Ok (take len bytes, drop len bytes))
        >>= λ t. ruled rule bytes t) ≡ Err left → Breaks next bytes left
    cut true short h =
        subst (Breaks next bytes) (err_is {A = List ℕ × List ℕ} (length bytes) left h)
        (here next bytes
        (λ field more behind parts is.
        let t = awaits.text field behind is in short_text bytes field more len
        (ltb-true (length bytes) len short) parts t.0)
        (λ end. absurd (awaits.not_end end)))
    cut false long h = test (rule (take len bytes)) refl h

-- ---- a length and its text

text_broken : (rule : List ℕ → Bool) (next : Next) (texts : ℕ → Next) (later : List ℕ → Next)
    → AwaitsNumber next texts → ((len : ℕ) → AwaitsText rule (texts len) len later)
    → (bytes : List ℕ) (left : ℕ) → IsBytes bytes → text_at rule bytes ≡ Err left
    → Breaks next bytes left
unfolding text_at
text_broken rule next texts later lengths awaits bytes left fits e =
    elim (bind_err (number_at bytes) (λ n. cut_at n.0 n.1 >>= λ t. ruled rule n.1 t) left e) [
      | inl short ↦ number_broken next texts lengths bytes left short
      | inr x ↦
          let took = number_took bytes x.0.0 x.0.1 fits x.1 in
          past next (texts x.0.0) bytes (to_be_bytes w16 x.0.0) x.0.1 left took.0.parts
          (lengths.field (to_be_bytes w16 x.0.0) x.0.0 (took.1, refl))
          (text_rest_broken rule (texts x.0.0) x.0.0 later (awaits x.0.0) x.0.1 left x.2)
    ]

past_text : (rule : List ℕ → Bool) (next : Next) (texts : ℕ → Next) (later : List ℕ → Next)
    → AwaitsNumber next texts → ((len : ℕ) → AwaitsText rule (texts len) len later)
    → (bytes text rest : List ℕ) (left : ℕ) → bytes ≡ text_bytes text ++ rest → rule text ≡ true
    → length text < 2 ^ 16 → Breaks (later text) rest left → Breaks next bytes left
past_text rule next texts later lengths awaits bytes text rest left parts right small b =
    past next (texts (length text)) bytes (to_be_bytes w16 (length text)) (text ++ rest) left
    (parts ∙ append_assoc (to_be_bytes w16 (length text)) text rest)
    (lengths.field (to_be_bytes w16 (length text)) (length text) (small, refl))
    (past (texts (length text)) (later text) (text ++ rest) text rest left refl
    ((awaits (length text)).field text refl right) b)

-- ---- pairs

past_pair : (more : ℕ) (last : Option (List ℕ)) (bytes rest : List ℕ) (p : Pair) (left : ℕ)
    → bytes ≡ pair_bytes p ++ rest → IsNext last p
    → Breaks (next_label more (Some p.name)) rest left → Breaks (a_name_length more last) bytes left
past_pair more last bytes rest p left parts next b =
    past_text (is_next_name last) (a_name_length more last) (a_name more last) (a_value_length more)
    (name_length_awaited more last) (name_awaited more last)
    bytes p.name (text_bytes p.value ++ rest) left
    (parts ∙ append_assoc (text_bytes p.name) (text_bytes p.value) rest) next.name
    next.short_name
    (past_text is_value (a_value_length more p.name) (a_value more p.name)
    (λ _. next_label more (Some p.name)) (value_length_awaited more p.name)
    (value_awaited more p.name)
    (text_bytes p.value ++ rest) p.value rest left refl next.value next.short_value b)

pair_broken : (more : ℕ) (last : Option (List ℕ)) (bytes : List ℕ) (left : ℕ) → IsBytes bytes
    → pair_at last bytes ≡ Err left → Breaks (a_name_length more last) bytes left
unfolding pair_at
pair_broken more last bytes left fits e =
    elim (bind_err (text_at (is_next_name last) bytes)
    (λ n. text_at is_value n.1 >>= λ v. Ok (record { name = n.0; value = v.0 }, v.1)) left e) [
      | inl wrong ↦
          text_broken (is_next_name last) (a_name_length more last) (a_name more last)
          (a_value_length more) (name_length_awaited more last) (name_awaited more last) bytes left
          fits wrong
      | inr x ↦
          let took = text_took (is_next_name last) bytes x.0.0 x.0.1 fits x.1 in
          past_text (is_next_name last) (a_name_length more last) (a_name more last)
          (a_value_length more) (name_length_awaited more last) (name_awaited more last)
          bytes x.0.0 x.0.1 left took.0.parts took.1 took.2
          (value_broken x.0.0 x.0.1 took.0.rest_fits
          (bind_err (text_at is_value x.0.1)
          (λ v. Ok (record { name = x.0.0; value = v.0 }, v.1)) left x.2))
    ]
  where
    value_broken : (name rest : List ℕ) → IsBytes rest
        → (text_at is_value rest ≡ Err left)
        ⊎ ((v : List ℕ × List ℕ) × (text_at is_value rest ≡ Ok v)
        × (◌≡◌ {A = Result (Pair × List ℕ) ℕ} (Ok (record { name = name; value = v.0 }, v.1))
        (Err left)))
        → Breaks (a_value_length more name) rest left
    value_broken name rest tail_fits (inl wrong) =
        text_broken is_value (a_value_length more name) (a_value more name)
        (λ _. next_label more (Some name)) (value_length_awaited more name)
        (value_awaited more name) rest left tail_fits wrong
    value_broken name rest tail_fits (inr v) = let never = v.2 in absurd cc

abbrev with_first : Pair → List Pair × List ℕ → Result (List Pair × List ℕ) ℕ
with_first p others = Ok (p ∷ others.0, others.1)

pairs_broken : (count : ℕ) (last : Option (List ℕ)) (bytes : List ℕ) (left : ℕ) → IsBytes bytes
    → pairs_at count last bytes ≡ Err left → Breaks (next_label count last) bytes left
unfolding pairs_at
pairs_broken zero last bytes left fits e = absurd cc
pairs_broken (suc n) last bytes left fits e =
    elim (bind_err (pair_at last bytes)
    (λ first. pairs_at n (Some first.0.name) first.1
    >>= λ others. Ok (first.0 ∷ others.0, others.1)) left e) [
      | inl wrong ↦ pair_broken n last bytes left fits wrong
      | inr x ↦
          let took = pair_took last bytes x.0.0 x.0.1 fits x.1 in
          past_pair n last bytes x.0.1 x.0.0 left took.0.parts took.1
          (pairs_broken n (Some x.0.0.name) x.0.1 left took.0.rest_fits
          (others_err (pairs_at n (Some x.0.0.name) x.0.1) x.0.0 x.2))
    ]
  where
    others_err : (r : Result (List Pair × List ℕ) ℕ) (p : Pair) → (r >>= with_first p) ≡ Err left
        → r ≡ Err left
    others_err (Ok x) p h = absurd cc
    others_err (Err l) p h = ap Err (err_is {A = List Pair × List ℕ} l left h)

-- bytes are left over
pairs_left : (count : ℕ) (last : Option (List ℕ)) (bytes : List ℕ) (ps : List Pair) (rest : List ℕ)
    → IsBytes bytes → pairs_at count last bytes ≡ Ok (ps, rest) → rest ≢ []
    → Breaks (next_label count last) bytes (length rest)
unfolding pairs_at
pairs_left zero last bytes ps rest fits e some =
    let same : bytes ≡ rest =
    ap (λ (x : List Pair × List ℕ). x.1) (pair_is ([], bytes) (ps, rest) e) in
    subst (λ t. Breaks the_end t (length rest)) (sym same)
    (here the_end rest (λ field more behind parts is. is) (λ end. some))
pairs_left (suc n) last bytes ps rest fits e some =
    let a = bind_ok (pair_at last bytes)
    (λ first. pairs_at n (Some first.0.name) first.1
    >>= λ others. Ok (first.0 ∷ others.0, others.1)) (ps, rest) e in
    let b = bind_ok (pairs_at n (Some a.0.0.name) a.0.1) (λ others. Ok (a.0.0 ∷ others.0, others.1))
    (ps, rest) a.2 in
    let took = pair_took last bytes a.0.0 a.0.1 fits a.1 in
    let same : b.0.1 ≡ rest =
    ap (λ (x : List Pair × List ℕ). x.1) (pair_is (a.0.0 ∷ b.0.0, b.0.1) (ps, rest) b.2) in
    past_pair n last bytes a.0.1 a.0.0 (length rest) took.0.parts took.1
    (pairs_left n (Some a.0.0.name) a.0.1 b.0.0 rest took.0.rest_fits
    (b.1 ∙ ap (λ t. Ok (b.0.0, t)) same) some)

-- ---- a whole set

ended_broken : (count : ℕ) (bytes : List ℕ) (left : ℕ) → IsBytes bytes
    → (pairs_at count None bytes >>= ended) ≡ Err left → Breaks (next_label count None) bytes left
ended_broken count bytes left fits e =
    elim (bind_err (pairs_at count None bytes) ended left e) [
      | inl wrong ↦ pairs_broken count None bytes left fits wrong
      | inr x ↦ over x.0 x.1 (eqb (length x.0.1) 0) refl x.2
    ]
  where
    over : (x : List Pair × List ℕ) → pairs_at count None bytes ≡ Ok x → (b : Bool)
        → eqb (length x.1) 0 ≡ b
        → ◌≡◌ {A = Result (List Pair) ℕ} (cond b (Ok x.0) (Err (length x.1))) (Err left)
        → Breaks (next_label count None) bytes left
    over x read true none h = absurd cc
    over x read false some h =
        subst (Breaks (next_label count None) bytes) (err_is {A = List Pair} (length x.1) left h)
        (pairs_left count None bytes x.0 x.1 fits read
        (λ empty. true≢false (sym (ap (λ t. eqb (length t) 0) empty) ∙ some)))

fields_broken : (bytes : List ℕ) (left : ℕ) → IsBytes bytes → fields_of bytes ≡ Err left
    → Breaks a_number bytes left
unfolding fields_of
fields_broken bytes left fits e =
    elim (bind_err (number_at bytes) (λ n. pairs_at n.0 None n.1 >>= ended) left e) [
      | inl short ↦ number_broken a_number (λ n. next_label n None) number_awaited bytes left short
      | inr x ↦
          let took = number_took bytes x.0.0 x.0.1 fits x.1 in
          past a_number (next_label x.0.0 None) bytes (to_be_bytes w16 x.0.0) x.0.1 left
          took.0.parts (x.0.0, (took.1, refl), refl)
          (ended_broken x.0.0 x.0.1 left took.0.rest_fits x.2)
    ]

pub places_first : (bytes : List ℕ) (at : ℕ) → IsBytes bytes → label_set_of bytes ≡ Err at
    → IsFirstBroken bytes at ⊎ IsOverLimit bytes at
unfolding label_set_of
places_first bytes at fits e = go (fields_of bytes) refl e
  where
    over : (ps : List Pair) → fields_of bytes ≡ Ok ps → (o : Option LimitFault) → limit_of ps ≡ o
        → ◌≡◌ {A = Result (List Pair) ℕ} (cond (is_some o) (Err 0) (Ok ps)) (Err at)
        → IsOverLimit bytes at
    over ps read None within h = absurd cc
    over ps read (Some fault) broken h =
        let fields = fields_took bytes ps fits read in (
          ps,
          follow_labels ps fields.1,
          fields.0,
          (λ none. absurd (some_none fault (sym broken ∙ none))),
          sym (err_is {A = List Pair} 0 at h),
        )

    go : (r : Result (List Pair) ℕ) → fields_of bytes ≡ r → placed (length bytes) r ≡ Err at
        → IsFirstBroken bytes at ⊎ IsOverLimit bytes at
    go (Err left) read h =
        let b = fields_broken bytes left fits read in
        inl (
          b.0,
          b.1,
          sym (err_is {A = List Pair} (length bytes - left) at h)
              ∙ ap (λ k. length bytes - k) b.2,
        )
    go (Ok ps) read h = inr (over ps read (limit_of ps) refl h)

pub refusal : (bytes : List ℕ) (r : Result (List Pair) ReadFault) → IsBytes bytes
    → Reads r (label_set_of bytes) → IfErr r (λ fault. IsRefusal fault bytes)
refusal bytes (Ok ps) fits read = tt
refusal bytes (Err Memory) fits read = tt
refusal bytes (Err (Broken at)) fits read = places_first bytes at fits read
