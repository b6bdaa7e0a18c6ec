-- What stays at the front of an output, how long the texts of a set within the limits are, and
-- which texts are UTF-8.
use Rattle.std.proofs.Common.{◌≡◌, ℕ, zero, suc, ◌+◌, ◌<◌, ◌≤◌, Bool, true, false, cond, not, ◌||◌, eqb, ltb, List, [], ◌∷◌, ◌++◌, length, take, drop, get_or, Option, Some, None, refl, sym, ap, subst, ◌∙◌, append_assoc, arith, true≢false}
use Rattle.std.specs.Prelude.{position, option_map, IsAscii}
use Rattle.std.specs.List.{AllByRecursion, list_all, position_from}
use Rattle.std.specs.Str.{IsUtf8, is_utf8}
use Rattle.std.proofs.lemmas.Bool.{ltb-false}
use Rattle.std.proofs.lemmas.Bool.Decides.{nat_tests}
use Rattle.std.proofs.lemmas.Iterator.Adapters.{position_from-zero}
use Rattle.std.proofs.lemmas.List.{take_at, take-append-drop}
use Rattle.std.proofs.lemmas.List.Elements.{All-from_recursion}
use Rattle.std.proofs.lemmas.Str.{IsUtf8-from_ascii, IsUtf8-from_is_utf8, is_utf8-from_IsUtf8}
use Rattle.vm_labels.specs.Name.{is_name, is_name_byte, begins_name}
use Rattle.vm_labels.specs.Labels.{limit_of, is_too_long, is_below}
use Rattle.vm_labels.specs.Bytes.{only_if, is_value, is_next_name}
use Rattle.vm_labels.specs.declared.pair.Pair.{Pair}
use Rattle.vm_labels.specs.declared.fault.LimitFault.TheVariants.{NoLabel, TooMany, TooLong}
use Rattle.vm_labels.proofs.OrderLaws.{both_true, and_true}

-- what stood before still stands there, where more was put after it
pub kept_on : (a b c more : List ℕ) → b ≡ a ++ more → take (length b) c ≡ b → take (length a) c ≡ a
kept_on a b c more is kept =
    ap (take (length a))
    (sym (take-append-drop (length b) c) ∙ ap (λ t. t ++ drop (length b) c) (kept ∙ is)
    ∙ append_assoc a more (drop (length b) c))
    ∙ take_at a (more ++ drop (length b) c) (length a) refl

-- ---- limits

none_passes : {X : Type 0} (test : X → Bool) (i : ℕ) (xs : List X) → position_from test i xs ≡ None
    → AllByRecursion (λ x. test x ≡ false) xs
none_passes test i [] h = tt
none_passes test i (x ∷ xs) h = go (none_passes test (i + 1) xs) (test x) refl h
  where
    go : (position_from test (i + 1) xs ≡ None → AllByRecursion (λ y. test y ≡ false) xs)
        → (b : Bool) → test x ≡ b
        → cond b (Some i) (position_from test (i + 1) xs) ≡ None
        → AllByRecursion (λ y. test y ≡ false) (x ∷ xs)
    go more true e none = absurd cc
    go more false e none = (e, more none)

-- what no limit broken says
pub record IsWithin (ps : List Pair) : Type 0 where
  pub some : 0 < length ps
  pub few : length ps ≤ 40
  pub short : AllByRecursion (λ p. is_too_long p ≡ false) ps

positive : (n : ℕ) → eqb n 0 ≡ false → 0 < n
positive zero h = absurd (true≢false h)
positive (suc n) h = omega arith

pub within : (ps : List Pair) → limit_of ps ≡ None → IsWithin ps
within ps h = go (eqb (length ps) 0) (ltb 40 (length ps)) (position is_too_long ps) refl refl refl h
  where
    go : (empty many : Bool) (long : Option ℕ) → (eqb (length ps) 0) ≡ empty
        → ltb 40 (length ps) ≡ many → position is_too_long ps ≡ long
        → cond empty (Some NoLabel)
        (cond many (Some (TooMany (length ps))) (option_map TooLong long)) ≡ None → IsWithin ps
    go true many long a b c none = absurd cc
    go false true long a b c none = absurd cc
    go false false (Some i) a b c none = absurd cc
    go false false None a b c none = record {
      some = positive (length ps) a;
      few = ltb-false 40 (length ps) b;
      short = none_passes is_too_long 0 ps (sym (position_from-zero is_too_long ps) ∙ c);
    }

either_false : (a b : Bool) → (a || b) ≡ false → (a ≡ false) × (b ≡ false)
either_false true b h = absurd (true≢false h)
either_false false b h = (refl, h)

pub short_texts : (p : Pair) → is_too_long p ≡ false → (length p.name ≤ 256)
    × (length p.value ≤ 4096)
short_texts p h =
    let both = either_false (ltb 256 (length p.name)) (ltb 4096 (length p.value)) h in
    (ltb-false 256 (length p.name) both.0, ltb-false 4096 (length p.value) both.1)

pub short_at : (ps : List Pair) (i : ℕ) (p : Pair) → limit_of ps ≡ None → i < length ps
    → p ≡ get_or ps i p → (length p.name ≤ 256) × (length p.value ≤ 4096)
short_at ps i p limits low is =
    let all = All-from_recursion (λ q. is_too_long q ≡ false) ps (within ps limits).short in
    short_texts p (subst (λ q. is_too_long q ≡ false) (sym is) (all i p low))

-- ---- texts

low_byte : (b : ℕ) → is_name_byte b ≡ true → b < 128
low_byte b h = grind (arith, nat_tests)

low_bytes : (text : List ℕ) → list_all is_name_byte text ≡ true → IsAscii text
low_bytes [] h i = omega arith
low_bytes (b ∷ bs) h zero = low_byte b (both_true (is_name_byte b) (list_all is_name_byte bs) h).0
low_bytes (b ∷ bs) h (suc i) =
    low_bytes bs (both_true (is_name_byte b) (list_all is_name_byte bs) h).1 i

-- a name is UTF-8
pub name_utf8 : (text : List ℕ) → is_name text ≡ true → IsUtf8 text
name_utf8 text h =
    IsUtf8-from_ascii text
    (low_bytes text (both_true (begins_name (get_or text 0 0)) (list_all is_name_byte text) h).1)

pub next_is_name : (last : Option (List ℕ)) (name : List ℕ) → is_next_name last name ≡ true
    → is_name name ≡ true
next_is_name None name h = h
next_is_name (Some l) name h = (both_true (is_name name) (is_below l name) h).0

refused : (rule : List ℕ → Bool) (bytes : List ℕ) → (rule bytes ≡ true → IsUtf8 bytes)
    → ¬ (IsUtf8 bytes) → None ≡ only_if rule bytes
refused rule bytes says none = go (rule bytes) refl
  where
    go : (b : Bool) → rule bytes ≡ b → None ≡ cond b (Some bytes) None
    go true h = absurd (none (says h))
    go false h = refl

pub name_refused : (last : Option (List ℕ)) (bytes : List ℕ) → ¬ (IsUtf8 bytes)
    → None ≡ only_if (is_next_name last) bytes
name_refused last bytes =
    refused (is_next_name last) bytes (λ h. name_utf8 bytes (next_is_name last bytes h))

pub value_refused : (bytes : List ℕ) → ¬ (IsUtf8 bytes) → None ≡ only_if is_value bytes
value_refused bytes =
    refused is_value bytes
    (λ h. IsUtf8-from_is_utf8 bytes (both_true (not (eqb (length bytes) 0)) (is_utf8 bytes) h).1)

pub value_taken : (bytes : List ℕ) → IsUtf8 bytes → (eqb (length bytes) 0) ≡ false
    → Some bytes ≡ only_if is_value bytes
value_taken bytes text some =
    sym (ap (λ b. cond b (Some bytes) None)
    (and_true (not (eqb (length bytes) 0)) (is_utf8 bytes) (ap not some)
    (is_utf8-from_IsUtf8 bytes text)))
