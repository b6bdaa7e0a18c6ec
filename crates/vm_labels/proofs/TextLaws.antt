-- How texts of label sets grow as they are written.
use Rattle.std.proofs.Common.{◌≡◌, ℕ, zero, suc, ◌+◌, ◌<◌, ◌≤◌, Bool, true, false, cond, ◌||◌, eqb, List, [], ◌∷◌, ◌++◌, length, take, drop, get_or, map, refl, sym, ap, ◌∙◌, append_assoc, arith, true≢false}
use Rattle.std.specs.Prelude.{flat_map, slice_index, Result, Ok, Err, OnOk}
use Rattle.std.specs.List.{join_with_byte}
use Rattle.std.proofs.lemmas.List.{drop_more, take_more, take_all, take_at, map_push, take-append-drop, length-take, length-map}
use Rattle.std.proofs.lemmas.Bool.Decides.{nat_tests}
use Rattle.std.proofs.lemmas.Grind.{flat_map-append}
use Rattle.memchr.specs.Find.{NoneBefore, Nowhere, Passes, is_byte3}
use Rattle.json.specs.Print.{print, print_from}
use Rattle.json.specs.Token.{Token, end_object}
use Rattle.vm_labels.specs.Text.{escaped_byte, comma_before, pair_text, pair_json, label_json, pair_tokens, tokens_of}
use Rattle.vm_labels.specs.declared.pair.Pair.{Pair}
use Rattle.vm_labels.proofs.BytesLaws.{kept_on}

abbrev is_special : ℕ → Bool
is_special = is_byte3 92 34 10

-- ---- escapes

plain_byte : (b : ℕ) → is_special b ≡ false → escaped_byte b ≡ b ∷ []
plain_byte b h = go (eqb b 92) (eqb b 34) (eqb b 10) h
  where
    go : (x y z : Bool) → ((x || y) || z) ≡ false
        → cond x (92 ∷ 92 ∷ []) (cond y (92 ∷ 34 ∷ []) (cond z (92 ∷ 110 ∷ []) (b ∷ []))) ≡ b ∷ []
    go true y z e = absurd (true≢false e)
    go false true z e = absurd (true≢false e)
    go false false true e = absurd (true≢false e)
    go false false false e = refl

-- a run of bytes that need no escape stands for itself
plain_run : (n : ℕ) (xs : List ℕ) → ((k : ℕ) → k < n → is_special (slice_index xs k) ≡ false)
    → n ≤ length xs → flat_map escaped_byte (take n xs) ≡ take n xs
plain_run zero xs plain low = refl
plain_run (suc n) [] plain low = refl
plain_run (suc n) (x ∷ xs) plain low =
    ap (λ t. t ++ flat_map escaped_byte (take n xs)) (plain_byte x (plain 0 (omega arith)))
    ∙ ap (λ t. x ∷ t) (plain_run n xs (λ k lt. plain (suc k) (omega arith)) (omega arith))

not_special : (b : Bool) → ¬ (b ≡ true) → b ≡ false
not_special true h = absurd (h refl)
not_special false h = refl

-- the next escape, and the run before it
pub escape_step : (out rest : List ℕ) (at : ℕ) (b : ℕ) (total : List ℕ)
    → NoneBefore (Passes is_special rest) 0 (length rest) at → b ≡ slice_index rest at
    → out ++ flat_map escaped_byte rest ≡ total → ((out ++ take at rest) ++ escaped_byte b)
    ++ flat_map escaped_byte (drop (at + 1) rest) ≡ total
escape_step out rest at b total first is so_far =
    let low : at < length rest = first.high in
    let plain : flat_map escaped_byte (take at rest) ≡ take at rest =
    plain_run at rest
    (λ k lt. not_special (is_special (slice_index rest k)) (first.before k (omega arith) lt))
    (omega arith) in
    let cut : rest ≡ take at rest ++ (b ∷ drop (at + 1) rest) =
    sym (take-append-drop at rest)
    ∙ ap (λ t. take at rest ++ t)
    (drop_more rest at 0 low ∙ ap (λ x. x ∷ drop (at + 1) rest) (sym is)) in
    let parts : flat_map escaped_byte rest ≡ take at rest
    ++ (escaped_byte b ++ flat_map escaped_byte (drop (at + 1) rest)) =
    ap (flat_map escaped_byte) cut
    ∙ flat_map-append escaped_byte (take at rest) (b ∷ drop (at + 1) rest)
    ∙ ap (λ t. t ++ (escaped_byte b ++ flat_map escaped_byte (drop (at + 1) rest))) plain in
    append_assoc (out ++ take at rest) (escaped_byte b) (flat_map escaped_byte (drop (at + 1) rest))
    ∙ append_assoc out (take at rest) (escaped_byte b ++ flat_map escaped_byte (drop (at + 1) rest))
    ∙ ap (λ t. out ++ t) (sym parts) ∙ so_far

pub escape_end : (rest : List ℕ) → Nowhere (Passes is_special rest) 0 (length rest)
    → flat_map escaped_byte rest ≡ rest
escape_end rest none =
    let whole : take (length rest) rest ≡ rest = take_all (length rest) rest (omega arith) in
    ap (flat_map escaped_byte) (sym whole)
    ∙ plain_run (length rest) rest
    (λ k lt. not_special (is_special (slice_index rest k)) (none k (omega arith) lt)) (omega arith)
    ∙ whole

-- ---- outputs

-- what stood before still stands there after two steps
pub kept_twice : (a b c : List ℕ) → take (length a) b ≡ a → take (length b) c ≡ b
    → take (length a) c ≡ a
kept_twice a b c first second =
    let front : b ≡ a ++ drop (length a) b = sym (take-append-drop (length a) b)
    ∙ ap (λ t. t ++ drop (length a) b) first in
    kept_on a b c (drop (length a) b) front second

pub front_kept : (b x y : List ℕ) → take (length b) ((b ++ x) ++ y) ≡ b
front_kept b x y = ap (take (length b)) (append_assoc b x y) ∙ take_at b (x ++ y) (length b) refl

-- ---- commas

suc_apart : (n : ℕ) → eqb (suc n) 0 ≡ false
suc_apart n = grind (arith, nat_tests)

comma_some : (n : ℕ) → comma_before (suc n) ≡ 44 ∷ []
comma_some n = ap (λ b. cond b [] (44 ∷ [])) (suc_apart n)

join_push : (xs : List (List ℕ)) (y : List ℕ)
    → join_with_byte 44 (xs ++ y ∷ []) ≡ join_with_byte 44 xs ++ (comma_before (length xs) ++ y)
join_push [] y = refl
join_push (x ∷ []) y = refl
join_push (x ∷ z ∷ xs) y =
    let joined = join_with_byte 44 (z ∷ xs) in
    let same : comma_before (length (z ∷ xs)) ≡ comma_before (length (x ∷ z ∷ xs)) =
    comma_some (length xs) ∙ sym (comma_some (length (z ∷ xs))) in
    ap (λ (t : List ℕ). x ++ 44 ∷ t) (join_push (z ∷ xs) y)
    ∙ sym (append_assoc x (44 ∷ joined) (comma_before (length (z ∷ xs)) ++ y))
    ∙ ap (λ (t : List ℕ). (x ++ 44 ∷ joined) ++ (t ++ y)) same

pub join_more : (ps : List Pair) (i : ℕ) (p : Pair) → i < length ps → p ≡ get_or ps i p
    → join_with_byte 44 (map pair_text (take (i + 1) ps))
    ≡ join_with_byte 44 (map pair_text (take i ps)) ++ (comma_before i ++ pair_text p)
join_more ps i p low is =
    let len : length (map pair_text (take i ps)) ≡ i =
    omega (arith, length-map (take i ps) pair_text, length-take i ps) in
    ap (λ qs. join_with_byte 44 (map pair_text qs))
    (take_more ps i p low ∙ ap (λ q. take i ps ++ q ∷ []) (sym is))
    ∙ ap (join_with_byte 44) (map_push pair_text (take i ps) p)
    ∙ join_push (map pair_text (take i ps)) (pair_text p)
    ∙ ap (λ k. join_with_byte 44 (map pair_text (take i ps)) ++ (comma_before k ++ pair_text p)) len

-- one more pair in a text
pub text_more : (front out1 out2 out3 : List ℕ) (ps : List Pair) (i : ℕ) (p : Pair) → i < length ps
    → p ≡ get_or ps i p
    → out1 ≡ front ++ 123 ∷ join_with_byte 44 (map pair_text (take i ps)) → out2 ≡ out1
    ++ comma_before i → out3 ≡ out2 ++ pair_text p
    → out3 ≡ front ++ 123 ∷ join_with_byte 44 (map pair_text (take (i + 1) ps))
text_more front out1 out2 out3 ps i p low is so_far comma pair =
    let joined = join_with_byte 44 (map pair_text (take i ps)) in
    pair ∙ ap (λ t. t ++ pair_text p) (comma ∙ ap (λ t. t ++ comma_before i) so_far)
    ∙ append_assoc (front ++ 123 ∷ joined) (comma_before i) (pair_text p)
    ∙ append_assoc front (123 ∷ joined) (comma_before i ++ pair_text p)
    ∙ ap (λ t. front ++ 123 ∷ t) (sym (join_more ps i p low is))

-- ---- JSON

first_json : (p : Pair) (ts : List Token) → print_from false (pair_tokens p ++ ts) ≡ pair_json p
    ++ print_from true ts
unfolding print_from
first_json p ts = simp append_assoc

later_json : (p : Pair) (ts : List Token)
    → print_from true (pair_tokens p ++ ts) ≡ 44 ∷ (pair_json p ++ print_from true ts)
unfolding print_from
later_json p ts = simp append_assoc

-- what stands after a pair
abbrev json_tail : List Pair → List ℕ
json_tail [] = 125 ∷ []
json_tail (p ∷ ps) = 44 ∷ (pair_json p ++ json_tail ps)

tail_json : (ps : List Pair)
    → print_from true (flat_map pair_tokens ps ++ end_object ∷ []) ≡ json_tail ps
unfolding print_from
tail_json [] = refl
tail_json (p ∷ ps) = later_json p (flat_map pair_tokens ps ++ end_object ∷ [])
    ∙ ap (λ t. 44 ∷ (pair_json p ++ t)) (tail_json ps)

joined_json : (p : Pair) (ps : List Pair) → pair_json p
    ++ json_tail ps ≡ join_with_byte 44 (map pair_json (p ∷ ps)) ++ 125 ∷ []
joined_json p [] = refl
joined_json p (q ∷ ps) =
    ap (λ (t : List ℕ). pair_json p ++ 44 ∷ t) (joined_json q ps)
    ∙ sym (append_assoc (pair_json p) (44 ∷ join_with_byte 44 (map pair_json (q ∷ ps))) (125 ∷ []))

pub object_json : (ps : List Pair) → print_from false (tokens_of ps) ≡ label_json ps
unfolding print_from
object_json [] = refl
object_json (p ∷ ps) =
    ap (λ (t : List ℕ). 123 ∷ t)
    (first_json p (flat_map pair_tokens ps ++ end_object ∷ [])
    ∙ ap (λ t. pair_json p ++ t) (tail_json ps) ∙ joined_json p ps)

pub json_written :
    {E : Type 0} (before : List ℕ) (ps slice : List Pair) (out start : List ℕ)
    (old tokens : List Token) (r : Result (Unit {0}) E)
    → OnOk r (tokens ≡ old ++ tokens_of slice) → old ≡ [] → slice ≡ ps → start ≡ before
    → out ≡ start ++ print tokens → OnOk r (out ≡ before ++ label_json ps)
json_written before ps slice out start old tokens (Ok u) written none pairs same is =
    is ∙ ap (λ t. t ++ print tokens) same
    ∙ ap (λ ts. before ++ print ts)
    (written ∙ ap (λ ts. ts ++ tokens_of slice) none ∙ ap tokens_of pairs)
    ∙ ap (λ t. before ++ t) (object_json ps)
json_written before ps slice out start old tokens (Err e) written none pairs same is = tt
