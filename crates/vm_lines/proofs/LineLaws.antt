-- Lines of an input that is cut into parts, and where its line feeds stand.
use Rattle.std.proofs.Common.{◌≡◌, ℕ, zero, suc, true≢false, ◌+◌, ◌<◌, Bool, true, false, cond, List, [], ◌∷◌, ◌++◌, length, take, drop, map, take-add, length-drop, drop-cons, add-one, append_assoc, refl, sym, ap, ◌∙◌, arith, subst}
use Rattle.std.specs.Prelude.{◌==◌, slice_index}
use Rattle.std.specs.List.{flat_map, AllByRecursion}
use Rattle.std.proofs.lemmas.Bool.{eqb-true, eq-eqb}
use Rattle.std.proofs.lemmas.List.{map-append, get_or-take, length-take, get_or-drop, take-append-drop}
use Rattle.memchr.specs.Find.{Nowhere, NoneBefore, Passes, is_byte}
use Rattle.vm_lines.specs.Feeds.{HasNoFeed, IsFirstFeed}
use Rattle.vm_lines.specs.Lines.{onto_first, split, lines, without_return}

-- the first piece

onto_first-append : (byte : ℕ) (pieces more : List (List ℕ)) → (pieces ≡ [] → ⊥)
    → onto_first byte (pieces ++ more) ≡ onto_first byte pieces ++ more
onto_first-append byte [] more some = absurd (some refl)
onto_first-append byte (piece ∷ pieces) more some = refl

onto_first-each : (byte : ℕ) (pieces : List (List ℕ)) → (byte == 10) ≡ false
    → AllByRecursion HasNoFeed pieces → AllByRecursion HasNoFeed (onto_first byte pieces)
onto_first-each byte [] other each = ((other, tt), tt)
onto_first-each byte (piece ∷ pieces) other each = ((other, each.0), each.1)

some_onto_first : (byte : ℕ) (pieces : List (List ℕ)) → onto_first byte pieces ≡ [] → ⊥
some_onto_first byte [] is = omega (arith, ap length is)
some_onto_first byte (piece ∷ pieces) is = omega (arith, ap length is)

some_piece : (front : List ℕ) → split (front ++ (10 ∷ [])) ≡ [] → ⊥
some_piece [] is = omega (arith, ap length is)
some_piece (byte ∷ front) is = go (byte == 10) is
  where
    go : (feed : Bool)
        → cond feed ([] ∷ split (front ++ (10 ∷ []))) (onto_first byte (split (front ++ (10 ∷ []))))
        ≡ [] → ⊥
    go true is = omega (arith, ap length is)
    go false is = some_onto_first byte (split (front ++ (10 ∷ []))) is

joined-onto_first : (byte : ℕ) (pieces : List (List ℕ)) → (pieces ≡ [] → ⊥)
    → flat_map (λ piece. piece ++ (10 ∷ [])) (onto_first byte pieces)
    ≡ byte ∷ flat_map (λ piece. piece ++ (10 ∷ [])) pieces
joined-onto_first byte [] some = absurd (some refl)
joined-onto_first byte (piece ∷ pieces) some = refl

-- the pieces of an input

-- the first piece of an input that has a line feed behind it
pub split-feed : (piece more : List ℕ) → HasNoFeed piece
    → split (piece ++ (10 ∷ more)) ≡ piece ∷ split more
split-feed [] more clear = refl
split-feed (byte ∷ piece) more clear = rw (clear.0, split-feed piece more clear.1) refl

-- an input without a line feed is one piece, unless it is empty
pub split-end : (byte : ℕ) (piece : List ℕ) → HasNoFeed (byte ∷ piece)
    → split (byte ∷ piece) ≡ (byte ∷ piece) ∷ []
split-end byte [] clear = rw clear.0 refl
split-end byte (next ∷ piece) clear = rw (clear.0, split-end next piece clear.1) refl

-- bytes put before the first piece
pub onto_first_all : List ℕ → List (List ℕ) → List (List ℕ)
onto_first_all [] pieces = pieces
onto_first_all (byte ∷ front) pieces = onto_first byte (onto_first_all front pieces)

-- bytes without a line feed stand before the first piece of what follows them
pub split-clear : (front more : List ℕ) → HasNoFeed front
    → split (front ++ more) ≡ onto_first_all front (split more)
unfolding onto_first_all
split-clear [] more clear = refl
split-clear (byte ∷ front) more clear = rw (clear.0, split-clear front more clear.1) refl

-- what stands behind a line feed has pieces of its own
pub split-append : (front more : List ℕ)
    → split (front ++ (10 ∷ more)) ≡ split (front ++ (10 ∷ [])) ++ split more
split-append [] more = refl
split-append (byte ∷ front) more = go (byte == 10) (split-append front more) (some_piece front)
  where
    go : (feed : Bool) → split (front ++ (10 ∷ more)) ≡ split (front ++ (10 ∷ [])) ++ split more
        → (split (front ++ (10 ∷ [])) ≡ [] → ⊥)
        → cond feed ([] ∷ split (front ++ (10 ∷ more)))
        (onto_first byte (split (front ++ (10 ∷ more))))
        ≡ cond feed ([] ∷ split (front ++ (10 ∷ []))) (onto_first byte (split (front ++ (10 ∷ []))))
        ++ split more
    go true is some = ap (λ pieces. [] ∷ pieces) is
    go false is some = ap (onto_first byte) is
        ∙ onto_first-append byte (split (front ++ (10 ∷ []))) (split more) some

-- each piece with a line feed behind it
abbrev pub joined : List (List ℕ) → List ℕ
joined pieces = flat_map (λ piece. piece ++ (10 ∷ [])) pieces

-- no piece has a line feed
pub split-each : (input : List ℕ) → AllByRecursion HasNoFeed (split input)
split-each [] = tt
split-each (byte ∷ more) = go (byte == 10) refl (split-each more)
  where
    go : (feed : Bool) → (byte == 10) ≡ feed → AllByRecursion HasNoFeed (split more)
        → AllByRecursion HasNoFeed (cond feed ([] ∷ split more) (onto_first byte (split more)))
    go true is each = (tt, each)
    go false is each = onto_first-each byte (split more) is each

-- pieces without line feeds that are joined and split are the same pieces
pub split-joined : (pieces : List (List ℕ)) → AllByRecursion HasNoFeed pieces
    → split (joined pieces) ≡ pieces
split-joined [] each = refl
split-joined (piece ∷ pieces) each =
    ap split (append_assoc piece (10 ∷ []) (joined pieces))
    ∙ split-feed piece (joined pieces) each.0
    ∙ ap (λ more. piece ∷ more) (split-joined pieces each.1)

-- an input that a line feed ends is the same when it is split and joined
pub joined-split : (front : List ℕ) → joined (split (front ++ (10 ∷ []))) ≡ front ++ (10 ∷ [])
joined-split [] = refl
joined-split (byte ∷ front) = go (byte == 10) refl (joined-split front) (some_piece front)
  where
    go : (feed : Bool) → (byte == 10) ≡ feed → joined (split (front ++ (10 ∷ []))) ≡ front
        ++ (10 ∷ [])
        → (split (front ++ (10 ∷ [])) ≡ [] → ⊥)
        → joined
        (cond feed ([] ∷ split (front ++ (10 ∷ []))) (onto_first byte (split (front ++ (10 ∷ [])))))
        ≡ byte ∷ (front ++ (10 ∷ []))
    go true is same some = ap (λ rest. 10 ∷ rest) same
        ∙ ap (λ b. b ∷ (front ++ (10 ∷ []))) (sym (eqb-true byte 10 is))
    go false is same some = joined-onto_first byte (split (front ++ (10 ∷ []))) some
        ∙ ap (λ rest. byte ∷ rest) same

-- the lines of an input

-- the first line of an input that has a line feed behind it
pub lines-feed : (piece more : List ℕ) → HasNoFeed piece
    → lines (piece ++ (10 ∷ more)) ≡ without_return piece ∷ lines more
lines-feed piece more clear = ap (map without_return) (split-feed piece more clear)

-- an input without a line feed is one line, unless it is empty
pub lines-end : (piece : List ℕ) → HasNoFeed piece → (piece ≡ [] → ⊥)
    → lines piece ≡ without_return piece ∷ []
lines-end [] clear some = absurd (some refl)
lines-end (byte ∷ piece) clear some = ap (map without_return) (split-end byte piece clear)

-- what stands behind a line feed has lines of its own
pub lines-append : (front more : List ℕ)
    → lines (front ++ (10 ∷ more)) ≡ lines (front ++ (10 ∷ [])) ++ lines more
lines-append front more =
    ap (map without_return) (split-append front more)
    ∙ map-append without_return (split (front ++ (10 ∷ []))) (split more)

-- pieces that are joined are the lines, each without its one carriage return
pub lines-joined : (pieces : List (List ℕ)) → AllByRecursion HasNoFeed pieces
    → lines (joined pieces) ≡ map without_return pieces
lines-joined pieces each = ap (map without_return) (split-joined pieces each)

-- where line feeds stand

-- no byte is a line feed where none is at any place
pub clear_by_place : (bytes : List ℕ)
    → ((k : ℕ) → k < length bytes → (slice_index bytes k == 10) ≡ true → ⊥) → HasNoFeed bytes
clear_by_place [] none_at = tt
clear_by_place (byte ∷ more) none_at = (
  elim (byte == 10) as (λ b. (byte == 10) ≡ b → (byte == 10) ≡ false)
      [ true ↦ λ is. absurd (none_at 0 (omega arith) is) | false ↦ λ is. is ] refl,
  clear_by_place more (λ k h is. none_at (suc k) (omega arith) is),
)

pub clear-append : (front back : List ℕ) → HasNoFeed front → HasNoFeed back
    → HasNoFeed (front ++ back)
clear-append [] back front_clear back_clear = back_clear
clear-append (byte ∷ front) back front_clear back_clear =
    (front_clear.0, clear-append front back front_clear.1 back_clear)

-- no line feed is found
pub feed_missing : (bytes : List ℕ) → Nowhere (Passes (is_byte 10) bytes) 0 (length bytes)
    → HasNoFeed bytes
feed_missing bytes nowhere = clear_by_place bytes (λ k below is. nowhere k (omega arith) below is)

-- the first line feed is found
pub feed_found : (bytes : List ℕ) (at : ℕ)
    → NoneBefore (Passes (is_byte 10) bytes) 0 (length bytes) at
    → Passes (is_byte 10) bytes at
    → IsFirstFeed bytes at
feed_found bytes at before here = record {
  within = before.high;
  feed = eqb-true (slice_index bytes at) 10 here;
  clear = clear_by_place (take at bytes) (λ k h is.
      let below : k < at = omega (arith, length-take at bytes) in
      before.before k (omega arith) below
      (ap (λ b. b == 10) (sym (get_or-take at bytes k 0 below)) ∙ is));
}

-- the first line feed of what was not searched yet
pub feed_behind : (bytes : List ℕ) (searched at : ℕ) → HasNoFeed (take searched bytes)
    → IsFirstFeed (drop searched bytes) at
    → IsFirstFeed bytes (searched + at)
feed_behind bytes searched at front found = record {
  within = omega (arith, found.within, length-drop searched bytes);
  feed = sym (get_or-drop searched bytes at 0) ∙ found.feed;
  clear = rw (take-add searched at bytes)
      (clear-append (take searched bytes) (take at (drop searched bytes)) front found.clear);
}

pub clear_behind : (bytes : List ℕ) (searched : ℕ) → HasNoFeed (take searched bytes)
    → HasNoFeed (drop searched bytes) → HasNoFeed bytes
clear_behind bytes searched front back =
    subst HasNoFeed (take-append-drop searched bytes)
    (clear-append (take searched bytes) (drop searched bytes) front back)

-- the first line, the line feed and what stands behind it
pub cut_at_feed : (bytes : List ℕ) (at : ℕ) → IsFirstFeed bytes at
    → bytes ≡ take at bytes ++ (10 ∷ drop (at + 1) bytes)
cut_at_feed bytes at found =
    sym (take-append-drop at bytes)
    ∙ ap (λ back. take at bytes ++ back)
    (drop-cons bytes at 0 found.within
    ∙ ap (λ byte. byte ∷ drop (suc at) bytes) found.feed
    ∙ ap (λ k. 10 ∷ drop k bytes) (sym (add-one at)))

-- a line and its line feed stand before the bytes behind them
pub line_ahead : (bytes more : List ℕ) (at : ℕ) → IsFirstFeed bytes at → more ≡ drop (at + 1) bytes
    → bytes ≡ (take at bytes ++ (10 ∷ [])) ++ more
line_ahead bytes more at found behind =
    cut_at_feed bytes at found ∙ sym (append_assoc (take at bytes) (10 ∷ []) (drop (at + 1) bytes))
    ∙ ap (λ back. (take at bytes ++ (10 ∷ [])) ++ back) (sym behind)

-- where no byte is a line feed, none is the first
pub clear_no_feed : (bytes : List ℕ) (at : ℕ) → HasNoFeed bytes → IsFirstFeed bytes at → ⊥
clear_no_feed bytes at clear found = go bytes at clear found.within found.feed
  where
    go : (bytes : List ℕ) (at : ℕ) → HasNoFeed bytes → at < length bytes → slice_index bytes at ≡ 10
        → ⊥
    go [] at clear within feed = omega arith
    go (byte ∷ more) zero clear within feed = true≢false (sym (eq-eqb byte 10 feed) ∙ clear.0)
    go (byte ∷ more) (suc at) clear within feed = go more at clear.1 (omega arith) feed
