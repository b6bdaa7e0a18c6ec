-- Reading a label table set by set, and fields one after the other.
use Rattle.std.proofs.Common.{◌≡◌, ℕ, zero, suc, ◌+◌, ◌-◌, ◌^◌, ◌<◌, ◌≤◌, Bool, true, false, cond, ◌&&◌, List, [], ◌∷◌, ◌++◌, length, length-append, get_or, take, drop, flat_map, append_assoc, Some, None, Result, Ok, Err, nat_lt, refl, sym, ap, ap₂, ◌∙◌, subst, arith, true≢false, ⊎_elim}
use Rattle.std.specs.Prelude.{MatchResult, bytes_eq}
use Rattle.std.specs.List.{AllByRecursion, concat, list_all}
use Rattle.std.specs.Int.{w32, to_be_bytes, from_be_bytes}
use Rattle.std.specs.Ordering.{is_lt}
use Rattle.std.specs.declared.cmp.Ordering.{Ordering}
use Rattle.std.specs.declared.cmp.Ordering.TheVariants.{Less, Equal, Greater}
use Rattle.std.proofs.lemmas.Bool.{ltb-false, ltb-true}
use Rattle.std.proofs.lemmas.Nat.{be_bytes_4}
use Rattle.std.proofs.lemmas.List.{length-drop, length-take-le, get_or-drop, drop-drop, take-append-drop}
use Rattle.std.proofs.lemmas.List.Concat.{flat_map-append}
use Rattle.std.proofs.lemmas.List.Elements.{All-from_recursion}
use Rattle.std.proofs.lemmas.Slice.Eq.{bytes_eq-Decides}
use Rattle.vm_labels.specs.Labels.{label_cmp}
use Rattle.vm_labels.specs.Bytes.{HasBytes, label_set_bytes, ◌>>=◌}
use Rattle.vm_labels.specs.declared.pair.Pair.{Pair}
use Rattle.vm_labels.proofs.OrderLaws.{label_cmp-total, both_true}
use Rattle.vm_index.specs.Bytes.{framed, table_bytes}
use Rattle.vm_index.specs.Index.{AreSets, KeepLimits, SetsRise, is_set_below}
use Rattle.vm_index.specs.Reading.{BreaksBehind, no_length, past_the_end, no_set, no_rise, TableBreaks, TableFault, SetFault, Joins, behind, behind_all, first_off, frame_len, off_place}
use Rattle.vm_index.specs.declared.fault.IndexFault.{IndexFault}
use Rattle.vm_index.specs.declared.fault.IndexFault.TheVariants.{BrokenTable, BrokenPostings, Memory}
use Rattle.vm_index.proofs.ListLaws.{all_append, all_more, at_item}

-- ---- fields one after the other

behind-append : (fs gs : List (List ℕ)) (bytes : List ℕ)
    → behind_all (fs ++ gs) bytes ≡ (behind_all fs bytes >>= behind_all gs)
behind-append [] gs bytes = refl
behind-append (f ∷ fs) gs bytes = go (behind f bytes) (behind-append fs gs)
  where
    go : (r : Result (List ℕ) ℕ)
        → ((rest : List ℕ) → behind_all (fs ++ gs) rest ≡ (behind_all fs rest >>= behind_all gs))
        → (r >>= behind_all (fs ++ gs)) ≡ ((r >>= behind_all fs) >>= behind_all gs)
    go (Ok rest) more = more rest
    go (Err left) more = refl

-- a loop's step over items of which each has fields
next_fields : {X : Type 0} (f : X → List (List ℕ)) (xs : List X) (i : ℕ) (x : X) (rest : List ℕ)
    → i < length xs → x ≡ get_or xs i x
    → behind_all (flat_map f (drop i xs)) rest
    ≡ (behind_all (f x) rest >>= behind_all (flat_map f (drop (i + 1) xs)))
next_fields f xs i x rest within is =
    ap (λ ys. behind_all (flat_map f ys) rest) (at_item xs i x within is)
    ∙ behind-append (f x) (flat_map f (drop (i + 1) xs)) rest

pub fields_go_on :
    {X : Type 0} (f : X → List (List ℕ)) (xs : List X) (i : ℕ) (x : X) (rest after : List ℕ)
    (whole : Result (List ℕ) ℕ) → i < length xs → x ≡ get_or xs i x
    → behind_all (f x) rest ≡ Ok after → behind_all (flat_map f (drop i xs)) rest ≡ whole
    → behind_all (flat_map f (drop (i + 1) xs)) after ≡ whole
fields_go_on f xs i x rest after whole within is here so_far =
    ap (λ r. r >>= behind_all (flat_map f (drop (i + 1) xs))) (sym here)
    ∙ sym (next_fields f xs i x rest within is) ∙ so_far

pub fields_end :
    {X : Type 0} (f : X → List (List ℕ)) (xs : List X) (i : ℕ) (x : X) (rest : List ℕ) (left : ℕ)
    (whole : Result (List ℕ) ℕ) → i < length xs → x ≡ get_or xs i x
    → behind_all (f x) rest ≡ Err left → behind_all (flat_map f (drop i xs)) rest ≡ whole
    → whole ≡ Err left
fields_end f xs i x rest left whole within is here so_far =
    sym so_far ∙ next_fields f xs i x rest within is
    ∙ ap (λ r. r >>= behind_all (flat_map f (drop (i + 1) xs))) here

-- what is left is no more than there was
abbrev Inside : ℕ → Result (List ℕ) ℕ → Type 0
Inside n r = MatchResult r (λ rest. length rest ≤ n) (λ left. left ≤ n)

one_inside : (f bytes : List ℕ) → Inside (length bytes) (behind f bytes)
one_inside f bytes =
    elim (bytes_eq (take (length f) bytes) f) as (λ b.
    Inside (length bytes) (cond b (Ok (drop (length f) bytes)) (Err (length bytes))))
    [ true ↦ omega (arith, length-drop (length f) bytes) | false ↦ omega arith ]

pub all_inside : (fs : List (List ℕ)) (bytes : List ℕ) → Inside (length bytes) (behind_all fs bytes)
all_inside [] bytes = omega arith
all_inside (f ∷ fs) bytes = go (behind f bytes) (one_inside f bytes) (all_inside fs)
  where
    smaller : (m n : ℕ) (r : Result (List ℕ) ℕ) → m ≤ n → Inside m r → Inside n r
    smaller m n (Ok rest) h inside = omega arith
    smaller m n (Err left) h inside = omega arith

    go : (r : Result (List ℕ) ℕ) → Inside (length bytes) r
        → ((rest : List ℕ) → Inside (length rest) (behind_all fs rest))
        → Inside (length bytes) (r >>= behind_all fs)
    go (Ok rest) inside more =
        smaller (length rest) (length bytes) (behind_all fs rest) inside (more rest)
    go (Err left) inside more = inside

pub rest_inside : (fs : List (List ℕ)) (bytes rest : List ℕ) → behind_all fs bytes ≡ Ok rest
    → length rest ≤ length bytes
rest_inside fs bytes rest is = subst (Inside (length bytes)) is (all_inside fs bytes)

pub left_inside : (fs : List (List ℕ)) (bytes : List ℕ) (left : ℕ) → behind_all fs bytes ≡ Err left
    → left ≤ length bytes
left_inside fs bytes left is = subst (Inside (length bytes)) is (all_inside fs bytes)

behind_is : (f bytes rest : List ℕ) → behind f bytes ≡ Ok rest → bytes ≡ f ++ rest
behind_is f bytes rest is = go (bytes_eq (take (length f) bytes) f) refl is
  where
    go : (b : Bool) → bytes_eq (take (length f) bytes) f ≡ b
        → cond b (Ok (drop (length f) bytes)) (Err (length bytes)) ≡ Ok rest → bytes ≡ f ++ rest
    go true same got =
        let more : drop (length f) bytes ≡ rest = cc in
        sym (take-append-drop (length f) bytes)
        ∙ ap₂ ◌++◌ ((bytes_eq-Decides (take (length f) bytes) f).0 same) more
    go false apart got = absurd cc

behind_all_is : (fs : List (List ℕ)) (bytes rest : List ℕ) → behind_all fs bytes ≡ Ok rest
    → bytes ≡ concat fs ++ rest
behind_all_is [] bytes rest is = let same : bytes ≡ rest = cc in same
behind_all_is (f ∷ fs) bytes rest is =
    go (behind f bytes) refl (λ mid. behind_all_is fs mid rest) is
  where
    go : (r : Result (List ℕ) ℕ) → behind f bytes ≡ r
        → ((mid : List ℕ) → behind_all fs mid ≡ Ok rest → mid ≡ concat fs ++ rest)
        → (r >>= behind_all fs) ≡ Ok rest → bytes ≡ (f ++ concat fs) ++ rest
    go (Ok mid) here more got =
        behind_is f bytes mid here ∙ ap (λ bs. f ++ bs) (more mid got)
        ∙ sym (append_assoc f (concat fs) rest)
    go (Err left) here more got = absurd cc

-- bytes of which no field is off are those of the fields
pub nothing_off : (fs : List (List ℕ)) (bytes : List ℕ) → first_off fs bytes ≡ None
    → bytes ≡ concat fs
nothing_off fs bytes is = go (behind_all fs bytes) refl is
  where
    end : (rest : List ℕ) (b : Bool) → nat_lt 0 (length rest) ≡ b
        → cond b (Some (length bytes - length rest)) None ≡ None → concat fs ++ rest ≡ concat fs
    end rest true some got = absurd cc
    end [] false none got = nil (concat fs)
      where
        nil : (ys : List ℕ) → ys ++ [] ≡ ys
        nil [] = refl
        nil (y ∷ ys) = ap (λ zs. y ∷ zs) (nil ys)
    end (x ∷ rest) false none got = absurd (omega (arith, ltb-false 0 (length (x ∷ rest)) none))

    go : (r : Result (List ℕ) ℕ) → behind_all fs bytes ≡ r → off_place (length bytes) r ≡ None
        → bytes ≡ concat fs
    go (Ok rest) here got = behind_all_is fs bytes rest here
        ∙ end rest (nat_lt 0 (length rest)) refl got
    go (Err left) here got = absurd cc

-- sets that have bytes keep the limits of an import
pub keep_limits : (sets : List (List Pair)) → AllByRecursion HasBytes sets → KeepLimits sets
keep_limits = all_more _ _ (λ set has. has.limits)

-- ---- the order of sets

set_chain : (a b c : List Pair) → is_set_below a b ≡ true → is_set_below b c ≡ true
    → is_set_below a c ≡ true
set_chain a b c first second =
    ap is_lt
    (label_cmp-total.trans a b c (less (label_cmp a b) first) (less (label_cmp b c) second))
  where
    less : (o : Ordering) → is_lt o ≡ true → o ≡ Less
    less Less h = refl
    less Equal h = absurd (true≢false (sym h))
    less Greater h = absurd (true≢false (sym h))

-- a set stands after all of some that rise where it stands after their last one
pub rise_last : (sets : List (List Pair)) (i : ℕ) (last set : List Pair) → SetsRise sets
    → i + 1 ≡ length sets → last ≡ get_or sets i last
    → is_set_below last set ≡ list_all (λ s. is_set_below s set) sets
rise_last [] i last set up long is = absurd (omega arith)
rise_last (s ∷ []) zero last set up long is = ap (λ x. is_set_below x set) is
    ∙ sym (and_one (is_set_below s set))
  where
    and_one : (b : Bool) → (b && true) ≡ b
    and_one true = refl
    and_one false = refl
rise_last (s ∷ []) (suc i) last set up long is = absurd (omega arith)
rise_last (s ∷ t ∷ ts) zero last set up long is = absurd (omega arith)
rise_last (s ∷ t ∷ ts) (suc i) last set up long is =
    go (is_set_below last set) refl (rise_last (t ∷ ts) i last set up.1 (omega arith) is)
  where
    first : is_set_below s last ≡ true
    first = subst (λ x. is_set_below s x ≡ true) (sym is)
        (All-from_recursion (λ x. is_set_below s x ≡ true) (t ∷ ts) up.0 i last (omega arith))

    go : (b : Bool) → is_set_below last set ≡ b
        → is_set_below last set ≡ list_all (λ x. is_set_below x set) (t ∷ ts)
        → is_set_below last set ≡ list_all (λ x. is_set_below x set) (s ∷ t ∷ ts)
    go true below more =
        let here : is_set_below s set ≡ true = set_chain s last set first below in
        more ∙ sym (ap (λ b. b && list_all (λ x. is_set_below x set) (t ∷ ts)) here)
    go false above more =
        above ∙ sym
        (ap (λ b. is_set_below s set && b) (sym more ∙ above) ∙ and_none (is_set_below s set))
      where
        and_none : (b : Bool) → (b && false) ≡ false
        and_none true = refl
        and_none false = refl

pub up_more : (sets : List (List Pair)) (set : List Pair) → SetsRise sets
    → list_all (λ s. is_set_below s set) sets ≡ true → SetsRise (sets ++ set ∷ [])
up_more [] set up all = (tt, tt)
up_more (s ∷ ss) set up all =
    let both = both_true (is_set_below s set) (list_all (λ x. is_set_below x set) ss) all in (
      all_append (λ x. is_set_below s x ≡ true) ss (set ∷ []) up.0 (both.0, tt),
      up_more ss set up.1 both.1,
    )

pub sets_more : (sets : List (List Pair)) (set : List Pair) → AreSets sets → HasBytes set
    → list_all (λ s. is_set_below s set) sets ≡ true → AreSets (sets ++ set ∷ [])
sets_more sets set are has all =
    record {
      rising = up_more sets set are.rising all;
      written = all_append HasBytes sets (set ∷ []) are.written (has, tt);
    }

-- ---- the label set at the front

abbrev pub IsBytes : List ℕ → Type 0
IsBytes bytes = (i : ℕ) → get_or bytes i 0 < 256

pub bytes-drop : (n : ℕ) (bytes : List ℕ) → IsBytes bytes → IsBytes (drop n bytes)
bytes-drop n bytes fits i = rw (get_or-drop n bytes i 0) (fits (n + i))

bytes-take : (n : ℕ) (bytes : List ℕ) → IsBytes bytes → IsBytes (take n bytes)
bytes-take zero bytes fits i = omega arith
bytes-take (suc n) [] fits i = omega arith
bytes-take (suc n) (b ∷ bs) fits zero = fits 0
bytes-take (suc n) (b ∷ bs) fits (suc i) = bytes-take n bs (λ j. fits (suc j)) i

-- a length, the label set's bytes and those after them
pub record Frame (ys bytes more : List ℕ) (n : ℕ) : Type 0 where
  pub long : length bytes ≡ n
  pub small : n < 2 ^ 32
  pub parts : ys ≡ to_be_bytes w32 n ++ (bytes ++ more)

front_four : (ys : List ℕ) → IsBytes ys → 4 ≤ length ys
    → (from_be_bytes w32 (take 4 ys) < 2 ^ 32)
    × (ys ≡ to_be_bytes w32 (from_be_bytes w32 (take 4 ys)) ++ drop 4 ys)
front_four ys fits long =
    let four = length-take-le 4 ys long in
    let fit = bytes-take 4 ys fits in
    let front = be_bytes_4 (take 4 ys) (from_be_bytes w32 (take 4 ys)) four fit refl in (
      omega (arith, fit 0, fit 1, fit 2, fit 3),
      sym (take-append-drop 4 ys)
          ∙ ap (λ bs. bs ++ drop 4 ys) (sym front),
    )

pub frame_some : (ys : List ℕ) (n : ℕ) → IsBytes ys → frame_len ys ≡ Some n
    → Frame ys (take n (drop 4 ys)) (drop n (drop 4 ys)) n
frame_some ys n fits is =
    go (nat_lt (length ys) 4) (nat_lt (length (drop 4 ys)) (from_be_bytes w32 (take 4 ys))) refl
    refl is
  where
    go : (short past : Bool) → nat_lt (length ys) 4 ≡ short
        → nat_lt (length (drop 4 ys)) (from_be_bytes w32 (take 4 ys)) ≡ past
        → cond short None (cond past None (Some (from_be_bytes w32 (take 4 ys)))) ≡ Some n
        → Frame ys (take n (drop 4 ys)) (drop n (drop 4 ys)) n
    go true past a b got = absurd cc
    go false true a b got = absurd cc
    go false false a b got =
        let same : from_be_bytes w32 (take 4 ys) ≡ n = cc in
        let four = front_four ys fits (ltb-false _ _ a) in
        let enough : from_be_bytes w32 (take 4 ys) ≤ length (drop 4 ys) = ltb-false _ _ b in
        record {
          long = length-take-le n (drop 4 ys) (omega arith);
          small = subst (λ m. m < 2 ^ 32) same four.0;
          parts = four.1 ∙ ap (λ m. to_be_bytes w32 m ++ drop 4 ys) same
              ∙ ap (λ bs. to_be_bytes w32 n ++ bs) (sym (take-append-drop n (drop 4 ys)));
        }

pub frame_none : (sets : List (List Pair)) (due : ℕ) (ys : List ℕ) → IsBytes ys → 0 < due
    → frame_len ys ≡ None → BreaksBehind sets due ys 0
frame_none sets due ys fits some is =
    go (nat_lt (length ys) 4) (nat_lt (length (drop 4 ys)) (from_be_bytes w32 (take 4 ys))) refl
    refl is
  where
    go : (short past : Bool) → nat_lt (length ys) 4 ≡ short
        → nat_lt (length (drop 4 ys)) (from_be_bytes w32 (take 4 ys)) ≡ past
        → cond short None (cond past None (Some (from_be_bytes w32 (take 4 ys)))) ≡ None
        → BreaksBehind sets due ys 0
    go true past a b got = no_length some (ltb-true _ _ a)
    go false true a b got =
        let four = front_four ys fits (ltb-false _ _ a) in
        past_the_end (from_be_bytes w32 (take 4 ys)) (drop 4 ys) some four.0 four.1 (ltb-true _ _ b)
    go false false a b got = absurd cc

-- ---- the table

-- what the loop keeps
pub record Read (table : List ℕ) (sets : List (List Pair)) (at : ℕ) : Type 0 where
  pub parts : table ≡ table_bytes sets ++ drop at table
  pub place : at ≡ length (table_bytes sets)
  pub labels : AreSets sets

pub table_breaks : (count : ℕ) (table : List ℕ) (sets : List (List Pair)) (at k place p : ℕ)
    → Read table sets at → length sets ≡ k → k ≤ count
    → BreaksBehind sets (count - k) (drop at table) place → p ≡ at + place
    → TableBreaks count table p
table_breaks count table sets at k place p read many few broken is = record {
  sets = sets;
  rest = drop at table;
  place = place;
  labels = read.labels;
  few = omega arith;
  parts = read.parts;
  broken = subst (λ n. BreaksBehind sets (count - n) (drop at table) place) (sym many) broken;
  is = is ∙ ap (λ n. n + place) read.place;
}

pub set_breaks :
    (count : ℕ) (table : List ℕ) (sets : List (List Pair)) (at k : ℕ) (bytes more : List ℕ) (n : ℕ)
    (fault : IndexFault)
    → Read table sets at → length sets ≡ k → k < count → Frame (drop at table) bytes more n
    → SetFault sets bytes (at + 4) fault → TableFault count table fault
set_breaks count table sets at k bytes more n Memory read many few frame why = tt
set_breaks count table sets at k bytes more n (BrokenPostings p) read many few frame why = why
set_breaks count table sets at k bytes more n (BrokenTable p) read many few frame why =
    ⊎_elim
    (λ none. table_breaks count table sets at k (4 + none.0) p read many (omega arith)
    (no_set bytes more none.0 (omega arith) (omega (arith, frame.long, frame.small))
    (frame.parts ∙ ap (λ m. to_be_bytes w32 m ++ (bytes ++ more)) (sym frame.long)
    ∙ sym (append_assoc (to_be_bytes w32 (length bytes)) bytes more)) none.1)
    (omega (arith, none.2)))
    (λ late. table_breaks count table sets at k 4 p read many (omega arith)
    (no_rise late.0 more (omega arith) late.1
    (frame.parts ∙ ap (λ m. to_be_bytes w32 m ++ (bytes ++ more)) (sym frame.long)
    ∙ sym (append_assoc (to_be_bytes w32 (length bytes)) bytes more)
    ∙ ap (λ bs. (to_be_bytes w32 (length bs) ++ bs) ++ more) late.2) late.3)
    (omega (arith, late.4)))
    why

pub set_joins : (table : List ℕ) (sets news : List (List Pair)) (at : ℕ) (bytes : List ℕ) (n : ℕ)
    → Read table sets at
    → Frame (drop at table) bytes (drop n (drop 4 (drop at table))) n → Joins sets bytes news
    → Read table news (at + (4 + n)) × (length news ≡ length sets + 1)
set_joins table sets news at bytes n read frame joins = (
  record {
    parts =
        read.parts
        ∙ ap (λ bs. table_bytes sets ++ bs)
        (frame.parts
        ∙ ap (λ m. to_be_bytes w32 m ++ (bytes ++ drop n (drop 4 (drop at table)))) (sym frame.long)
        ∙ sym (append_assoc (to_be_bytes w32 (length bytes)) bytes
        (drop n (drop 4 (drop at table))))
        ∙ ap (λ bs. (to_be_bytes w32 (length bs) ++ bs) ++ drop n (drop 4 (drop at table)))
        joins.spelled)
        ∙ sym (append_assoc (table_bytes sets) (framed joins.set) (drop n (drop 4 (drop at table))))
        ∙ ap₂ (λ bs cs. bs ++ cs) (sym grown) further;
    place = sizes;
    labels = joins.labels;
  },
  ap length joins.put ∙ length-append sets (joins.set ∷ []),
)
  where
    grown : table_bytes news ≡ table_bytes sets ++ framed joins.set
    grown = ap table_bytes joins.put ∙ flat_map-append framed sets (joins.set ∷ [])
        ∙ ap (λ bs. table_bytes sets ++ bs) (nil (framed joins.set))
      where
        nil : (ys : List ℕ) → ys ++ [] ≡ ys
        nil [] = refl
        nil (y ∷ ys) = ap (λ zs. y ∷ zs) (nil ys)

    further : drop n (drop 4 (drop at table)) ≡ drop (at + (4 + n)) table
    further = drop-drop n 4 (drop at table) ∙ drop-drop (4 + n) at table

    four : (m : ℕ) → length (to_be_bytes w32 m) ≡ 4
    four m = refl

    sizes : at + (4 + n) ≡ length (table_bytes news)
    sizes =
        let whole = ap length grown ∙ length-append (table_bytes sets) (framed joins.set) in
        let one =
        length-append (to_be_bytes w32 (length (label_set_bytes joins.set)))
        (label_set_bytes joins.set) in
        let same = ap length joins.spelled in
        omega (
          arith,
          whole,
          one,
          same,
          four (length (label_set_bytes joins.set)),
          frame.long,
          read.place,
        )
