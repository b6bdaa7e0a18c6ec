-- The rows of parts, and the pieces that are made of them.
use Rattle.std.proofs.Common.{◌≡◌, ℕ, zero, suc, ◌+◌, ◌^◌, ◌<◌, ◌≤◌, ◌&&◌, ◌||◌, nat_lt, int_le, int_lt, ℤ, pos, Bool, true, false, List, [], ◌∷◌, ◌++◌, length, get_or, take, drop, map, flat_map, slice_get, Some, None, refl, sym, ap, ap₂, ◌∙◌, subst, arith, append_assoc, append-nil, length-append, Global}
use Rattle.std.specs.List.{AllByRecursion, AllZip, list_any}
use Rattle.std.proofs.lemmas.Bool.{and_parts}
use Rattle.std.proofs.lemmas.Bool.Decides.{nat_tests}
use Rattle.std.proofs.lemmas.Int.{ints}
use Rattle.std.proofs.lemmas.List.{length-map, map-append, take_more}
use Rattle.std.proofs.lemmas.List.Concat.{flat_map-append}
use Rattle.vm_base.specs.declared.stamped.Stamped.{Stamped}
use Rattle.vm_block.specs.Block.{rise_from, times_of}
use Rattle.vm_dedup.specs.Visible.{stamped}
use Rattle.vm_index.proofs.ListLaws.{all_append}
use Rattle.vm_labels.specs.Bytes.{HasBytes}
use Rattle.vm_labels.specs.Labels.{limit_of}
use Rattle.vm_labels.specs.declared.pair.Pair.{Pair}
use Rattle.vm_labels.specs.declared.row.Row.{Row}
use Rattle.vm_series.specs.Series.{row_of, rows_of_piece}
use Rattle.vm_series.specs.declared.series.Piece.{Piece}
use Rattle.vm_part.specs.inner.Merging.{AreRead, rows_beside}
use Rattle.vm_part.specs.Part.{Block, IsStored, SaysSamples, Stored, samples_in, samples_of, sets_of}
use Rattle.vm_part.specs.Said.{Hold, IsRow, Kept, Says, SaysAll, rows_in, rows_of}
use Rattle.vm_part.specs.Said.Hold.{none, next}
use Rattle.std.specs.declared.rc.Rc.{Rc}
use Rattle.vm_part.specs.declared.part.MemPart.{MemPart}
use Rattle.vm_part.proofs.SampleLaws.{taken}

-- ---- rows of a part

abbrev Early : Stamped → Type 0
Early sample = sample.time < 2 ^ 48

in_range : (last : ℤ) (time : ℕ)
    → (int_le last (pos time) && int_lt (pos time) (pos (2 ^ 48))) ≡ true → time < 2 ^ 48
in_range last time h =
    let early : int_lt (pos time) (pos (2 ^ 48)) ≡ true =
    (and_parts (int_le last (pos time)) (int_lt (pos time) (pos (2 ^ 48))) h).1 in
    grind (arith, nat_tests, ints)

early_all : (last : ℤ) (samples : List Stamped) → rise_from last (times_of samples) ≡ true
    → AllByRecursion Early samples
early_all last [] rise = tt
early_all last (s ∷ samples) rise =
    let both =
    and_parts (int_le last (pos s.time) && int_lt (pos s.time) (pos (2 ^ 48)))
    (rise_from (pos s.time) (times_of samples)) rise in
    (in_range last s.time both.0, early_all (pos s.time) samples both.1)

early_in : (blocks : List Block) → AllByRecursion SaysSamples blocks
    → AllByRecursion Early (samples_in blocks)
early_in [] say = tt
early_in (b ∷ blocks) say =
    all_append Early b.samples (samples_in blocks) (early_all (pos 0) b.samples say.0.rise)
    (early_in blocks say.1)

rows_early : (labels : List Pair) (samples : List Stamped) → limit_of labels ≡ None
    → AllByRecursion Early samples
    → AllByRecursion IsRow (map (row_of labels) samples)
rows_early labels [] limits early = tt
rows_early labels (s ∷ samples) limits early =
    (record { labels = limits; time = early.0 }, rows_early labels samples limits early.1)

rows_stored : (all : List Stored) → AllByRecursion HasBytes (sets_of all)
    → AllByRecursion IsStored all → AllByRecursion IsRow (rows_in all)
rows_stored [] sets each = tt
rows_stored (s ∷ all) sets each =
    all_append IsRow (rows_of s) (rows_in all)
    (rows_early s.labels (samples_of s) sets.0.limits (early_in s.blocks each.0.blocks))
    (rows_stored all sets.1 each.1)

-- ---- rows of parts

pub rows_are : (parts : List Kept) (alls : List (List Stored)) → AllZip SaysAll parts alls
    → AllByRecursion IsRow (flat_map rows_in alls)
rows_are [] [] said = tt
rows_are [] (all ∷ alls) said = absurd said
rows_are (part ∷ parts) [] said = absurd said
rows_are (part ∷ parts) (all ∷ alls) said =
    all_append IsRow (rows_in all) (flat_map rows_in alls)
    (rows_stored all said.0.bytes.stored.sets.written said.0.bytes.stored.each)
    (rows_are parts alls said.1)

pub holds : (parts : List Kept) (alls : List (List Stored)) → AllZip SaysAll parts alls
    → Hold parts alls
holds [] [] said = none
holds [] (all ∷ alls) said = absurd said
holds (part ∷ parts) [] said = absurd said
holds (part ∷ parts) (all ∷ alls) said =
    next parts alls part all said.0.bytes (holds parts alls said.1)

rows-samples : (all : List Stored) → length (rows_in all) ≡ length (flat_map samples_of all)
rows-samples [] = refl
rows-samples (s ∷ all) =
    length-append (rows_of s) (rows_in all)
    ∙ ap₂ (λ m n. m + n) (length-map (samples_of s) (row_of s.labels)) (rows-samples all)
    ∙ sym (length-append (samples_of s) (flat_map samples_of all))

pub some_row : {X : Type 0} (f : X → Kept) (xs : List X) (alls : List (List Stored))
    → AllZip SaysAll (map f xs) alls
    → list_any (λ x. nat_lt 0 (f x).rows) xs ≡ true → 1 ≤ length (flat_map rows_in alls)
some_row f [] alls said any = absurd (cc)
some_row f (x ∷ xs) [] said any = absurd said
some_row f (x ∷ xs) (all ∷ alls) said any =
    go (nat_lt 0 (f x).rows) refl any (λ others. some_row f xs alls said.1 others)
  where
    go : (b : Bool) → nat_lt 0 (f x).rows ≡ b → (b || list_any (λ y. nat_lt 0 (f y).rows) xs) ≡ true
        → (list_any (λ y. nat_lt 0 (f y).rows) xs ≡ true → 1 ≤ length (flat_map rows_in alls))
        → 1 ≤ length (rows_in all ++ flat_map rows_in alls)
    go true here either more =
        let some : 0 < (f x).rows = grind (arith, nat_tests) in
        omega (
          arith,
          length-append (rows_in all) (flat_map rows_in alls),
          rows-samples all,
          said.0.rows,
          some,
        )
    go false here either more =
        omega (arith, length-append (rows_in all) (flat_map rows_in alls), more either)

-- ---- what is read of parts

zip_push : {X Y : Type 0} (R : X → Y → Type 0) (xs : List X) (ys : List Y) (x : X) (y : Y)
    → AllZip R xs ys → R x y
    → AllZip R (xs ++ x ∷ []) (ys ++ y ∷ [])
zip_push R [] [] x y all its = (its, tt)
zip_push R [] (v ∷ ys) x y all its = absurd all
zip_push R (u ∷ xs) [] x y all its = absurd all
zip_push R (u ∷ xs) (v ∷ ys) x y all its = (all.0, zip_push R xs ys x y all.1 its)

pub none_read : AreRead [] []
none_read = record { alls = []; said = tt; samples = refl }

pub one_part_read :
    {X : Type 0} (f : X → Kept) (xs : List X) (i : ℕ) (x : X) (read : List (List (List Stamped)))
    (samples : List (List Stamped))
    → i < length xs → x ≡ get_or xs i x → AreRead (map f (take i xs)) read
    → Says (f x) (λ all. map samples_of all ≡ samples)
    → AreRead (map f (take (i + 1) xs)) (read ++ samples ∷ [])
one_part_read f xs i x read samples within is so_far says =
    let more : map f (take (i + 1) xs) ≡ map f (take i xs) ++ f x ∷ [] =
    ap (map f) (take_more xs i x within) ∙ map-append f (take i xs) (get_or xs i x ∷ [])
    ∙ ap (λ y. map f (take i xs) ++ f y ∷ []) (sym is) in
    let its : SaysAll (f x) says.all = says.said in
    subst (λ parts. AreRead parts (read ++ samples ∷ [])) (sym more) (record {
      alls = so_far.alls ++ says.all ∷ [];
      said = zip_push SaysAll (map f (take i xs)) so_far.alls (f x) says.all so_far.said its;
      samples =
          ap₂ (λ rs (r : List (List Stamped)). rs ++ r ∷ []) so_far.samples (sym says.that)
          ∙ sym (map-append (map samples_of) so_far.alls (says.all ∷ []));
    })

-- the part at a place, and what it holds
pub record PartAt (part : Kept) (samples : List (List Stamped)) (alls : List (List Stored))
    (i : ℕ) : Type 0 where
  pub all : List Stored
  pub is : slice_get alls i ≡ Some all
  pub says : SaysAll part all
  pub read : samples ≡ map samples_of all

part_there :
    {X : Type 0} (f : X → Kept) (xs : List X) (alls : List (List Stored)) (i : ℕ) (x : X)
    (samples e : List (List Stamped)) → i < length xs
    → AllZip SaysAll (map f xs) alls → samples ≡ get_or (map (map samples_of) alls) i e
    → PartAt (f (get_or xs i x)) samples alls i
part_there f [] alls i x samples e within said read = absurd (omega arith)
part_there f (u ∷ xs) [] i x samples e within said read = absurd said
part_there f (u ∷ xs) (all ∷ alls) zero x samples e within said read =
    record { all = all; is = refl; says = said.0; read = read }
part_there f (u ∷ xs) (all ∷ alls) (suc i) x samples e within said read =
    let there : PartAt (f (get_or xs i x)) samples alls i =
    part_there f xs alls i x samples e (omega arith) said.1 read in
    record { all = there.all; is = there.is; says = there.says; read = there.read }

pub part_at :
    {X : Type 0} (f : X → Kept) (xs : List X) (read : List (List (List Stamped)))
    (alls : List (List Stored)) (i : ℕ) (x : X)
    (e : List (List Stamped)) (part : Kept) (samples : List (List Stamped)) → i < length xs
    → part ≡ f (get_or xs i x) → samples ≡ get_or read i e
    → AllZip SaysAll (map f xs) alls → read ≡ map (map samples_of) alls → PartAt part samples alls i
part_at f xs read alls i x e part samples within is its said same =
    subst (λ k. PartAt k samples alls i) (sym is)
    (part_there f xs alls i x samples e within said (its ∙ ap (λ rs. get_or rs i e) same))

pub many_read : {X : Type 0} (f : X → Kept) (xs : List X) (alls : List (List Stored))
    → AllZip SaysAll (map f xs) alls → length alls ≡ length xs
many_read f [] [] said = refl
many_read f [] (all ∷ alls) said = absurd said
many_read f (x ∷ xs) [] said = absurd said
many_read f (x ∷ xs) (all ∷ alls) said = ap suc (many_read f xs alls said.1)

pub as_many_read : {X : Type 0} (f : X → Kept) (xs : List X) (read : List (List (List Stamped)))
    → AreRead (map f xs) read → length read ≡ length xs
as_many_read f xs read are =
    ap length are.samples ∙ length-map are.alls (map samples_of) ∙ many_read f xs are.alls are.said

-- ---- pieces

rows_beside-all : (all : List Stored) → rows_beside (sets_of all) (map samples_of all) ≡ rows_in all
rows_beside-all [] = refl
rows_beside-all (s ∷ all) = ap (λ rows. rows_of s ++ rows) (rows_beside-all all)

-- as many label sets as lists of samples
pub as_many : (part : Kept) (samples : List (List Stamped)) (alls : List (List Stored)) (i : ℕ)
    → PartAt part samples alls i
    → length part.sets ≡ length samples
as_many part samples alls i at =
    ap length at.says.sets ∙ length-map at.all (λ (s : Stored). s.labels)
    ∙ sym (ap length at.read ∙ length-map at.all samples_of)

-- the pieces of one part more
pub one_more_part :
    (part : Kept) (samples : List (List Stamped)) (alls : List (List Stored)) (i : ℕ)
    (before after : List Row)
    → PartAt part samples alls i → before ≡ flat_map rows_in (take i alls) → after ≡ before
    ++ rows_beside part.sets samples
    → after ≡ flat_map rows_in (take (i + 1) alls)
one_more_part part samples alls i before after at so_far put =
    put
    ∙ ap₂ (λ xs ys. xs ++ ys) so_far
    (ap₂ rows_beside at.says.sets at.read ∙ rows_beside-all at.all
    ∙ sym (append-nil (rows_in at.all)))
    ∙ sym (flat_map-append rows_in (take i alls) (at.all ∷ []))
    ∙ ap (flat_map rows_in) (sym (taken alls i at.all at.is))

beside_more :
    (sets : List (List Pair)) (samples : List (List Stamped)) (i : ℕ) (set : List Pair)
    (some : List Stamped) → i < length sets
    → i < length samples
    → rows_beside (take (i + 1) sets) (take (i + 1) samples)
    ≡ rows_beside (take i sets) (take i samples)
    ++ map (row_of (get_or sets i set)) (get_or samples i some)
beside_more [] samples i set some within inside = absurd (omega arith)
beside_more (u ∷ sets) [] i set some within inside = absurd (omega arith)
beside_more (u ∷ sets) (v ∷ samples) zero set some within inside = append-nil (map (row_of u) v)
beside_more (u ∷ sets) (v ∷ samples) (suc i) set some within inside =
    let next_place : suc i + 1 ≡ suc (i + 1) = omega arith in
    ap (λ n. rows_beside (take n (u ∷ sets)) (take n (v ∷ samples))) next_place
    ∙ ap (λ rows. map (row_of u) v ++ rows)
    (beside_more sets samples i set some (omega arith) (omega arith))
    ∙ sym (append_assoc (map (row_of u) v) (rows_beside (take i sets) (take i samples))
    (map (row_of (get_or sets i set)) (get_or samples i some)))

-- one piece more
pub one_piece :
    (rows : List Row) (before after : List Piece) (piece : Piece) (sets : List (List Pair))
    (samples : List (List Stamped)) (i : ℕ)
    (d : List Pair) (e : List Stamped) → i < length sets → length sets ≡ length samples
    → piece.labels.now ≡ get_or sets i d
    → piece.samples.now ≡ get_or samples i e → after ≡ before ++ piece ∷ []
    → flat_map rows_of_piece before ≡ rows ++ rows_beside (take i sets) (take i samples)
    → flat_map rows_of_piece after ≡ rows ++ rows_beside (take (i + 1) sets) (take (i + 1) samples)
one_piece rows before after piece sets samples i d e within many set_is samples_are put so_far =
    ap (flat_map rows_of_piece) put ∙ flat_map-append rows_of_piece before (piece ∷ [])
    ∙ ap₂ (λ xs ys. xs ++ ys) so_far
    (append-nil (rows_of_piece piece)
    ∙ ap₂ (λ (set : List Pair) (some : List Stamped). map (row_of set) some) set_is samples_are)
    ∙ append_assoc rows (rows_beside (take i sets) (take i samples))
    (map (row_of (get_or sets i d)) (get_or samples i e))
    ∙ ap (λ more. rows ++ more)
    (sym (beside_more sets samples i d e within (omega (arith, many, within))))

-- ---- rows of a batch

one_of : (batch : List Row) (i : ℕ) (row : Row) → i < length batch
    → map (row_of (get_or batch i row).labels) (take 1 (drop i (map stamped batch)))
    ≡ get_or batch i row ∷ []
one_of [] i row within = absurd (omega arith)
one_of (r ∷ batch) zero row within = refl
one_of (r ∷ batch) (suc i) row within = one_of batch i row (omega arith)

-- the piece of one row more
pub one_row :
    (before after : List Piece) (piece : Piece) (batch : List Row) (samples : List Stamped)
    (i len : ℕ) (row : Row)
    → i < length batch → samples ≡ map stamped batch → len ≡ 1
    → piece.labels.now ≡ (get_or batch i row).labels → piece.samples.now ≡ take len (drop i samples)
    → after ≡ before ++ piece ∷ []
    → flat_map rows_of_piece before ≡ take i batch
    → flat_map rows_of_piece after ≡ take (i + 1) batch
one_row before after piece batch samples i len row within same one labels some put so_far =
    ap (flat_map rows_of_piece) put ∙ flat_map-append rows_of_piece before (piece ∷ [])
    ∙ ap₂ (λ xs ys. xs ++ ys) so_far
    (append-nil (rows_of_piece piece)
    ∙ ap₂ (λ (set : List Pair) (xs : List Stamped). map (row_of set) xs) labels
    (some ∙ ap₂ (λ n (xs : List Stamped). take n (drop i xs)) one same)
    ∙ one_of batch i row within)
    ∙ sym (take_more batch i row within)

-- what a part in memory keeps
abbrev pub kept : Rc MemPart Global → Kept
kept part = part.value
