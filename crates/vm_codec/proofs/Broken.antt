-- Where bytes that are no column break.
use Rattle.std.proofs.Common.{◌≡◌, ◌==◌, ◌&&◌, not, ℕ, zero, suc, ℤ, pos, ◌-◌, ◌<◌, ◌≤◌, Bool, true, false, List, [], ◌∷◌, ◌++◌, length, Option, Some, None, Result, Ok, Err, inl, inr, ap, ap₂, refl, sym, subst, ◌∙◌, arith, ⊎_elim, if◌then◌else◌}
use Rattle.std.specs.List.{AllByRecursion}
use Rattle.std.proofs.lemmas.Bool.{eqb-true, cases_Bool, and_parts}
use Rattle.std.proofs.lemmas.List.{length-append, append-nil}
use Rattle.std.specs.Result.{OnOk, IfErr}
use Rattle.vm_base.specs.declared.broken.Broken.{Broken}
use Rattle.vm_codec.specs.Integer.{unzigzag}
use Rattle.vm_codec.specs.Coding.{IsInBounds, spelling, Suits, SuitsSoFar, IsColumn, IsBegun, IsBroken}
use Rattle.vm_codec.specs.inner.Reading.{number_at, steps_by, steps_then, steps_from, onto, column_at, is_const, all_read, decoded}
use Rattle.vm_codec.specs.declared.coding.Coding.{Coding}
use Rattle.vm_codec.specs.declared.coding.Coding.TheVariants.{DeltaConst, Const, NearestDelta2, NearestDelta}
use Rattle.vm_codec.proofs.Integers.{AreBytes}
use Rattle.vm_codec.proofs.Columns.{IsNearest, IsStuck, spelling-nearest, is_ok_of, onto-err, values_stuck_at}
use Rattle.vm_codec.proofs.Values.{decoded-lone, decoded-column, differences_column}
use Rattle.vm_codec.proofs.Whole.{IsRead, all_from, all_to, begins_with, column_at-const, column_at-steps, column_read, column_again, decoded_again}

abbrev err_of : ℕ → Result (List ℤ) ℕ
err_of at = Err at

same_place : (one other : ℕ) → err_of one ≡ err_of other → one ≡ other
same_place one other is = cc

abbrev decoded_ok : List ℤ → Result (List ℤ) ℕ
decoded_ok values = Ok values

abbrev left_of : ℕ → Result (List ℤ × List ℕ) ℕ
left_of left = Err left

read_not_err : {r : List ℤ × List ℕ} {left : ℕ} → is_ok_of r ≡ left_of left → ⊥
read_not_err is = cc

same_left : (one other : ℕ) → left_of one ≡ left_of other → one ≡ other
same_left one other is = cc

same_values : (one other : List ℤ) → decoded_ok one ≡ decoded_ok other → one ≡ other
same_values one other is = cc

no_rest : (front rest : List ℕ) → length rest ≡ 0 → front ++ rest ≡ front
no_rest front [] none = append-nil front
no_rest front (b ∷ rest) none = absurd (omega arith)

ok_not_err : {values : List ℤ} {at : ℕ} → decoded_ok values ≡ err_of at → ⊥
ok_not_err is = cc

-- bytes that break are no column
no_column : (coding : Coding) (first : ℤ) (count : ℕ) (bytes : List ℕ) (at : ℕ)
    → decoded coding first count bytes ≡ Err at
    → (values : List ℤ) → IsColumn coding first count bytes values → ⊥
no_column coding first count bytes at is values column =
    ok_not_err (sym (decoded_again coding first count bytes values column) ∙ is)

-- at most so many values are begun
begun_few : (coding : Coding) (count : ℕ) (values : List ℤ) → 1 ≤ count
    → SuitsSoFar coding count values → length values ≤ count
begun_few DeltaConst count values some suits =
    ⊎_elim (λ h. omega arith) (λ h. omega (arith, h.0)) suits
begun_few Const count values some suits = omega (arith, suits.0)
begun_few NearestDelta2 count values some suits = suits
begun_few NearestDelta count values some suits = suits

-- the first value alone
one_begun : (coding : Coding) (first : ℤ) (count : ℕ) → is_const coding ≡ false → 1 ≤ count
    → IsInBounds first
    → IsBegun coding first count (first ∷ [])
one_begun DeltaConst first count other some bound =
    record { begins = refl; bounds = all_from (first ∷ []) (bound, tt); suits = inl refl }
one_begun Const first count other some bound = absurd (cc)
one_begun NearestDelta2 first count other some bound =
    record { begins = refl; bounds = all_from (first ∷ []) (bound, tt); suits = some }
one_begun NearestDelta first count other some bound =
    record { begins = refl; bounds = all_from (first ∷ []) (bound, tt); suits = some }

pub one_spelled : (coding : Coding) (first : ℤ) → spelling coding (first ∷ []) ≡ []
one_spelled DeltaConst first = refl
one_spelled Const first = refl
one_spelled NearestDelta2 first = refl
one_spelled NearestDelta first = refl

-- nothing is read
broken_at_0 : (coding : Coding) (first : ℤ) (count : ℕ) (bytes : List ℕ) (at : ℕ)
    → is_const coding ≡ false → 1 ≤ count → IsInBounds first
    → decoded coding first count bytes ≡ Err at → at ≡ 0
    → ((values : List ℤ) (more : List ℕ) → 1 < length values → IsBegun coding first count values
    → bytes ≡ spelling coding values ++ more → ⊥)
    → IsBroken coding first count bytes at
broken_at_0 coding first count bytes at other some bound is place longest = record {
  read = first ∷ [];
  rest = bytes;
  begun = one_begun coding first count other some bound;
  parts = ap (λ bs. bs ++ bytes) (sym (one_spelled coding first));
  place = place ∙ ap length (sym (one_spelled coding first));
  longest = longest;
  wrong = no_column coding first count bytes at is;
}

lone_broken : (coding : Coding) (first : ℤ) (count : ℕ) (bytes : List ℕ) (at : ℕ) → IsInBounds first
    → decoded coding first count bytes ≡ Err at → (count == 1 && not (is_const coding)) ≡ true
    → IsBroken coding first count bytes at
lone_broken coding first count bytes at bound is lone =
    let both = and_parts (count == 1) (not (is_const coding)) lone in
    let one : count ≡ 1 = eqb-true count 1 both.0 in
    let place = same_place at 0 (sym is ∙ decoded-lone coding first count bytes lone) in
    broken_at_0 coding first count bytes at (not_true (is_const coding) both.1) (omega arith) bound
    is place
    (λ values more longer begun parts.
    absurd (omega (arith, begun_few coding count values (omega arith) begun.suits)))
  where
    not_true : (b : Bool) → not b ≡ true → b ≡ false
    not_true true h = absurd (cc)
    not_true false h = refl

-- bytes are left
so_far : (coding : Coding) (count : ℕ) (values : List ℤ) → length values ≡ count
    → Suits coding values → SuitsSoFar coding count values
so_far DeltaConst count values len suits = inr (len, suits)
so_far Const count values len suits = (len, suits)
so_far NearestDelta2 count values len suits = omega arith
so_far NearestDelta count values len suits = omega arith

left_broken :
    (coding : Coding) (first : ℤ) (count : ℕ) (bytes : List ℕ) (at : ℕ) (values : List ℤ)
    (rest : List ℕ) → 1 ≤ count
    → decoded coding first count bytes ≡ Err at → IsRead coding first count bytes values rest
    → at ≡ length bytes - length rest
    → IsBroken coding first count bytes at
left_broken coding first count bytes at values rest some is read place = record {
  read = values;
  rest = rest;
  begun = record {
    begins = read.column.begins;
    bounds = read.column.bounds;
    suits = so_far coding count values read.column.len read.column.suits;
  };
  parts = read.parts;
  place = omega (arith, ap length read.parts, length-append (spelling coding values) rest);
  longest =
      λ longer more above begun parts.
      absurd (omega (arith, begun_few coding count longer some begun.suits, read.column.len));
  wrong = no_column coding first count bytes at is;
}

-- an integer breaks
nearest_suits : (coding : Coding) (count : ℕ) (values : List ℤ) → IsNearest coding
    → length values ≤ count → SuitsSoFar coding count values
nearest_suits coding count values is few =
    ⊎_elim (λ h. subst (λ c. SuitsSoFar c count values) (sym h) few)
    (λ h. subst (λ c. SuitsSoFar c count values) (sym h) few) is

nearest_broken : (coding : Coding) (first : ℤ) (more : ℕ) (bytes : List ℕ) (at left : ℕ)
    → IsNearest coding → IsInBounds first
    → decoded coding first (suc more) bytes ≡ Err at → at ≡ length bytes - left
    → IsStuck coding more first (pos 0) bytes left
    → IsBroken coding first (suc more) bytes at
nearest_broken coding first more bytes at left nearest bound is place stuck =
    let text = spelling-nearest coding first stuck.read nearest in
    let parts : bytes ≡ spelling coding (first ∷ stuck.read) ++ stuck.rest = stuck.parts
    ∙ ap (λ bs. bs ++ stuck.rest) (sym text) in
    record {
      read = first ∷ stuck.read;
      rest = stuck.rest;
      begun = record {
        begins = refl;
        bounds = all_from (first ∷ stuck.read) (bound, stuck.bounds);
        suits = nearest_suits coding (suc more) (first ∷ stuck.read) nearest
            (omega (arith, stuck.few));
      };
      parts = parts;
      place = omega (
        arith,
        ap length parts,
        length-append (spelling coding (first ∷ stuck.read)) stuck.rest,
        stuck.place,
      );
      longest = λ values behind longer begun begins. begins_with values first begun.begins
          (λ others whole. stuck.longest others behind (omega (arith, ap length whole))
          (subst (AllByRecursion IsInBounds) whole (all_to values begun.bounds)).1
          (begins ∙ ap (λ vs. spelling coding vs ++ behind) whole
          ∙ ap (λ bs. bs ++ behind) (spelling-nearest coding first others nearest)));
      wrong = no_column coding first (suc more) bytes at is;
    }

steps_broken : (first : ℤ) (more : ℕ) (bytes : List ℕ) (at left : ℕ) → IsInBounds first
    → decoded DeltaConst first (suc more) bytes ≡ Err at → at ≡ length bytes - left
    → left ≡ length bytes
    → onto first (column_at DeltaConst first more bytes) ≡ Err left
    → IsBroken DeltaConst first (suc more) bytes at
steps_broken first more bytes at left bound is place all column =
    broken_at_0 DeltaConst first (suc more) bytes at refl (omega arith) bound is (omega arith)
    (λ values behind longer begun begins. ⊎_elim (λ one. absurd (omega arith))
    (λ whole.
    let one_less : suc more - 1 ≡ more = omega arith in
    let in_grammar : IsColumn DeltaConst first (suc more) (spelling DeltaConst values) values =
    record {
      begins = begun.begins;
      len = whole.0;
      bounds = begun.bounds;
      suits = whole.1;
      spelled = refl;
    } in
    read_not_err
    (sym (column_again DeltaConst first (suc more) (spelling DeltaConst values) values behind
    in_grammar)
    ∙ ap₂ (λ n bs. onto first (column_at DeltaConst first n bs)) one_less (sym begins) ∙ column))
    begun.suits)

-- equal differences break before their integer is taken
steps_by-err : (o : Option (ℕ × List ℕ)) (count : ℕ) (first : ℤ) (all left : ℕ)
    → steps_by o count first all ≡ Err left → left ≡ all
steps_by-err None count first all left is = sym (same_left all left is)
steps_by-err (Some x) count first all left is = go (steps_from count first (unzigzag x.0)) is
  where
    go : (steps : Option (List ℤ)) → steps_then steps x.1 all ≡ Err left → left ≡ all
    go None is = sym (same_left all left is)
    go (Some vs) is = absurd (read_not_err is)

stuck_broken : (coding : Coding) (first : ℤ) (more : ℕ) (bytes : List ℕ) (at left : ℕ)
    → AreBytes bytes → IsInBounds first
    → decoded coding first (suc more) bytes ≡ Err at → at ≡ length bytes - left
    → onto first (column_at coding first more bytes) ≡ Err left
    → IsBroken coding first (suc more) bytes at
stuck_broken DeltaConst first more bytes at left are bound is place column =
    let inner = onto-err first (column_at DeltaConst first more bytes) left column in
    steps_broken first more bytes at left bound is place
    (steps_by-err (number_at bytes) more first (length bytes) left
    (sym (column_at-steps first more bytes) ∙ inner)) column
stuck_broken Const first more bytes at left are bound is place column =
    let inner = onto-err first (column_at Const first more bytes) left column in
    absurd (read_not_err (sym (column_at-const first more bytes) ∙ inner))
stuck_broken NearestDelta2 first more bytes at left are bound is place column =
    let inner = onto-err first (column_at NearestDelta2 first more bytes) left column in
    nearest_broken NearestDelta2 first more bytes at left (inl refl) bound is place
    (values_stuck_at NearestDelta2 more first (pos 0) bytes left are bound (omega arith)
    (sym (differences_column NearestDelta2 first more bytes (inl refl)) ∙ inner))
stuck_broken NearestDelta first more bytes at left are bound is place column =
    let inner = onto-err first (column_at NearestDelta first more bytes) left column in
    nearest_broken NearestDelta first more bytes at left (inr refl) bound is place
    (values_stuck_at NearestDelta more first (pos 0) bytes left are bound (omega arith)
    (sym (differences_column NearestDelta first more bytes (inr refl)) ∙ inner))

not_lone_broken : (coding : Coding) (first : ℤ) (more : ℕ) (bytes : List ℕ) (at : ℕ)
    → AreBytes bytes → IsInBounds first
    → decoded coding first (suc more) bytes ≡ Err at
    → (suc more == 1 && not (is_const coding)) ≡ false
    → (r : Result (List ℤ × List ℕ) ℕ) → onto first (column_at coding first more bytes) ≡ r
    → all_read (length bytes) r ≡ Err at
    → IsBroken coding first (suc more) bytes at
not_lone_broken coding first more bytes at are bound is lone (Err left) column whole =
    stuck_broken coding first more bytes at left are bound is
    (sym (same_place (length bytes - left) at whole)) column
not_lone_broken coding first more bytes at are bound is lone (Ok r) column whole =
    let read = column_read coding first more bytes r.0 r.1 are bound lone column in
    left_broken coding first (suc more) bytes at r.0 r.1 (omega arith) is read
    (left_place (length r.1 == 0) whole)
  where
    left_place : (none : Bool) → (if none then Ok r.0 else Err (length bytes - length r.1)) ≡ Err at
        → at ≡ length bytes - length r.1
    left_place true is = absurd (ok_not_err is)
    left_place false is = sym (same_place (length bytes - length r.1) at is)

pub is_broken : (coding : Coding) (first : ℤ) (count : ℕ) (bytes : List ℕ) (at : ℕ) → AreBytes bytes
    → IsInBounds first → 1 ≤ count
    → decoded coding first count bytes ≡ Err at → IsBroken coding first count bytes at
is_broken coding first zero bytes at are bound some is = absurd (omega arith)
is_broken coding first (suc more) bytes at are bound some is =
    ⊎_elim
    (λ lone. lone_broken coding first (suc more) bytes at bound is lone)
    (λ other.
    let one_less : suc more - 1 ≡ more = omega arith in
    let whole = sym (decoded-column coding first (suc more) bytes other) ∙ is in
    not_lone_broken coding first more bytes at are bound is other
    (onto first (column_at coding first more bytes)) refl
    (ap (λ n. all_read (length bytes) (onto first (column_at coding first n bytes))) (sym one_less)
    ∙ whole))
    (cases_Bool (suc more == 1 && not (is_const coding)))

-- ---- bytes that are read

pub is_column : (coding : Coding) (first : ℤ) (count : ℕ) (bytes : List ℕ) (values : List ℤ)
    → AreBytes bytes → IsInBounds first → 1 ≤ count
    → decoded coding first count bytes ≡ Ok values → IsColumn coding first count bytes values
is_column coding first zero bytes values are bound some is = absurd (omega arith)
is_column coding first (suc more) bytes values are bound some is =
    ⊎_elim
    (λ lone. absurd (ok_not_err (sym is ∙ decoded-lone coding first (suc more) bytes lone)))
    (λ other.
    let one_less : suc more - 1 ≡ more = omega arith in
    let whole = sym (decoded-column coding first (suc more) bytes other) ∙ is in
    all_of other (onto first (column_at coding first more bytes)) refl
    (ap (λ n. all_read (length bytes) (onto first (column_at coding first n bytes))) (sym one_less)
    ∙ whole))
    (cases_Bool (suc more == 1 && not (is_const coding)))
  where
    all_of : (suc more == 1 && not (is_const coding)) ≡ false
        → (r : Result (List ℤ × List ℕ) ℕ) → onto first (column_at coding first more bytes) ≡ r
        → all_read (length bytes) r ≡ Ok values
        → IsColumn coding first (suc more) bytes values
    all_of other (Err left) column whole = absurd (ok_not_err (sym whole))
    all_of other (Ok r) column whole =
        let read = column_read coding first more bytes r.0 r.1 are bound other column in
        nothing_behind (length r.1 == 0) refl whole read
      where
        nothing_behind : (none : Bool) → (length r.1 == 0) ≡ none
            → (if none then Ok r.0 else Err (length bytes - length r.1)) ≡ Ok values
            → IsRead coding first (suc more) bytes r.0 r.1
            → IsColumn coding first (suc more) bytes values
        nothing_behind true none is read =
            let same : r.0 ≡ values = same_values (r.0) values is in
            let text : bytes ≡ spelling coding r.0 = read.parts
            ∙ no_rest (spelling coding r.0) r.1 (eqb-true (length r.1) 0 none) in
            subst (IsColumn coding first (suc more) bytes) same
            (record {
              begins = read.column.begins;
              len = read.column.len;
              bounds = read.column.bounds;
              suits = read.column.suits;
              spelled = text;
            })
        nothing_behind false none is read = absurd (ok_not_err (sym is))

-- ---- a column is read as its values

pub is_again :
    (coding : Coding) (first : ℤ) (count : ℕ) (bytes : List ℕ) (values : List ℤ)
    (result : Result (Unit {0}) Broken) (into : List ℤ)
    → OnOk result (decoded coding first count bytes ≡ Ok into)
    → IfErr result (λ e. decoded coding first count bytes ≡ Err e.at)
    → IsColumn coding first count bytes values → (result ≡ Ok tt) × (into ≡ values)
is_again coding first count bytes values (Ok u) into read broken column = (
  refl,
  same_values into values
      (sym read ∙ decoded_again coding first count bytes values column),
)
is_again coding first count bytes values (Err e) into read broken column =
    absurd (no_column coding first count bytes e.at broken values column)
