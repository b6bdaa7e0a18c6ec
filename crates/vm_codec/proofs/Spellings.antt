-- Laws of the grammar, for other crates' proofs too.
use Rattle.std.proofs.Common.{◌≡◌, ◌⊎◌, ℕ, ℤ, ◌-◌, ◌≤◌, List, [], ◌∷◌, ◌++◌, length, slice_get, Some, inl, inr, ap, refl, sym, subst, ◌∙◌, arith, ⊎_elim}
use Rattle.std.proofs.lemmas.Bool.{cases_order}
use Rattle.std.proofs.lemmas.List.{append-nil}
use Rattle.vm_codec.specs.Coding.{spelling, Suits, SuitsSoFar, IsColumn, IsBegun, IsBroken}
use Rattle.vm_codec.specs.inner.Reading.{onto, column_at}
use Rattle.vm_codec.specs.declared.coding.Coding.{Coding}
use Rattle.vm_codec.specs.declared.coding.Coding.TheVariants.{DeltaConst, Const, NearestDelta2, NearestDelta}
use Rattle.vm_codec.proofs.Columns.{is_ok_of, same_ok}
use Rattle.vm_codec.proofs.Whole.{begins_with, column_again}
use Rattle.vm_codec.proofs.Broken.{one_spelled}

-- what bytes begin with, of a coding, a first value and a count
pub one_column :
    (coding : Coding) (first : ℤ) (count : ℕ) (bytes others rest left : List ℕ)
    (values more : List ℤ)
    → IsColumn coding first count bytes values → IsColumn coding first count others more → bytes
    ++ rest ≡ others ++ left
    → (values ≡ more) × (rest ≡ left)
one_column coding first count bytes others rest left values more column other same =
    let one = column_again coding first count bytes values rest column in
    let two = column_again coding first count others more left other in
    let read : is_ok_of (values, rest) ≡ is_ok_of (more, left) =
    sym one ∙ ap (λ bs. onto first (column_at coding first (count - 1) bs)) same ∙ two in
    let pairs = same_ok (values, rest) (more, left) read in
    (ap (λ (p : List ℤ × List ℕ). p.0) pairs, ap (λ (p : List ℤ × List ℕ). p.1) pairs)

pub no_column_begins :
    (coding : Coding) (first : ℤ) (count : ℕ) (values others : List ℤ) (bytes more : List ℕ)
    → IsColumn coding first count bytes values → IsColumn coding first count (bytes ++ more) others
    → (values ≡ others) × (more ≡ [])
no_column_begins coding first count values others bytes more column other =
    one_column coding first count bytes (bytes ++ more) more [] values others column other
    (sym (append-nil (bytes ++ more)))

-- ---- the place where bytes break

-- values so far are one value, or a column of their own
abbrev IsOneOrColumn : Coding → ℤ → List ℤ → Type 0
IsOneOrColumn coding first values =
    ((length values ≡ 1) × (spelling coding values ≡ []))
    ⊎ IsColumn coding first (length values) (spelling coding values) values

one_or_column : (coding : Coding) (first : ℤ) (count : ℕ) (values : List ℤ)
    → IsBegun coding first count values → IsOneOrColumn coding first values
one_or_column coding first count values begun =
    begins_with values first begun.begins
    (λ more whole. subst (IsOneOrColumn coding first) (sym whole)
    (by_length more (subst (IsBegun coding first count) whole begun)))
  where
    column : (more : List ℤ) → IsBegun coding first count (first ∷ more)
        → Suits coding (first ∷ more) → IsOneOrColumn coding first (first ∷ more)
    column more begun suits =
        inr (record {
          begins = refl;
          len = refl;
          bounds = begun.bounds;
          suits = suits;
          spelled = refl;
        })

    by_length : (more : List ℤ) → IsBegun coding first count (first ∷ more)
        → IsOneOrColumn coding first (first ∷ more)
    by_length [] begun = inl (refl, one_spelled coding first)
    by_length (v ∷ more) begun =
        column (v ∷ more) begun (two_suit coding (v ∷ more) begun.suits (omega arith))
      where
        two_suit : (coding : Coding) (more : List ℤ) → SuitsSoFar coding count (first ∷ more)
            → 1 ≤ length more → Suits coding (first ∷ more)
        two_suit DeltaConst more suits two = ⊎_elim (λ one. absurd (omega arith)) (λ h. h.1) suits
        two_suit Const more suits two = suits.1
        two_suit NearestDelta2 more suits two = omega arith
        two_suit NearestDelta more suits two = omega arith

-- a list of one value has no bytes
no_bytes : (coding : Coding) (first : ℤ) (values : List ℤ) → slice_get values 0 ≡ Some first
    → length values ≡ 1 → spelling coding values ≡ []
no_bytes coding first values begins one =
    begins_with values first begins
    (λ more whole. alone more (sym whole) (omega (arith, ap length whole)))
  where
    alone : (more : List ℤ) → first ∷ more ≡ values → length more ≡ 0 → spelling coding values ≡ []
    alone [] whole none = ap (spelling coding) (sym whole) ∙ one_spelled coding first
    alone (v ∷ more) whole none = absurd (omega arith)

-- two lists of one length that bytes begin with have one spelling
same_spelling :
    (coding : Coding) (first : ℤ) (count : ℕ) (bytes rest left : List ℕ) (values others : List ℤ)
    → IsBegun coding first count values → IsBegun coding first count others
    → length values ≡ length others
    → bytes ≡ spelling coding values ++ rest → bytes ≡ spelling coding others ++ left
    → spelling coding values ≡ spelling coding others
same_spelling coding first count bytes rest left values others begun other len parts parts' =
    ⊎_elim
    (λ one. no_bytes coding first values begun.begins one.0
    ∙ sym (no_bytes coding first others other.begins (sym len ∙ one.0)))
    (λ column. ⊎_elim
    (λ one. no_bytes coding first values begun.begins (len ∙ one.0)
    ∙ sym (no_bytes coding first others other.begins one.0))
    (λ column'.
    let column'' =
    subst (λ n. IsColumn coding first n (spelling coding others) others) (sym len) column' in
    ap (spelling coding)
    (one_column coding first (length values) (spelling coding values) (spelling coding others) rest
    left values others column column''
    (sym parts ∙ parts')).0)
    (one_or_column coding first count others other))
    (one_or_column coding first count values begun)

pub one_place : (coding : Coding) (first : ℤ) (count : ℕ) (bytes : List ℕ) (at other : ℕ)
    → IsBroken coding first count bytes at
    → IsBroken coding first count bytes other → at ≡ other
one_place coding first count bytes at other one two =
    elim (cases_order (length one.read) (length two.read)) [
      | inl same ↦
          one.place
          ∙ ap length
          (same_spelling coding first count bytes one.rest two.rest one.read two.read one.begun
          two.begun same one.parts two.parts)
          ∙ sym two.place
      | inr apart ↦
          ⊎_elim (λ below. absurd (one.longest two.read two.rest below two.begun two.parts))
          (λ above. absurd (two.longest one.read one.rest above one.begun one.parts)) apart
    ]
