-- Blocks: a header and a body say one list of samples, or break.
use Rattle.std.proofs.Common.{◌≡◌, ◌⊎◌, inl, inr, ℕ, ◌+◌, ◌≤◌, Bool, true, false, ℤ, pos, List, [], ◌∷◌, length, map, take, drop, refl, ap, ap₂, sym, subst, ◌∙◌, arith, length-append}
use Rattle.vm_base.specs.declared.stamped.Stamped.{Stamped}
use Rattle.vm_base.specs.Sorted.{IsUp}
use Rattle.vm_base.specs.Stamped.{is_in_order}
use Rattle.vm_codec.specs.Coding.{IsColumn, IsBroken, spelling}
use Rattle.vm_codec.specs.declared.coding.Coding.{Coding}
use Rattle.vm_codec.proofs.Spellings.{one_column, one_place}
use Rattle.vm_block.specs.Block.{times_of, values_of, rise_from, scaled_by, are_values, EndsAtLast, IsBlock, BreaksAt, SaysMantissas, SaysTimes}
use Rattle.vm_block.specs.Block.BreaksAt.{no_times, times_fall, another_end, no_mantissas, another_exponent, values_fall}
use Rattle.vm_block.specs.declared.header.BlockHeader.{BlockHeader}

-- ---- one reading

-- a column says one list of values
one_says : (coding : Coding) (first : ℤ) (count : ℕ) (bytes : List ℕ) (values others : List ℤ)
    → IsColumn coding first count bytes values → IsColumn coding first count bytes others
    → values ≡ others
one_says coding first count bytes values others one two =
    (one_column coding first count bytes bytes [] [] values others one two refl).0

-- times and values make a list of samples
pub same_samples : (samples others : List Stamped) → times_of samples ≡ times_of others
    → values_of samples ≡ values_of others → samples ≡ others
same_samples [] [] times values = refl
same_samples [] (t ∷ others) times values = absurd (cc)
same_samples (s ∷ samples) [] times values = absurd (cc)
same_samples (s ∷ samples) (t ∷ others) times values =
    let made : ℕ → ℤ → Stamped = λ time value. record { time = time; value = value } in
    let time : s.time ≡ t.time = cc in
    let value : s.value ≡ t.value = cc in
    let rest : samples ≡ others = same_samples samples others (cc) (cc) in
    ap₂ (λ x xs. x ∷ xs) (ap₂ made time value) rest

-- a header and a body are the block of one list of samples
pub one_block : (h : BlockHeader) (body : List ℕ) (samples others : List Stamped)
    → IsBlock h body samples → IsBlock h body others → samples ≡ others
one_block h body samples others one two =
    let times =
    one_says h.times (pos h.first_time) h.count (take h.times_len body) (times_of samples)
    (times_of others) one.times two.times in
    let mantissas =
    one_says h.values h.first_m h.count (drop h.times_len body) one.mantissas two.mantissas
    one.column two.column in
    same_samples samples others times
    (one.values ∙ ap (map (scaled_by h.exponent)) mantissas ∙ sym two.values)

-- ---- no block breaks

clash : (b : Bool) → b ≡ true → b ≡ false → ⊥
clash b holds fails = cc

pub unbroken : (h : BlockHeader) (body : List ℕ) (at : ℕ) (samples : List Stamped)
    → IsBlock h body samples → BreaksAt h body at → ⊥
unbroken h body at samples block (no_times place broken is) =
    broken.wrong (times_of samples) block.times
unbroken h body at samples block (times_fall times says falls is) =
    let same =
    one_says h.times (pos h.first_time) h.count (take h.times_len body) (times_of samples) times
    block.times says in
    clash (rise_from (pos 0) times) (ap (rise_from (pos 0)) (sym same) ∙ block.rise) falls
unbroken h body at samples block (another_end times says rise end is) =
    end (subst (EndsAtLast h)
    (one_says h.times (pos h.first_time) h.count (take h.times_len body) (times_of samples)
    times block.times says) block.last)
unbroken h body at samples block (no_mantissas times says rise end place broken is) =
    broken.wrong block.mantissas block.column
unbroken h body at samples block
    (another_exponent times mantissas says rise end column another is) =
    let same =
    one_says h.values h.first_m h.count (drop h.times_len body) block.mantissas mantissas
    block.column column in
    clash (are_values h.exponent (map (scaled_by h.exponent) mantissas))
    (ap (λ ms. are_values h.exponent (map (scaled_by h.exponent) ms)) (sym same)
    ∙ ap (are_values h.exponent) (sym block.values) ∙ block.exponent) another
unbroken h body at samples block
    (values_fall others mantissas says rise end column values exponent falls is) =
    let times =
    one_says h.times (pos h.first_time) h.count (take h.times_len body) (times_of samples)
    (times_of others) block.times says in
    let same =
    one_says h.values h.first_m h.count (drop h.times_len body) block.mantissas mantissas
    block.column column in
    let all =
    same_samples samples others times
    (block.values ∙ ap (map (scaled_by h.exponent)) same ∙ sym values) in
    falls (subst (IsUp is_in_order) all block.order)

-- ---- places

-- a column breaks within its bytes, or at their end
pub broken_within : (coding : Coding) (first : ℤ) (count : ℕ) (bytes : List ℕ) (at : ℕ)
    → IsBroken coding first count bytes at → at ≤ length bytes
broken_within coding first count bytes at broken =
    omega (
      arith,
      broken.place,
      ap length broken.parts
          ∙ length-append (spelling coding broken.read) broken.rest,
    )

-- ---- columns by other names

pub moved_column :
    (coding : Coding) (first one : ℤ) (count len : ℕ) (bytes others : List ℕ) (values read : List ℤ)
    → first ≡ one → count ≡ len → bytes ≡ others → values ≡ read
    → IsColumn coding first count bytes values → IsColumn coding one len others read
moved_column coding first one count len bytes others values read first_is len_is bytes_are
    values_are column =
    subst (IsColumn coding one len others) values_are
    (subst (λ bs. IsColumn coding one len bs values) bytes_are
    (subst (λ n. IsColumn coding one n bytes values) len_is
    (subst (λ z. IsColumn coding z count bytes values) first_is column)))

pub moved_broken :
    (coding : Coding) (first one : ℤ) (count len : ℕ) (bytes others : List ℕ) (at : ℕ)
    → first ≡ one → count ≡ len → bytes ≡ others → IsBroken coding first count bytes at
    → IsBroken coding one len others at
moved_broken coding first one count len bytes others at first_is len_is bytes_are broken =
    subst (λ bs. IsBroken coding one len bs at) bytes_are
    (subst (λ n. IsBroken coding one n bytes at) len_is
    (subst (λ z. IsBroken coding z count bytes at) first_is broken))

-- ---- one place

-- A break, part by part: a column breaks, or it says some values and what stands after it breaks.
abbrev Exponent : BlockHeader → List ℤ → ℕ → Type 0
Exponent h ms at =
    ((are_values h.exponent (map (scaled_by h.exponent) ms) ≡ false) × (at ≡ 4))
    ⊎ ((are_values h.exponent (map (scaled_by h.exponent) ms) ≡ true) × (at ≡ 24))

abbrev Mantissas : BlockHeader → List ℕ → ℕ → Type 0
Mantissas h body at =
    ((place : ℕ) × IsBroken h.values h.first_m h.count (drop h.times_len body) place
    × (at ≡ 40 + h.times_len + place))
    ⊎ ((ms : List ℤ) × SaysMantissas h body ms × Exponent h ms at)

abbrev LastTime : BlockHeader → List ℕ → List ℤ → ℕ → Type 0
LastTime h body times at = ((EndsAtLast h times → ⊥) × (at ≡ 16))
    ⊎ (EndsAtLast h times × Mantissas h body at)

abbrev Rising : BlockHeader → List ℕ → List ℤ → ℕ → Type 0
Rising h body times at = ((rise_from (pos 0) times ≡ false) × (at ≡ 40))
    ⊎ ((rise_from (pos 0) times ≡ true) × LastTime h body times at)

abbrev Times : BlockHeader → List ℕ → ℕ → Type 0
Times h body at =
    ((place : ℕ) × IsBroken h.times (pos h.first_time) h.count (take h.times_len body) place
    × (at ≡ 40 + place))
    ⊎ ((times : List ℤ) × SaysTimes h body times × Rising h body times at)

by_parts : (h : BlockHeader) (body : List ℕ) (at : ℕ) → BreaksAt h body at → Times h body at
by_parts h body at (no_times place broken is) = inl (place, broken, is)
by_parts h body at (times_fall times says falls is) = inr (times, says, inl (falls, is))
by_parts h body at (another_end times says rise end is) =
    inr (times, says, inr (rise, inl (end, is)))
by_parts h body at (no_mantissas times says rise end place broken is) =
    inr (times, says, inr (rise, inr (end, inl (place, broken, is))))
by_parts h body at (another_exponent times ms says rise end column another is) =
    inr (times, says, inr (rise, inr (end, inr (ms, column, inl (another, is)))))
by_parts h body at (values_fall samples ms says rise end column values exponent falls is) =
    inr (
      times_of samples,
      says,
      inr (
        rise,
        inr (end, inr (ms, column, inr (ap (are_values h.exponent) (sym values) ∙ exponent, is))),
      ),
    )

one_exponent : (h : BlockHeader) (ms : List ℤ) (p q : ℕ) → Exponent h ms p → Exponent h ms q → p ≡ q
one_exponent h ms p q (inl a) (inl b) = a.1 ∙ sym b.1
one_exponent h ms p q (inl a) (inr b) = absurd (clash _ b.0 a.0)
one_exponent h ms p q (inr a) (inl b) = absurd (clash _ a.0 b.0)
one_exponent h ms p q (inr a) (inr b) = a.1 ∙ sym b.1

one_mantissas : (h : BlockHeader) (body : List ℕ) (p q : ℕ) → Mantissas h body p
    → Mantissas h body q → p ≡ q
one_mantissas h body p q (inl a) (inl b) =
    a.2 ∙ ap (λ n. 40 + h.times_len + n)
    (one_place h.values h.first_m h.count (drop h.times_len body) a.0 b.0 a.1 b.1) ∙ sym b.2
one_mantissas h body p q (inl a) (inr b) = absurd (a.1.wrong b.0 b.1)
one_mantissas h body p q (inr a) (inl b) = absurd (b.1.wrong a.0 a.1)
one_mantissas h body p q (inr a) (inr b) =
    one_exponent h b.0 p q
    (subst (λ ms. Exponent h ms p)
    (one_says h.values h.first_m h.count (drop h.times_len body) a.0 b.0 a.1 b.1) a.2) b.2

one_last : (h : BlockHeader) (body : List ℕ) (times : List ℤ) (p q : ℕ) → LastTime h body times p
    → LastTime h body times q → p ≡ q
one_last h body times p q (inl a) (inl b) = a.1 ∙ sym b.1
one_last h body times p q (inl a) (inr b) = absurd (a.0 b.0)
one_last h body times p q (inr a) (inl b) = absurd (b.0 a.0)
one_last h body times p q (inr a) (inr b) = one_mantissas h body p q a.1 b.1

one_rising : (h : BlockHeader) (body : List ℕ) (times : List ℤ) (p q : ℕ) → Rising h body times p
    → Rising h body times q → p ≡ q
one_rising h body times p q (inl a) (inl b) = a.1 ∙ sym b.1
one_rising h body times p q (inl a) (inr b) = absurd (clash _ b.0 a.0)
one_rising h body times p q (inr a) (inl b) = absurd (clash _ a.0 b.0)
one_rising h body times p q (inr a) (inr b) = one_last h body times p q a.1 b.1

one_times : (h : BlockHeader) (body : List ℕ) (p q : ℕ) → Times h body p → Times h body q → p ≡ q
one_times h body p q (inl a) (inl b) =
    a.2 ∙ ap (λ n. 40 + n)
    (one_place h.times (pos h.first_time) h.count (take h.times_len body) a.0 b.0 a.1 b.1)
    ∙ sym b.2
one_times h body p q (inl a) (inr b) = absurd (a.1.wrong b.0 b.1)
one_times h body p q (inr a) (inl b) = absurd (b.1.wrong a.0 a.1)
one_times h body p q (inr a) (inr b) =
    one_rising h body b.0 p q
    (subst (λ ts. Rising h body ts p)
    (one_says h.times (pos h.first_time) h.count (take h.times_len body) a.0 b.0 a.1 b.1) a.2)
    b.2

-- a block breaks at one place
pub one_break : (h : BlockHeader) (body : List ℕ) (p q : ℕ) → BreaksAt h body p → BreaksAt h body q
    → p ≡ q
one_break h body p q a b = one_times h body p q (by_parts h body p a) (by_parts h body q b)
