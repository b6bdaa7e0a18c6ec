-- Entries one by one, and what their rules say of places, rows and times.
use Rattle.std.proofs.Common.{◌≡◌, ℕ, zero, suc, ◌+◌, ◌-◌, ◌*◌, ◌≤◌, ◌<◌, Bool, true, false, ◌&&◌, ◌||◌, cond, nat_le, nat_lt, ◌==◌, not, List, [], ◌∷◌, ◌++◌, length, Option, Some, None, refl, ap, ap₂, sym, ◌∙◌, subst, inl, inr, append_assoc, arith}
use Rattle.std.specs.List.{sum_by}
use Rattle.std.proofs.lemmas.Bool.{and_parts, cases_eq, eq-eqb, eqb-true, leb-true, ltb-true, ne_eqb}
use Rattle.std.proofs.lemmas.List.Sums.{sum_by-cons}
use Rattle.vm_block.specs.Header.{first_broken, is_last_time, is_time}
use Rattle.vm_part.specs.Broken.{ends_there, entries_at, entries_rules, entry_at, entry_rules, may_start, none_without_blocks}
use Rattle.vm_part.specs.inner.Reading.{PlacesRise}
use Rattle.vm_part.specs.declared.entry.Entry.{Entry}
use Rattle.vm_part.proofs.RuleLaws.{broken_front, kept_front, kept_one, kept_parts}

-- ---- a loop over entries

module _ (end : ℕ) (bytes : List ℕ) (rows : ℕ) where
  -- the rules of the entry at a place, where so many stand after it
  abbrev rules_here : (n at : ℕ) → Option Entry → (so_far : ℕ) → List (ℕ × Bool)
  rules_here n at before so_far =
      let e = entry_at at bytes in
      entry_rules end at before (n == 0) (not (n == 0) || so_far + e.rows == rows) e

  abbrev rules_behind : (n at so_far : ℕ) → List (ℕ × Bool)
  rules_behind n at so_far =
      let e = entry_at at bytes in
      entries_rules end bytes rows n (at + 40) (Some e) (so_far + e.rows)

  with_entry : (at so_far more : ℕ) (e : Entry) → e ≡ entry_at at bytes → more ≡ so_far + e.rows
      → more ≡ so_far + (entry_at at bytes).rows
  with_entry at so_far more e e_is more_is = more_is ∙ ap (λ (x : Entry). so_far + x.rows) e_is

  are_here : (n at so_far more : ℕ) (before : Option Entry) (is_last adds_up : Bool) (e : Entry)
      → is_last ≡ (n == 0) → e ≡ entry_at at bytes
      → more ≡ so_far + e.rows → adds_up ≡ (not is_last || more == rows)
      → entry_rules end at before is_last adds_up e ≡ rules_here n at before so_far
  are_here n at so_far more before is_last adds_up e last_is e_is more_is adds =
      let more_there = with_entry at so_far more e e_is more_is in
      let adds_there : adds_up ≡ (not (n == 0) || so_far + (entry_at at bytes).rows == rows) =
      adds ∙ (λ i. not (last_is i) || more_there i == rows) in
      λ i. entry_rules end at before (last_is i) (adds_there i) (e_is i)

  pub entry_kept :
      (m n at next so_far more : ℕ) (before : Option Entry) (is_last adds_up : Bool) (e : Entry)
      (whole : Option ℕ)
      → m ≡ suc n → next ≡ at + 40 → is_last ≡ (n == 0) → e ≡ entry_at at bytes
      → more ≡ so_far + e.rows → adds_up ≡ (not is_last || more == rows)
      → first_broken (entry_rules end at before is_last adds_up e) ≡ None
      → first_broken (entries_rules end bytes rows m at before so_far) ≡ whole
      → first_broken (entries_rules end bytes rows n next (Some e) more) ≡ whole
  entry_kept m n at next so_far more before is_last adds_up e whole m_is next_is last_is e_is
      more_is adds kept said =
      let more_there = with_entry at so_far more e e_is more_is in
      (λ i. first_broken
      (entries_rules end bytes rows n (next_is i) (Some (e_is i)) (more_there i)))
      ∙ sym (kept_front (rules_here n at before so_far) (rules_behind n at so_far)
      (ap first_broken
      (sym (are_here n at so_far more before is_last adds_up e last_is e_is more_is adds))
      ∙ kept))
      ∙ ap (λ k. first_broken (entries_rules end bytes rows k at before so_far)) (sym m_is) ∙ said

  pub entry_broken :
      (m n at p so_far more : ℕ) (before : Option Entry) (is_last adds_up : Bool) (e : Entry)
      (whole : Option ℕ)
      → m ≡ suc n → is_last ≡ (n == 0) → e ≡ entry_at at bytes → more ≡ so_far + e.rows
      → adds_up ≡ (not is_last || more == rows)
      → first_broken (entry_rules end at before is_last adds_up e) ≡ Some p
      → first_broken (entries_rules end bytes rows m at before so_far) ≡ whole
      → whole ≡ Some p
  entry_broken m n at p so_far more before is_last adds_up e whole m_is last_is e_is more_is adds
      broken said =
      sym said ∙ ap (λ k. first_broken (entries_rules end bytes rows k at before so_far)) m_is
      ∙ broken_front (rules_here n at before so_far) (rules_behind n at so_far) p
      (ap first_broken
      (sym (are_here n at so_far more before is_last adds_up e last_is e_is more_is adds))
      ∙ broken)

  pub entries_kept : (m at so_far : ℕ) (before : Option Entry) (whole : Option ℕ) → m ≡ 0
      → first_broken (entries_rules end bytes rows m at before so_far) ≡ whole → whole ≡ None
  entries_kept m at so_far before whole m_is said = sym said
      ∙ ap (λ k. first_broken (entries_rules end bytes rows k at before so_far)) m_is

pub entry_joins : (bytes : List ℕ) (m n at next : ℕ) (done news all : List Entry) (e : Entry)
    → m ≡ suc n → next ≡ at + 40 → e ≡ entry_at at bytes
    → news ≡ done ++ e ∷ [] → done ++ entries_at m at bytes ≡ all → news
    ++ entries_at n next bytes ≡ all
entry_joins bytes m n at next done news all e m_is next_is e_is put so_far =
    ap₂ (λ es a. es ++ entries_at n a bytes) (put ∙ ap (λ x. done ++ x ∷ []) e_is) next_is
    ∙ append_assoc done (entry_at at bytes ∷ []) (entries_at n (at + 40) bytes)
    ∙ ap (λ k. done ++ entries_at k at bytes) (sym m_is) ∙ so_far

pub entries_done : (bytes : List ℕ) (m at : ℕ) (done all : List Entry) → m ≡ 0 → done
    ++ entries_at m at bytes ≡ all → done ≡ all
entries_done bytes m at done all m_is so_far = sym (nil done)
    ∙ ap (λ k. done ++ entries_at k at bytes) (sym m_is) ∙ so_far
  where
    nil : (es : List Entry) → es ++ [] ≡ es
    nil [] = refl
    nil (e ∷ es) = ap (λ more. e ∷ more) (nil es)

pub entries_many : (n at : ℕ) (bytes : List ℕ) → length (entries_at n at bytes) ≡ n
entries_many zero at bytes = refl
entries_many (suc n) at bytes = ap suc (entries_many n (at + 40) bytes)

-- ---- what the rules say

-- an entry behind another keeps its rules; `end` is where all blocks end
pub record Keeps (end : ℕ) (before : Option Entry) (is_last : Bool) (e : Entry) : Type 0 where
  pub start : may_start before e.start ≡ true
  pub ends : ends_there end is_last e ≡ true
  pub room : e.start + 40 * e.blocks ≤ end
  pub most : e.rows ≤ 8192 * e.blocks
  pub first : none_without_blocks e e.first_time ≡ true
  pub last : none_without_blocks e e.last_time ≡ true

-- each of some does, the last one as the last
abbrev pub AllKeep : (end : ℕ) → Option Entry → List Entry → Type 0
AllKeep end before [] = Unit {0}
AllKeep end before (e ∷ more) = Keeps end before (length more == 0) e × AllKeep end (Some e) more

keeps : (end at : ℕ) (before : Option Entry) (is_last adds_up : Bool) (e : Entry)
    → first_broken (entry_rules end at before is_last adds_up e) ≡ None
    → Keeps end before is_last e × (adds_up ≡ true)
keeps end at before is_last adds_up e h =
    let may = nat_le e.blocks e.rows && nat_le e.rows (8192 * e.blocks) in
    let r4 =
    (at + 32, is_last_time e.first_time e.last_time && none_without_blocks e e.last_time)
    ∷ [] in
    let r3 = (at + 24, is_time e.first_time && none_without_blocks e e.first_time) ∷ r4 in
    let r2 = (at + 16, may && adds_up) ∷ r3 in
    let r1 = (at + 8, nat_le (e.start + 40 * e.blocks) end) ∷ r2 in
    let k0 = kept_one at (may_start before e.start && ends_there end is_last e) r1 h in
    let k1 = kept_one (at + 8) (nat_le (e.start + 40 * e.blocks) end) r2 k0.1 in
    let k2 = kept_one (at + 16) (may && adds_up) r3 k1.1 in
    let k3 =
    kept_one (at + 24) (is_time e.first_time && none_without_blocks e e.first_time) r4 k2.1 in
    let k4 =
    kept_one (at + 32)
    (is_last_time e.first_time e.last_time && none_without_blocks e e.last_time) [] k3.1 in
    let place = and_parts (may_start before e.start) (ends_there end is_last e) k0.0 in
    let rows = and_parts may adds_up k2.0 in (
      record {
        start = place.0;
        ends = place.1;
        room = leb-true (e.start + 40 * e.blocks) end k1.0;
        most = leb-true e.rows (8192 * e.blocks)
            (and_parts (nat_le e.blocks e.rows) (nat_le e.rows (8192 * e.blocks)) rows.0).1;
        first = (and_parts (is_time e.first_time) (none_without_blocks e e.first_time) k3.0).1;
        last = (and_parts (is_last_time e.first_time e.last_time)
            (none_without_blocks e e.last_time) k4.0).1;
      },
      rows.1,
    )

pub all_keep : (end : ℕ) (bytes : List ℕ) (rows n at : ℕ) (before : Option Entry) (so_far : ℕ)
    → first_broken (entries_rules end bytes rows n at before so_far) ≡ None
    → AllKeep end before (entries_at n at bytes)
all_keep end bytes rows zero at before so_far h = tt
all_keep end bytes rows (suc n) at before so_far h =
    let e = entry_at at bytes in
    let adds_up = not (n == 0) || so_far + e.rows == rows in
    let both =
    kept_parts (entry_rules end at before (n == 0) adds_up e)
    (entries_rules end bytes rows n (at + 40) (Some e) (so_far + e.rows)) h in (
      subst (λ k. Keeps end before (k == 0) e) (sym (entries_many n (at + 40) bytes))
          (keeps end at before (n == 0) adds_up e both.0).0,
      all_keep end bytes rows n (at + 40) (Some e) (so_far + e.rows) both.1,
    )

-- the rows of the entries from one on, with those before it, are as many as there should be in all
add_up : (end : ℕ) (bytes : List ℕ) (rows n at : ℕ) (before : Option Entry) (so_far : ℕ)
    → first_broken (entries_rules end bytes rows (suc n) at before so_far) ≡ None
    → so_far + sum_by (λ e. e.rows) (entries_at (suc n) at bytes) ≡ rows
add_up end bytes rows zero at before so_far h =
    let e = entry_at at bytes in
    let adds_up = so_far + e.rows == rows in
    let kept = kept_parts (entry_rules end at before true adds_up e) [] h in
    let here = eqb-true (so_far + e.rows) rows (keeps end at before true adds_up e kept.0).1 in
    omega (arith, here, sum_by-cons (λ (x : Entry). x.rows) e [])
add_up end bytes rows (suc n) at before so_far h =
    let e = entry_at at bytes in
    let adds_up = not (suc n == 0) || so_far + e.rows == rows in
    let both =
    kept_parts (entry_rules end at before (suc n == 0) adds_up e)
    (entries_rules end bytes rows (suc n) (at + 40) (Some e) (so_far + e.rows)) h in
    let behind = add_up end bytes rows n (at + 40) (Some e) (so_far + e.rows) both.1 in
    omega (
      arith,
      behind,
      sum_by-cons (λ (x : Entry). x.rows) e (entries_at (suc n) (at + 40) bytes),
    )

pub all_add_up : (end : ℕ) (bytes : List ℕ) (rows many at : ℕ) → 1 ≤ many
    → first_broken (entries_rules end bytes rows many at None 0) ≡ None
    → sum_by (λ e. e.rows) (entries_at many at bytes) ≡ rows
all_add_up end bytes rows zero at some h = absurd (omega arith)
all_add_up end bytes rows (suc n) at some h = omega (arith, add_up end bytes rows n at None 0 h)

-- where a series has no blocks, the next one begins where it does
pub record Follows (e following : Entry) : Type 0 where
  pub behind : e.start ≤ following.start
  pub same : e.blocks ≡ 0 → following.start ≡ e.start

pub follows : (e following : Entry) → may_start (Some e) following.start ≡ true
    → Follows e following
follows e following h = go (e.blocks == 0) refl h
  where
    go : (b : Bool) → (e.blocks == 0) ≡ b
        → cond b (following.start == e.start) (nat_le (e.start + 40 * e.blocks) following.start)
        ≡ true → Follows e following
    go true none test =
        let same = eqb-true following.start e.start test in
        record { behind = omega arith; same = λ _. same }
    go false some test =
        let behind = leb-true (e.start + 40 * e.blocks) following.start test in
        record {
          behind = omega arith;
          same = λ zero_is. absurd (clash (e.blocks == 0) (ap (λ n. n == 0) zero_is) some);
        }
      where
        clash : (b : Bool) → b ≡ true → b ≡ false → ⊥
        clash b holds fails = cc

-- a last series without blocks has its place where all blocks end
pub ends_last : (end : ℕ) (e : Entry) → ends_there end true e ≡ true → e.blocks ≡ 0 → end ≡ e.start
ends_last end e h none = go (nat_lt 0 e.blocks) refl h
  where
    go : (b : Bool) → nat_lt 0 e.blocks ≡ b → (b || e.start == end) ≡ true → end ≡ e.start
    go true some test = absurd (omega (arith, ltb-true 0 e.blocks some))
    go false few test = sym (eqb-true e.start end test)

pub no_time : (e : Entry) (time : ℕ) → none_without_blocks e time ≡ true → e.blocks ≡ 0 → time ≡ 0
no_time e time h none = go (nat_lt 0 e.blocks) refl h
  where
    go : (b : Bool) → nat_lt 0 e.blocks ≡ b → (b || time == 0) ≡ true → time ≡ 0
    go true some test = absurd (omega (arith, ltb-true 0 e.blocks some))
    go false few test = eqb-true time 0 test

pub places_rise : (end : ℕ) (before : Option Entry) (es : List Entry) → AllKeep end before es
    → PlacesRise end es
places_rise end before [] all = tt
places_rise end before (e ∷ []) all = let room = all.0.room in (omega arith, omega arith, tt)
places_rise end before (e ∷ f ∷ more) all =
    let behind = (follows e f all.1.0.start).behind in
    let room = all.1.0.room in
    (behind, omega arith, places_rise end (Some e) (f ∷ more) all.1)

-- ---- the first turn of the loop, and its last

-- the last one is the one with none behind it
pub last_test : (n many : ℕ) → n < many → (n + 1 == many) ≡ (many - (n + 1) == 0)
last_test n many inside =
    elim (cases_eq (n + 1) many) [
      | inl same ↦ eq-eqb (n + 1) many same ∙ sym (eq-eqb (many - (n + 1)) 0 (omega arith))
      | inr apart ↦ ne_eqb (n + 1) many apart
          ∙ sym (ne_eqb (many - (n + 1)) 0 (λ same. apart (omega arith)))
    ]

-- before the first entry
pub none_kept : (end : ℕ) (bytes : List ℕ) (rows many at : ℕ)
    → first_broken (entries_rules end bytes rows (many - 0) (at + 0) None 0)
    ≡ first_broken (entries_rules end bytes rows many at None 0)
none_kept end bytes rows many at =
    let m : many - 0 ≡ many = omega arith in
    let a : at + 0 ≡ at = omega arith in
    ap₂ (λ n p. first_broken (entries_rules end bytes rows n p None 0)) m a

pub none_joined : (bytes : List ℕ) (many at : ℕ) (done : List Entry) → done ≡ [] → done
    ++ entries_at (many - 0) (at + 0) bytes ≡ entries_at many at bytes
none_joined bytes many at done empty =
    let m : many - 0 ≡ many = omega arith in
    let a : at + 0 ≡ at = omega arith in
    ap (λ es. es ++ entries_at (many - 0) (at + 0) bytes) empty
    ∙ ap₂ (λ n p. entries_at n p bytes) m a
