-- The rules of the front and the footer, and the sections that they leave.
use Rattle.std.proofs.Common.{◌≡◌, ℕ, ◌+◌, ◌-◌, ◌*◌, ◌%◌, ◌≤◌, Bool, true, false, ◌&&◌, List, [], ◌∷◌, length, Some, None, nat_le, nat_lt, ◌==◌, refl, arith}
use Rattle.std.specs.Prelude.{bytes_eq}
use Rattle.std.proofs.lemmas.Bool.{and_parts, eqb-true, leb-true, ltb-true}
use Rattle.std.proofs.lemmas.Slice.Eq.{bytes_eq-Decides}
use Rattle.vm_block.specs.Header.{field, first_broken}
use Rattle.vm_part.specs.Broken.{footer_at, is_whole, number_at}
use Rattle.vm_part.specs.Part.{end_mark, front_mark}
use Rattle.vm_part.specs.inner.Reading.{AreSections, front_rules, has_mark, is_entries_place, is_postings_place, is_series_count, is_table_place}
use Rattle.vm_part.specs.declared.footer.Footer.{Footer}

-- ---- the first broken one

module _ (at : ℕ) (b0 b1 b2 b3 b4 b5 b6 : Bool) where
  abbrev seven : List (ℕ × Bool)
  seven = (0, b0) ∷ (at, b1) ∷ (at + 8, b2) ∷ (at + 16, b3) ∷ (at + 24, b4) ∷ (at + 32, b5)
      ∷ (at + 40, b6) ∷ []

  first_of_seven : b0 ≡ false → first_broken seven ≡ Some 0
  first_of_seven h0 = rw h0 refl

  second : b0 ≡ true → b1 ≡ false → first_broken seven ≡ Some at
  second h0 h1 = rw (h0, h1) refl

  third : b0 ≡ true → b1 ≡ true → b2 ≡ false → first_broken seven ≡ Some (at + 8)
  third h0 h1 h2 = rw (h0, h1, h2) refl

  fourth : b0 ≡ true → b1 ≡ true → b2 ≡ true → b3 ≡ false → first_broken seven ≡ Some (at + 16)
  fourth h0 h1 h2 h3 = rw (h0, h1, h2, h3) refl

  fifth : b0 ≡ true → b1 ≡ true → b2 ≡ true → b3 ≡ true → b4 ≡ false
      → first_broken seven ≡ Some (at + 24)
  fifth h0 h1 h2 h3 h4 = rw (h0, h1, h2, h3, h4) refl

  sixth : b0 ≡ true → b1 ≡ true → b2 ≡ true → b3 ≡ true → b4 ≡ true → b5 ≡ false
      → first_broken seven ≡ Some (at + 32)
  sixth h0 h1 h2 h3 h4 h5 = rw (h0, h1, h2, h3, h4, h5) refl

  seventh : b0 ≡ true → b1 ≡ true → b2 ≡ true → b3 ≡ true → b4 ≡ true → b5 ≡ true → b6 ≡ false
      → first_broken seven ≡ Some (at + 40)
  seventh h0 h1 h2 h3 h4 h5 h6 = rw (h0, h1, h2, h3, h4, h5, h6) refl

  all_seven : b0 ≡ true → b1 ≡ true → b2 ≡ true → b3 ≡ true → b4 ≡ true → b5 ≡ true → b6 ≡ true
      → first_broken seven ≡ None
  all_seven h0 h1 h2 h3 h4 h5 h6 = rw (h0, h1, h2, h3, h4, h5, h6) refl

module _ (at : ℕ) (bytes : List ℕ) where
  abbrev b0 : Bool
  b0 = has_mark 0 bytes front_mark

  abbrev b1 : Bool
  b1 = is_entries_place at bytes

  abbrev b2 : Bool
  b2 = is_table_place at bytes

  abbrev b3 : Bool
  b3 = is_postings_place at bytes

  abbrev b4 : Bool
  b4 = is_series_count at bytes

  abbrev b5 : Bool
  b5 = is_whole (at + 32) bytes

  abbrev b6 : Bool
  b6 = has_mark (at + 40) bytes end_mark

  pub broken_front : b0 ≡ false → first_broken (front_rules at bytes) ≡ Some 0
  broken_front h0 = first_of_seven at b0 b1 b2 b3 b4 b5 b6 h0

  pub broken_entries : b0 ≡ true → b1 ≡ false → first_broken (front_rules at bytes) ≡ Some at
  broken_entries h0 h1 = second at b0 b1 b2 b3 b4 b5 b6 h0 h1

  pub broken_table : b0 ≡ true → b1 ≡ true → b2 ≡ false
      → first_broken (front_rules at bytes) ≡ Some (at + 8)
  broken_table h0 h1 h2 = third at b0 b1 b2 b3 b4 b5 b6 h0 h1 h2

  pub broken_postings : b0 ≡ true → b1 ≡ true → b2 ≡ true → b3 ≡ false
      → first_broken (front_rules at bytes) ≡ Some (at + 16)
  broken_postings h0 h1 h2 h3 = fourth at b0 b1 b2 b3 b4 b5 b6 h0 h1 h2 h3

  pub broken_series : b0 ≡ true → b1 ≡ true → b2 ≡ true → b3 ≡ true → b4 ≡ false
      → first_broken (front_rules at bytes) ≡ Some (at + 24)
  broken_series h0 h1 h2 h3 h4 = fifth at b0 b1 b2 b3 b4 b5 b6 h0 h1 h2 h3 h4

  pub broken_rows : b0 ≡ true → b1 ≡ true → b2 ≡ true → b3 ≡ true → b4 ≡ true → b5 ≡ false
      → first_broken (front_rules at bytes) ≡ Some (at + 32)
  broken_rows h0 h1 h2 h3 h4 h5 = sixth at b0 b1 b2 b3 b4 b5 b6 h0 h1 h2 h3 h4 h5

  pub broken_mark : b0 ≡ true → b1 ≡ true → b2 ≡ true → b3 ≡ true → b4 ≡ true → b5 ≡ true
      → b6 ≡ false
      → first_broken (front_rules at bytes) ≡ Some (at + 40)
  broken_mark h0 h1 h2 h3 h4 h5 h6 = seventh at b0 b1 b2 b3 b4 b5 b6 h0 h1 h2 h3 h4 h5 h6

  pub none_broken : b0 ≡ true → b1 ≡ true → b2 ≡ true → b3 ≡ true → b4 ≡ true → b5 ≡ true
      → b6 ≡ true
      → first_broken (front_rules at bytes) ≡ None
  none_broken h0 h1 h2 h3 h4 h5 h6 = all_seven at b0 b1 b2 b3 b4 b5 b6 h0 h1 h2 h3 h4 h5 h6

-- ---- the sections

record Places (at e t p s : ℕ) : Type 0 where
  pub low : 8 ≤ e
  pub some : 1 ≤ s
  pub entries : e + 40 * s ≡ t
  pub table : t ≤ p
  pub postings : p ≤ at

places : (at e t p s : ℕ) (w1 w2 w3 w4 : Bool) → (w1 && nat_le 8 e && nat_le e at) ≡ true
    → (w2 && nat_lt e t && (t - e) % 40 == 0 && nat_le t at) ≡ true
    → (w3 && nat_le t p && nat_le p at) ≡ true
    → (w4 && s * 40 == t - e) ≡ true → Places at e t p s
places at e t p s w1 w2 w3 w4 h1 h2 h3 h4 =
    let low =
    leb-true 8 e
    (and_parts w1 (nat_le 8 e) (and_parts (w1 && nat_le 8 e) (nat_le e at) h1).0).1 in
    let front = (and_parts (w2 && nat_lt e t && (t - e) % 40 == 0) (nat_le t at) h2).0 in
    let rise =
    ltb-true e t
    (and_parts w2 (nat_lt e t) (and_parts (w2 && nat_lt e t) ((t - e) % 40 == 0) front).0).1 in
    let both = and_parts (w3 && nat_le t p) (nat_le p at) h3 in
    let table = leb-true t p (and_parts w3 (nat_le t p) both.0).1 in
    let postings = leb-true p at both.1 in
    let many = eqb-true (s * 40) (t - e) (and_parts w4 (s * 40 == t - e) h4).1 in
    record {
      low = low;
      some = omega arith;
      entries = omega arith;
      table = table;
      postings = postings;
    }

pub mark_stands : (at : ℕ) (bytes mark : List ℕ) → has_mark at bytes mark ≡ true
    → (at + 8 ≤ length bytes) × (field 8 at bytes ≡ mark)
mark_stands at bytes mark h =
    let both = and_parts (is_whole at bytes) (bytes_eq (field 8 at bytes) mark) h in
    (leb-true (at + 8) (length bytes) both.0, (bytes_eq-Decides (field 8 at bytes) mark).0 both.1)

pub sections : (at : ℕ) (bytes : List ℕ) → has_mark 0 bytes front_mark ≡ true
    → is_entries_place at bytes ≡ true → is_table_place at bytes ≡ true
    → is_postings_place at bytes ≡ true → is_series_count at bytes ≡ true
    → has_mark (at + 40) bytes end_mark ≡ true
    → AreSections at bytes (footer_at at bytes)
sections at bytes h0 h1 h2 h3 h4 h6 =
    let front = mark_stands 0 bytes front_mark h0 in
    let mark = mark_stands (at + 40) bytes end_mark h6 in
    let p = places at (number_at at bytes) (number_at (at + 8) bytes) (number_at (at + 16) bytes)
    (number_at (at + 24) bytes)
    (is_whole at bytes) (is_whole (at + 8) bytes) (is_whole (at + 16) bytes)
    (is_whole (at + 24) bytes) h1 h2 h3 h4 in
    record {
      whole = further at (length bytes) mark.0;
      front = front.1;
      low = p.low;
      some = p.some;
      entries = p.entries;
      table = p.table;
      postings = p.postings;
      mark = mark.1;
    }
  where
    further : (a n : ℕ) → a + 40 + 8 ≤ n → a + 48 ≤ n
    further a n h = omega arith

-- the footer that was read number by number
pub footer_is : (at : ℕ) (bytes : List ℕ) (f : Footer) → f.entries_at ≡ number_at at bytes
    → f.table_at ≡ number_at (at + 8) bytes
    → f.postings_at ≡ number_at (at + 16) bytes → f.series ≡ number_at (at + 24) bytes
    → f.rows ≡ number_at (at + 32) bytes → f ≡ footer_at at bytes
footer_is at bytes f entries table postings series rows = λ i. record {
  entries_at = entries i;
  table_at = table i;
  postings_at = postings i;
  series = series i;
  rows = rows i;
}
