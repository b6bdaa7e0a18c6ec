-- The first parts of the grammar, read from the front of a text: blanks, single bytes and names.
use Rattle.std.proofs.Common.{◌≡◌, ◌⊎◌, inl, inr, ℕ, suc, ◌+◌, ◌<◌, Bool, true, false, cond, List, [], ◌∷◌, ◌++◌, length, take, drop, Ok, Err, refl, ap, sym, subst, ◌∙◌, arith, true≢false}
use Rattle.std.specs.Prelude.{◌==◌, slice_index}
use Rattle.std.specs.List.{list_all, prefix_len}
use Rattle.std.proofs.lemmas.Bool.{eqb-true, and_parts}
use Rattle.std.proofs.lemmas.Bool.Decides.{nat_tests}
use Rattle.std.proofs.lemmas.List.{take-append-drop}
use Rattle.vm_labels.specs.Name.{begins_name, is_name_byte, is_name, name_len}
use Rattle.vm_promtext.specs.Grammar.{is_blank, AreBlank, Spaced, Marked, Parted, Named}
use Rattle.vm_promtext.specs.Reading.{behind_blanks, mark_reading, name_reading}
use Rattle.vm_promtext.proofs.Leads.{SameStart, Leads, Follows, Of, behind, leads_all, leads_on, stops_here}
use Rattle.vm_promtext.proofs.TokenLaws.{front_named}

-- no text of L begins with a byte that passes
abbrev pub NeverBegins : (ℕ → Bool) → (List ℕ → Type 0) → Type 0
NeverBegins p L = (byte : ℕ) (more : List ℕ) → p byte ≡ true → L (byte ∷ more) → ⊥

-- a text that is empty or begins with a byte that fails
abbrev pub EndsAt : (ℕ → Bool) → List ℕ → Type 0
EndsAt p [] = Unit {0}
EndsAt p (byte ∷ more) = p byte ≡ false

pub ends_never : (p : ℕ → Bool) (L : List ℕ → Type 0) (text : List ℕ) → NeverBegins p L → L text
    → EndsAt p text
ends_never p L [] never is = tt
ends_never p L (byte ∷ more) never is = go (p byte) refl
  where
    go : (b : Bool) → p byte ≡ b → b ≡ false
    go true passes = absurd (never byte more passes is)
    go false passes = refl

pub ends_same : (p : ℕ → Bool) (text more : List ℕ) → SameStart text more → EndsAt p text
    → EndsAt p more
ends_same p [] [] same ends = tt
ends_same p [] (b ∷ more) same ends = absurd same
ends_same p (a ∷ text) [] same ends = absurd same
ends_same p (a ∷ text) (b ∷ more) same ends = ap p (sym same) ∙ ends

pub ends_passing : (p : ℕ → Bool) (text : List ℕ) → EndsAt p (drop (prefix_len p text) text)
ends_passing p [] = tt
ends_passing p (byte ∷ more) = go (p byte) refl (ends_passing p more)
  where
    go : (b : Bool) → p byte ≡ b → EndsAt p (drop (prefix_len p more) more)
        → EndsAt p (drop (cond b (1 + prefix_len p more) 0) (byte ∷ more))
    go true passes rest = let next : 1 + prefix_len p more ≡ suc (prefix_len p more) =
        omega arith in rw next rest
    go false passes rest = passes

-- bytes that pass and what stands after them are found in one way
pub one_span : (p : ℕ → Bool) (a b x y : List ℕ) → list_all p a ≡ true → list_all p b ≡ true
    → EndsAt p x → EndsAt p y → a ++ x ≡ b ++ y → (a ≡ b) × (x ≡ y)
one_span p [] [] x y are_a are_b ends_x ends_y is = (refl, is)
one_span p [] (b ∷ bs) [] y are_a are_b ends_x ends_y is = cc
one_span p [] (b ∷ bs) (c ∷ x) y are_a are_b ends_x ends_y is =
    let same : c ≡ b = cc in
    absurd (true≢false (sym (and_parts (p b) (list_all p bs) are_b).0 ∙ ap p (sym same) ∙ ends_x))
one_span p (a ∷ as') [] x [] are_a are_b ends_x ends_y is = cc
one_span p (a ∷ as') [] x (c ∷ y) are_a are_b ends_x ends_y is =
    let same : a ≡ c = cc in
    absurd (true≢false (sym (and_parts (p a) (list_all p as') are_a).0 ∙ ap p same ∙ ends_y))
one_span p (a ∷ as') (b ∷ bs) x y are_a are_b ends_x ends_y is =
    let head : a ≡ b = cc in
    let tail : as' ++ x ≡ bs ++ y = cc in
    let rest =
    one_span p as' bs x y (and_parts (p a) (list_all p as') are_a).1
    (and_parts (p b) (list_all p bs) are_b).1 ends_x ends_y tail in
    (λ i. head i ∷ rest.0 i, rest.1)

-- ---- blanks

pub spaced_now : (L : List ℕ → Type 0) (text : List ℕ) → L text → Spaced L text
spaced_now L text is = record { blanks = []; rest = text; parts = refl; are = tt; then = is }

pub spaced_more : (L : List ℕ → Type 0) (byte : ℕ) (text : List ℕ) → is_blank byte ≡ true
    → Spaced L text → Spaced L (byte ∷ text)
spaced_more L byte text blank s =
    record {
      blanks = byte ∷ s.blanks;
      rest = s.rest;
      parts = ap (λ t. byte ∷ t) s.parts;
      are = (blank, s.are);
      then = s.then;
    }

-- a text of Spaced L begins with a blank, or is one of L
spaced_first : (L : List ℕ → Type 0) (byte : ℕ) (text blanks rest : List ℕ) → byte ∷ text ≡ blanks
    ++ rest → AreBlank blanks → L rest
    → ((is_blank byte ≡ true) × Spaced L text) ⊎ L (byte ∷ text)
spaced_first L byte text [] rest parts are is = inr (subst L (sym parts) is)
spaced_first L byte text (b ∷ blanks) rest parts are is =
    let same : byte ≡ b = cc in
    let more : text ≡ blanks ++ rest = cc in
    inl (
      ap is_blank same
          ∙ are.0,
      record { blanks = blanks; rest = rest; parts = more; are = are.1; then = is },
    )

pub spaced_cases : (L : List ℕ → Type 0) (byte : ℕ) (text : List ℕ) → Spaced L (byte ∷ text)
    → ((is_blank byte ≡ true) × Spaced L text) ⊎ L (byte ∷ text)
spaced_cases L byte text s = spaced_first L byte text s.blanks s.rest s.parts s.are s.then

spaced_empty : (L : List ℕ → Type 0) (blanks rest : List ℕ) → [] ≡ blanks ++ rest → L rest → L []
spaced_empty L [] rest parts is = subst L (sym parts) is
spaced_empty L (b ∷ blanks) rest parts is = cc

pub spaced_none : (L : List ℕ → Type 0) → Spaced L [] → L []
spaced_none L s = spaced_empty L s.blanks s.rest s.parts s.then

pub spaced_never : (p : ℕ → Bool) (L : List ℕ → Type 0)
    → ((byte : ℕ) → p byte ≡ true → is_blank byte ≡ true → ⊥) → NeverBegins p L
    → NeverBegins p (Spaced L)
spaced_never p L apart never byte more passes s =
    elim (spaced_cases L byte more s) [
      | inl blank ↦ apart byte passes blank.0
      | inr is ↦ never byte more passes is
    ]

module _ (L : List ℕ → Type 0) (never : NeverBegins is_blank L) where
  skip : (byte : ℕ) (text : List ℕ) → is_blank byte ≡ true
      → Leads (Spaced L) (Spaced L) (byte ∷ text) text
  skip byte text blank = record {
    front = byte ∷ [];
    parts = refl;
    into = λ more s. spaced_more L byte more blank s;
    out = λ more same s.
        elim (spaced_cases L byte more s) [
          | inl found ↦ found.1
          | inr is ↦ absurd (never byte more blank is)
        ];
  }

  stay : (text : List ℕ) → EndsAt is_blank text → Leads (Spaced L) L text text
  stay text ends =
      leads_all (spaced_now L) (λ more same s. go more (ends_same is_blank text more same ends) s)
    where
      go : (more : List ℕ) → EndsAt is_blank more → Spaced L more → L more
      go [] ends s = spaced_none L s
      go (byte ∷ more) ends s =
          elim (spaced_cases L byte more s) [
            | inl found ↦ absurd (true≢false (sym found.0 ∙ ends))
            | inr is ↦ is
          ]

  pub spaced_leads : (text : List ℕ) → Leads (Spaced L) L text (behind_blanks text)
  spaced_leads [] = stay [] tt
  spaced_leads (byte ∷ text) = go (is_blank byte) refl (spaced_leads text)
    where
      go : (b : Bool) → is_blank byte ≡ b → Leads (Spaced L) L text (behind_blanks text)
          → Leads (Spaced L) L (byte ∷ text) (cond b (behind_blanks text) (byte ∷ text))
      go true blank rest = leads_on (skip byte text blank) rest
      go false blank rest = stay (byte ∷ text) blank

-- ---- single bytes

first_is : (mark : ℕ) (text : List ℕ) → 0 < mark → slice_index text 0 ≡ mark
    → text ≡ mark ∷ drop 1 text
first_is mark [] some is = absurd (omega arith)
first_is mark (byte ∷ text) some is = ap (λ b. b ∷ text) is

pub first_mark : (mark : ℕ) (text : List ℕ) → 0 < mark → (slice_index text 0 == mark) ≡ true
    → text ≡ mark ∷ drop 1 text
first_mark mark text some is = first_is mark text some (eqb-true (slice_index text 0) mark is)

pub not_mark : (mark byte : ℕ) (text : List ℕ) → (slice_index (byte ∷ text) 0 == mark) ≡ false
    → byte ≡ mark → ⊥
not_mark mark byte text other is = grind (arith, nat_tests)

pub marked_leads : (mark : ℕ) (L : List ℕ → Type 0) (text rest : List ℕ) → text ≡ mark ∷ rest
    → Leads (Marked mark L) L text rest
marked_leads mark L text rest is = record {
  front = mark ∷ [];
  parts = is;
  into = λ more then. record { rest = more; parts = refl; then = then };
  out = λ more same m. let behind : m.rest ≡ more = cc (m.parts) in subst L behind m.then;
}

pub marked_first : (mark : ℕ) (L : List ℕ → Type 0) (byte : ℕ) (text : List ℕ)
    → Marked mark L (byte ∷ text) → byte ≡ mark
marked_first mark L byte text m = cc (m.parts)

pub marked_none : (mark : ℕ) (L : List ℕ → Type 0) → Marked mark L [] → ⊥
marked_none mark L m = cc (m.parts)

pub marked_never : (p : ℕ → Bool) (mark : ℕ) (L : List ℕ → Type 0) → p mark ≡ false
    → NeverBegins p (Marked mark L)
marked_never p mark L fails byte more passes m =
    true≢false (sym passes ∙ ap p (marked_first mark L byte more m) ∙ fails)

pub mark_follows : (Able : Type 0) (mark : ℕ) (L : List ℕ → Type 0) (text : List ℕ) → 0 < mark
    → (Able → (more : List ℕ) × L more)
    → Follows Able (Marked mark L) (λ _. L) (λ rest. rest) text (mark_reading mark text)
mark_follows Able mark L text some goes = go (slice_index text 0 == mark) refl
  where
    go : (b : Bool) → (slice_index text 0 == mark) ≡ b
        → Follows Able (Marked mark L) (λ _. L) (λ rest. rest) text
        (cond b (Ok (drop 1 text)) (Err (length text)))
    go true is = marked_leads mark L text (drop 1 text) (first_mark mark text some is)
    go false is =
        λ can. stops_here (Marked mark L) text (mark ∷ (goes can).0)
        (record { rest = (goes can).0; parts = refl; then = (goes can).1 })
        (λ byte rest other starts m.
        not_mark mark byte rest (ap (λ t. slice_index t 0 == mark) (sym starts) ∙ is)
        (marked_first mark L byte other m))
        (λ _ m. marked_none mark L m)

-- ---- names

name_first : (byte : ℕ) (text : List ℕ) → begins_name byte ≡ true → name_len (byte ∷ text) ≡ 0 → ⊥
name_first byte text begins none =
    let len : name_len (byte ∷ text) ≡ 1 + prefix_len is_name_byte text = rw begins refl in
    absurd (omega arith)

-- a name that stands at the front of a text begins with its first byte
named_first : (L : List ℕ → List ℕ → Type 0) (byte : ℕ) (text name rest : List ℕ)
    → byte ∷ text ≡ name ++ rest → is_name name ≡ true → begins_name byte ≡ true
named_first L byte text [] rest parts is = cc
named_first L byte text (b ∷ name) rest parts is =
    let same : byte ≡ b = cc in
    ap begins_name same ∙ (and_parts (begins_name b) (list_all is_name_byte (b ∷ name)) is).0

named_none : (name rest : List ℕ) → [] ≡ name ++ rest → is_name name ≡ true → ⊥
named_none [] rest parts is = cc
named_none (b ∷ name) rest parts is = cc

named_all : (name : List ℕ) → is_name name ≡ true → list_all is_name_byte name ≡ true
named_all name is = (and_parts (begins_name (slice_index name 0)) (list_all is_name_byte name) is).1

name_len_is : (text : List ℕ) → (name_len text ≡ 0 → ⊥)
    → name_len text ≡ prefix_len is_name_byte text
name_len_is text some = go (begins_name (slice_index text 0)) some
  where
    go : (b : Bool) → (cond b (prefix_len is_name_byte text) 0 ≡ 0 → ⊥)
        → cond b (prefix_len is_name_byte text) 0 ≡ prefix_len is_name_byte text
    go true some = refl
    go false some = absurd (some refl)

name_leads : (L : List ℕ → List ℕ → Type 0) → ((name : List ℕ) → NeverBegins is_name_byte (L name))
    → (text : List ℕ) → (name_len text ≡ 0 → ⊥)
    → Leads (Named L) (L (take (name_len text) text)) text (drop (name_len text) text)
name_leads L never text some =
    let name = take (name_len text) text in
    let is : is_name name ≡ true = front_named text some in
    let ends : EndsAt is_name_byte (drop (name_len text) text) =
    subst (λ n. EndsAt is_name_byte (drop n text)) (sym (name_len_is text some))
    (ends_passing is_name_byte text) in
    record {
      front = name;
      parts = sym (take-append-drop (name_len text) text);
      into = λ more then. record { name = name; rest = more; parts = refl; is = is; then = then };
      out = λ more same n.
          let one =
          one_span is_name_byte n.name name n.rest more (named_all n.name n.is)
          (named_all name is)
          (ends_never is_name_byte (L n.name) n.rest (never n.name) n.then)
          (ends_same is_name_byte (drop (name_len text) text) more same ends) (sym n.parts) in
          subst (λ m. L m more) one.0 (subst (L n.name) one.1 n.then);
    }

pub name_follows : (Able : Type 0) (L : List ℕ → List ℕ → Type 0)
    → ((name : List ℕ) → NeverBegins is_name_byte (L name))
    → (Able → (name : List ℕ) → (more : List ℕ) × L name more)
    → (text : List ℕ) → Follows Able (Named L) (Of L) behind text (name_reading text)
name_follows Able L never goes text = go (name_len text == 0) refl
  where
    go : (b : Bool) → (name_len text == 0) ≡ b
        → Follows Able (Named L) (Of L) behind text
        (cond b (Err (length text)) (Ok (take (name_len text) text, drop (name_len text) text)))
    go true none = λ can. stops_here (Named L) text (97 ∷ (goes can (97 ∷ [])).0)
        (record {
          name = 97 ∷ [];
          rest = (goes can (97 ∷ [])).0;
          parts = refl;
          is = refl;
          then = (goes can (97 ∷ [])).1;
        })
        (λ byte rest other starts n.
        name_first byte rest (named_first L byte other n.name n.rest n.parts n.is)
        (ap name_len (sym starts) ∙ eqb-true (name_len text) 0 none))
        (λ _ n. named_none n.name n.rest n.parts n.is)
    go false some =
        name_leads L never text (λ none. true≢false (sym (ap (λ n. n == 0) none) ∙ some))

pub named_never : (p : ℕ → Bool) (L : List ℕ → List ℕ → Type 0)
    → ((byte : ℕ) → begins_name byte ≡ true → p byte ≡ true → ⊥) → NeverBegins p (Named L)
named_never p L apart byte more passes n =
    apart byte (named_first L byte more n.name n.rest n.parts n.is) passes

pub named_nothing : (L : List ℕ → List ℕ → Type 0) → Named L [] → ⊥
named_nothing L n = named_none n.name n.rest n.parts n.is

-- ---- blanks that were passed

-- the blanks at the front of a text, and what stands after them
pub record Passed (text : List ℕ) : Type 0 where
  pub blanks : List ℕ
  pub are : AreBlank blanks
  pub parts : text ≡ blanks ++ behind_blanks text
  pub ends : EndsAt is_blank (behind_blanks text)

pub passed : (text : List ℕ) → Passed text
passed [] = record { blanks = []; are = tt; parts = refl; ends = tt }
passed (byte ∷ text) = go (is_blank byte) refl (passed text)
  where
    go : (b : Bool) → is_blank byte ≡ b → Passed text → Passed (byte ∷ text)
    go true blank p =
        record {
          blanks = byte ∷ p.blanks;
          are = (blank, p.are);
          parts = rw blank (ap (λ t. byte ∷ t) p.parts);
          ends = rw blank p.ends;
        }
    go false blank p =
        record { blanks = []; are = tt; parts = rw blank refl; ends = rw blank blank }

-- after blanks, and where no further one follows, a text of Spaced L is one of L
pub spaced_behind : (L : List ℕ → Type 0) (blanks more : List ℕ) → NeverBegins is_blank L
    → AreBlank blanks → EndsAt is_blank more → Spaced L (blanks ++ more) → L more
spaced_behind L [] [] never are ends s = spaced_none L s
spaced_behind L [] (byte ∷ more) never are ends s =
    elim (spaced_cases L byte more s) [
      | inl blank ↦ absurd (true≢false (sym blank.0 ∙ ends))
      | inr is ↦ is
    ]
spaced_behind L (byte ∷ blanks) more never are ends s =
    elim (spaced_cases L byte (blanks ++ more) s) [
      | inl found ↦
          spaced_behind L blanks more never are.1 ends found.1
      | inr is ↦ absurd (never byte (blanks ++ more) are.0 is)
    ]

pub parted_spaced : (L : List ℕ → Type 0) (text : List ℕ) → Parted L text → Spaced L text
parted_spaced L text p = subst (Spaced L) (sym p.parts) (spaced_more L p.blank p.rest p.is p.then)

pub marked_then : (mark : ℕ) (L : List ℕ → Type 0) (more : List ℕ) → Marked mark L (mark ∷ more)
    → L more
marked_then mark L more m = let behind : m.rest ≡ more = cc (m.parts) in subst L behind m.then

pub marked_other : (mark other : ℕ) (L : List ℕ → Type 0) (more : List ℕ) → (other ≡ mark → ⊥)
    → Marked mark L (other ∷ more) → ⊥
marked_other mark other L more apart m = apart (marked_first mark L other more m)
