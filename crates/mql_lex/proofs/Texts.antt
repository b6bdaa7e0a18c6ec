-- Names, strings, marks, blanks and comments: what the machine reads from the phases of these.
use Rattle.std.specs.Prelude.{◌≡◌, ◌⊎◌, ℕ, Bool, true, false, List, [], ◌∷◌, ◌++◌, Some, None, codes, ◌==◌, ◌||◌, ◌&&◌, not}
use Rattle.std.specs.List.{list_all}
use Rattle.std.proofs.Common.{cond, refl, ap, ◌∙◌, inl, inr}
use Rattle.std.proofs.lemmas.Bool.{eqb-true}
use Rattle.vm_labels.specs.Name.{is_name_byte}
use Rattle.mql_lex.specs.Grammar.{is_inner, is_escape, is_blank}
use Rattle.mql_lex.specs.declared.phase.Phase.{Phase}
use Rattle.mql_lex.specs.declared.phase.Phase.TheVariants.{Named, Within, Escaped, Closed, Marking, Equals, Bang, Angle, Blanks, Comment}
use Rattle.mql_lex.specs.declared.piece.Piece.{Piece}
use Rattle.mql_lex.specs.declared.piece.Piece.TheVariants.{Token, Gap}
use Rattle.mql_lex.specs.declared.token.TokenKind.TheVariants.{Name, Str, Mark}
use Rattle.mql_lex.proofs.Moves.{Reads, Goes}

module _ (piece : Piece) where
  -- ---- names

  pub named_tail : (text : List ℕ) → Reads Named text piece → (piece ≡ Token Name)
      × (list_all is_name_byte text ≡ true)
  named_tail [] reads = (cc reads, refl)
  named_tail (byte ∷ more) reads = go (is_name_byte byte) reads (named_tail more)
    where
      go : (n : Bool) → Goes (cond n (Some Named) None) more piece
          → (Reads Named more piece → (piece ≡ Token Name) × (list_all is_name_byte more ≡ true))
          → (piece ≡ Token Name) × ((n && list_all is_name_byte more) ≡ true)
      go true reads tail = tail reads
      go false reads tail = absurd (cc reads)

  -- ---- blanks and comments

  pub blanks_tail : (text : List ℕ) → Reads Blanks text piece → (piece ≡ Gap)
      × (list_all is_blank text ≡ true)
  blanks_tail [] reads = (cc reads, refl)
  blanks_tail (byte ∷ more) reads = go (is_blank byte) reads (blanks_tail more)
    where
      go : (n : Bool) → Goes (cond n (Some Blanks) None) more piece
          → (Reads Blanks more piece → (piece ≡ Gap) × (list_all is_blank more ≡ true))
          → (piece ≡ Gap) × ((n && list_all is_blank more) ≡ true)
      go true reads tail = tail reads
      go false reads tail = absurd (cc reads)

  pub comment_tail : (text : List ℕ) → Reads Comment text piece
      → (piece ≡ Gap) × (list_all (λ byte. not (byte == 10)) text ≡ true)
  comment_tail [] reads = (cc reads, refl)
  comment_tail (byte ∷ more) reads = go (not (byte == 10)) reads (comment_tail more)
    where
      go : (n : Bool) → Goes (cond n (Some Comment) None) more piece
          → (Reads Comment more piece → (piece ≡ Gap)
          × (list_all (λ byte. not (byte == 10)) more ≡ true))
          → (piece ≡ Gap) × ((n && list_all (λ byte. not (byte == 10)) more) ≡ true)
      go true reads tail = tail reads
      go false reads tail = absurd (cc reads)

  -- ---- strings

  closed_tail : (text : List ℕ) → Reads Closed text piece → (piece ≡ Token Str) × (text ≡ [])
  closed_tail [] reads = (cc reads, refl)
  closed_tail (byte ∷ more) reads = absurd (cc reads)

abbrev inside : ℕ → Bool → Phase
inside quote true = Escaped quote
inside quote false = Within quote

-- what follows within a string: what may stand between quotes, and the quote
pub record InnerTail (quote : ℕ) (escaped : Bool) (text : List ℕ) : Type 0 where
  pub inner : List ℕ
  pub parts : text ≡ inner ++ quote ∷ []
  pub between : is_inner quote escaped inner ≡ true

module _ (piece : Piece) (quote : ℕ) where
  abbrev FromInside : Bool → List ℕ → Type 0
  FromInside escaped text = Reads (inside quote escaped) text piece
      → (piece ≡ Token Str) × InnerTail quote escaped text

  behind_slash : (byte : ℕ) (more : List ℕ) → FromInside false more → FromInside true (byte ∷ more)
  behind_slash byte more tail reads = go (is_escape byte) refl reads
    where
      go : (e : Bool) → is_escape byte ≡ e → Goes (cond e (Some (Within quote)) None) more piece
          → (piece ≡ Token Str) × InnerTail quote true (byte ∷ more)
      go true is reads =
          let rest = tail reads in
          let behind = rest.1 in (
            rest.0,
            record {
              inner = byte ∷ behind.inner;
              parts = ap (λ t. byte ∷ t) behind.parts;
              between = ap (λ t. t && is_inner quote false behind.inner) is ∙ behind.between;
            },
          )
      go false is reads = absurd (cc reads)

  behind_byte : (byte : ℕ) (more : List ℕ) → FromInside true more → FromInside false more
      → FromInside false (byte ∷ more)
  behind_byte byte more escaped plain reads = go (byte == quote) (byte == 92) refl refl reads
    where
      go : (q s : Bool) → (byte == quote) ≡ q → (byte == 92) ≡ s
          → Goes (cond q (Some Closed) (cond s (Some (Escaped quote)) (Some (Within quote)))) more
          piece
          → (piece ≡ Token Str) × InnerTail quote false (byte ∷ more)
      go true s is other reads =
          let rest = closed_tail piece more reads in (
            rest.0,
            record {
              inner = [];
              parts = ap (λ b. b ∷ more) (eqb-true byte quote is)
                  ∙ ap (λ t. quote ∷ t) rest.1;
              between = refl;
            },
          )
      go false true is other reads =
          let rest = escaped reads in
          let behind = rest.1 in (
            rest.0,
            record {
              inner = byte ∷ behind.inner;
              parts = ap (λ t. byte ∷ t) behind.parts;
              between = rw (is, other) behind.between;
            },
          )
      go false false is other reads =
          let rest = plain reads in
          let behind = rest.1 in (
            rest.0,
            record {
              inner = byte ∷ behind.inner;
              parts = ap (λ t. byte ∷ t) behind.parts;
              between = rw (is, other) behind.between;
            },
          )

  mutual
    pub inside_tail : (text : List ℕ) → FromInside false text
    inside_tail [] reads = absurd (cc reads)
    inside_tail (byte ∷ more) reads =
        behind_byte byte more (escaped_tail more) (inside_tail more) reads

    escaped_tail : (text : List ℕ) → FromInside true text
    escaped_tail [] reads = absurd (cc reads)
    escaped_tail (byte ∷ more) reads = behind_slash byte more (inside_tail more) reads

-- ---- marks

module _ (piece : Piece) where
  pub mark_tail : (text : List ℕ) → Reads Marking text piece → (piece ≡ Token Mark) × (text ≡ [])
  mark_tail [] reads = (cc reads, refl)
  mark_tail (byte ∷ more) reads = absurd (cc reads)

  -- `=` or `~`
  second_tail : (byte : ℕ) (more : List ℕ)
      → Goes (cond (byte == 61 || byte == 126) (Some Marking) None) more piece
      → (piece ≡ Token Mark) × ((byte ∷ more ≡ codes "=") ⊎ (byte ∷ more ≡ codes "~"))
  second_tail byte more reads = go (byte == 61) (byte == 126) refl refl reads
    where
      go : (e t : Bool) → (byte == 61) ≡ e → (byte == 126) ≡ t
          → Goes (cond (e || t) (Some Marking) None) more piece
          → (piece ≡ Token Mark) × ((byte ∷ more ≡ codes "=") ⊎ (byte ∷ more ≡ codes "~"))
      go true t is other reads =
          let rest = mark_tail more reads in
          (rest.0, inl (ap (λ b. b ∷ more) (eqb-true byte 61 is) ∙ ap (λ t. 61 ∷ t) rest.1))
      go false true is other reads =
          let rest = mark_tail more reads in
          (rest.0, inr (ap (λ b. b ∷ more) (eqb-true byte 126 other) ∙ ap (λ t. 126 ∷ t) rest.1))
      go false false is other reads = absurd (cc reads)

  pub equals_tail : (text : List ℕ) → Reads Equals text piece
      → (piece ≡ Token Mark) × ((text ≡ []) ⊎ (text ≡ codes "=") ⊎ (text ≡ codes "~"))
  equals_tail [] reads = (cc reads, inl refl)
  equals_tail (byte ∷ more) reads = let rest = second_tail byte more reads in (rest.0, inr rest.1)

  pub bang_tail : (text : List ℕ) → Reads Bang text piece
      → (piece ≡ Token Mark) × ((text ≡ codes "=") ⊎ (text ≡ codes "~"))
  bang_tail [] reads = absurd (cc reads)
  bang_tail (byte ∷ more) reads = second_tail byte more reads

  pub angle_tail : (text : List ℕ) → Reads Angle text piece
      → (piece ≡ Token Mark) × ((text ≡ []) ⊎ (text ≡ codes "="))
  angle_tail [] reads = (cc reads, inl refl)
  angle_tail (byte ∷ more) reads = go (byte == 61) refl reads
    where
      go : (e : Bool) → (byte == 61) ≡ e → Goes (cond e (Some Marking) None) more piece
          → (piece ≡ Token Mark) × ((byte ∷ more ≡ []) ⊎ (byte ∷ more ≡ codes "="))
      go true is reads =
          let rest = mark_tail more reads in
          (rest.0, inr (ap (λ b. b ∷ more) (eqb-true byte 61 is) ∙ ap (λ t. 61 ∷ t) rest.1))
      go false is reads = absurd (cc reads)
