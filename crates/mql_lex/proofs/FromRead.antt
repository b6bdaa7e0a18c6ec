-- What the machine reads is a piece.
use Rattle.std.specs.Prelude.{◌≡◌, ℕ, Bool, true, false, List, [], ◌∷◌, ◌++◌, Some, None, codes, ◌==◌, ◌||◌, ◌&&◌}
use Rattle.std.specs.Char.{is_ascii_digit}
use Rattle.std.specs.List.{list_all}
use Rattle.std.proofs.Common.{cond, refl, arith, sym, ap, subst, ◌∙◌, inl, inr, ⊎_elim}
use Rattle.std.proofs.lemmas.Bool.{eqb-true, or_cases}
use Rattle.vm_labels.specs.Name.{begins_name}
use Rattle.mql_lex.specs.Grammar.{IsPiece, IsOneOf, marks, is_blank, is_quote}
use Rattle.mql_lex.specs.Machine.{is_lone_mark}
use Rattle.mql_lex.specs.declared.phase.Phase.TheVariants.{Start, Named, Whole, Bare, Within, Marking, Equals, Bang, Angle, Blanks, Comment}
use Rattle.mql_lex.specs.declared.piece.Piece.{Piece}
use Rattle.mql_lex.specs.declared.piece.Piece.TheVariants.{Token}
use Rattle.mql_lex.specs.declared.token.TokenKind.TheVariants.{Mark}
use Rattle.mql_lex.proofs.Moves.{Reads, Goes, digit_no_sign, one_at, any_byte}
use Rattle.mql_lex.proofs.Numbers.{number_by, bare_number}
use Rattle.mql_lex.proofs.Durations.{DigitsTail, WholeTail, of_number, of_duration, duration_by, whole_tail}
use Rattle.mql_lex.proofs.Texts.{named_tail, blanks_tail, comment_tail, inside_tail, mark_tail, equals_tail, bang_tail, angle_tail}

lone_mark : (byte : ℕ) → is_lone_mark byte ≡ true → IsOneOf marks (byte ∷ [])
lone_mark byte is =
    any_byte (λ b. IsOneOf marks (b ∷ [])) (codes "(){}[],+-*/%") byte (
      one_at 0 marks (codes "(") refl,
      (
        one_at 1 marks (codes ")") refl,
        (
          one_at 2 marks (codes "{") refl,
          (
            one_at 3 marks (codes "}") refl,
            (
              one_at 4 marks (codes "[") refl,
              (
                one_at 5 marks (codes "]") refl,
                (
                  one_at 6 marks (codes ",") refl,
                  (
                    one_at 16 marks (codes "+") refl,
                    (
                      one_at 17 marks (codes "-") refl,
                      (
                        one_at 18 marks (codes "*") refl,
                        (
                          one_at 19 marks (codes "/") refl,
                          (
                            one_at 20 marks (codes "%") refl,
                            tt,
                          ),
                        ),
                      ),
                    ),
                  ),
                ),
              ),
            ),
          ),
        ),
      ),
    ) is

module _ (piece : Piece) (byte : ℕ) (more : List ℕ) where
  -- ---- by the first byte

  from_digits : (tail : DigitsTail piece more) → is_ascii_digit byte ≡ true
      → WholeTail piece tail.rest
      → IsPiece piece (byte ∷ (tail.digits ++ tail.rest))
  from_digits tail is (of_number kind number) =
      subst (λ p. IsPiece p (byte ∷ (tail.digits ++ tail.rest))) (sym kind) (
        number_by (byte ∷ tail.digits) tail.rest (omega arith) (is, tail.are) number,
        digit_no_sign byte is,
      )
  from_digits tail is (of_duration kind unit) =
      subst (λ p. IsPiece p (byte ∷ (tail.digits ++ tail.rest))) (sym kind)
      (duration_by (byte ∷ tail.digits) tail.rest (omega arith) (is, tail.are) unit)

  from_digit : is_ascii_digit byte ≡ true → Reads Whole more piece → IsPiece piece (byte ∷ more)
  from_digit is reads =
      let tail = whole_tail piece more reads in
      subst (λ t. IsPiece piece (byte ∷ t)) (sym tail.parts) (from_digits tail is tail.tail)

  from_letter : begins_name byte ≡ true → Reads Named more piece → IsPiece piece (byte ∷ more)
  from_letter is reads =
      let tail = named_tail piece more reads in
      subst (λ p. IsPiece p (byte ∷ more)) (sym tail.0) (rw is tail.1)

  from_blank : is_blank byte ≡ true → Reads Blanks more piece → IsPiece piece (byte ∷ more)
  from_blank is reads =
      let tail = blanks_tail piece more reads in
      subst (λ p. IsPiece p (byte ∷ more)) (sym tail.0)
      (inl (omega arith, ap (λ t. t && list_all is_blank more) is ∙ tail.1))

  from_quote : is_quote byte ≡ true → Reads (Within byte) more piece → IsPiece piece (byte ∷ more)
  from_quote is reads =
      let tail = inside_tail piece byte more reads in
      let behind = tail.1 in
      subst (λ p. IsPiece p (byte ∷ more)) (sym tail.0)
      (record {
        quote = byte;
        inner = behind.inner;
        parts = ap (λ t. byte ∷ t) behind.parts;
        a_quote = is;
        between = behind.between;
      })

  from_lone : is_lone_mark byte ≡ true → Reads Marking more piece → IsPiece piece (byte ∷ more)
  from_lone is reads =
      let tail = mark_tail piece more reads in
      subst (λ p. IsPiece p (byte ∷ more)) (sym tail.0)
      (subst (λ t. IsOneOf marks (byte ∷ t)) (sym tail.1) (lone_mark byte is))

  a_mark : piece ≡ Token Mark → IsOneOf marks (byte ∷ more) → IsPiece piece (byte ∷ more)
  a_mark kind is = subst (λ p. IsPiece p (byte ∷ more)) (sym kind) is

  -- a mark whose first byte is this one
  same_mark : (first : ℕ) (rest : List ℕ) → byte ≡ first → more ≡ rest
      → IsOneOf marks (first ∷ rest)
      → IsOneOf marks (byte ∷ more)
  same_mark first rest byte_is more_is is = rw (byte_is, more_is) is

  from_equals : byte ≡ 61 → Reads Equals more piece → IsPiece piece (byte ∷ more)
  from_equals is reads =
      let tail = equals_tail piece more reads in
      a_mark tail.0
      (⊎_elim (λ none. same_mark 61 [] is none (one_at 7 marks (codes "=") refl))
      (λ two. ⊎_elim
      (λ equal. same_mark 61 (codes "=") is equal (one_at 10 marks (codes "==") refl))
      (λ tilde. same_mark 61 (codes "~") is tilde (one_at 8 marks (codes "=~") refl)) two)
      tail.1)

  from_bang : byte ≡ 33 → Reads Bang more piece → IsPiece piece (byte ∷ more)
  from_bang is reads =
      let tail = bang_tail piece more reads in
      a_mark tail.0
      (⊎_elim
      (λ equal. same_mark 33 (codes "=") is equal (one_at 11 marks (codes "!=") refl))
      (λ tilde. same_mark 33 (codes "~") is tilde (one_at 9 marks (codes "!~") refl))
      tail.1)

  from_angle : (byte == 60 || byte == 62) ≡ true → Reads Angle more piece
      → IsPiece piece (byte ∷ more)
  from_angle is reads =
      let tail = angle_tail piece more reads in
      a_mark tail.0
      (⊎_elim
      (λ below. let same = eqb-true byte 60 below in
      ⊎_elim
      (λ none. same_mark 60 [] same none (one_at 14 marks (codes "<") refl))
      (λ equal. same_mark 60 (codes "=") same equal (one_at 12 marks (codes "<=") refl)) tail.1)
      (λ above. let same = eqb-true byte 62 above in
      ⊎_elim
      (λ none. same_mark 62 [] same none (one_at 15 marks (codes ">") refl))
      (λ equal. same_mark 62 (codes "=") same equal (one_at 13 marks (codes ">=") refl)) tail.1)
      (or_cases (byte == 60) (byte == 62) is))

  from_point : byte ≡ 46 → Reads Bare more piece → IsPiece piece (byte ∷ more)
  from_point is reads =
      let tail = bare_number more piece reads in
      subst (λ b. IsPiece piece (b ∷ more)) (sym is)
      (subst (λ p. IsPiece p (46 ∷ more)) (sym tail.0) (tail.1, refl))

  from_hash : byte ≡ 35 → Reads Comment more piece → IsPiece piece (byte ∷ more)
  from_hash is reads =
      let tail = comment_tail piece more reads in
      subst (λ p. IsPiece p (byte ∷ more)) (sym tail.0)
      (inr (record { line = more; parts = ap (λ b. b ∷ more) is; one_line = tail.1 }))

  -- the tests of the first byte, in their order
  by_first : (digit name blank point quote hash equal bang angle lone : Bool)
      → is_ascii_digit byte ≡ digit → begins_name byte ≡ name → is_blank byte ≡ blank
      → (byte == 46) ≡ point
      → is_quote byte ≡ quote → (byte == 35) ≡ hash → (byte == 61) ≡ equal → (byte == 33) ≡ bang
      → (byte == 60 || byte == 62) ≡ angle → is_lone_mark byte ≡ lone
      → Goes (cond digit (Some Whole)
      (cond name (Some Named) (cond blank (Some Blanks) (cond point (Some Bare)
      (cond quote (Some (Within byte))
      (cond hash (Some Comment) (cond equal (Some Equals) (cond bang (Some Bang)
      (cond angle (Some Angle) (cond lone (Some Marking) None)))))))))) more piece
      → IsPiece piece (byte ∷ more)
  by_first true n b p q h e g a l is _ _ _ _ _ _ _ _ _ reads = from_digit is reads
  by_first false true b p q h e g a l _ is _ _ _ _ _ _ _ _ reads = from_letter is reads
  by_first false false true p q h e g a l _ _ is _ _ _ _ _ _ _ reads = from_blank is reads
  by_first false false false true q h e g a l _ _ _ is _ _ _ _ _ _ reads =
      from_point (eqb-true byte 46 is) reads
  by_first false false false false true h e g a l _ _ _ _ is _ _ _ _ _ reads = from_quote is reads
  by_first false false false false false true e g a l _ _ _ _ _ is _ _ _ _ reads =
      from_hash (eqb-true byte 35 is) reads
  by_first false false false false false false true g a l _ _ _ _ _ _ is _ _ _ reads =
      from_equals (eqb-true byte 61 is) reads
  by_first false false false false false false false true a l _ _ _ _ _ _ _ is _ _ reads =
      from_bang (eqb-true byte 33 is) reads
  by_first false false false false false false false false true l _ _ _ _ _ _ _ _ is _ reads =
      from_angle is reads
  by_first false false false false false false false false false true _ _ _ _ _ _ _ _ _ is reads =
      from_lone is reads
  by_first false false false false false false false false false false _ _ _ _ _ _ _ _ _ _ reads =
      absurd (cc reads)

pub piece_from_read : (piece : Piece) (text : List ℕ) → Reads Start text piece → IsPiece piece text
piece_from_read piece [] reads = absurd (cc reads)
piece_from_read piece (byte ∷ more) reads =
    by_first piece byte more (is_ascii_digit byte) (begins_name byte) (is_blank byte) (byte == 46)
    (is_quote byte)
    (byte == 35) (byte == 61) (byte == 33) (byte == 60 || byte == 62) (is_lone_mark byte)
    refl refl refl refl refl refl refl refl refl refl reads
