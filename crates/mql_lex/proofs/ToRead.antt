-- A piece is read by the machine as what it is.
use Rattle.std.specs.Prelude.{◌≡◌, ◌⊎◌, ℕ, ◌+◌, ◌<◌, ℤ, Bool, true, false, List, [], ◌∷◌, ◌++◌, length, Some, codes, ◌==◌, ◌&&◌, not, slice_index}
use Rattle.std.specs.Char.{is_ascii_digit}
use Rattle.std.specs.List.{AllByRecursion, list_all}
use Rattle.std.proofs.Common.{refl, arith, sym, ap, subst, ◌∙◌, ⊎_elim, append_assoc, append-nil}
use Rattle.std.proofs.lemmas.Bool.{eqb-true, eq-eqb, or_cases, and_parts}
use Rattle.std.proofs.lemmas.Bool.Decides.{nat_tests}
use Rattle.vm_decimal.specs.Spelled.{IsDigits, IsSign, IsOptionalExponent}
use Rattle.vm_labels.specs.Name.{begins_name, is_name_byte, is_name}
use Rattle.mql_lex.specs.Grammar.{IsPiece, IsUnsigned, IsOneOf, IsCount, IsDuration, one_count, more_counts, units, marks, is_sign, is_quote, is_escape, is_inner, is_blank}
use Rattle.mql_lex.specs.Machine.{next, piece_of}
use Rattle.mql_lex.specs.declared.phase.Phase.{Phase}
use Rattle.mql_lex.specs.declared.phase.Phase.TheVariants.{Start, Named, Whole, Bare, Fraction, Marked, MarkSigned, Power, Minutes, Counted, Counting, Within, Escaped, Closed, Blanks, Comment}
use Rattle.mql_lex.specs.declared.piece.Piece.{Piece}
use Rattle.mql_lex.specs.declared.piece.Piece.TheVariants.{Token, Gap}
use Rattle.mql_lex.specs.declared.token.TokenKind.TheVariants.{Name, Number, Duration, Str, Mark}
use Rattle.mql_lex.proofs.Moves.{Reads, behind_digits, move, name_no_digit, each_of}

-- ---- numbers

-- a digit leads to this phase
abbrev DigitTo : Phase → Phase → Type 0
DigitTo phase target = (byte : ℕ) → is_ascii_digit byte ≡ true → next phase byte ≡ Some target

-- digits of an exponent
all_power : (digits : List ℕ) → IsDigits digits → Reads Power digits (Token Number)
all_power digits are =
    subst (λ t. Reads Power t (Token Number)) (append-nil digits)
    (behind_digits Power (λ byte is. rw is refl) digits [] (Token Number) are refl)

first_power : (phase : Phase) → DigitTo phase Power → (digits : List ℕ) → 0 < length digits
    → IsDigits digits
    → Reads phase digits (Token Number)
first_power phase to [] some are = absurd (omega arith)
first_power phase to (byte ∷ digits) some are =
    move phase Power byte digits (Token Number) (to byte are.0) (all_power digits are.1)

behind_letter : (negative : Bool) (sign digits : List ℕ) → IsSign negative sign → 0 < length digits
    → IsDigits digits
    → Reads Marked (sign ++ digits) (Token Number)
behind_letter true sign digits minus some are =
    subst (λ s. Reads Marked (s ++ digits) (Token Number)) (sym minus)
    (first_power MarkSigned (λ byte is. rw is refl) digits some are)
behind_letter false sign digits is some are =
    ⊎_elim
    (λ plus.
    subst (λ s. Reads Marked (s ++ digits) (Token Number)) (sym plus)
    (first_power MarkSigned (λ byte is. rw is refl) digits some are))
    (λ none.
    subst (λ s. Reads Marked (s ++ digits) (Token Number)) (sym none)
    (first_power Marked (λ byte is. rw is refl) digits some are))
    is

-- what may stand after a mantissa
exponent_read : (phase : Phase) → piece_of phase ≡ Some (Token Number)
    → next phase 101 ≡ Some Marked
    → next phase 69 ≡ Some Marked → (text : List ℕ) (power : ℤ) → IsOptionalExponent text power
    → Reads phase text (Token Number)
exponent_read phase ends small large text power is =
    ⊎_elim
    (λ none. subst (λ t. Reads phase t (Token Number)) (sym none.0) ends)
    (λ e.
    let read = behind_letter e.negative e.sign e.digits e.a_sign e.a_digit e.all_digits in
    let more = e.sign ++ e.digits in
    let whole : Reads phase (e.letter ++ more) (Token Number) =
    ⊎_elim
    (λ is_small.
    subst (λ l. Reads phase (l ++ more) (Token Number)) (sym is_small)
    (move phase Marked 101 more (Token Number) small read))
    (λ is_large.
    subst (λ l. Reads phase (l ++ more) (Token Number)) (sym is_large)
    (move phase Marked 69 more (Token Number) large read))
    e.a_letter in
    subst (λ t. Reads phase t (Token Number)) (sym e.parts) whole)
    is

-- a point and what follows, after digits
point_read : (point fraction end : List ℕ) → IsDigits fraction
    → (point ≡ codes ".") ⊎ ((point ≡ []) × (fraction ≡ []))
    → Reads Whole end (Token Number) → Reads Fraction end (Token Number)
    → Reads Whole (point ++ (fraction ++ end)) (Token Number)
point_read point fraction end are one_point whole behind =
    ⊎_elim
    (λ is. subst (λ p. Reads Whole (p ++ (fraction ++ end)) (Token Number)) (sym is)
    (behind_digits Fraction (λ byte digit. rw digit refl) fraction end (Token Number) are behind))
    (λ none. rw (none.0, none.1) whole)
    one_point

bare_read : (fraction end : List ℕ) → 0 < length fraction → IsDigits fraction
    → Reads Fraction end (Token Number) → Reads Bare (fraction ++ end) (Token Number)
bare_read [] end some are behind = absurd (omega arith)
bare_read (byte ∷ fraction) end some are behind =
    move Bare Fraction byte (fraction ++ end) (Token Number) (rw are.0 refl)
    (behind_digits Fraction (λ byte digit. rw digit refl) fraction end (Token Number) are.1 behind)

mantissa_read : (whole point fraction end : List ℕ) → IsDigits whole → IsDigits fraction
    → 0 < length whole + length fraction → (point ≡ codes ".") ⊎ ((point ≡ []) × (fraction ≡ []))
    → Reads Whole end (Token Number) → Reads Fraction end (Token Number)
    → Reads Start (whole ++ (point ++ (fraction ++ end))) (Token Number)
mantissa_read [] point fraction end whole_are are some one_point whole behind =
    ⊎_elim
    (λ is. subst (λ p. Reads Start (p ++ (fraction ++ end)) (Token Number)) (sym is)
    (bare_read fraction end (omega arith) are behind))
    (λ none. let empty : length fraction ≡ 0 = ap length none.1 in absurd (omega arith))
    one_point
mantissa_read (byte ∷ digits) point fraction end whole_are are some one_point whole behind =
    move Start Whole byte (digits ++ (point ++ (fraction ++ end))) (Token Number)
    (rw whole_are.0 refl)
    (behind_digits Whole (λ byte digit. rw digit refl) digits (point ++ (fraction ++ end))
    (Token Number) whole_are.1
    (point_read point fraction end are one_point whole behind))

no_sign : (negative : Bool) (sign rest text : List ℕ) → IsSign negative sign → text ≡ sign ++ rest
    → is_sign (slice_index text 0) ≡ false → sign ≡ []
no_sign true sign rest text minus parts unsigned =
    absurd (cc (ap (λ t. is_sign (slice_index t 0)) (parts ∙ ap (λ s. s ++ rest) minus), unsigned))
no_sign false sign rest text is parts unsigned =
    ⊎_elim
    (λ plus.
    absurd (cc
    (ap (λ t. is_sign (slice_index t 0)) (parts ∙ ap (λ s. s ++ rest) plus), unsigned)))
    (λ none. none)
    is

number_read : (text : List ℕ) → IsUnsigned text → Reads Start text (Token Number)
number_read text is =
    let number = is.0.1 in
    let mantissa = number.a_mantissa in
    let bare =
    no_sign is.0.0.negative number.sign (number.mantissa ++ number.exponent) text number.a_sign
    number.parts is.1 in
    let parts : text ≡ mantissa.whole
    ++ (mantissa.point ++ (mantissa.fraction ++ number.exponent)) =
    number.parts ∙ ap (λ s. s ++ (number.mantissa ++ number.exponent)) bare
    ∙ ap (λ m. m ++ number.exponent) mantissa.parts
    ∙ append_assoc mantissa.whole (mantissa.point ++ mantissa.fraction) number.exponent
    ∙ ap (λ t. mantissa.whole ++ t)
    (append_assoc mantissa.point mantissa.fraction number.exponent) in
    subst (λ t. Reads Start t (Token Number)) (sym parts)
    (mantissa_read mantissa.whole mantissa.point mantissa.fraction number.exponent
    mantissa.whole_digits
    mantissa.fraction_digits mantissa.a_digit mantissa.one_point
    (exponent_read Whole refl refl refl number.exponent number.power number.an_exponent)
    (exponent_read Fraction refl refl refl number.exponent number.power number.an_exponent))

-- ---- durations

-- what stands after a unit is read
record BehindUnit (rest : List ℕ) : Type 0 where
  pub counted : Reads Counted rest (Token Duration)
  pub minutes : Reads Minutes rest (Token Duration)

abbrev UnitRead : Phase → List ℕ → Type 0
UnitRead phase unit = (rest : List ℕ) → BehindUnit rest
    → Reads phase (unit ++ rest) (Token Duration)

whole_units : AllByRecursion (UnitRead Whole) units
whole_units = (
  λ rest b. b.counted,
  (
    λ rest b. b.counted,
    (
      λ rest b. b.minutes,
      (
        λ rest b. b.counted,
        (
          λ rest b. b.counted,
          (λ rest b. b.counted, (λ rest b. b.counted, (λ rest b. b.counted, tt))),
        ),
      ),
    ),
  ),
)

counting_units : AllByRecursion (UnitRead Counting) units
counting_units = (
  λ rest b. b.counted,
  (
    λ rest b. b.counted,
    (
      λ rest b. b.minutes,
      (
        λ rest b. b.counted,
        (
          λ rest b. b.counted,
          (λ rest b. b.counted, (λ rest b. b.counted, (λ rest b. b.counted, tt))),
        ),
      ),
    ),
  ),
)

-- the digits and the unit of a count, from a phase in which no digit was read
count_read : (from into : Phase) → DigitTo from into → DigitTo into into
    → AllByRecursion (UnitRead into) units
    → (digits unit rest : List ℕ) → 0 < length digits → IsDigits digits → IsOneOf units unit
    → BehindUnit rest
    → Reads from (digits ++ (unit ++ rest)) (Token Duration)
count_read from into first stays read [] unit rest some are a_unit behind = absurd (omega arith)
count_read from into first stays read (byte ∷ digits) unit rest some are a_unit behind =
    move from into byte (digits ++ (unit ++ rest)) (Token Duration) (first byte are.0)
    (behind_digits into stays digits (unit ++ rest) (Token Duration) are.1
    (each_of (UnitRead into) units unit read a_unit rest behind))

-- a duration, read from its front and from after a unit
record DurationRead (text : List ℕ) : Type 0 where
  pub start : Reads Start text (Token Duration)
  pub behind : BehindUnit text

counted : (front rest : List ℕ) → IsCount front → BehindUnit rest → DurationRead (front ++ rest)
counted front rest count behind =
    let parts : front ++ rest ≡ count.digits ++ (count.unit ++ rest) =
    ap (λ t. t ++ rest) count.parts ∙ append_assoc count.digits count.unit rest in
    subst DurationRead (sym parts) (record {
      start = count_read Start Whole (λ byte is. rw is refl) (λ byte is. rw is refl) whole_units
          count.digits count.unit rest count.some count.are count.a_unit behind;
      behind = record {
        counted =
            count_read Counted Counting (λ byte is. rw is refl) (λ byte is. rw is refl)
            counting_units
            count.digits count.unit rest count.some count.are count.a_unit behind;
        minutes =
            count_read Minutes Counting (λ byte is. rw is refl) (λ byte is. rw is refl)
            counting_units
            count.digits count.unit rest count.some count.are count.a_unit behind;
      };
    })

duration_read : (text : List ℕ) → IsDuration text → DurationRead text
duration_read text (one_count count) =
    subst DurationRead (append-nil text)
    (counted text [] count (record { counted = refl; minutes = refl }))
duration_read text (more_counts {front = front} {rest = rest} count more) =
    counted front rest count (duration_read rest more).behind

-- ---- names and strings

all_named : (text : List ℕ) → list_all is_name_byte text ≡ true → Reads Named text (Token Name)
all_named [] are = refl
all_named (byte ∷ more) are =
    let both = and_parts (is_name_byte byte) (list_all is_name_byte more) are in
    move Named Named byte more (Token Name) (rw both.0 refl) (all_named more both.1)

name_read : (text : List ℕ) → is_name text ≡ true → Reads Start text (Token Name)
name_read [] is = absurd (cc is)
name_read (byte ∷ more) is =
    let both = and_parts (begins_name byte) (list_all is_name_byte (byte ∷ more)) is in
    let rest = and_parts (is_name_byte byte) (list_all is_name_byte more) both.1 in
    move Start Named byte more (Token Name) (rw (name_no_digit byte both.0, both.0) refl)
    (all_named more rest.1)

module _ (quote : ℕ) where
  abbrev inside : Bool → Phase
  inside true = Escaped quote
  inside false = Within quote

  inner_read : (escaped : Bool) (inner : List ℕ) → is_inner quote escaped inner ≡ true
      → Reads (inside escaped) (inner ++ quote ∷ []) (Token Str)
  inner_read true [] is = absurd (cc is)
  inner_read false [] is =
      move (Within quote) Closed quote [] (Token Str) (rw (eq-eqb quote quote refl) refl) refl
  inner_read true (byte ∷ more) is =
      let both = and_parts (is_escape byte) (is_inner quote false more) is in
      move (Escaped quote) (Within quote) byte (more ++ quote ∷ []) (Token Str) (rw both.0 refl)
      (inner_read false more both.1)
  inner_read false (byte ∷ more) is =
      go (byte == quote) (byte == 92) refl refl is (inner_read true more) (inner_read false more)
    where
      go : (q s : Bool) → (byte == quote) ≡ q → (byte == 92) ≡ s
          → (not q && is_inner quote s more) ≡ true
          → (is_inner quote true more ≡ true
          → Reads (Escaped quote) (more ++ quote ∷ []) (Token Str))
          → (is_inner quote false more ≡ true
          → Reads (Within quote) (more ++ quote ∷ []) (Token Str))
          → Reads (Within quote) (byte ∷ (more ++ quote ∷ [])) (Token Str)
      go true s is other inner escaped plain = absurd (cc inner)
      go false true is other inner escaped plain =
          move (Within quote) (Escaped quote) byte (more ++ quote ∷ []) (Token Str)
          (rw (is, other) refl) (escaped inner)
      go false false is other inner escaped plain =
          move (Within quote) (Within quote) byte (more ++ quote ∷ []) (Token Str)
          (rw (is, other) refl) (plain inner)

quoted_read : (quote : ℕ) (inner : List ℕ) → is_quote quote ≡ true
    → is_inner quote false inner ≡ true
    → Reads Start (quote ∷ (inner ++ quote ∷ [])) (Token Str)
quoted_read quote inner is between =
    let opens : next Start quote ≡ Some (Within quote) =
    ⊎_elim
    (λ double. subst (λ q. next Start q ≡ Some (Within q)) (sym (eqb-true quote 34 double)) refl)
    (λ single. subst (λ q. next Start q ≡ Some (Within q)) (sym (eqb-true quote 39 single)) refl)
    (or_cases (quote == 34) (quote == 39) is) in
    move Start (Within quote) quote (inner ++ quote ∷ []) (Token Str) opens
    (inner_read quote false inner between)

-- ---- marks and gaps

all_marks : AllByRecursion (λ text. Reads Start text (Token Mark)) marks
all_marks = (
  refl,
  (
    refl,
    (
      refl,
      (
        refl,
        (
          refl,
          (
            refl,
            (
              refl,
              (
                refl,
                (
                  refl,
                  (
                    refl,
                    (
                      refl,
                      (
                        refl,
                        (
                          refl,
                          (
                            refl,
                            (refl, (refl, (refl, (refl, (refl, (refl, (refl, tt))))))),
                          ),
                        ),
                      ),
                    ),
                  ),
                ),
              ),
            ),
          ),
        ),
      ),
    ),
  ),
)

all_blank : (text : List ℕ) → list_all is_blank text ≡ true → Reads Blanks text Gap
all_blank [] are = refl
all_blank (byte ∷ more) are =
    let both = and_parts (is_blank byte) (list_all is_blank more) are in
    move Blanks Blanks byte more Gap (rw both.0 refl) (all_blank more both.1)

blank_no_digit : (byte : ℕ) → is_blank byte ≡ true → is_ascii_digit byte ≡ false
blank_no_digit byte is = grind (arith, nat_tests)

blank_no_name : (byte : ℕ) → is_blank byte ≡ true → begins_name byte ≡ false
blank_no_name byte is = grind (arith, nat_tests)

blanks_read : (text : List ℕ) → 0 < length text → list_all is_blank text ≡ true
    → Reads Start text Gap
blanks_read [] some are = absurd (omega arith)
blanks_read (byte ∷ more) some are =
    let both = and_parts (is_blank byte) (list_all is_blank more) are in
    move Start Blanks byte more Gap
    (rw (blank_no_digit byte both.0, blank_no_name byte both.0, both.0) refl)
    (all_blank more both.1)

comment_read : (line : List ℕ) → list_all (λ byte. not (byte == 10)) line ≡ true
    → Reads Comment line Gap
comment_read [] are = refl
comment_read (byte ∷ more) are =
    let both = and_parts (not (byte == 10)) (list_all (λ byte. not (byte == 10)) more) are in
    move Comment Comment byte more Gap (rw both.0 refl) (comment_read more both.1)

pub read_from_piece : (piece : Piece) (text : List ℕ) → IsPiece piece text → Reads Start text piece
read_from_piece (Token Name) text is = name_read text is
read_from_piece (Token Number) text is = number_read text is
read_from_piece (Token Duration) text is = (duration_read text is).start
read_from_piece (Token Str) text is =
    subst (λ t. Reads Start t (Token Str)) (sym is.parts)
    (quoted_read is.quote is.inner is.a_quote is.between)
read_from_piece (Token Mark) text is =
    each_of (λ t. Reads Start t (Token Mark)) marks text all_marks is
read_from_piece Gap text is =
    ⊎_elim
    (λ blanks. blanks_read text blanks.0 blanks.1)
    (λ comment.
    subst (λ t. Reads Start t Gap) (sym comment.parts)
    (comment_read comment.line comment.one_line))
    is
