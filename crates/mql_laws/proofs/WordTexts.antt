-- The texts of words are tokens of their kinds.
use Rattle.std.proofs.Common.{◌≡◌, ℕ, zero, suc, ◌+◌, ◌-◌, ◌/◌, ◌%◌, ◌^◌, ◌<◌, Bool, true, false, not, ◌&&◌, ◌==◌, List, [], ◌∷◌, ◌++◌, length, take, drop, codes, Option, Some, None, Ok, refl, sym, ap, subst, ◌∙◌, inl, inr, append-nil, length-append, if◌then◌else◌, arith}
use Rattle.std.specs.Prelude.{ℤ, flat_map, nat_lt, nat_le, slice_get, slice_index, unsigned_abs}
use Rattle.std.specs.Char.{is_ascii_digit, digit_value}
use Rattle.std.specs.Fmt.{decimal}
use Rattle.std.specs.Option.{option_map_or}
use Rattle.std.specs.Str.Parse.{AllDigits}
use Rattle.std.proofs.lemmas.Bool.{eqb-true}
use Rattle.std.proofs.lemmas.Bool.Decides.{nat_tests}
use Rattle.std.proofs.lemmas.Fmt.{decimal_is_IsNumeral_wide}
use Rattle.vm_base.specs.Number.{form_of}
use Rattle.vm_decimal.specs.NumberText.{noughts, plain, fraction, power, scientific, size_text as digits_text, number_text, sign}
use Rattle.vm_decimal.specs.Spelled.{IsDigits}
use Rattle.vm_decimal.proofs.DecReadings.{DecSays, dec_says}
use Rattle.vm_decimal.proofs.PrintedTexts.{printed_read, IsDecForm-form_of}
use Rattle.vm_labels.specs.Name.{is_name}
use Rattle.vm_labels.specs.Text.{escaped_byte}
use Rattle.mql_lex.specs.Grammar.{IsOneOf, IsCount, IsDuration, one_count, more_counts, is_inner, is_sign, marks, units}
use Rattle.mql_lex.specs.declared.span.Span.{Span}
use Rattle.mql_lex.specs.declared.operator.Op.{Op}
use Rattle.mql_lex.specs.declared.operator.Op.TheVariants.{Default, If, IfNot, Or, And, Unless, Equal, Differs, AtMost, AtLeast, Below, Above, Add, Sub, Mul, Div, Rem}
use Rattle.mql_lex.specs.declared.token.TokenKind.TheVariants.{Name, Number, Duration, Str, Mark}
use Rattle.mql_expr.specs.Canonical.{word, op_piece, string_text, call_name}
use Rattle.mql_laws.specs.Lexed.{IsName, IsNumber, IsSpan}
use Rattle.mql_expr.specs.Names.{rollup_name, aggregate_name, function_name, name_of, known_as}
use Rattle.mql_expr.specs.Spans.{unit_ms, unit_text, is_whole, greatest_unit, count_text, ms_text, size_text, span_text}
use Rattle.mql_expr.specs.declared.names.Rollup.{Rollup}
use Rattle.mql_expr.specs.declared.names.Rollup.TheVariants.{DefaultRollup}
use Rattle.mql_expr.specs.declared.names.Aggregate.{Aggregate}
use Rattle.mql_expr.specs.declared.names.Aggregate.TheVariants.{Sum}
use Rattle.mql_expr.specs.declared.names.Function.{Function}
use Rattle.mql_expr.specs.declared.names.Function.TheVariants.{Abs}
use Rattle.mql_expr.specs.declared.names.Known.{Known}
use Rattle.mql_expr.specs.declared.names.Known.TheVariants.{OfWindow, OfGroup, OfPoints}
use Rattle.mql_expr.specs.declared.span_text.Unit.{Unit as UnitOf}
use Rattle.mql_expr.specs.declared.span_text.Unit.TheVariants.{Day, Hour, Minute, Second, Millisecond}
use Rattle.mql_laws.proofs.ApartLaws.{IsPiece}

-- ---- names

pub name_is : (text : List ℕ) → IsName text → IsPiece (word Name text)
name_is [] is = absurd (cc is)
name_is (byte ∷ more) is = (omega arith, is)

rollup_is : (r : Rollup) → is_name (rollup_name r) ≡ true
rollup_is DefaultRollup = refl
rollup_is _ = refl

aggregate_is : (a : Aggregate) → is_name (aggregate_name a) ≡ true
aggregate_is Sum = refl
aggregate_is _ = refl

function_is : (f : Function) → is_name (function_name f) ≡ true
function_is Abs = refl
function_is _ = refl

known_is : (k : Known) → IsName (name_of k)
known_is (OfWindow r) = rollup_is r
known_is (OfGroup a) = aggregate_is a
known_is (OfPoints f) = function_is f

pub call_name_is : (name : List ℕ) → IsName name → IsName (call_name name)
call_name_is name is = go (known_as name)
  where
    go : (o : Option Known) → IsName (option_map_or name_of o name)
    go None = is
    go (Some k) = known_is k

-- ---- marks

one_at : (n : ℕ) (words : List (List ℕ)) (text : List ℕ) → slice_get words n ≡ Some text
    → IsOneOf words text
one_at n [] text is = absurd (cc is)
one_at zero (first ∷ words) text is = inl (cc is)
one_at (suc n) (first ∷ words) text is = inr (one_at n words text is)

pub mark_is : (n : ℕ) (text : List ℕ) → slice_get marks n ≡ Some text → 0 < length text
    → IsPiece (word Mark text)
mark_is n text is some = (some, one_at n marks text is)

pub op_is : (op : Op) → IsPiece (op_piece op)
op_is Default = (omega arith, refl)
op_is If = (omega arith, refl)
op_is IfNot = (omega arith, refl)
op_is Or = (omega arith, refl)
op_is And = (omega arith, refl)
op_is Unless = (omega arith, refl)
op_is Equal = mark_is 10 (codes "==") refl (omega arith)
op_is Differs = mark_is 11 (codes "!=") refl (omega arith)
op_is AtMost = mark_is 12 (codes "<=") refl (omega arith)
op_is AtLeast = mark_is 13 (codes ">=") refl (omega arith)
op_is Below = mark_is 14 (codes "<") refl (omega arith)
op_is Above = mark_is 15 (codes ">") refl (omega arith)
op_is Add = mark_is 16 (codes "+") refl (omega arith)
op_is Sub = mark_is 17 (codes "-") refl (omega arith)
op_is Mul = mark_is 18 (codes "*") refl (omega arith)
op_is Div = mark_is 19 (codes "/") refl (omega arith)
op_is Rem = mark_is 20 (codes "%") refl (omega arith)

-- ---- strings

inner_escaped : (b : ℕ) (rest : List ℕ)
    → is_inner 34 false (escaped_byte b ++ rest) ≡ is_inner 34 false rest
inner_escaped b rest = go (b == 92) (b == 34) (b == 10) refl refl
  where
    go : (x y z : Bool) → (b == 92) ≡ x → (b == 34) ≡ y
        → is_inner 34 false
        ((if x then codes "\\\\" else if y then codes "\\\"" else if z then codes "\\n" else b ∷ [])
        ++ rest) ≡ is_inner 34 false rest
    go true y z p q = refl
    go false true z p q = refl
    go false false true p q = refl
    go false false false p q =
        ap (λ t. not t && is_inner 34 (b == 92) rest) q ∙ ap (λ t. is_inner 34 t rest) p

inner_all : (text : List ℕ) → is_inner 34 false (flat_map escaped_byte text) ≡ true
inner_all [] = refl
inner_all (b ∷ bs) = inner_escaped b (flat_map escaped_byte bs) ∙ inner_all bs

pub string_is : (text : List ℕ) → IsPiece (word Str (string_text text))
string_is text = (
  omega arith,
  record {
    quote = 34;
    inner = flat_map escaped_byte text;
    parts = refl;
    a_quote = refl;
    between = inner_all text;
  },
)

-- ---- spans

digit_from_value : (b : ℕ) → digit_value b < 10 → is_ascii_digit b ≡ true
digit_from_value b small = grind (arith, nat_tests)

are_digits : (ds : List ℕ) → AllDigits 10 ds → IsDigits ds
are_digits [] all = tt
are_digits (b ∷ bs) all = (digit_from_value b all.0, are_digits bs all.1)

record IsDecimal (n : ℕ) : Type 0 where
  pub digits : IsDigits (decimal n)
  pub some : 0 < length (decimal n)

decimal_is : (n : ℕ) → n < 10 ^ 64 → IsDecimal n
decimal_is n few = let is =
    decimal_is_IsNumeral_wide n
    few in record { digits = are_digits (decimal n) is.0.1; some = is.0.0 }

small : (n : ℕ) → n < 2 ^ 64 → n < 10 ^ 64
small n few = omega arith

count_is : (n : ℕ) (unit : List ℕ) → n < 10 ^ 64 → IsOneOf units unit → IsCount (decimal n ++ unit)
count_is n unit few is =
    let d = decimal_is n few in
    record {
      digits = decimal n;
      unit = unit;
      parts = refl;
      some = d.some;
      are = d.digits;
      a_unit = is;
    }

unit_is : (unit : UnitOf) → IsOneOf units (unit_text unit)
unit_is Day = one_at 4 units (codes "d") refl
unit_is Hour = one_at 3 units (codes "h") refl
unit_is Minute = one_at 2 units (codes "m") refl
unit_is Second = one_at 1 units (codes "s") refl
unit_is Millisecond = one_at 0 units (codes "ms") refl

whole_of : (ms : ℕ) (unit : UnitOf) → is_whole ms unit ≡ true → ms % unit_ms unit ≡ 0
whole_of ms unit is = eqb-true (ms % unit_ms unit) 0 is

some_units : (ms : ℕ) → 0 < ms → 0 < ms / unit_ms (greatest_unit ms)
some_units ms some =
    go (is_whole ms Day) (is_whole ms Hour) (is_whole ms Minute) (is_whole ms Second) refl refl refl
    refl
  where
    go : (d h m s : Bool) → is_whole ms Day ≡ d → is_whole ms Hour ≡ h → is_whole ms Minute ≡ m
        → is_whole ms Second ≡ s
        → 0 < ms / unit_ms
        (if d then Day else if h then Hour else if m then Minute else if s then Second
        else Millisecond)
    go true h m s p q r t = let z : ms % 86400000 ≡ 0 = whole_of ms Day p in omega arith
    go false true m s p q r t = let z : ms % 3600000 ≡ 0 = whole_of ms Hour q in omega arith
    go false false true s p q r t = let z : ms % 60000 ≡ 0 = whole_of ms Minute r in omega arith
    go false false false true p q r t = let z : ms % 1000 ≡ 0 = whole_of ms Second t in omega arith
    go false false false false p q r t = omega arith

few_units : (ms : ℕ) (unit : UnitOf) → ms < 2 ^ 64 → ms / unit_ms unit < 10 ^ 64
few_units ms Day few = omega arith
few_units ms Hour few = omega arith
few_units ms Minute few = omega arith
few_units ms Second few = omega arith
few_units ms Millisecond few = omega arith

some_count : (n : ℕ) (unit : List ℕ) → 0 < n → count_text n unit ≡ decimal n ++ unit
some_count n unit some = let differs : (n == 0) ≡ false =
    grind (arith, nat_tests) in ap (λ b. if b then [] else decimal n ++ unit) differs

ms_is : (ms : ℕ) → 0 < ms → ms < 2 ^ 64 → IsCount (ms_text ms)
ms_is ms some few =
    let unit = greatest_unit ms in
    subst IsCount (sym (some_count (ms / unit_ms unit) (unit_text unit) (some_units ms some)))
    (count_is (ms / unit_ms unit) (unit_text unit) (few_units ms unit few) (unit_is unit))

steps_is : (steps : ℕ) → 0 < steps → steps < 2 ^ 64 → IsCount (count_text steps (codes "i"))
steps_is steps some few =
    subst IsCount (sym (some_count steps (codes "i") some))
    (count_is steps (codes "i") (small steps few) (one_at 7 units (codes "i") refl))

no_span : IsCount (codes "0s")
no_span =
    record {
      digits = codes "0";
      unit = codes "s";
      parts = refl;
      some = omega arith;
      are = (refl, tt);
      a_unit = one_at 1 units (codes "s") refl;
    }

above_zero : (n : ℕ) → (n == 0) ≡ false → 0 < n
above_zero n differs = grind (arith, nat_tests)

size_is : (ms steps : ℕ) → ms < 2 ^ 64 → steps < 2 ^ 64 → IsDuration (size_text ms steps)
size_is ms steps few less = go (ms == 0) (steps == 0) refl refl
  where
    go : (x y : Bool) → (ms == 0) ≡ x → (steps == 0) ≡ y
        → IsDuration (if x && y then codes "0s" else ms_text ms ++ count_text steps (codes "i"))
    go true true p q = one_count no_span
    go true false p q =
        let none : ms_text ms ≡ [] = ap ms_text (eqb-true ms 0 p) in
        subst IsDuration (ap (λ t. t ++ count_text steps (codes "i")) (sym none))
        (one_count (steps_is steps (above_zero steps q) less))
    go false true p q =
        let none : count_text steps (codes "i") ≡ [] =
        ap (λ n. count_text n (codes "i")) (eqb-true steps 0 q) in
        subst IsDuration (sym (ap (λ t. ms_text ms ++ t) none ∙ append-nil (ms_text ms)))
        (one_count (ms_is ms (above_zero ms p) few))
    go false false p q =
        more_counts (ms_is ms (above_zero ms p) few)
        (one_count (steps_is steps (above_zero steps q) less))

count_some : (text : List ℕ) → IsCount text → 0 < length text
count_some text is = let e : length text ≡ length (is.digits ++ is.unit) =
    ap length is.parts in omega (arith, length-append is.digits is.unit, is.some)

-- a text that begins with a digit
pub record Digit (text : List ℕ) : Type 0 where
  pub byte : ℕ
  pub more : List ℕ
  pub parts : text ≡ byte ∷ more
  pub is : is_ascii_digit byte ≡ true

digit_more : (a b : List ℕ) → Digit a → Digit (a ++ b)
digit_more a b d =
    record { byte = d.byte; more = d.more ++ b; parts = ap (λ t. t ++ b) d.parts; is = d.is }

count_digit : (text : List ℕ) → IsCount text → Digit text
count_digit text is = go is.digits is.parts is.are is.some
  where
    go : (ds : List ℕ) → text ≡ ds ++ is.unit → IsDigits ds → 0 < length ds → Digit text
    go [] parts are some = absurd (omega arith)
    go (d ∷ ds) parts are some =
        record { byte = d; more = ds ++ is.unit; parts = parts; is = are.0 }

pub duration_digit : (text : List ℕ) → IsDuration text → Digit text
duration_digit text (one_count is) = count_digit text is
duration_digit text (more_counts {front = front} {rest = rest} is more) =
    digit_more front rest (count_digit front is)

duration_some : (text : List ℕ) → IsDuration text → 0 < length text
duration_some text (one_count is) = count_some text is
duration_some text (more_counts {front = front} {rest = rest} is more) =
    omega (arith, length-append front rest, count_some front is)

pub span_is : (span : Span) → IsSpan span → IsPiece (word Duration (span_text span))
span_is span is =
    let d = size_is (unsigned_abs span.ms) (unsigned_abs span.steps) is.0 is.1 in
    (duration_some (span_text span) d, d)

-- ---- numbers

digit_before : (d : ℕ) (ds rest : List ℕ) → IsDigits (d ∷ ds) → Digit ((d ∷ ds) ++ rest)
digit_before d ds rest all = record { byte = d; more = ds ++ rest; parts = refl; is = all.0 }

taken : (n : ℕ) (d : ℕ) (ds rest : List ℕ) → nat_lt 0 n ≡ true → IsDigits (d ∷ ds)
    → Digit (take n (d ∷ ds) ++ rest)
taken zero d ds rest some all = absurd (cc some)
taken (suc n) d ds rest some all =
    record { byte = d; more = take n ds ++ rest; parts = refl; is = all.0 }

plain_digit : (d : ℕ) (ds : List ℕ) (shift : ℕ) → IsDigits (d ∷ ds) → Digit (plain (d ∷ ds) shift)
plain_digit d ds shift all = go (nat_le 1000 shift) (nat_lt 0 (length (d ∷ ds) + shift - 1000)) refl
  where
    go : (x y : Bool) → nat_lt 0 (length (d ∷ ds) + shift - 1000) ≡ y
        → Digit (if x then (d ∷ ds) ++ noughts (shift - 1000)
        else (if y then take (length (d ∷ ds) + shift - 1000) (d ∷ ds) ++ codes "."
        ++ drop (length (d ∷ ds) + shift - 1000) (d ∷ ds)
        else codes "0." ++ noughts (1000 - (length (d ∷ ds) + shift)) ++ (d ∷ ds)))
    go true y p = digit_before d ds (noughts (shift - 1000)) all
    go false true p =
        digit_more (take (length (d ∷ ds) + shift - 1000) (d ∷ ds) ++ codes ".")
        (drop (length (d ∷ ds) + shift - 1000) (d ∷ ds))
        (taken (length (d ∷ ds) + shift - 1000) d ds (codes ".") p all)
    go false false p =
        record {
          byte = 48;
          more = (codes "." ++ noughts (1000 - (length (d ∷ ds) + shift)))
              ++ (d ∷ ds);
          parts = refl;
          is = refl;
        }

digits_digit : (ds : List ℕ) (shift : ℕ) → IsDigits ds → 0 < length ds
    → Digit (digits_text ds shift)
digits_digit [] shift all some = absurd (omega arith)
digits_digit (d ∷ ds) shift all some =
    go (nat_le 993 (length (d ∷ ds) + shift - 1) && nat_le (length (d ∷ ds) + shift - 1) 1020)
  where
    go : (b : Bool)
        → Digit (if b then plain (d ∷ ds) shift
        else scientific (d ∷ ds) (length (d ∷ ds) + shift - 1))
    go true = plain_digit d ds shift all
    go false =
        record {
          byte = d;
          more = ((take 0 ds ++ fraction (d ∷ ds)) ++ codes "e")
              ++ power (length (d ∷ ds) + shift - 1);
          parts = refl;
          is = all.0;
        }

pub number_digit : (z : ℤ) → IsNumber z → Digit (number_text z)
number_digit z is =
    let form = IsDecForm-form_of z is.0 in
    let d = decimal_is (form_of z).size (omega (arith, form.few)) in
    go (form_of z).size (form_of z).shift ((form_of z).size == 0) (form_of z).negative is.1 d
  where
    go : (size shift : ℕ) (b n : Bool) → n ≡ false → IsDecimal size
        → Digit (if b then codes "0" else sign n ++ digits_text (decimal size) shift)
    go size shift true n p d = record { byte = 48; more = []; parts = refl; is = refl }
    go size shift false false p d = digits_digit (decimal size) shift d.digits d.some
    go size shift false true p d = absurd (cc p)

no_sign : (b : ℕ) → is_ascii_digit b ≡ true → is_sign b ≡ false
no_sign b is = grind (arith, nat_tests)

digit_some : (text : List ℕ) → Digit text → 0 < length text
digit_some text d = let e : length text ≡ length (d.byte ∷ d.more) =
    ap length d.parts in omega arith

pub number_is : (z : ℤ) → IsNumber z → IsPiece (word Number (number_text z))
number_is z is =
    let d = number_digit z is in
    let says : DecSays (number_text z) (Ok z) =
    subst (DecSays (number_text z)) (printed_read z is.0) (dec_says (number_text z)) in
    let front : is_sign (slice_index (number_text z) 0) ≡ false =
    ap (λ t. is_sign (slice_index t 0)) d.parts ∙ no_sign d.byte d.is in
    (digit_some (number_text z) d, ((says.0, says.1), front))
