-- The reading of a line is what it means, and nothing else is.
use Rattle.std.proofs.Common.{◌≡◌, ℕ, ◌<◌, ◌≤◌, Bool, true, false, cond, List, [], ◌∷◌, length, Option, Some, None, refl, ap, sym, subst, ◌∙◌, arith, lt-ltb, le-ltb, inl, inr}
use Rattle.std.specs.Prelude.{◌==◌, option_and_then, codes}
use Rattle.std.proofs.lemmas.Bool.{cases_lt}
use Rattle.std.proofs.lemmas.Bool.Decides.{nat_tests}
use Rattle.vm_decimal.specs.SampleReading.{sample_reading}
use Rattle.vm_decimal.proofs.SampleReadings.{says, one_reader}
use Rattle.vm_json.specs.Grammar.{is_space, Json, Fields, Spaces, no_space, a_space, Value, a_null, a_true, a_false, a_number, a_string, an_array, an_object, an_item, Spells, spells}
use Rattle.vm_json.specs.Machine.{wrong_place}
use Rattle.vm_json.proofs.Texts.{json_there, place_there, none_there, some_there}
use Rattle.vm_jsonline.specs.Means.{IsReading, too_long, nothing, broken, written}
use Rattle.vm_jsonline.specs.Parts.{behind_spaces, Part}
use Rattle.vm_jsonline.specs.Reading.{parts_at, only_part, parts_rows, rows_reading, all_members, short_reading, reading}
use Rattle.vm_jsonline.specs.Series.{once, members_of, values_at, is_text, member_rows, rows_in, outcome}
use Rattle.vm_jsonline.specs.Strings.{string_reading, text_of, is_paired}
use Rattle.vm_jsonline.specs.declared.line.JsonLine.{JsonLine}
use Rattle.vm_jsonline.specs.declared.line.JsonLine.TheVariants.{Nothing, Skipped}
use Rattle.vm_jsonline.proofs.PairLaws.{text_whole}
use Rattle.vm_jsonline.proofs.PartLaws.{Says, PartsSay, no_part_said, part_said, all_members_say, value_starts, at_start, spaces_behind, Starts}
use Rattle.vm_jsonline.proofs.ValueLaws.{pairs_are, samples_are, times_are, number_no_bracket}

-- ---- the values of a key

data Match : Option (List ℕ) → Option Json → Type 0 where
  neither : Match None None
  found : {text : List ℕ} {x : Json} → Says text x → Match (Some text) (Some x)

data Matches : List (List ℕ) → List Json → Type 0 where
  no_match : Matches [] []
  a_match : {text : List ℕ} {texts : List (List ℕ)} {x : Json} {xs : List Json} → Says text x
      → Matches texts xs → Matches (text ∷ texts) (x ∷ xs)

choose : (t u : Bool) (text : List ℕ) (texts : List (List ℕ)) (x : Json) (xs : List Json) → t ≡ u
    → Says text x → Matches texts xs → Matches (cond t (text ∷ texts) texts) (cond u (x ∷ xs) xs)
choose true true text texts x xs same says more = a_match says more
choose false false text texts x xs same says more = more
choose true false text texts x xs same says more = absurd (cc same)
choose false true text texts x xs same says more = absurd (cc same)

values_match : (name : List ℕ) (parts : List Part) (fs : Fields) → PartsSay parts fs
    → Matches (parts_at name parts) (values_at name (members_of fs))
values_match name _ _ no_part_said = no_match
values_match name _ _ (part_said {p = p} {parts = parts} {ps = ps} {x = x} {fs = fs} says more) =
    choose (is_text name (string_reading p.key)) (is_text name (text_of ps)) p.value
    (parts_at name parts) x (values_at name (members_of fs))
    (ap (is_text name) says.key) says.value (values_match name parts fs more)

once_match : (texts : List (List ℕ)) (xs : List Json) → Matches texts xs
    → Match (once texts) (once xs)
once_match _ _ no_match = neither
once_match _ _ (a_match says no_match) = found says
once_match _ _ (a_match says (a_match other more)) = neither

only_match : (name : List ℕ) (parts : List Part) (fs : Fields) → PartsSay parts fs
    → Match (only_part name parts) (once (values_at name (members_of fs)))
unfolding only_part
only_match name parts fs say =
    once_match (parts_at name parts) (values_at name (members_of fs))
    (values_match name parts fs say)

bind : {A : Type 0} (f : List ℕ → Option A) (g : Json → Option A) (o : Option (List ℕ))
    (q : Option Json) → Match o q → ((text : List ℕ) (x : Json) → Says text x → f text ≡ g x)
    → option_and_then f o ≡ option_and_then g q
bind f g _ _ neither same = refl
bind f g _ _ (found {text = text} {x = x} says) same = same text x says

-- ---- rows

parts_same : (parts : List Part) (fs : Fields) → PartsSay parts fs
    → parts_rows parts ≡ member_rows sample_reading (members_of fs)
unfolding parts_rows
parts_same parts fs say =
    bind _ _ _ _ (only_match (codes "metric") parts fs say) (λ metric m is_metric.
    bind _ _ _ _ (only_match (codes "values") parts fs say) (λ values v is_values.
    bind _ _ _ _ (only_match (codes "timestamps") parts fs say) (λ stamps t is_stamps.
    rw (pairs_are is_metric.value, samples_are is_values.value, times_are is_stamps.value) refl)))

rows_are : {n : ℕ} {text rest : List ℕ} {x : Json} → Value n text rest x
    → rows_reading text ≡ rows_in sample_reading x
unfolding rows_reading
rows_are a_null = refl
rows_are a_true = refl
rows_are a_false = refl
rows_are (a_number {rest = rest} digits is) =
    ap (option_and_then (λ inner. parts_rows (all_members inner)))
    (number_no_bracket 123 digits rest (omega arith) is)
rows_are (a_string chars) = refl
rows_are (an_array few xs) = refl
rows_are (an_object {text = text} {fs = fs} few ms) =
    parts_same (all_members text) fs (all_members_say ms)

-- ---- a line that is JSON

some_there_is : (text : List ℕ) → (s : Starts text) → (length text == 0) ≡ false
some_there_is text s = ap (λ t. length t == 0) s.parts ∙ grind (arith, nat_tests)

pub line_said : (line : List ℕ) (x : Json) → Spells line x
    → short_reading line ≡ outcome sample_reading x
unfolding short_reading is_paired
line_said line x (spells {behind = behind} (an_item {start = start} spaces value) end) =
    let s = value_starts value in
    let begins : behind_spaces line ≡ start = spaces_behind spaces ∙ at_start start s in
    let some = some_there_is start s in
    let none : wrong_place line ≡ None = none_there line (x, spells (an_item spaces value) end) in
    let paired = text_whole (an_item spaces value) end in
    rw (begins, some, none, paired, rows_are value) refl

-- ---- white space

blank_from : (line : List ℕ) → length (behind_spaces line) ≡ 0 → Spaces line []
blank_from [] is = no_space
blank_from (b ∷ line) is = go (is_space b) refl is (blank_from line)
  where
    go : (t : Bool) → is_space b ≡ t → length (cond t (behind_spaces line) (b ∷ line)) ≡ 0
        → (length (behind_spaces line) ≡ 0 → Spaces line []) → Spaces (b ∷ line) []
    go true white is more = a_space b white (more is)
    go false white is more = absurd (omega arith)

blank_to : (line : List ℕ) → Spaces line [] → length (behind_spaces line) ≡ 0
blank_to line is = ap length (spaces_behind is)

zero_from : (n : ℕ) → (n == 0) ≡ true → n ≡ 0
zero_from n is = grind (arith, nat_tests)

zero_not : (n : ℕ) → (n == 0) ≡ false → n ≡ 0 → ⊥
zero_not n is same = let yes : (n == 0) ≡ true = grind (arith, nat_tests) in absurd (cc (is, yes))

-- ---- any line

blank_said : (line : List ℕ) → Spaces line [] → short_reading line ≡ Nothing
unfolding short_reading
blank_said line is = let none : (length (behind_spaces line) == 0) ≡ true =
    ap (λ n. n == 0) (blank_to line is) in rw none refl

broken_said : (line : List ℕ) (at : ℕ) → (length (behind_spaces line) == 0) ≡ false
    → wrong_place line ≡ Some at → short_reading line ≡ Skipped at
unfolding short_reading
broken_said line at some is = rw (some, is) refl

short_mean : (line : List ℕ) → length line ≤ 4194304 → IsReading line (short_reading line)
short_mean line few = go (length (behind_spaces line) == 0) refl
  where
    placed : (o : Option ℕ) → wrong_place line ≡ o → (length (behind_spaces line) == 0) ≡ false
        → IsReading line (short_reading line)
    placed (Some at) is some =
        subst (IsReading line) (sym (broken_said line at some is))
        (broken few (λ blank. zero_not (length (behind_spaces line)) some (blank_to line blank)) at
        (place_there line at is))
    placed None is some =
        let there = json_there line is in
        subst (IsReading line) (sym (line_said line there.0 there.1))
        (written few there.0 there.1 sample_reading says)

    go : (t : Bool) → (length (behind_spaces line) == 0) ≡ t → IsReading line (short_reading line)
    go true none =
        let blank = blank_from line (zero_from (length (behind_spaces line)) none) in
        subst (IsReading line) (sym (blank_said line blank)) (nothing few blank)
    go false some = placed (wrong_place line) refl some

short_is : (line : List ℕ) → length line ≤ 4194304 → reading line ≡ short_reading line
unfolding reading
short_is line few = rw (le-ltb 4194304 (length line) few) refl

long_is : (line : List ℕ) → 4194304 < length line → reading line ≡ Skipped 4194304
unfolding reading
long_is line many = rw (lt-ltb 4194304 (length line) many) refl

pub reading_is : (line : List ℕ) → IsReading line (reading line)
reading_is line = elim (cases_lt 4194304 (length line)) [
  | inl many ↦ subst (IsReading line) (sym (long_is line many)) (too_long many)
  | inr few ↦ subst (IsReading line) (sym (short_is line few)) (short_mean line few)
]

pub all_mean : (line : List ℕ) (said : JsonLine) → said ≡ reading line → IsReading line said
all_mean line said is = subst (IsReading line) (sym is) (reading_is line)

-- a line means one thing
pub one_reading : (line : List ℕ) (said : JsonLine) → IsReading line said → said ≡ reading line
one_reading line _ (too_long many) = sym (long_is line many)
one_reading line _ (nothing few blank) = sym (short_is line few ∙ blank_said line blank)
one_reading line _ (broken few not_blank at first) =
    let some : (length (behind_spaces line) == 0) ≡ false =
    go (length (behind_spaces line) == 0) refl in
    sym (short_is line few ∙ broken_said line at some (some_there line at first))
  where
    go : (t : Bool) → (length (behind_spaces line) == 0) ≡ t
        → (length (behind_spaces line) == 0) ≡ false
    go true none =
        absurd (not_blank (blank_from line (zero_from (length (behind_spaces line)) none)))
    go false some = some
one_reading line _ (written few x is read reads) =
    ap (λ f. outcome f x) (one_reader read reads) ∙ sym (short_is line few ∙ line_said line x is)
