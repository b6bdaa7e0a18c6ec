-- What the parts of a line say, read where they lie, is what their JSON says.
use Rattle.std.proofs.Common.{◌≡◌, ℕ, ◌+◌, ◌<◌, true, false, List, [], ◌∷◌, ◌++◌, length, take, Option, Some, None, refl, ap, ◌∙◌, arith}
use Rattle.std.specs.Prelude.{◌==◌, option_map, option_and_then}
use Rattle.std.specs.Char.{is_ascii_digit}
use Rattle.std.specs.Int.{is_in_range}
use Rattle.std.specs.List.{prefix_len}
use Rattle.std.proofs.Math.Seq.{take-append_seam}
use Rattle.std.proofs.lemmas.Bool.Decides.{nat_tests}
use Rattle.vm_decimal.specs.SampleReading.{sample_reading}
use Rattle.vm_json.specs.Grammar.{nought, whole, IsNumber, positive, negative, Chars, Piece, Json, Jsons, Fields, Value, a_null, a_true, a_false, a_number, a_string, an_array, an_object}
use Rattle.vm_jsonline.specs.Parts.{Part}
use Rattle.vm_jsonline.specs.Reading.{is_number_byte, number_at, text_at, pair_at, begins_number, sample_at, time_at, inside, all_items, all_members, pairs_reading, samples_reading, times_reading}
use Rattle.vm_jsonline.specs.Series.{all_of, items_of, members_of, string_text, pair_of, pairs_of, value_of, no_value, sample_of, samples_of, time_in, time_of, times_of}
use Rattle.vm_jsonline.specs.Strings.{string_reading, text_of}
use Rattle.vm_jsonline.proofs.StringLaws.{chars_at, string_is, string_there}
use Rattle.vm_jsonline.proofs.PartLaws.{AreNumberBytes, number_bytes, IsCut, Says, ItemsSay, none_said, one_said, PartSays, PartsSay, no_part_said, part_said, all_items_say, all_members_say}

-- ---- numbers

all_front : (digits rest : List ℕ) → AreNumberBytes digits → IsCut rest
    → prefix_len is_number_byte (digits ++ rest) ≡ length digits
all_front [] [] all cut = refl
all_front [] (b ∷ rest) all cut = rw cut refl
all_front (b ∷ digits) rest all cut =
    rw all.0 (ap (λ n. 1 + n) (all_front digits rest all.1 cut) ∙ omega arith)

pub number_there : (digits rest : List ℕ) → IsNumber digits → IsCut rest
    → number_at (digits ++ rest) ≡ digits
number_there digits rest is cut =
    ap (λ n. take n (digits ++ rest)) (all_front digits rest (number_bytes digits is) cut)
    ∙ take-append_seam digits rest

-- ---- strings

pub text_there : (text rest : List ℕ) (ps : List Piece) → Chars text rest ps
    → text_at (34 ∷ text) ≡ text_of ps
unfolding text_at
text_there text rest ps chars =
    let s = chars_at chars in
    ap (option_and_then (λ f. string_reading f.0)) (string_there s) ∙ string_is s chars

no_text : (b : ℕ) (more : List ℕ) → (b == 34) ≡ false → text_at (b ∷ more) ≡ None
unfolding text_at
no_text b more is = rw is refl

digit_no_quote : (b : ℕ) → is_in_range 49 57 b ≡ true → (b == 34) ≡ false
digit_no_quote b is = grind (arith, nat_tests)

number_no_text : (digits rest : List ℕ) → IsNumber digits → text_at (digits ++ rest) ≡ None
number_no_text _ rest (negative w f e a b c) = no_text 45 ((w ++ (f ++ e)) ++ rest) refl
number_no_text _ rest (positive _ f e nought b c) = no_text 48 ((f ++ e) ++ rest) refl
number_no_text _ rest (positive _ f e (whole {ds = ds} d first all) b c) =
    no_text d ((ds ++ (f ++ e)) ++ rest) (digit_no_quote d first)

pub text_is : {n : ℕ} {text rest : List ℕ} {x : Json} → Value n text rest x
    → text_at text ≡ string_text x
text_is (a_null {rest = rest}) = no_text 110 (117 ∷ 108 ∷ 108 ∷ rest) refl
text_is (a_true {rest = rest}) = no_text 116 (114 ∷ 117 ∷ 101 ∷ rest) refl
text_is (a_false {rest = rest}) = no_text 102 (97 ∷ 108 ∷ 115 ∷ 101 ∷ rest) refl
text_is (a_number {rest = rest} digits is) = number_no_text digits rest is
text_is (a_string {text = text} {rest = rest} {ps = ps} chars) = text_there text rest ps chars
text_is (an_array {text = text} few xs) = no_text 91 text refl
text_is (an_object {text = text} few fs) = no_text 123 text refl

-- ---- values

digit_no_null : (b : ℕ) → is_in_range 49 57 b ≡ true → (b == 110) ≡ false
digit_no_null b is = grind (arith, nat_tests)

digit_begins : (b : ℕ) → is_in_range 49 57 b ≡ true → begins_number b ≡ true
digit_begins b is = grind (arith, nat_tests)

number_value : (b : ℕ) (more : List ℕ) → (b == 110) ≡ false → (b == 34) ≡ false
    → begins_number b ≡ true
    → sample_at (b ∷ more) ≡ value_of (sample_reading (number_at (b ∷ more)))
unfolding sample_at
number_value b more no_null no_quote begins = rw (no_null, no_quote, begins) refl

number_sample : (digits rest : List ℕ) → IsNumber digits
    → sample_at (digits ++ rest) ≡ value_of (sample_reading (number_at (digits ++ rest)))
number_sample _ rest (negative w f e a b c) =
    number_value 45 ((w ++ (f ++ e)) ++ rest) refl refl refl
number_sample _ rest (positive _ f e nought b c) = number_value 48 ((f ++ e) ++ rest) refl refl refl
number_sample _ rest (positive _ f e (whole {ds = ds} d first all) b c) =
    number_value d ((ds ++ (f ++ e)) ++ rest) (digit_no_null d first) (digit_no_quote d first)
    (digit_begins d first)

plain_sample : (rest : List ℕ) → sample_at (110 ∷ rest) ≡ Some None
unfolding sample_at
plain_sample rest = refl

no_sample : (b : ℕ) (more : List ℕ) → (b == 110) ≡ false → (b == 34) ≡ false
    → begins_number b ≡ false → sample_at (b ∷ more) ≡ None
unfolding sample_at
no_sample b more no_null no_quote no_number = rw (no_null, no_quote, no_number) refl

string_sample : (text : List ℕ) (o : Option (List ℕ)) → text_at (34 ∷ text) ≡ o
    → sample_at (34 ∷ text) ≡ option_and_then (λ t. no_value (sample_reading t)) o
unfolding sample_at
string_sample text o is = ap (option_and_then (λ t. no_value (sample_reading t))) is

pub sample_is : {n : ℕ} {text rest : List ℕ} {x : Json} → Value n text rest x → IsCut rest
    → sample_at text ≡ sample_of sample_reading x
sample_is (a_null {rest = rest}) cut = plain_sample (117 ∷ 108 ∷ 108 ∷ rest)
sample_is (a_true {rest = rest}) cut = no_sample 116 (114 ∷ 117 ∷ 101 ∷ rest) refl refl refl
sample_is (a_false {rest = rest}) cut = no_sample 102 (97 ∷ 108 ∷ 115 ∷ 101 ∷ rest) refl refl refl
sample_is (a_number {rest = rest} digits is) cut = number_sample digits rest is
    ∙ ap (λ d. value_of (sample_reading d)) (number_there digits rest is cut)
sample_is (a_string {text = text} {rest = rest} {ps = ps} chars) cut =
    string_sample text (text_of ps) (text_there text rest ps chars)
sample_is (an_array {text = text} few xs) cut = no_sample 91 text refl refl refl
sample_is (an_object {text = text} few fs) cut = no_sample 123 text refl refl refl

-- ---- times

no_time : (b : ℕ) (more : List ℕ) → is_ascii_digit b ≡ false → time_at (b ∷ more) ≡ None
unfolding time_at
no_time b more is = rw is refl

some_time : (b : ℕ) (more : List ℕ) → is_ascii_digit b ≡ true
    → time_at (b ∷ more) ≡ time_in (number_at (b ∷ more))
unfolding time_at
some_time b more is = rw is refl

range_digit : (b : ℕ) → is_in_range 49 57 b ≡ true → is_ascii_digit b ≡ true
range_digit b is = grind (arith, nat_tests)

number_time : (digits rest : List ℕ) → IsNumber digits → IsCut rest
    → time_at (digits ++ rest) ≡ time_in digits
number_time _ rest (negative w f e a b c) cut = no_time 45 ((w ++ (f ++ e)) ++ rest) refl
number_time _ rest (positive w f e nought b c) cut = some_time 48 ((f ++ e) ++ rest) refl
    ∙ ap time_in (number_there (48 ∷ (f ++ e)) rest (positive (48 ∷ []) f e nought b c) cut)
number_time _ rest (positive w f e (whole {ds = ds} d first all) b c) cut =
    some_time d ((ds ++ (f ++ e)) ++ rest) (range_digit d first)
    ∙ ap time_in
    (number_there (d ∷ (ds ++ (f ++ e))) rest (positive (d ∷ ds) f e (whole d first all) b c)
    cut)

pub time_is : {n : ℕ} {text rest : List ℕ} {x : Json} → Value n text rest x → IsCut rest
    → time_at text ≡ time_of x
time_is (a_null {rest = rest}) cut = no_time 110 (117 ∷ 108 ∷ 108 ∷ rest) refl
time_is (a_true {rest = rest}) cut = no_time 116 (114 ∷ 117 ∷ 101 ∷ rest) refl
time_is (a_false {rest = rest}) cut = no_time 102 (97 ∷ 108 ∷ 115 ∷ 101 ∷ rest) refl
time_is (a_number {rest = rest} digits is) cut = number_time digits rest is cut
time_is (a_string {text = text} chars) cut = no_time 34 text refl
time_is (an_array {text = text} few xs) cut = no_time 91 text refl
time_is (an_object {text = text} few fs) cut = no_time 123 text refl

-- ---- all of them

all_same : {B : Type 0} (f : List ℕ → Option B) (g : Json → Option B)
    → ((text : List ℕ) (x : Json) → Says text x → f text ≡ g x)
    → (texts : List (List ℕ)) (xs : Jsons) → ItemsSay texts xs
    → all_of f texts ≡ all_of g (items_of xs)
all_same f g same _ _ none_said = refl
all_same f g same _ _ (one_said {text = text} {texts = texts} {x = x} {xs = xs} says more) =
    ap (λ o. option_and_then (λ y. option_map (λ ys. y ∷ ys) (all_of f texts)) o) (same text x says)
    ∙ ap (λ ys. option_and_then (λ y. option_map (λ zs. y ∷ zs) ys) (g x))
    (all_same f g same texts xs more)

pair_same : (p : Part) (ps : List Piece) (x : Json) → PartSays p ps x
    → pair_at p ≡ pair_of (record { key = ps; value = x })
unfolding pair_at
pair_same p ps x says =
    ap (option_and_then
    (λ name. option_map (λ value. record { name = name; value = value }) (text_at p.value)))
    says.key
    ∙ ap (λ o.
    option_and_then (λ name. option_map (λ value. record { name = name; value = value }) o)
    (text_of ps)) (text_is says.value.value)

pairs_same : (parts : List Part) (fs : Fields) → PartsSay parts fs
    → all_of pair_at parts ≡ all_of pair_of (members_of fs)
pairs_same _ _ no_part_said = refl
pairs_same _ _ (part_said {p = p} {parts = parts} {ps = ps} {x = x} {fs = fs} says more) =
    ap (λ o. option_and_then (λ y. option_map (λ ys. y ∷ ys) (all_of pair_at parts)) o)
    (pair_same p ps x says)
    ∙ ap (λ ys.
    option_and_then (λ y. option_map (λ zs. y ∷ zs) ys) (pair_of (record { key = ps; value = x })))
    (pairs_same parts fs more)

-- the bracket at the front
pub no_bracket : (bracket b : ℕ) (more : List ℕ) → (b == bracket) ≡ false
    → inside bracket (b ∷ more) ≡ None
no_bracket bracket b more is = rw is refl

pub number_no_bracket : (bracket : ℕ) (digits rest : List ℕ) → 90 < bracket → IsNumber digits
    → inside bracket (digits ++ rest) ≡ None
number_no_bracket bracket _ rest big (negative w f e a b c) =
    no_bracket bracket 45 ((w ++ (f ++ e)) ++ rest) (grind (arith, nat_tests))
number_no_bracket bracket _ rest big (positive _ f e nought b c) =
    no_bracket bracket 48 ((f ++ e) ++ rest) (grind (arith, nat_tests))
number_no_bracket bracket _ rest big (positive _ f e (whole {ds = ds} d first all) b c) =
    no_bracket bracket d ((ds ++ (f ++ e)) ++ rest) (below d bracket first big)
  where
    below : (d bracket : ℕ) → is_in_range 49 57 d ≡ true → 90 < bracket → (d == bracket) ≡ false
    below d bracket first big = grind (arith, nat_tests)

pub pairs_are : {n : ℕ} {text rest : List ℕ} {x : Json} → Value n text rest x
    → pairs_reading text ≡ pairs_of x
unfolding pairs_reading
pairs_are a_null = refl
pairs_are a_true = refl
pairs_are a_false = refl
pairs_are (a_number {rest = rest} digits is) =
    ap (option_and_then (λ inner. all_of pair_at (all_members inner)))
    (number_no_bracket 123 digits rest (omega arith) is)
pairs_are (a_string chars) = refl
pairs_are (an_array few xs) = refl
pairs_are (an_object {text = text} {fs = fs} few ms) =
    pairs_same (all_members text) fs (all_members_say ms)

pub samples_are : {n : ℕ} {text rest : List ℕ} {x : Json} → Value n text rest x
    → samples_reading text ≡ samples_of sample_reading x
unfolding samples_reading
samples_are a_null = refl
samples_are a_true = refl
samples_are a_false = refl
samples_are (a_number {rest = rest} digits is) =
    ap (option_and_then (λ inner. all_of sample_at (all_items inner)))
    (number_no_bracket 91 digits rest (omega arith) is)
samples_are (a_string chars) = refl
samples_are (an_array {text = text} {xs = xs} few is) =
    all_same sample_at (sample_of sample_reading) (λ t x says. sample_is says.value says.cut)
    (all_items text) xs (all_items_say is)
samples_are (an_object few fs) = refl

pub times_are : {n : ℕ} {text rest : List ℕ} {x : Json} → Value n text rest x
    → times_reading text ≡ times_of x
unfolding times_reading
times_are a_null = refl
times_are a_true = refl
times_are a_false = refl
times_are (a_number {rest = rest} digits is) =
    ap (option_and_then (λ inner. all_of time_at (all_items inner)))
    (number_no_bracket 91 digits rest (omega arith) is)
times_are (a_string chars) = refl
times_are (an_array {text = text} {xs = xs} few is) =
    all_same time_at time_of (λ t x says. time_is says.value says.cut) (all_items text) xs
    (all_items_say is)
times_are (an_object few fs) = refl
