-- A series that is written as a line is read again as its rows.
use Rattle.std.proofs.Common.{◌≡◌, ℕ, suc, zero, ◌+◌, ◌<◌, ◌^◌, Bool, true, false, cond, List, [], ◌∷◌, ◌++◌, length, map, Option, Some, None, refl, ap, sym, subst, ◌∙◌, arith, append_assoc, lt-ltb}
use Rattle.std.specs.Prelude.{◌==◌, ◌&&◌, not, nat_lt, IsUtf8, option_map, slice_index, codes, filter, position, Ok, ℤ}
use Rattle.std.specs.Char.{is_ascii_digit}
use Rattle.std.specs.Fmt.{decimal}
use Rattle.std.specs.List.{AllByRecursion, join_with_byte, list_all, prefix_len}
use Rattle.std.proofs.lemmas.Bool.{and_parts}
use Rattle.std.proofs.lemmas.Bool.Decides.{nat_tests}
use Rattle.std.proofs.lemmas.Fmt.{decimal_is_IsNumeral, decimal_digit}
use Rattle.std.proofs.lemmas.List.{length-map}
use Rattle.std.proofs.lemmas.Str.{IsUtf8-from_ascii}
use Rattle.json.specs.Print.{escape}
use Rattle.vm_base.specs.declared.stamped.Stamped.{Stamped}
use Rattle.vm_decimal.specs.SampleReading.{sample_reading}
use Rattle.vm_decimal.proofs.SampleReadings.{says}
use Rattle.vm_json.specs.Grammar.{is_plain, IsDigits, nought, whole, IsNumber, bytes, Chars, last_quote, plain, Json, number, string, array, object, Jsons, no_json, one_json, Fields, no_field, one_field, no_space, a_number, a_string, an_array, an_object, an_item, Items, no_items, some_items, ItemList, item_list, no_more_items, more_items, Member, a_member, Members, no_members, some_members, MemberList, member_list, no_more_members, more_members, Spells, spells}
use Rattle.vm_labels.specs.Labels.{IsLabels, has_value, is_badly_named, built, ordered, unless}
use Rattle.vm_labels.specs.Name.{begins_name, is_name_byte, is_name}
use Rattle.vm_labels.specs.Text.{pair_json}
use Rattle.vm_labels.specs.declared.fault.LabelFault.TheVariants.{BadName}
use Rattle.vm_labels.specs.declared.pair.Pair.{Pair}
use Rattle.vm_labels.proofs.BuildLaws.{ordered_already}
use Rattle.vm_jsonline.specs.Print.{value_text, time_text, values_text, times_text, series_text}
use Rattle.vm_laws.specs.Written.{IsOfSample, CanBeRead, row_of, rows_again}
use Rattle.vm_jsonline.specs.Reading.{reading}
use Rattle.vm_jsonline.specs.Series.{all_of, items_of, members_of, pair_of, sample_of, time_in, time_of, rows_of, series_rows, have_texts, fields_have_texts, outcome}
use Rattle.vm_jsonline.proofs.LineLaws.{one_reading}
use Rattle.vm_laws.proofs.NumberTexts.{are_digits, numeral, only_whole, value_number, value_again}
use Rattle.vm_laws.proofs.QuotedLaws.{quotes}
use Rattle.vm_jsonline.specs.Means.{written}

-- ---- arrays of numbers

abbrev numbers : List (List ℕ) → Jsons
numbers [] = no_json
numbers (t ∷ ts) = one_json (number t) (numbers ts)

spelled_list : (n : ℕ) (t : List ℕ) (ts : List (List ℕ)) (rest : List ℕ) → IsNumber t
    → AllByRecursion IsNumber ts
    → ItemList n (join_with_byte 44 (t ∷ ts) ++ 93 ∷ rest) rest (numbers (t ∷ ts))
spelled_list n t [] rest is all =
    item_list (an_item no_space (a_number t is)) (no_more_items no_space)
spelled_list n t (u ∷ us) rest is all =
    subst (λ w. ItemList n w rest (numbers (t ∷ u ∷ us)))
    (sym (append_assoc t (44 ∷ join_with_byte 44 (u ∷ us)) (93 ∷ rest)))
    (item_list (an_item no_space (a_number t is))
    (more_items no_space (spelled_list n u us rest all.0 all.1)))

spelled : (n : ℕ) (ts : List (List ℕ)) (rest : List ℕ) → AllByRecursion IsNumber ts
    → Items n (join_with_byte 44 ts ++ 93 ∷ rest) rest (numbers ts)
spelled n [] rest all = no_items no_space
spelled n (t ∷ ts) rest all = some_items (spelled_list n t ts rest all.0 all.1)

whole_numbers : (ts : List (List ℕ)) → have_texts (numbers ts) ≡ true
whole_numbers [] = refl
whole_numbers (t ∷ ts) = whole_numbers ts

-- ---- the labels

record IsText (p : Pair) : Type 0 where
  pub name : IsUtf8 p.name
  pub value : IsUtf8 p.value

name_small : (b : ℕ) → is_name_byte b ≡ true → b < 128
name_small b is = grind (arith, nat_tests)

names_small : (text : List ℕ) → list_all is_name_byte text ≡ true → (i : ℕ)
    → slice_index text i < 128
names_small [] are i = omega arith
names_small (b ∷ text) are zero =
    name_small b (and_parts (is_name_byte b) (list_all is_name_byte text) are).0
names_small (b ∷ text) are (suc i) =
    names_small text (and_parts (is_name_byte b) (list_all is_name_byte text) are).1 i

name_utf8 : (text : List ℕ) → is_name text ≡ true → IsUtf8 text
name_utf8 text is =
    IsUtf8-from_ascii text
    (names_small text
    (and_parts (begins_name (slice_index text 0)) (list_all is_name_byte text) is).1)

texts_of : (ps : List Pair) → list_all (λ p. is_name p.name) ps ≡ true
    → AllByRecursion (λ p. IsUtf8 p.value) ps → AllByRecursion IsText ps
texts_of [] named all = tt
texts_of (p ∷ ps) named all =
    let n = and_parts (is_name p.name) (list_all (λ p. is_name p.name) ps) named in
    (record { name = name_utf8 p.name n.0; value = all.0 }, texts_of ps n.1 all.1)

fields_of : (ps : List Pair) → AllByRecursion IsText ps → Fields
fields_of [] all = no_field
fields_of (p ∷ ps) all =
    one_field (quotes p.name all.0.name).pieces (string (quotes p.value all.0.value).pieces)
    (fields_of ps all.1)

spelled_pair : (n : ℕ) (p : Pair) (t : IsText p) (rest : List ℕ)
    → Member n (pair_json p ++ rest) rest (quotes p.name t.name).pieces
    (string (quotes p.value t.value).pieces)
spelled_pair n p t rest =
    let name = quotes p.name t.name in
    let value = quotes p.value t.value in
    let shape : pair_json p
    ++ rest ≡ 34 ∷ (escape p.name ++ 34 ∷ 58 ∷ 34 ∷ (escape p.value ++ 34 ∷ rest)) =
    simp append_assoc in
    subst (λ w. Member n w rest name.pieces (string value.pieces)) (sym shape)
    (a_member no_space (name.are (58 ∷ 34 ∷ (escape p.value ++ 34 ∷ rest))) no_space
    (an_item no_space (a_string (value.are rest))))

spelled_pairs :
    (n : ℕ) (p : Pair) (ps : List Pair) (all : AllByRecursion IsText (p ∷ ps)) (rest : List ℕ)
    → MemberList n (join_with_byte 44 (map pair_json (p ∷ ps)) ++ 125 ∷ rest) rest
    (fields_of (p ∷ ps) all)
unfolding fields_of
spelled_pairs n p [] all rest =
    member_list (spelled_pair n p all.0 (125 ∷ rest)) (no_more_members no_space)
spelled_pairs n p (q ∷ ps) all rest =
    subst (λ w. MemberList n w rest (fields_of (p ∷ q ∷ ps) all))
    (sym (append_assoc (pair_json p) (44 ∷ join_with_byte 44 (map pair_json (q ∷ ps)))
    (125 ∷ rest)))
    (member_list
    (spelled_pair n p all.0 (44 ∷ (join_with_byte 44 (map pair_json (q ∷ ps)) ++ 125 ∷ rest)))
    (more_members no_space (spelled_pairs n q ps all.1 rest)))

spelled_labels : (n : ℕ) (ps : List Pair) (all : AllByRecursion IsText ps) (rest : List ℕ)
    → Members n (join_with_byte 44 (map pair_json ps) ++ 125 ∷ rest) rest (fields_of ps all)
unfolding fields_of
spelled_labels n [] all rest = no_members no_space
spelled_labels n (p ∷ ps) all rest = some_members (spelled_pairs n p ps all rest)

whole_fields : (ps : List Pair) (all : AllByRecursion IsText ps)
    → fields_have_texts (fields_of ps all) ≡ true
unfolding fields_of
whole_fields [] all = refl
whole_fields (p ∷ ps) all =
    rw ((quotes p.name all.0.name).text, (quotes p.value all.0.value).text) (whole_fields ps all.1)

pairs_again : (ps : List Pair) (all : AllByRecursion IsText ps)
    → all_of pair_of (members_of (fields_of ps all)) ≡ Some ps
unfolding fields_of
pairs_again [] all = refl
pairs_again (p ∷ ps) all =
    rw ((quotes p.name all.0.name).text, (quotes p.value all.0.value).text, pairs_again ps all.1)
    refl

and_false : (b : Bool) → (b && false) ≡ false
and_false true = refl
and_false false = refl

no_bad : (ps : List Pair) → list_all (λ p. is_name p.name) ps ≡ true
    → prefix_len (λ p. not (is_badly_named p)) ps ≡ length ps
no_bad [] named = refl
no_bad (p ∷ ps) named =
    let n = and_parts (is_name p.name) (list_all (λ p. is_name p.name) ps) named in
    let good : is_badly_named p ≡ false = ap (λ b. has_value p && not b) n.0
    ∙ and_false (has_value p) in
    rw good (ap (λ k. 1 + k) (no_bad ps n.1) ∙ omega arith)

not_below : (n : ℕ) → nat_lt n n ≡ false
not_below n = grind (arith, nat_tests)

none_bad : (ps : List Pair) → list_all (λ p. is_name p.name) ps ≡ true
    → position is_badly_named ps ≡ None
none_bad ps named =
    ap (λ n. cond (nat_lt n (length ps)) (Some n) None) (no_bad ps named)
    ∙ ap (λ b. cond b (Some (length ps)) None) (not_below (length ps))

all_kept : (ps : List Pair) → list_all has_value ps ≡ true → filter has_value ps ≡ ps
all_kept [] valued = refl
all_kept (p ∷ ps) valued =
    let v = and_parts (has_value p) (list_all has_value ps) valued in
    rw v.0 (ap (λ qs. p ∷ qs) (all_kept ps v.1))

built_again : (ps : List Pair) → IsLabels ps → built ps ≡ Ok ps
built_again ps is =
    ap (λ o. unless (option_map BadName o) (ordered (filter has_value ps))) (none_bad ps is.named)
    ∙ ap ordered (all_kept ps is.valued) ∙ ordered_already ps is.rising

-- ---- times

all_digits : (ds : List ℕ) → IsDigits ds → list_all is_ascii_digit ds ≡ true
all_digits [] all = refl
all_digits (b ∷ ds) all = rw all.0 (all_digits ds all.1)

time_number : (t : ℕ) → t < 2 ^ 48 → IsNumber (decimal t)
time_number zero few =
    subst IsNumber (sym (decimal_digit 0 (omega arith))) (only_whole (48 ∷ []) nought)
time_number (suc t) few =
    let n = numeral (suc t) (omega arith) (omega arith) in
    let digits : IsDigits (n.first ∷ n.rest) = subst (λ d. IsDigits d) n.parts n.digits in
    subst IsNumber (sym n.parts) (only_whole (n.first ∷ n.rest) (whole n.first n.above digits.1))

time_again : (t : ℕ) → t < 2 ^ 48 → time_in (decimal t) ≡ Some t
time_again t few =
    let is = decimal_is_IsNumeral t (omega arith) in
    let small : nat_lt t (2 ^ 48) ≡ true = lt-ltb t (2 ^ 48) few in
    rw (all_digits (decimal t) (are_digits (decimal t) is.0.1), is.1, small) refl

-- ---- values, times and rows

abbrev some_value : Stamped → Option ℤ
some_value s = Some s.value

values_numbers : (ss : List Stamped) → AllByRecursion IsOfSample ss
    → AllByRecursion IsNumber (map value_text ss)
values_numbers [] all = tt
values_numbers (s ∷ ss) all = (value_number s.value all.0, values_numbers ss all.1)

times_numbers : (ss : List Stamped) → AllByRecursion (λ s. s.time < 2 ^ 48) ss
    → AllByRecursion IsNumber (map time_text ss)
times_numbers [] all = tt
times_numbers (s ∷ ss) all = (time_number s.time all.0, times_numbers ss all.1)

values_again : (ss : List Stamped) → AllByRecursion IsOfSample ss
    → all_of (sample_of sample_reading) (items_of (numbers (map value_text ss)))
    ≡ Some (map some_value ss)
values_again [] all = refl
values_again (s ∷ ss) all = rw (value_again s.value all.0, values_again ss all.1) refl

times_again : (ss : List Stamped) → AllByRecursion (λ s. s.time < 2 ^ 48) ss
    → all_of time_of (items_of (numbers (map time_text ss))) ≡ Some (map (λ s. s.time) ss)
times_again [] all = refl
times_again (s ∷ ss) all = rw (time_again s.time all.0, times_again ss all.1) refl

rows_are : (labels : List Pair) (ss : List Stamped)
    → rows_of labels (map some_value ss) (map (λ s. s.time) ss) ≡ map (row_of labels) ss
rows_are labels [] = refl
rows_are labels (s ∷ ss) = ap (λ rows. row_of labels s ∷ rows) (rows_are labels ss)

same_test : (n : ℕ) → (n == n) ≡ true
same_test n = grind (arith, nat_tests)

series_again : (labels : List Pair) (ss : List Stamped)
    → series_rows (map some_value ss) (map (λ s. s.time) ss) labels ≡ Some (map (row_of labels) ss)
series_again labels ss =
    let same : (length (map some_value ss) == length (map (λ s. s.time) ss)) ≡ true =
    ap (λ n. n == length (map (λ s. s.time) ss)) (length-map ss some_value)
    ∙ ap (λ n. length ss == n) (length-map ss (λ s. s.time)) ∙ same_test (length ss) in
    rw same (ap Some (rows_are labels ss))

-- ---- the line

plain_chars : (w rest : List ℕ) → AllByRecursion (λ b. is_plain b ≡ true) w
    → Chars (w ++ 34 ∷ rest) rest (bytes w [])
plain_chars [] rest all = last_quote
plain_chars (b ∷ w) rest all = plain b all.0 (plain_chars w rest all.1)

abbrev metric_key : List ℕ
metric_key = codes "metric"

abbrev values_key : List ℕ
values_key = codes "values"

abbrev times_key : List ℕ
times_key = codes "timestamps"

abbrev tree : (labels : List Pair) → AllByRecursion IsText labels → List Stamped → Json
tree labels texts ss =
    object (one_field (bytes metric_key []) (object (fields_of labels texts))
    (one_field (bytes values_key []) (array (numbers (map value_text ss)))
    (one_field (bytes times_key []) (array (numbers (map time_text ss))) no_field)))

line_shape : (labels : List Pair) (ss : List Stamped) → series_text labels ss
    ≡ 123 ∷ 34
    ∷ (metric_key
    ++ 34 ∷ 58 ∷ 123
    ∷ (join_with_byte 44 (map pair_json labels)
    ++ 125 ∷ 44 ∷ 34 ∷ (values_key ++ 34 ∷ 58 ∷ 91 ∷ (values_text ss ++ 93 ∷ 44 ∷ 34
    ∷ (times_key ++ 34 ∷ 58 ∷ 91 ∷ (times_text ss ++ 93 ∷ 125 ∷ []))))))
line_shape labels ss = simp append_assoc

line_spells :
    (labels : List Pair) (ss : List Stamped) (can : CanBeRead labels ss)
    (texts : AllByRecursion IsText labels) → Spells (series_text labels ss) (tree labels texts ss)
line_spells labels ss can texts =
    let end = 93 ∷ 125 ∷ [] in
    let times = times_key ++ 34 ∷ 58 ∷ 91 ∷ (times_text ss ++ end) in
    let values = values_key ++ 34 ∷ 58 ∷ 91 ∷ (values_text ss ++ 93 ∷ 44 ∷ 34 ∷ times) in
    subst (λ w. Spells w (tree labels texts ss)) (sym (line_shape labels ss))
    (spells (an_item no_space (an_object (omega arith) (some_members
    (member_list
    (a_member no_space (plain_chars metric_key _ (refl, (refl, (refl, (refl, (refl, (refl, tt)))))))
    no_space
    (an_item no_space (an_object (omega arith) (spelled_labels 2 labels texts (44 ∷ 34 ∷ values)))))
    (more_members no_space (member_list
    (a_member no_space (plain_chars values_key _ (refl, (refl, (refl, (refl, (refl, (refl, tt)))))))
    no_space
    (an_item no_space
    (an_array (omega arith)
    (spelled 2 (map value_text ss) (44 ∷ 34 ∷ times) (values_numbers ss can.values)))))
    (more_members no_space (member_list
    (a_member no_space
    (plain_chars times_key
    _ (refl, (refl, (refl, (refl, (refl, (refl, (refl, (refl, (refl, (refl, tt)))))))))))
    no_space
    (an_item no_space
    (an_array (omega arith)
    (spelled 2 (map time_text ss) (125 ∷ []) (times_numbers ss can.times)))))
    (no_more_members no_space)))))))))
    no_space)

line_outcome :
    (labels : List Pair) (ss : List Stamped) (can : CanBeRead labels ss)
    (texts : AllByRecursion IsText labels)
    → outcome sample_reading (tree labels texts ss) ≡ rows_again labels ss
line_outcome labels ss can texts =
    rw (
      whole_fields labels texts,
      whole_numbers (map value_text ss),
      whole_numbers (map time_text ss),
      pairs_again labels texts,
      values_again ss can.values,
      times_again ss can.times,
      built_again labels can.label_set,
      can.limits,
      series_again labels ss,
    ) refl

pub read_again : (labels : List Pair) (ss : List Stamped) → CanBeRead labels ss
    → reading (series_text labels ss) ≡ rows_again labels ss
read_again labels ss can =
    let texts = texts_of labels can.label_set.named can.texts in
    sym (one_reading (series_text labels ss) (outcome sample_reading (tree labels texts ss))
    (written can.short (tree labels texts ss) (line_spells labels ss can texts) sample_reading
    says))
    ∙ line_outcome labels ss can texts
