-- What a text says can be printed, and be said again.
use Rattle.std.specs.Prelude.{◌≡◌, ◌⊎◌, ℕ, suc, ◌+◌, ◌<◌, ◌^◌, Bool, true, false, cond, List, [], ◌∷◌, length, All, bytes_eq, Option, Some, None}
use Rattle.std.specs.List.{AllByRecursion, list_all}
use Rattle.std.specs.Str.{str_eq_ignore_ascii_case}
use Rattle.std.proofs.Common.{refl, sym, subst, inl, inr, ⊎_elim, arith}
use Rattle.std.proofs.lemmas.Bool.{and_parts}
use Rattle.mql_lex.specs.Grammar.{IsToken}
use Rattle.mql_lex.specs.Tokens.{AreTokens, StandsIn, AreInOrder}
use Rattle.mql_lex.specs.declared.group.Group.{Group}
use Rattle.mql_lex.specs.declared.group.Many.{Many}
use Rattle.mql_lex.specs.declared.group.Many.TheVariants.{One}
use Rattle.mql_lex.specs.declared.group.MatchKind.{MatchKind}
use Rattle.mql_lex.specs.declared.group.MatchKind.TheVariants.{All as NoKind, On, Ignoring}
use Rattle.mql_lex.specs.declared.group.Matching.{Matching}
use Rattle.mql_lex.specs.declared.operator.Op.{Op}
use Rattle.mql_lex.specs.declared.span.Span.{Span}
use Rattle.mql_lex.specs.declared.token.Token.{Token}
use Rattle.mql_lex.specs.declared.token.TokenKind.{TokenKind}
use Rattle.mql_lex.specs.declared.token.TokenKind.TheVariants.{Name, Number, Duration, Str, Mark}
use Rattle.mql_lex.proofs.Spans.{tokens_stand, tokens_in_order}
use Rattle.mql_laws.specs.Lexed.{IsName, AreNames, IsItem, HasItems, AreLists, IsSelect, IsOptionalGroup, IsSpan, IsOptionalSpan, IsParam, IsPrinted, ArePrinted, AreBindings}
use Rattle.mql_expr.specs.Tree.{Tree, trees_of, TreeTemplate, templates_listed}
use Rattle.mql_expr.specs.declared.expr.Param.{Param}
use Rattle.mql_expr.specs.declared.item.Item.{Item}
use Rattle.mql_lists.specs.Classes.{class_of_kind, class_of_name, class_of_mark, class_in, reserved_words, mark_words}
use Rattle.mql_lists.specs.Grammar.{IsLabel, Names, no_names, last_name, next_name, Params, no_params, some_params, SomeParams, last_param, next_param, OneItem, a_filter, a_name, OneList, last_item, last_comma, next_item, SomeLists, last_list, next_list, Braces, no_items, some_lists}
use Rattle.mql_lists.specs.Words.{Word, words_of}
use Rattle.mql_lists.specs.declared.class.Class.{Class}
use Rattle.mql_lists.specs.declared.class.Class.TheVariants.{Identifier, Strange}
use Rattle.mql_lists.proofs.RoleLaws.{role_free, label_says}
use Rattle.mql_parse.specs.Grammar.{Is, is_comparison, ListedNames, in_parens, GroupIfAny, no_group, a_group, KeepIfAny, no_keep, a_keep, TruthIfAny, no_truth, a_truth, ManyIfAny, no_many, a_many, many_names, Mods, no_mods, some_mods, Offset, an_offset, offset_back, OffsetIfAny, no_offset, some_offset, Postfix, windowed, not_windowed, ParamsIfAny, no_params as no_parens, some_params as some_parens, Reads, looser, an_operator, a_minus, a_plus, a_primary, a_postfix, a_with, Primary, a_number, a_string, in_brackets, a_call, a_metric, a_selector, a_nameless, Args, no_args, last_arg, next_arg, Template, a_template, Templates, no_template, last_template, more_templates}
use Rattle.mql_laws.specs.ReadBack.{IsFree, IsFreeItem, IsAhead, IsBack, IsRange, IsMany, IsMatching, IsSaid, AreSaid, AreSaidBindings, TextIsSaid}
use Rattle.mql_parse.specs.Values.{length_of, ahead}
use Rattle.mql_laws.proofs.ReadBackNumbers.{number_printed}
use Rattle.mql_laws.proofs.ReadBackSpans.{short_ms, short_steps, size_back}

-- ---- words of a text

-- a word within the text, whose spelling is what its kind says
abbrev Fine : ℕ → Word → Type 0
Fine len w = (w.at < len) × IsToken w.kind w.text

abbrev AllFine : ℕ → List Word → Type 0
AllFine len = AllByRecursion (Fine len)

each_fine : (text : List ℕ) (from : ℕ) (tokens : List Token) → All (StandsIn text) tokens
    → AreInOrder from tokens → AllFine (length text) (words_of text tokens)
each_fine text from [] stand order = tt
each_fine text from (t ∷ ts) stand order =
    let first : StandsIn text t = stand 0 t (omega arith) in (
      (omega (arith, first.within, order.1), first.is),
      each_fine text (t.at + t.len) ts (λ k d few. stand (suc k) d (omega arith)) order.2,
    )

words_fine : (text : List ℕ) (tokens : List Token) → AreTokens text tokens
    → AllFine (length text) (words_of text tokens)
words_fine text tokens are =
    each_fine text 0 tokens (tokens_stand text tokens are) (tokens_in_order text tokens are)

-- ---- classes that kinds have, and no others

in_table : (p : Class → Bool) (rows : List (List ℕ × Class)) (is : List ℕ → Bool) (other : Class)
    → list_all (λ row. p row.1) rows ≡ true → p other ≡ true → p (class_in rows is other) ≡ true
in_table p [] is other all last = last
in_table p (row ∷ rows) is other all last =
    let parts = and_parts (p row.1) (list_all (λ row. p row.1) rows) all in
    go (is row.0) parts.0 (in_table p rows is other parts.1 last)
  where
    go : (test : Bool) → p row.1 ≡ true → p (class_in rows is other) ≡ true
        → p (cond test row.1 (class_in rows is other)) ≡ true
    go true first more = first
    go false first more = more

pub name_class : (p : Class → Bool) (text : List ℕ)
    → list_all (λ row. p row.1) reserved_words ≡ true → p Identifier ≡ true
    → p (class_of_name text) ≡ true
unfolding class_of_name
name_class p text all last =
    in_table p reserved_words (str_eq_ignore_ascii_case text) Identifier all last

pub mark_class : (p : Class → Bool) (text : List ℕ) → list_all (λ row. p row.1) mark_words ≡ true
    → p Strange ≡ true → p (class_of_mark text) ≡ true
unfolding class_of_mark
mark_class p text all last = in_table p mark_words (bytes_eq text) Strange all last

abbrev no_numeral : Class → Bool
no_numeral Class.Numeral = false
no_numeral _ = true

-- no word is `on` or `ignoring` without being one of them, or `group_left` or `group_right`
abbrev no_phantom : Class → Bool
no_phantom (Class.Pairing NoKind) = false
no_phantom (Class.Joining One) = false
no_phantom _ = true

real_class : (kind : TokenKind) (text : List ℕ) → no_phantom (class_of_kind kind text) ≡ true
real_class Name text = name_class no_phantom text refl refl
real_class Number text = refl
real_class Duration text = refl
real_class Str text = refl
real_class Mark text = mark_class no_phantom text refl refl

numeral_kind : (kind : TokenKind) (text : List ℕ) → class_of_kind kind text ≡ Class.Numeral
    → kind ≡ Number
numeral_kind Name text is = let apart = name_class no_numeral text refl refl in absurd (cc apart)
numeral_kind Number text is = refl
numeral_kind Duration text is = absurd (cc is)
numeral_kind Str text is = absurd (cc is)
numeral_kind Mark text is = let apart = mark_class no_numeral text refl refl in absurd (cc apart)

items_of : (items : List Item) → HasItems items → AllByRecursion IsItem items
items_of [] has = absurd has
items_of (i ∷ items) has = has

are_lists : (lists : List (List Item)) → AllByRecursion HasItems lists → AreLists lists
are_lists [] has = tt
are_lists (items ∷ []) has = items_of items has.0
are_lists (items ∷ other ∷ lists) has = has

ahead_span : (span : Span) → IsAhead span → IsSpan span
ahead_span span is = subst IsSpan (sym is.2) (short_ms is.0 is.1, short_steps is.0 is.1)

back_span : (span : Span) → IsBack span → IsSpan span
back_span span is =
    subst IsSpan (sym is.2) (
      subst (λ n. n < 2 ^ 64) (sym (size_back is.0.ms)) (short_ms is.0 is.1),
      subst (λ n. n < 2 ^ 64) (sym (size_back is.0.steps)) (short_steps is.0 is.1),
    )

either_span : (span : Span) → IsAhead span ⊎ IsBack span → IsSpan span
either_span span is = ⊎_elim (ahead_span span) (back_span span) is

range_spans : (window offset : Option Span) → IsRange window offset → IsOptionalSpan window
    × IsOptionalSpan offset
range_spans None None is = absurd is
range_spans None (Some offset) is = (tt, either_span offset is)
range_spans (Some window) None is = (ahead_span window is, tt)
range_spans (Some window) (Some offset) is = (ahead_span window is.0, either_span offset is.1)

abbrev AreFine : List Param → Type 0
AreFine params = AllByRecursion IsParam params × AllByRecursion (λ p. IsFree p.name) params

record ManySaid (len : ℕ) (rest : List Word) (many : Many) (extra : List (List ℕ)) : Type 0 where
  fine : AllFine len rest
  names : AreNames extra
  many_is : IsMany many extra

record ModsSaid (len : ℕ) (rest : List Word) (m : Matching) : Type 0 where
  fine : AllFine len rest
  names : AreNames m.names
  extra : AreNames m.extra
  is : IsMatching m.kind m.names m.many m.extra

record Said (len : ℕ) (rest : List Word) (t : Tree) : Type 0 where
  fine : AllFine len rest
  printed : IsPrinted t
  said : IsSaid t

record AllSaid (len : ℕ) (rest : List Word) (ts : List Tree) : Type 0 where
  fine : AllFine len rest
  printed : ArePrinted (trees_of ts)
  said : AreSaid (trees_of ts)

record TemplateSaid (len : ℕ) (rest : List Word) (t : TreeTemplate) : Type 0 where
  fine : AllFine len rest
  name : IsName t.name
  free : IsFree t.name
  params : AreFine t.params
  printed : IsPrinted t.body
  said : IsSaid t.body

record TemplatesSaid (len : ℕ) (rest : List Word) (ts : List TreeTemplate) : Type 0 where
  fine : AllFine len rest
  printed : AreBindings (templates_listed ts)
  said : AreSaidBindings (templates_listed ts)

free_label : (w : Word) → Is Identifier w → IsLabel w
free_label w is = label_says w _ (role_free w is) refl

free_text : (w : Word) → Is Identifier w → IsFree w.text
free_text w is = subst (λ k. class_of_kind k w.text ≡ Identifier) (free_label w is) is

none_extra : (many : Many) → IsMany many []
none_extra One = refl
none_extra _ = tt

some_extra : (w : Word) (many : Many) (extra : List (List ℕ)) → Is (Class.Joining many) w
    → IsMany many extra
some_extra w One extra is = let real = real_class w.kind w.text in absurd (cc real)
some_extra w _ extra is = tt

some_kind :
    (w : Word) (kind : MatchKind) (names : List (List ℕ)) (many : Many) (extra : List (List ℕ))
    → Is (Class.Pairing kind) w → IsMany many extra
    → IsMatching kind names many extra
some_kind w NoKind names many extra is many_is = let real =
    real_class w.kind w.text in absurd (cc real)
some_kind w On names many extra is many_is = many_is
some_kind w Ignoring names many extra is many_is = many_is

some_nameless : {text rest : List Word} {lists : List (List Item)} → SomeLists text rest lists
    → AreLists lists → IsSelect None lists
some_nameless (last_list close is one) are = are
some_nameless (next_list between is one more) are = are

nameless : {text rest : List Word} {lists : List (List Item)} → Braces text rest lists
    → AreLists lists → IsSelect None lists
nameless (no_items close is) are = are
nameless (some_lists some) are = some_nameless some are

module _ (len : ℕ) where
  label_name : (w : Word) → IsLabel w → Fine len w → IsName w.text
  label_name w is fine = subst (λ k. IsToken k w.text) is fine.1

  free_name : (w : Word) → Is Identifier w → Fine len w → IsName w.text
  free_name w is fine = label_name w (free_label w is) fine

  -- ---- names

  names_said : {text rest : List Word} {names : List (List ℕ)} → Names text rest names
      → AllFine len text → AllFine len rest × AreNames names
  names_said (no_names close is) fine = (fine.1, tt)
  names_said (last_name name close label is) fine = (fine.1.1, (label_name name label fine.0, tt))
  names_said (next_name name comma label is more) fine = let later =
      names_said more fine.1.1 in (later.0, (label_name name label fine.0, later.1))

  listed_said : {text rest : List Word} {names : List (List ℕ)} → ListedNames text rest names
      → AllFine len text → AllFine len rest × AreNames names
  listed_said (in_parens w is names) fine = names_said names fine.1

  -- ---- parameters

  params_said : {text rest : List Word} {params : List Param} → SomeParams text rest params
      → AllFine len text → AllFine len rest × AreFine params
  params_said (last_param name close is end) fine =
      (fine.1.1, ((free_name name is fine.0, tt), (free_text name is, tt)))
  params_said (next_param name comma is sep more) fine =
      let later = params_said more fine.1.1 in
      (later.0, ((free_name name is fine.0, later.1.0), (free_text name is, later.1.1)))

  all_params_said : {text rest : List Word} {params : List Param} → Params text rest params
      → AllFine len text → AllFine len rest × AreFine params
  all_params_said (no_params close is) fine = (fine.1, (tt, tt))
  all_params_said (some_params some) fine = params_said some fine

  parens_said : {text rest : List Word} {params : List Param} → ParamsIfAny text rest params
      → AllFine len text → AllFine len rest × AreFine params
  parens_said no_parens fine = (fine, (tt, tt))
  parens_said (some_parens w is params) fine = all_params_said params fine.1

  -- ---- braces

  item_said : {text rest : List Word} {item : Item} → OneItem text rest item → AllFine len text
      → AllFine len rest × IsItem item × IsFreeItem item
  item_said (a_filter name sign value label is quoted) fine =
      (fine.1.1.1, label_name name label fine.0, tt)
  item_said (a_name name is) fine = (fine.1, free_name name is fine.0, free_text name is)

  list_said : {text rest : List Word} {items : List Item} → OneList text rest items
      → AllFine len text
      → AllFine len rest × HasItems items × AllByRecursion IsFreeItem items
  list_said (last_item one) fine = let first =
      item_said one fine in (first.0, (first.1, tt), (first.2, tt))
  list_said (last_comma comma is one) fine = let first =
      item_said one fine in (first.0.1, (first.1, tt), (first.2, tt))
  list_said (next_item {items = items} comma is one more) fine =
      let first = item_said one fine in
      let later = list_said more first.0.1 in
      (later.0, (first.1, items_of items later.1), (first.2, later.2))

  lists_said : {text rest : List Word} {lists : List (List Item)} → SomeLists text rest lists
      → AllFine len text
      → AllFine len rest × AllByRecursion HasItems lists
      × AllByRecursion (AllByRecursion IsFreeItem) lists
  lists_said (last_list close is one) fine = let first =
      list_said one fine in (first.0.1, (first.1, tt), (first.2, tt))
  lists_said (next_list between is one more) fine =
      let first = list_said one fine in
      let later = lists_said more first.0.1 in
      (later.0, (first.1, later.1), (first.2, later.2))

  braces_said : {text rest : List Word} {lists : List (List Item)} → Braces text rest lists
      → AllFine len text
      → AllFine len rest × AreLists lists × AllByRecursion (AllByRecursion IsFreeItem) lists
  braces_said (no_items close is) fine = (fine.1, tt, (tt, tt))
  braces_said (some_lists {lists = lists} some) fine = let all =
      lists_said some fine in (all.0, are_lists lists all.1, all.2)

  -- ---- groups, and what stands after an operator

  group_said : {text rest : List Word} {group : Option Group} → GroupIfAny text rest group
      → AllFine len text → AllFine len rest × IsOptionalGroup group
  group_said no_group fine = (fine, tt)
  group_said (a_group w by is names) fine = listed_said names fine.1

  keep_said : {text rest : List Word} {keep : Bool} → KeepIfAny text rest keep → AllFine len text
      → AllFine len rest
  keep_said no_keep fine = fine
  keep_said (a_keep w is) fine = fine.1

  truth_said : {op : Op} {text rest : List Word} {truth : Bool} → TruthIfAny op text rest truth
      → AllFine len text
      → AllFine len rest × (truth ≡ true → is_comparison op ≡ true)
  truth_said no_truth fine = (fine, λ is. absurd (cc is))
  truth_said (a_truth w is compares) fine = (fine.1, λ holds. compares)

  many_said : {text rest : List Word} {many : Many} {extra : List (List ℕ)}
      → ManyIfAny text rest many extra → AllFine len text → ManySaid len rest many extra
  many_said no_many fine = record { fine = fine; names = tt; many_is = refl }
  many_said (a_many {many = many} w is no_parens_behind) fine =
      record { fine = fine.1; names = tt; many_is = none_extra many }
  many_said (many_names {many = many} {names = names} w is listed) fine =
      let all = listed_said listed fine.1 in
      record { fine = all.0; names = all.1; many_is = some_extra w many names is }

  mods_said : {text rest : List Word} {m : Matching} → Mods text rest m → AllFine len text
      → ModsSaid len rest m
  mods_said no_mods fine = record { fine = fine; names = tt; extra = tt; is = (refl, refl, refl) }
  mods_said
      (some_mods {kind = kind} {names = names} {extra = extra} {many = many} w is listed behind)
      fine =
      let first = listed_said listed fine.1 in
      let later = many_said behind first.0 in
      record {
        fine = later.fine;
        names = first.1;
        extra = later.names;
        is = some_kind w kind names many extra is later.many_is;
      }

  -- ---- windows and offsets

  offset_said : {at : ℕ} {text rest : List Word} {span : Span} → Offset len at text rest span
      → AllFine len text
      → AllFine len rest × (IsAhead span ⊎ IsBack span)
  offset_said (an_offset w d is is_d fits) fine =
      (fine.1.1, inl (length_of d.text, fits fine.1.0.0, refl))
  offset_said (offset_back w m d is is_m is_d fits) fine =
      (fine.1.1.1, inr (length_of d.text, fits fine.1.1.0.0, refl))

  window_said : (window : Span) → IsAhead window → {text rest : List Word} {offset : Option Span}
      → OffsetIfAny len text rest offset → AllFine len text
      → AllFine len rest × IsRange (Some window) offset
  window_said window is no_offset fine = (fine, is)
  window_said window is (some_offset offset) fine = let all =
      offset_said offset fine in (all.0, (is, all.1))

  postfix_said : {at : ℕ} {text rest : List Word} {window offset : Option Span}
      → Postfix len at text rest window offset → AllFine len text
      → AllFine len rest × IsRange window offset
  postfix_said (windowed w d e is is_d fits is_e behind) fine =
      window_said (ahead (length_of d.text)) (length_of d.text, fits fine.1.0.0, refl) behind
      fine.1.1.1
  postfix_said (not_windowed offset) fine = offset_said offset fine

  -- ---- trees

  mutual
    reads_said : {n l : ℕ} {o : Bool} {text rest : List Word} {t : Tree}
        → Reads len n l o text rest t → AllFine len text → Said len rest t
    reads_said (looser x) fine = reads_said x fine
    reads_said (an_operator {a = a} {b = b} {m = m} w op x is truths mods y) fine =
        let left = reads_said x fine in
        let truth_is = truth_said truths left.fine.1 in
        let matching_is = mods_said mods truth_is.0 in
        let right = reads_said y matching_is.fine in
        record {
          fine = right.fine;
          printed = (left.printed, right.printed, matching_is.names, matching_is.extra);
          said = (left.said, right.said, truth_is.1, matching_is.is);
        }
    reads_said (a_minus w is may x) fine = let inner =
        reads_said x
        fine.1 in record { fine = inner.fine; printed = inner.printed; said = inner.said }
    reads_said (a_plus w is may x) fine = reads_said x fine.1
    reads_said (a_primary x) fine = primary_said x fine
    reads_said (a_postfix {window = window} {offset = offset} x more) fine =
        let inner = primary_said x fine in
        let range = postfix_said more inner.fine in
        let spans = range_spans window offset range.1 in
        record {
          fine = range.0;
          printed = (inner.printed, spans.0, spans.1);
          said = (inner.said, range.1);
        }
    reads_said (a_with w p e is is_p may templates is_e x) fine =
        let all = templates_said templates fine.1.1 in
        let body = reads_said x all.fine.1 in
        record {
          fine = body.fine;
          printed = (all.printed, body.printed);
          said = (all.said, body.said);
        }

    primary_said : {n : ℕ} {text rest : List Word} {t : Tree} → Primary len n text rest t
        → AllFine len text → Said len rest t
    primary_said (a_number w is fits) fine =
        let unsigned = subst (λ k. IsToken k w.text) (numeral_kind w.kind w.text is) fine.0.1 in
        record {
          fine = fine.1;
          printed = number_printed w.text unsigned (fits fine.0.0);
          said = tt;
        }
    primary_said (a_string w is) fine = record { fine = fine.1; printed = tt; said = tt }
    primary_said (in_brackets w e is may x is_e) fine = let inner =
        reads_said x
        fine.1 in record { fine = inner.fine.1; printed = inner.printed; said = inner.said }
    primary_said (a_call w p e is group is_p may xs is_e other keeps) fine =
        let first = group_said group fine.1 in
        let args = args_said xs first.0.1 in
        let second = group_said other args.fine.1 in
        record {
          fine = keep_said keeps second.0;
          printed = (free_name w is fine.0, args.printed, first.1, second.1);
          said = (free_text w is, args.said);
        }
    primary_said (a_metric w is) fine =
        record { fine = fine.1; printed = (free_name w is fine.0, tt); said = (free_text w is, tt) }
    primary_said (a_selector w b is is_b braces) fine =
        let inside = braces_said braces fine.1.1 in
        record {
          fine = inside.0;
          printed = (free_name w is fine.0, inside.1);
          said = (free_text w is, inside.2);
        }
    primary_said (a_nameless w is braces) fine =
        let inside = braces_said braces fine.1 in
        record { fine = inside.0; printed = nameless braces inside.1; said = (tt, inside.2) }

    args_said : {n : ℕ} {text rest : List Word} {ts : List Tree} → Args len n text rest ts
        → AllFine len text → AllSaid len rest ts
    args_said no_args fine = record { fine = fine; printed = tt; said = tt }
    args_said (last_arg x) fine = let first =
        reads_said x
        fine in record { fine = first.fine; printed = (first.printed, tt); said = (first.said, tt) }
    args_said (next_arg w x is more) fine =
        let first = reads_said x fine in
        let later = args_said more first.fine.1 in
        record {
          fine = later.fine;
          printed = (first.printed, later.printed);
          said = (first.said, later.said);
        }

    template_said : {n : ℕ} {text rest : List Word} {t : TreeTemplate} → Template len n text rest t
        → AllFine len text → TemplateSaid len rest t
    template_said (a_template w e is params is_e x) fine =
        let all = parens_said params fine.1 in
        let body = reads_said x all.0.1 in
        record {
          fine = body.fine;
          name = free_name w is fine.0;
          free = free_text w is;
          params = all.1;
          printed = body.printed;
          said = body.said;
        }

    templates_said : {n : ℕ} {text rest : List Word} {ts : List TreeTemplate}
        → Templates len n text rest ts → AllFine len text → TemplatesSaid len rest ts
    templates_said no_template fine = record { fine = fine; printed = tt; said = tt }
    templates_said (last_template x) fine =
        let first = template_said x fine in
        record {
          fine = first.fine;
          printed = (first.name, first.params.0, first.printed, tt);
          said = (first.free, first.params.1, first.said, tt);
        }
    templates_said (more_templates w x is more) fine =
        let first = template_said x fine in
        let later = templates_said more first.fine.1 in
        record {
          fine = later.fine;
          printed = (first.name, first.params.0, first.printed, later.printed);
          said =
              (first.free, first.params.1, first.said, later.said);
        }

pub text_is_said : TextIsSaid
text_is_said text tokens t are spells = let all =
    reads_said (length text) spells.1 (words_fine text tokens are) in (all.printed, all.said)
