-- What the library `regex` tells of an expression, in the words of patterns.
use Rattle.std.proofs.Common.{◌≡◌, ◌≢◌, ℕ, ◌+◌, ◌*◌, ◌<◌, ◌≤◌, ⊎_elim, List, [], ◌∷◌, map, Option, Some, None, IsSomeAnd, IfSome, All, is_some, option_map, refl, sym, ap, ap₂, ◌∙◌, subst, arith}
use Rattle.std.proofs.Common.{◌↔◌, Result, Ok, Err, length, Bool, true, false, true≢false, get_or}
use Rattle.std.proofs.lemmas.List.{get_or_default}
use Rattle.std.proofs.lemmas.Option.{none-some, same_Some}
use Rattle.std.specs.Str.{chars}
use Rattle.regex_hir.specs.declared.hir.Hir.{Hir}
use Rattle.regex_hir.specs.Meaning.{meaning}
use Rattle.regex_syntax.specs.Brackets.{Nested}
use Rattle.regex_syntax.specs.Captures.{SameCaptures}
use Rattle.regex_syntax.specs.Grammar.{Names, group_count, read}
use Rattle.regex_syntax.specs.Same.{SameTree}
use Rattle.regex_syntax.specs.declared.error.ErrorKind.{ErrorKind}
use Rattle.regex_syntax.specs.declared.error.ErrorKind.TheVariants.{OutOfMemory}
use Rattle.regex_syntax.proofs.Written.{find_str_as_read, is_some-option_map}
use Rattle.regex_syntax.proofs.CapturesLemmas.{spans}
use Rattle.regex_syntax.proofs.TreeLaws.{same_refl}
use Rattle.regex.specs.Patterns.{Re, Match, Reads, Refuses, find_str, default_config}
use Rattle.regex.specs.Search.{group_span}
use Rattle.regex.specs.Strings.{IsCapturesOf, captures_haystack, captures_span, match_span}
use Rattle.regex.specs.Writes.{both}
use Rattle.regex.specs.declared.string.captures.Captures.{Captures}
use Rattle.regex.specs.declared.string.regex.Regex.{Regex}
use Rattle.vm_patterns.specs.inner.Expressions.{IsReadFrom, IsMeant, texts_of}
use Rattle.vm_outside.specs.declared.patterns.PatternFault.{PatternFault}
use Rattle.vm_outside.specs.declared.patterns.PatternFault.TheVariants.{Syntax, Refused, Memory}
use Rattle.vm_patterns.specs.Patterns.{IsExpression, anchored, found_by, in_span, group_texts}

depth_of : (o : Option (Nested Re × Names)) (n : ℕ) (A B C : Nested Re × Names → Type 0) →
    IsSomeAnd o (λ x. (x.0.depth ≤ n) × A x × B x × C x) → IsSomeAnd o (λ x. x.0.depth ≤ n)
depth_of None n A B C h = h
depth_of (Some x) n A B C h = h.0

-- what is read is an expression
pub is_expression : (text : List ℕ) (hir : Hir) (names : Names)
    → Reads default_config text hir names → IsExpression text
unfolding Reads
is_expression text hir names reads =
    depth_of (read default_config (chars text)) default_config.nest_limit
    (λ x. SameCaptures (meaning hir) x.0.value) (λ x. names ≡ x.1)
    (λ x. group_count (meaning hir) ≤ length names) reads

too_deep : (o : Option (Nested Re × Names)) (n : ℕ) → IsSomeAnd o (λ (re, found). re.depth ≤ n) →
    IfSome o (λ (re, found). n < re.depth) → ⊥
too_deep None n short deep = short
too_deep (Some (re, found)) n short deep = omega (arith, short, deep)

-- what is refused is none, unless memory ran out
pub is_no_expression : (text : List ℕ) (kind : ErrorKind) → Refuses default_config text kind
    → kind ≢ OutOfMemory →
    IsExpression text → ⊥
unfolding Refuses
is_no_expression text kind refuses memory short =
    ⊎_elim
    memory
    (λ others. ⊎_elim
    (λ none.
    subst (λ o. IsSomeAnd o (λ (re, found). re.depth ≤ default_config.nest_limit)) none short)
    (λ deep. too_deep (read default_config (chars text)) _ short deep.1)
    others)
    refuses

abbrev is_syntax : {A : Type 0} → Result A PatternFault → Bool
is_syntax (Ok a) = false
is_syntax (Err Syntax) = true
is_syntax (Err Refused) = false
is_syntax (Err Memory) = false

abbrev as_error : (A : Type 0) → PatternFault → Bool
as_error A fault = is_syntax {A = A} (Err fault)

pub ok_is_no_syntax : {A : Type 0} (a : A) → ◌≡◌ {A = Result A PatternFault} (Ok a) (Err Syntax) → ⊥
ok_is_no_syntax a same = true≢false (sym (ap is_syntax same))

pub not_of_syntax : {A : Type 0} (fault : PatternFault) (kind : ErrorKind)
    → ((fault ≡ Memory) ↔ (kind ≡ OutOfMemory)) →
    ◌≡◌ {A = Result A PatternFault} (Err fault) (Err Syntax) → kind ≢ OutOfMemory
not_of_syntax {A} fault kind memory syntax out =
    true≢false (sym (ap is_syntax syntax) ∙ ap (as_error A) (memory.1 out))

-- ---- what a search finds is what the pattern means

pub bytes_are : (value : List ℕ) → ((k : ℕ) → get_or value k 0 < 256)
    → All (λ byte. byte < 256) value
bytes_are value bytes = λ k d h. rw (get_or_default value k d 0 h) (bytes k)

-- what is told of a match, by its ends and its groups
abbrev told : List ℕ → ℕ × ℕ × (ℕ → Option ℕ) → List (List ℕ)
told value seen =
    in_span value (Some (seen.0, seen.1))
    ∷ map (λ n. in_span value (both (seen.2 (2 * n)) (seen.2 (2 * n + 1))))
    (1 ∷ 2 ∷ 3 ∷ 4 ∷ 5 ∷ 6 ∷ 7 ∷ 8 ∷ 9 ∷ [])

same_texts : (value : List ℕ) (one two : Option Match) → option_map spans one ≡ option_map spans two
    →
    option_map (group_texts value) one ≡ option_map (group_texts value) two
same_texts value None None same = refl
same_texts value None (Some two) same = absurd (none-some _ same)
same_texts value (Some one) None same = absurd (none-some _ (sym same))
same_texts value (Some one) (Some two) same =
    ap (λ seen. Some (told value seen)) (same_Some _ _ same)

found_as_read : (text : List ℕ) (hir : Hir) (names : Names) → Reads default_config text hir names →
    (o : Option (Nested Re × Names)) → read default_config (chars text) ≡ o → (value : List ℕ)
    → All (λ byte. byte < 256) value →
    option_map spans (find_str (meaning hir) value 0) ≡ option_map spans (found_by o value)
found_as_read text hir names reads None none value bytes =
    absurd (subst (λ o. IsSomeAnd o (λ (re, found). re.depth ≤ default_config.nest_limit)) none
    (is_expression text hir names reads))
found_as_read text hir names reads (Some (re, found)) some value bytes =
    find_str_as_read default_config text hir names re.value reads
    (subst (λ o. IsSomeAnd o (λ (other, _). SameTree other.value re.value)) (sym some)
    (same_refl _)) value bytes 0

-- the expression between anchors finds what the pattern means
pub is_meant : (regex : Regex) (text : List ℕ) → IsReadFrom regex (anchored text)
    → IsMeant regex text
is_meant regex text from =
    let seen =
    found_as_read (anchored text) _ _ (rw (from.source, from.config) at from.read) _ refl in (
      λ value bytes. sym (is_some-option_map spans _) ∙ ap is_some (seen value bytes)
          ∙ is_some-option_map spans _,
      λ value bytes. same_texts value _ _ (seen value bytes),
    )

whole_span : (captures : Captures) → captures_span captures 0 ≡ Some (match_span captures.whole)
unfolding group_span
whole_span captures = refl

-- the texts of what was found are those of the match
pub texts_of_match : (value : List ℕ) (found : Match) (captures : Captures)
    → IsCapturesOf value found captures →
    texts_of captures (0 ∷ 1 ∷ 2 ∷ 3 ∷ 4 ∷ 5 ∷ 6 ∷ 7 ∷ 8 ∷ 9 ∷ []) ≡ group_texts value found
texts_of_match value found captures is =
    let groups = is.2 in
    ap₂ ◌∷◌
    (ap (in_span (captures_haystack captures)) (whole_span captures ∙ ap Some is.1.whole_is))
    (rw (
      groups 1 (omega arith),
      groups 2 (omega arith),
      groups 3 (omega arith),
      groups 4 (omega arith),
      groups 5 (omega arith),
      groups 6 (omega arith),
      groups 7 (omega arith),
      groups 8 (omega arith),
      groups 9 (omega arith),
    ))
    ∙ ap (λ hay. group_texts hay found) is.0
