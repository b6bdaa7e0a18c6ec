-- Which bytes a symbol is of, and the machine's moves.
use Rattle.std.specs.Prelude.{◌≡◌, ◌==◌, ℕ, ◌⊎◌, Bool, true, false, List, ◌∷◌, Option, Some, option_and_then, if◌then◌else◌}
use Rattle.std.specs.Int.{is_in_range}
use Rattle.std.proofs.Common.{refl, arith, sym, ap, subst, ◌∙◌, inl, inr}
use Rattle.std.proofs.lemmas.Bool.Decides.{nat_tests}
use Rattle.vm_base.specs.Run.{run, result}
use Rattle.vm_json.specs.Grammar.{is_space, is_mark, is_sign, IsDigit, Spaces, no_space, a_space}
use Rattle.vm_json.specs.Machine.{State, at, symbol_of, by_phase, step, final}
use Rattle.vm_json.specs.declared.nesting.Bracket.{Bracket}
use Rattle.vm_json.specs.declared.phase.Phase.{Phase}
use Rattle.vm_json.specs.declared.phase.Symbol.{Symbol}
use Rattle.vm_json.specs.declared.phase.Symbol.TheVariants.{Space, Quote, BeginArray, BeginObject, EndArray, EndObject, Comma, Colon, Minus, Plus, Point, Nought, Digit, Mark, BeginTrue, BeginFalse, BeginNull, Other}

pub data Is : Symbol → ℕ → Type 0 where
  is_nought : Is Nought 48
  is_digit : (b : ℕ) → is_in_range 49 57 b ≡ true → Is Digit b
  is_white : (b : ℕ) → is_space b ≡ true → Is Space b
  is_quote : Is Quote 34
  is_begin_array : Is BeginArray 91
  is_begin_object : Is BeginObject 123
  is_end_array : Is EndArray 93
  is_end_object : Is EndObject 125
  is_comma : Is Comma 44
  is_colon : Is Colon 58
  is_minus : Is Minus 45
  is_plus : Is Plus 43
  is_point : Is Point 46
  is_exp : (b : ℕ) → is_mark b ≡ true → Is Mark b
  is_t : Is BeginTrue 116
  is_f : Is BeginFalse 102
  is_n : Is BeginNull 110
  is_other : (b : ℕ) → Is Other b

pub equal : (a b : ℕ) → (a == b) ≡ true → a ≡ b
equal a b is = grind (arith, nat_tests)

pick : (test : Bool) (x y : Symbol) (b : ℕ) → (test ≡ true → Is x b) → (test ≡ false → Is y b)
    → Is (if test then x else y) b
pick true x y b first other = first refl
pick false x y b first other = other refl

one : (x : Symbol) (n b : ℕ) → Is x n → (b == n) ≡ true → Is x b
one x n b is same = subst (λ c. Is x c) (sym (equal b n same)) is

pub symbol_is : (b : ℕ) → Is (symbol_of b) b
symbol_is b =
    pick (b == 48) Nought _ b (one Nought 48 b is_nought) (λ _.
    pick (is_in_range 49 57 b) Digit _ b (is_digit b) (λ _.
    pick (is_space b) Space _ b (is_white b) (λ _.
    pick (b == 34) Quote _ b (one Quote 34 b is_quote) (λ _.
    pick (b == 91) BeginArray _ b (one BeginArray 91 b is_begin_array) (λ _.
    pick (b == 123) BeginObject _ b (one BeginObject 123 b is_begin_object) (λ _.
    pick (b == 93) EndArray _ b (one EndArray 93 b is_end_array) (λ _.
    pick (b == 125) EndObject _ b (one EndObject 125 b is_end_object) (λ _.
    pick (b == 44) Comma _ b (one Comma 44 b is_comma) (λ _.
    pick (b == 58) Colon _ b (one Colon 58 b is_colon) (λ _.
    pick (b == 45) Minus _ b (one Minus 45 b is_minus) (λ _.
    pick (b == 43) Plus _ b (one Plus 43 b is_plus) (λ _.
    pick (b == 46) Point _ b (one Point 46 b is_point) (λ _.
    pick (is_mark b) Mark _ b (is_exp b) (λ _.
    pick (b == 116) BeginTrue _ b (one BeginTrue 116 b is_t) (λ _.
    pick (b == 102) BeginFalse _ b (one BeginFalse 102 b is_f) (λ _.
    pick (b == 110) BeginNull Other b (one BeginNull 110 b is_n) (λ _. is_other b)))))))))))))))))

-- and back
pub digit_symbol : (b : ℕ) → is_in_range 49 57 b ≡ true → symbol_of b ≡ Digit
digit_symbol b is = let other : (b == 48) ≡ false = grind (arith, nat_tests) in rw (other, is) refl

pub space_bytes : (b : ℕ) → is_space b ≡ true → (b ≡ 32) ⊎ ((b ≡ 9) ⊎ ((b ≡ 10) ⊎ (b ≡ 13)))
space_bytes b is = grind (arith, nat_tests)

pub space_symbol : (b : ℕ) → is_space b ≡ true → symbol_of b ≡ Space
space_symbol b is = elim (space_bytes b is) [
  | inl a ↦ rw a refl
  | inr o ↦ elim o [ inl a ↦ rw a refl | inr o ↦ elim o [ inl a ↦ rw a refl | inr a ↦ rw a refl ] ]
]

pub mark_bytes : (b : ℕ) → is_mark b ≡ true → (b ≡ 101) ⊎ (b ≡ 69)
mark_bytes b is = grind (arith, nat_tests)

pub mark_symbol : (b : ℕ) → is_mark b ≡ true → symbol_of b ≡ Mark
mark_symbol b is = elim (mark_bytes b is) [ inl a ↦ rw a refl | inr a ↦ rw a refl ]

pub sign_symbol : (b : ℕ) → is_sign b ≡ true → (symbol_of b ≡ Plus) ⊎ (symbol_of b ≡ Minus)
sign_symbol b is =
    let bytes : (b ≡ 43) ⊎ (b ≡ 45) = grind (arith, nat_tests) in
    elim bytes [ inl a ↦ inl (rw a refl) | inr a ↦ inr (rw a refl) ]

pub any_digit : (b : ℕ) → IsDigit b → (b ≡ 48) ⊎ (is_in_range 49 57 b ≡ true)
any_digit b is = grind (arith, nat_tests)

pub digit_any : (b : ℕ) → is_in_range 49 57 b ≡ true → IsDigit b
digit_any b is = grind (arith, nat_tests)

-- ---- moves

-- the machine reads the text from here to its end
abbrev pub Reads : Phase → List Bracket → List ℕ → Type 0
Reads p inside text = result step final (at p inside) text ≡ Some tt

-- the same of a text after one move
abbrev pub Moves : Option State → List ℕ → Type 0
Moves next text = option_and_then final (option_and_then (λ t. run step t text) next) ≡ Some tt

pub on : (p q : Phase) (inside now : List Bracket) (b : ℕ) (text : List ℕ)
    → by_phase p inside b ≡ Some (at q now) → Reads q now text → Reads p inside (b ∷ text)
on p q inside now b text move reads =
    ap (λ o. option_and_then final (option_and_then (λ t. run step t text) o)) move ∙ reads

-- white space changes nothing
pub spaced : (p : Phase) (inside : List Bracket)
    → ((b : ℕ) → is_space b ≡ true → by_phase p inside b ≡ Some (at p inside))
    → {text rest : List ℕ} → Spaces text rest → Reads p inside rest → Reads p inside text
spaced p inside stays no_space reads = reads
spaced p inside stays (a_space {text = text} b is more) reads =
    on p p inside inside b text (stays b is) (spaced p inside stays more reads)
