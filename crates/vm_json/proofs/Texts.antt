-- The machine reads JSON texts and nothing else, and stops at the first wrong place of others.
use Rattle.std.specs.Prelude.{◌≡◌, ℕ, List, [], ◌∷◌, Result, Ok, Err, Bool, true, false, Option, Some, None}
use Rattle.std.proofs.Common.{refl, ap, subst, ◌∙◌}
use Rattle.vm_base.specs.FirstWrong.{FirstWrong}
use Rattle.vm_base.specs.Run.{IsRead, reading}
use Rattle.vm_base.proofs.RunLaws.{result-reading, reading-result, FirstWrong-reading, FirstWrong-same, none_wrong, one_place}
use Rattle.vm_json.specs.Grammar.{IsJson}
use Rattle.vm_json.specs.Machine.{State, at, step, final, start, json_reading, wrong_in, wrong_place}
use Rattle.vm_json.specs.declared.nesting.Bracket.{Bracket}
use Rattle.vm_json.specs.declared.nesting.Bracket.TheVariants.{Square, Curly}
use Rattle.vm_json.specs.declared.phase.Phase.{Phase}
use Rattle.vm_json.specs.declared.phase.Phase.TheVariants.{Wanted, FirstItem, FirstKey, Key, BehindKey, Behind, InString, InNumber, InWord}
use Rattle.vm_json.specs.declared.phase.Digits.{Digits}
use Rattle.vm_json.specs.declared.phase.Digits.TheVariants.{Signed, Zero, Whole, Bare, Fraction, Marked, MarkSigned, Power}
use Rattle.vm_json.specs.declared.phase.Word.{Word}
use Rattle.vm_json.specs.declared.phase.Word.TheVariants.{T, Tr, Tru, F, Fa, Fal, Fals, N, Nu, Nul}
use Rattle.vm_json.specs.declared.string_machine.Within.{Within}
use Rattle.vm_json.specs.declared.string_machine.Within.TheVariants.{Plain, Escape, FourHex, ThreeHex, TwoHex, OneHex, OneTail, TwoTails, ThreeTails, BehindE0, BehindED, BehindF0, BehindF4}
use Rattle.vm_json.proofs.Symbols.{Reads}
use Rattle.vm_json.proofs.Accepts.{json_read}
use Rattle.vm_json.proofs.Grammars.{json_from_read}

-- ---- from each state some text goes on

closing : List Bracket → List ℕ
closing [] = []
closing (Square ∷ inside) = 93 ∷ closing inside
closing (Curly ∷ inside) = 125 ∷ closing inside

closes : (inside : List Bracket) → Reads Behind inside (closing inside)
unfolding closing
closes [] = refl
closes (Square ∷ inside) = closes inside
closes (Curly ∷ inside) = closes inside

-- `null` and what closes the brackets
abbrev ending : List Bracket → List ℕ
ending inside = 110 ∷ 117 ∷ 108 ∷ 108 ∷ closing inside

abbrev behind_quote : Bool → List Bracket → List ℕ
behind_quote true inside = 34 ∷ 58 ∷ ending inside
behind_quote false inside = 34 ∷ closing inside

string_goes : (a_key : Bool) (w : Within) (inside : List Bracket) → (more : List ℕ)
    × Reads (InString a_key w) inside more
string_goes true Plain inside = (behind_quote true inside, closes inside)
string_goes true Escape inside = (98 ∷ behind_quote true inside, closes inside)
string_goes true FourHex inside = (48 ∷ 48 ∷ 48 ∷ 48 ∷ behind_quote true inside, closes inside)
string_goes true ThreeHex inside = (48 ∷ 48 ∷ 48 ∷ behind_quote true inside, closes inside)
string_goes true TwoHex inside = (48 ∷ 48 ∷ behind_quote true inside, closes inside)
string_goes true OneHex inside = (48 ∷ behind_quote true inside, closes inside)
string_goes true OneTail inside = (0x80 ∷ behind_quote true inside, closes inside)
string_goes true TwoTails inside = (0x80 ∷ 0x80 ∷ behind_quote true inside, closes inside)
string_goes true ThreeTails inside = (0x80 ∷ 0x80 ∷ 0x80 ∷ behind_quote true inside, closes inside)
string_goes true BehindE0 inside = (0xA0 ∷ 0x80 ∷ behind_quote true inside, closes inside)
string_goes true BehindED inside = (0x80 ∷ 0x80 ∷ behind_quote true inside, closes inside)
string_goes true BehindF0 inside = (0x90 ∷ 0x80 ∷ 0x80 ∷ behind_quote true inside, closes inside)
string_goes true BehindF4 inside = (0x80 ∷ 0x80 ∷ 0x80 ∷ behind_quote true inside, closes inside)
string_goes false Plain inside = (behind_quote false inside, closes inside)
string_goes false Escape inside = (98 ∷ behind_quote false inside, closes inside)
string_goes false FourHex inside = (48 ∷ 48 ∷ 48 ∷ 48 ∷ behind_quote false inside, closes inside)
string_goes false ThreeHex inside = (48 ∷ 48 ∷ 48 ∷ behind_quote false inside, closes inside)
string_goes false TwoHex inside = (48 ∷ 48 ∷ behind_quote false inside, closes inside)
string_goes false OneHex inside = (48 ∷ behind_quote false inside, closes inside)
string_goes false OneTail inside = (0x80 ∷ behind_quote false inside, closes inside)
string_goes false TwoTails inside = (0x80 ∷ 0x80 ∷ behind_quote false inside, closes inside)
string_goes false ThreeTails inside =
    (0x80 ∷ 0x80 ∷ 0x80 ∷ behind_quote false inside, closes inside)
string_goes false BehindE0 inside = (0xA0 ∷ 0x80 ∷ behind_quote false inside, closes inside)
string_goes false BehindED inside = (0x80 ∷ 0x80 ∷ behind_quote false inside, closes inside)
string_goes false BehindF0 inside = (0x90 ∷ 0x80 ∷ 0x80 ∷ behind_quote false inside, closes inside)
string_goes false BehindF4 inside = (0x80 ∷ 0x80 ∷ 0x80 ∷ behind_quote false inside, closes inside)

number_goes : (d : Digits) (inside : List Bracket) → (more : List ℕ)
    × Reads (InNumber d) inside more
number_goes Zero inside = (32 ∷ closing inside, closes inside)
number_goes Whole inside = (32 ∷ closing inside, closes inside)
number_goes Fraction inside = (32 ∷ closing inside, closes inside)
number_goes Power inside = (32 ∷ closing inside, closes inside)
number_goes Signed inside = (48 ∷ 32 ∷ closing inside, closes inside)
number_goes Bare inside = (48 ∷ 32 ∷ closing inside, closes inside)
number_goes Marked inside = (48 ∷ 32 ∷ closing inside, closes inside)
number_goes MarkSigned inside = (48 ∷ 32 ∷ closing inside, closes inside)

word_goes : (w : Word) (inside : List Bracket) → (more : List ℕ) × Reads (InWord w) inside more
word_goes T inside = (114 ∷ 117 ∷ 101 ∷ closing inside, closes inside)
word_goes Tr inside = (117 ∷ 101 ∷ closing inside, closes inside)
word_goes Tru inside = (101 ∷ closing inside, closes inside)
word_goes F inside = (97 ∷ 108 ∷ 115 ∷ 101 ∷ closing inside, closes inside)
word_goes Fa inside = (108 ∷ 115 ∷ 101 ∷ closing inside, closes inside)
word_goes Fal inside = (115 ∷ 101 ∷ closing inside, closes inside)
word_goes Fals inside = (101 ∷ closing inside, closes inside)
word_goes N inside = (117 ∷ 108 ∷ 108 ∷ closing inside, closes inside)
word_goes Nu inside = (108 ∷ 108 ∷ closing inside, closes inside)
word_goes Nul inside = (108 ∷ closing inside, closes inside)

goes : (p : Phase) (inside : List Bracket) → (more : List ℕ) × Reads p inside more
goes Wanted inside = (ending inside, closes inside)
goes FirstItem inside = (ending inside, closes inside)
goes FirstKey inside = (34 ∷ behind_quote true inside, closes inside)
goes Key inside = (34 ∷ behind_quote true inside, closes inside)
goes BehindKey inside = (58 ∷ ending inside, closes inside)
goes Behind inside = (closing inside, closes inside)
goes (InString a_key w) inside = string_goes a_key w inside
goes (InNumber d) inside = number_goes d inside
goes (InWord w) inside = word_goes w inside

viable : (s : State) → (more : List ℕ) × IsRead step final s more
viable s = let g = goes s.phase s.inside in (g.0, (tt, g.1))

-- ---- what a reading says

pub json_from_reading : (text : List ℕ) → json_reading text ≡ Ok tt → IsJson text
unfolding json_reading
json_from_reading text reads = json_from_read text (result-reading step final start text tt reads)

pub reading_from_json : (text : List ℕ) → IsJson text → json_reading text ≡ Ok tt
unfolding json_reading
reading_from_json text is = reading-result step final start text tt (json_read text is.0 is.1)

wrong_reading : (text : List ℕ) (at : ℕ) → reading step final start text ≡ Err at
    → FirstWrong IsJson text at
wrong_reading text at reads =
    FirstWrong-same (λ t is. json_from_read t is.1) (λ t is. (tt, json_read t is.0 is.1)) text at
    (FirstWrong-reading step final viable start text at reads)

pub json_wrong : (text : List ℕ) (at : ℕ) → json_reading text ≡ Err at → FirstWrong IsJson text at
unfolding json_reading
json_wrong text at reads = wrong_reading text at reads

-- the place where a text is not JSON, and none where it is
pub json_there : (text : List ℕ) → wrong_place text ≡ None → IsJson text
unfolding wrong_place
json_there text none = go (json_reading text) refl none
  where
    go : (r : Result (Unit {0}) ℕ) → json_reading text ≡ r → wrong_in r ≡ None → IsJson text
    go (Ok whole) is none = json_from_reading text is
    go (Err at) is none = absurd (cc none)

pub place_there : (text : List ℕ) (at : ℕ) → wrong_place text ≡ Some at → FirstWrong IsJson text at
unfolding wrong_place
place_there text at some = go (json_reading text) refl some
  where
    go : (r : Result (Unit {0}) ℕ) → json_reading text ≡ r → wrong_in r ≡ Some at
        → FirstWrong IsJson text at
    go (Ok whole) is some = absurd (cc some)
    go (Err n) is some = let same : n ≡ at =
        cc in subst (FirstWrong IsJson text) same (json_wrong text n is)

-- and back
pub none_there : (text : List ℕ) → IsJson text → wrong_place text ≡ None
unfolding wrong_place
none_there text is = rw (reading_from_json text is) refl

pub some_there : (text : List ℕ) (at : ℕ) → FirstWrong IsJson text at → wrong_place text ≡ Some at
some_there text at first = go (wrong_place text) refl
  where
    go : (o : Option ℕ) → wrong_place text ≡ o → wrong_place text ≡ Some at
    go None is = absurd (none_wrong IsJson text at (json_there text is) first)
    go (Some n) is = is ∙ ap Some (one_place IsJson text n at (place_there text n is) first)
