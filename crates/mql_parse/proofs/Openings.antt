-- Where a level may be opened, and where a number and a duration are in range.
use Rattle.std.specs.Prelude.{◌≡◌, ◌<◌, ℕ, ℤ, nat_lt, Bool, true, false, List, Some, None, is_some, Ok, Err}
use Rattle.std.proofs.Common.{refl, ap, arith, ◌∙◌}
use Rattle.std.proofs.lemmas.Bool.Decides.{nat_tests}
use Rattle.mql_expr.specs.Tree.{number}
use Rattle.mql_lists.specs.Words.{Word}
use Rattle.mql_lists.specs.declared.class.Class.{Class}
use Rattle.mql_parse.specs.Grammar.{deepest}
use Rattle.mql_parse.specs.Machine.{State, at, Frame, opened, opening, only, fits, measured, primary, by_wanted}
use Rattle.mql_parse.specs.Values.{is_short, length_of, number_of, or_zero}
use Rattle.mql_parse.specs.declared.fault.Wrong.TheVariants.{TooDeep, NumberTooWide}

pub opening_there : (len here : ℕ) (fs : List Frame) (s : State) → here < len
    → nat_lt (opened fs) deepest ≡ true → opening len here fs s ≡ Ok s
opening_there len here fs s inside room =
    let yes : nat_lt here len ≡ true = grind (arith, nat_tests) in
    ap (λ i. only (fits i (nat_lt (opened fs) deepest)) TooDeep s) yes
    ∙ ap (λ t. only t TooDeep s) room

pub opening_deep : (len here : ℕ) (fs : List Frame) (s : State) → here < len
    → nat_lt (opened fs) deepest ≡ false → opening len here fs s ≡ Err TooDeep
opening_deep len here fs s inside room =
    let yes : nat_lt here len ≡ true = grind (arith, nat_tests) in
    ap (λ i. only (fits i (nat_lt (opened fs) deepest)) TooDeep s) yes
    ∙ ap (λ t. only t TooDeep s) room

pub measured_there : (len : ℕ) (w : Word) (s : State) → is_short (length_of w.text) ≡ true
    → measured len w s ≡ Ok s
measured_there len w s short = go (nat_lt w.at len)
  where
    go : (inside : Bool) → only (fits inside (is_short (length_of w.text))) NumberTooWide s ≡ Ok s
    go true = ap (λ t. only t NumberTooWide s) short
    go false = refl

pub measured_wide : (len : ℕ) (w : Word) (s : State) → w.at < len
    → is_short (length_of w.text) ≡ false → measured len w s ≡ Err NumberTooWide
measured_wide len w s inside long =
    let yes : nat_lt w.at len ≡ true = grind (arith, nat_tests) in
    ap (λ i. only (fits i (is_short (length_of w.text))) NumberTooWide s) yes
    ∙ ap (λ t. only t NumberTooWide s) long

-- a number, as an expression or out of range
pub number_there : (len : ℕ) (fs : List Frame) (w : Word) (z : ℤ) → number_of w.text ≡ Some z
    → by_wanted len fs w Class.Numeral ≡ Ok (at fs (primary (number w.at z)))
number_there len fs w z is = go (nat_lt w.at len)
  where
    test : (inside : Bool) → fits inside (is_some (number_of w.text)) ≡ true
    test true = ap is_some is
    test false = refl

    go : (inside : Bool)
        → only (fits inside (is_some (number_of w.text))) NumberTooWide
        (at fs (primary (number w.at (or_zero (number_of w.text)))))
        ≡ Ok (at fs (primary (number w.at z)))
    go inside =
        ap (λ t. only t NumberTooWide (at fs (primary (number w.at (or_zero (number_of w.text))))))
        (test inside)
        ∙ ap (λ o. Ok (at fs (primary (number w.at (or_zero o))))) is

pub number_wide : (len : ℕ) (fs : List Frame) (w : Word) → w.at < len → number_of w.text ≡ None
    → by_wanted len fs w Class.Numeral ≡ Err NumberTooWide
number_wide len fs w inside none =
    let yes : nat_lt w.at len ≡ true = grind (arith, nat_tests) in
    ap (λ i.
    only (fits i (is_some (number_of w.text))) NumberTooWide
    (at fs (primary (number w.at (or_zero (number_of w.text)))))) yes
    ∙ ap (λ o.
    only (is_some o) NumberTooWide (at fs (primary (number w.at (or_zero (number_of w.text))))))
    none
