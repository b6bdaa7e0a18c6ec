-- Why patterns that are built one after the other fail.
use Rattle.std.proofs.Common.{◌≡◌, ℕ, suc, ◌+◌, ◌<◌, ◌≤◌, List, [], ◌∷◌, ◌++◌, length, take, drop, get_or}
use Rattle.std.proofs.Common.{Result, Ok, Err, IsErrAnd}
use Rattle.std.proofs.Common.{sym, subst, ap, ◌∙◌, arith, append_assoc, append-nil}
use Rattle.std.proofs.Math.Seq.{drop-cons}
use Rattle.std.proofs.lemmas.Grind.{flat_map-append}
use Rattle.std.proofs.lemmas.List.{take-append-drop, take_more}
use Rattle.std.proofs.lemmas.List.Elements.{All-append, All-nil}
use Rattle.std.specs.List.{All, flat_map}
use Rattle.vm_match.specs.Built.{IsReached, IsCause, Answers}
use Rattle.vm_match.specs.declared.fault.MatchFault.{MatchFault}
use Rattle.vm_match.specs.declared.fault.MatchFault.TheVariants.{BadPattern, PatternRefused, Memory}

-- a text is reached where it is the only one
pub is_reached : (IsPattern : List ℕ → Type 0) (text copy : List ℕ) → copy ≡ text
    → IsReached IsPattern (text ∷ []) copy
is_reached IsPattern text copy e = ([], [], ap (λ t. t ∷ []) (sym e), All-nil IsPattern)

pub is_bad : (IsPattern : List ℕ → Type 0) (text copy given : List ℕ) → copy ≡ text → given ≡ text
    → (IsPattern given → ⊥) → IsReached IsPattern (text ∷ []) copy × (IsPattern copy → ⊥)
is_bad IsPattern text copy given e f isnt =
    (is_reached IsPattern text copy e, λ p. isnt (subst IsPattern (e ∙ sym f) p))

-- a text that is reached stays so with more texts after it, or patterns before it
pub reached_within : (IsPattern : List ℕ → Type 0) (xs ys zs : List (List ℕ)) (text : List ℕ)
    → All IsPattern xs → IsReached IsPattern ys text → IsReached IsPattern (xs ++ (ys ++ zs)) text
reached_within IsPattern xs ys zs text good (before, after, e, all) = (
  xs ++ before,
  after ++ zs,
  ap (λ t. xs ++ (t ++ zs)) e ∙ ap (λ t. xs ++ t) (append_assoc before (text ∷ after) zs)
      ∙ sym (append_assoc xs before (text ∷ (after ++ zs))),
  All-append IsPattern xs before good all,
)

-- and a cause stays one
pub cause_within :
    (IsPattern : List ℕ → Type 0) (xs ys zs : List (List ℕ)) (a b c : ℕ) (fault : MatchFault)
    → All IsPattern xs → a ≤ b → IsCause IsPattern ys b c fault
    → IsCause IsPattern (xs ++ (ys ++ zs)) a c fault
cause_within IsPattern xs ys zs a b c (BadPattern text) good le (reached, isnt) =
    (reached_within IsPattern xs ys zs text good reached, isnt)
cause_within IsPattern xs ys zs a b c (PatternRefused text) good le (reached, rose) =
    (reached_within IsPattern xs ys zs text good reached, omega (arith, rose))
cause_within IsPattern xs ys zs a b c Memory good le cause = tt

-- What is made of a list's items, parted at one of them. `d` is what would be past the list's end.
pub parted : {X : Type 0} (f : X → List (List ℕ)) (xs : List X) (i : ℕ) (x d : X)
    → i < length xs → x ≡ get_or xs i d
    → flat_map f xs ≡ flat_map f (take i xs) ++ (f x ++ flat_map f (drop (suc i) xs))
parted f xs i x d within is =
    ap (flat_map f)
    (sym (take-append-drop i xs) ∙ ap (λ t. take i xs ++ t) (drop-cons xs i d within))
    ∙ flat_map-append f (take i xs) (get_or xs i d ∷ drop (suc i) xs)
    ∙ ap (λ y. flat_map f (take i xs) ++ (f y ++ flat_map f (drop (suc i) xs))) (sym is)

-- A cause at an item is one of the whole list, if all before it are patterns.
pub stops_at : (IsPattern : List ℕ → Type 0) {X T : Type 0} (f : X → List (List ℕ)) (xs : List X)
    (i : ℕ) (x d : X) (a b c : ℕ) (fault : MatchFault) (r : Result T MatchFault)
    → IsErrAnd r (λ e. e ≡ fault) → i < length xs → x ≡ get_or xs i d
    → All IsPattern (flat_map f (take i xs)) → a ≤ b → IsCause IsPattern (f x) b c fault
    → Answers IsPattern (flat_map f xs) a c r
stops_at IsPattern f xs i x d a b c fault (Ok t) fails within is good le cause = absurd fails
stops_at IsPattern f xs i x d a b c fault (Err e) fails within is good le cause =
    let P : List (List ℕ) → Type 0 = λ texts. IsCause IsPattern texts a c e in
    let Q : MatchFault → Type 0 = λ why. IsCause IsPattern (f x) b c why in
    subst P (sym (parted f xs i x d within is))
    (cause_within IsPattern (flat_map f (take i xs)) (f x) (flat_map f (drop (suc i) xs)) a b c e
    good le
    (subst Q (sym fails) cause))

-- one item more whose texts are patterns
pub good_more : (IsPattern : List ℕ → Type 0) {X : Type 0} (f : X → List (List ℕ)) (xs : List X)
    (i : ℕ) (x d : X) → i < length xs → x ≡ get_or xs i d
    → All IsPattern (flat_map f (take i xs)) → All IsPattern (f x)
    → All IsPattern (flat_map f (take (i + 1) xs))
good_more IsPattern f xs i x d within is good here =
    let P : List (List ℕ) → Type 0 = All IsPattern in
    let e : flat_map f (take (i + 1) xs) ≡ flat_map f (take i xs) ++ f x
    = ap (flat_map f) (take_more xs i d within) ∙ flat_map-append f (take i xs) (get_or xs i d ∷ [])
    ∙ ap (λ t. flat_map f (take i xs) ++ t) (append-nil (f (get_or xs i d)))
    ∙ ap (λ y. flat_map f (take i xs) ++ f y) (sym is) in
    subst P (sym e) (All-append IsPattern (flat_map f (take i xs)) (f x) good here)
