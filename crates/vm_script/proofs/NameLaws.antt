-- The name at the front of a text.
use Rattle.std.proofs.Common.{◌≡◌, ℕ, ◌+◌, ◌<◌, Bool, true, false, List, [], ◌∷◌, ◌++◌, length, take, get_or, arith, refl, ◌∙◌, zero, suc}
use Rattle.std.specs.Prelude.{◌&&◌, nat_lt, if◌then◌else◌}
use Rattle.std.specs.List.{list_all, list_any, prefix_len}
use Rattle.std.proofs.Math.Seq.{take-append_seam, drop-append_seam}
use Rattle.std.proofs.lemmas.Bool.Decides.{nat_tests}
use Rattle.vm_labels.specs.Name.{begins_name, is_name, is_name_byte, name_len}
use Rattle.vm_script.specs.Expression.{is_quote, front_name, behind_name, is_free_name, IsFreeName}

prefix_all : (p : ℕ → Bool) (xs ys : List ℕ) → list_all p xs ≡ true → p (get_or ys 0 0) ≡ false
    → prefix_len p (xs ++ ys) ≡ length xs
prefix_all p [] [] all stops = refl
prefix_all p [] (y ∷ ys) all stops = rw stops refl
prefix_all p (x ∷ xs) ys all stops =
    let here : p x ≡ true = grind arith in
    let more : list_all p xs ≡ true = grind arith in
    let step : prefix_len p ((x ∷ xs) ++ ys) ≡ 1 + prefix_len p (xs ++ ys) = rw here refl in
    omega (arith, step, prefix_all p xs ys more stops)

name_len-begun : (text : List ℕ) → begins_name (get_or text 0 0) ≡ true
    → name_len text ≡ prefix_len is_name_byte text
name_len-begun text begun = rw begun refl

-- a name that no name byte follows is the longest one at the front
pub name_len-append : (name behind : List ℕ) → is_name name ≡ true
    → is_name_byte (get_or behind 0 0) ≡ false → name_len (name ++ behind) ≡ length name
name_len-append [] behind named stops = grind (arith, nat_tests)
name_len-append (char ∷ more) behind named stops =
    let begins : begins_name char ≡ true = grind arith in
    let all : list_all is_name_byte (char ∷ more) ≡ true = grind arith in
    name_len-begun ((char ∷ more) ++ behind) begins
    ∙ prefix_all is_name_byte (char ∷ more) behind all stops

pub front_name-append : (name behind : List ℕ) → is_name name ≡ true
    → is_name_byte (get_or behind 0 0) ≡ false → front_name (name ++ behind) ≡ name
front_name-append name behind named stops =
    rw (name_len-append name behind named stops) (take-append_seam name behind)

pub behind_name-append : (name behind : List ℕ) → is_name name ≡ true
    → is_name_byte (get_or behind 0 0) ≡ false → behind_name (name ++ behind) ≡ behind
behind_name-append name behind named stops =
    rw (name_len-append name behind named stops) (drop-append_seam name behind)

-- a name isn't empty
pub name_some : (name : List ℕ) → is_name name ≡ true → 0 < length name
name_some [] named = grind (arith, nat_tests)
name_some (char ∷ more) named = omega arith

pub free_from : (name : List ℕ) → IsFreeName name → is_free_name name ≡ true
free_from name h =
    let some : nat_lt 0 (length name) ≡ true = grind (arith, nat_tests, name_some name h.is_name) in
    rw (some, h.free) refl

one_more : (count : ℕ) → 1 + count ≡ suc count
one_more count = omega arith

prefix_passes : (p : ℕ → Bool) (xs : List ℕ) → list_all p (take (prefix_len p xs) xs) ≡ true
prefix_passes p [] = refl
prefix_passes p (x ∷ xs) =
    elim (p x) as (λ b. p x ≡ b → list_all p (take (prefix_len p (x ∷ xs)) (x ∷ xs)) ≡ true) [
      | true ↦ λ is. rw (is, one_more (prefix_len p xs), is) (prefix_passes p xs)
      | false ↦ λ is. rw is refl
    ] refl

first_kept : (n : ℕ) (text : List ℕ) → 0 < length (take n text)
    → get_or (take n text) 0 0 ≡ get_or text 0 0
first_kept zero text some = absurd (omega arith)
first_kept (suc n) [] some = refl
first_kept (suc n) (char ∷ more) some = refl

-- of a text that begins as a name does, or has nothing at its front
front_passes : (begins passes : ℕ → Bool) (text : List ℕ)
    → 0 < length (take (if begins (get_or text 0 0) then prefix_len passes text else 0) text)
    → (begins
    (get_or (take (if begins (get_or text 0 0) then prefix_len passes text else 0) text) 0 0)
    && list_all passes (take (if begins (get_or text 0 0) then prefix_len passes text else 0) text))
    ≡ true
front_passes begins passes text =
    elim (begins (get_or text 0 0)) as (λ b. begins (get_or text 0 0) ≡ b
    → 0 < length (take (if b then prefix_len passes text else 0) text)
    → (begins (get_or (take (if b then prefix_len passes text else 0) text) 0 0)
    && list_all passes (take (if b then prefix_len passes text else 0) text)) ≡ true) [
      | true ↦
          λ is some.
          rw (first_kept (prefix_len passes text) text some, is, prefix_passes passes text) refl
      | false ↦ λ is some. absurd (omega arith)
    ] refl

-- what stands at the front is a name, where it isn't empty
pub front_is_name : (text : List ℕ) → 0 < length (front_name text)
    → is_name (front_name text) ≡ true
front_is_name text = front_passes begins_name is_name_byte text

name_byte_no_quote : (char : ℕ) → is_name_byte char ≡ true → is_quote char ≡ false
name_byte_no_quote char is = grind (arith, nat_tests)

all_no_quote : (name : List ℕ) → list_all is_name_byte name ≡ true → list_any is_quote name ≡ false
all_no_quote [] all = refl
all_no_quote (char ∷ more) all =
    let here : is_name_byte char ≡ true = grind arith in
    let later : list_all is_name_byte more ≡ true = grind arith in
    rw (name_byte_no_quote char here, all_no_quote more later) refl

-- no quote stands in a name
pub name_no_quote : (name : List ℕ) → is_name name ≡ true → list_any is_quote name ≡ false
name_no_quote name named = all_no_quote name (grind arith)
