-- The machine that reads names reads what the grammar says, and nothing else.
use Rattle.std.specs.Prelude.{◌≡◌, ℕ, Bool, true, false, List, [], ◌∷◌, ◌++◌, Some, codes}
use Rattle.std.proofs.Common.{refl, ap, sym, subst, ◌∙◌, append-nil, append_assoc}
use Rattle.mql_lists.specs.Words.{Word}
use Rattle.mql_lists.specs.Grammar.{IsA, IsLabel, Names, no_names, last_name, next_name}
use Rattle.mql_lists.specs.Laws.{GoesOn, NamesAreRead}
use Rattle.mql_lists.specs.Machines.{word_role, names_at, names_start, names_step}
use Rattle.mql_lists.specs.Progress.{behind_step, leads}
use Rattle.mql_lists.specs.declared.class.Class.TheVariants.{Comma, CloseRound}
use Rattle.mql_lists.specs.declared.names.NamesReader.{NamesReader}
use Rattle.mql_lists.specs.declared.role.Role.{Role}
use Rattle.mql_lists.specs.declared.role.Role.TheVariants.{Free, Either, Reserved, Next, EndRound}
use Rattle.mql_lists.proofs.RoleLaws.{role_next, role_round, label_role, label_says, next_says, round_says, answer, same_parts, mark_at, round_mark}

abbrev reader : Bool → List (List ℕ) → NamesReader
reader wanted names = record { names = names; wanted = wanted }

-- ---- what the grammar says is read

read : (before : List (List ℕ)) {text rest : List Word} {names : List (List ℕ)}
    → Names text rest names
    → leads names_step (reader true before) text ≡ Some (before ++ names, rest)
read before (no_names {rest = rest} close is) =
    rw (role_round close is) (ap (λ v. Some (v, rest)) (sym (append-nil before)))
read before (last_name {rest = rest} name close label is) =
    rw (label_role name label, role_round close is) refl
read before (next_name {text = text} {rest = rest} {names = names} name comma label is more) =
    rw (label_role name label, role_next comma is)
    (read (before ++ name.text ∷ []) more
    ∙ ap (λ v. Some (v, rest)) (append_assoc before (name.text ∷ []) names))

-- ---- what is read the grammar says

-- what may stand after a name
data BehindName : List Word → List Word → List (List ℕ) → Type 0 where
  closed : {rest : List Word} (close : Word) → IsA CloseRound close
      → BehindName (close ∷ rest) rest []
  parted : {text rest : List Word} {names : List (List ℕ)} (comma : Word) → IsA Comma comma
      → Names text rest names
      → BehindName (comma ∷ text) rest names

with_name : {text rest : List Word} {names : List (List ℕ)} (name : Word) → IsLabel name
    → BehindName text rest names
    → Names (name ∷ text) rest (name.text ∷ names)
with_name name label (closed close is) = last_name name close label is
with_name name label (parted comma is more) = next_name name comma label is more

abbrev Tail : Bool → List Word → List Word → List (List ℕ) → Type 0
Tail true text rest names = Names text rest names
Tail false text rest names = BehindName text rest names

record Found (wanted : Bool) (before : List (List ℕ)) (text rest : List Word)
    (all : List (List ℕ)) : Type 0 where
  names : List (List ℕ)
  parts : all ≡ before ++ names
  are : Tail wanted text rest names

found_label : (before all : List (List ℕ)) (w : Word) (more rest : List Word) → IsLabel w
    → Found false (before ++ w.text ∷ []) more rest all → Found true before (w ∷ more) rest all
found_label before all w more rest label behind = record {
  names = w.text ∷ behind.names;
  parts = behind.parts ∙ append_assoc before (w.text ∷ []) behind.names;
  are = with_name w label behind.are;
}

found_end : (wanted : Bool) (before all : List (List ℕ)) (w : Word) (more rest : List Word)
    → ((front : List Word) → Tail wanted (w ∷ front) front [])
    → answer before more ≡ answer all rest
    → Found wanted before (w ∷ more) rest all
found_end wanted before all w more rest tail is =
    let same = same_parts before all more rest is in
    record {
      names = [];
      parts = sym same.0 ∙ sym (append-nil before);
      are = subst (λ r. Tail wanted (w ∷ more) r []) same.1 (tail more);
    }

from_wanted : (before all : List (List ℕ)) (w : Word) (more rest : List Word) (r : Role)
    → word_role w ≡ r
    → ((names : List (List ℕ)) → leads names_step (reader false names) more ≡ Some (all, rest)
    → Found false names more rest all)
    → behind_step (names_at true before w.text r) (λ next. leads names_step next more) more
    ≡ Some (all, rest)
    → Found true before (w ∷ more) rest all
from_wanted before all w more rest Free role behind is =
    found_label before all w more rest (label_says w Free role refl)
    (behind (before ++ w.text ∷ []) is)
from_wanted before all w more rest Either role behind is =
    found_label before all w more rest (label_says w Either role refl)
    (behind (before ++ w.text ∷ []) is)
from_wanted before all w more rest Reserved role behind is =
    found_label before all w more rest (label_says w Reserved role refl)
    (behind (before ++ w.text ∷ []) is)
from_wanted before all w more rest EndRound role behind is =
    found_end true before all w more rest (λ front. no_names w (round_says w role)) is
from_wanted before all w more rest _ role behind is = absurd (cc is)

from_behind : (before all : List (List ℕ)) (w : Word) (more rest : List Word) (r : Role)
    → word_role w ≡ r
    → ((names : List (List ℕ)) → leads names_step (reader true names) more ≡ Some (all, rest)
    → Found true names more rest all)
    → behind_step (names_at false before w.text r) (λ next. leads names_step next more) more
    ≡ Some (all, rest)
    → Found false before (w ∷ more) rest all
from_behind before all w more rest Next role behind is =
    let found = behind before is in
    record { names = found.names; parts = found.parts; are = parted w (next_says w role) found.are }
from_behind before all w more rest EndRound role behind is =
    found_end false before all w more rest (λ front. closed w (round_says w role)) is
from_behind before all w more rest _ role behind is = absurd (cc is)

from : (wanted : Bool) (before all : List (List ℕ)) (text rest : List Word)
    → leads names_step (reader wanted before) text ≡ Some (all, rest)
    → Found wanted before text rest all
from wanted before all [] rest is = absurd (cc is)
from true before all (w ∷ more) rest is =
    from_wanted before all w more rest (word_role w) refl (λ names. from false names all more rest)
    is
from false before all (w ∷ more) rest is =
    from_behind before all w more rest (word_role w) refl (λ names. from true names all more rest)
    is

only : (text rest : List Word) (names : List (List ℕ))
    → leads names_step names_start text ≡ Some (names, rest)
    → Names text rest names
only text rest names is =
    let found = from true [] names text rest is in
    subst (λ v. Names text rest v) (sym found.parts) found.are

-- ---- from each state something is read

ends_at : (wanted : Bool) (names : List (List ℕ)) (at : ℕ) (rest : List Word)
    → leads names_step (reader wanted names) (mark_at (codes ")") at ∷ rest) ≡ Some (names, rest)
ends_at true names at rest = rw (round_mark at) refl
ends_at false names at rest = rw (round_mark at) refl

goes_on : (wanted : Bool) (names : List (List ℕ)) (at : ℕ) (rest : List Word)
    → GoesOn names_step (reader wanted names) at rest
goes_on wanted names at rest = record {
  more = mark_at (codes ")") at ∷ [];
  value = names;
  places = (refl, tt);
  ends = ends_at wanted names at rest;
}

pub names_law : NamesAreRead
names_law = record {
  read = λ text rest names are. read [] are;
  only = only;
  viable = λ state at rest. goes_on state.wanted state.names at rest;
}
