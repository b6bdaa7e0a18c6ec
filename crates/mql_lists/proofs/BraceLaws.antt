-- The machine that reads braces reads what the grammar says, and nothing else.
use Rattle.std.specs.Prelude.{ℕ, true, List, [], ◌∷◌, ◌++◌, codes}
use Rattle.std.proofs.Common.{refl}
use Rattle.mql_expr.specs.declared.item.Item.{Item}
use Rattle.vm_labels.specs.declared.selector.FilterOp.TheVariants.{Equal}
use Rattle.mql_lists.specs.Words.{Word}
use Rattle.mql_lists.specs.Laws.{GoesOn, BracesAreRead}
use Rattle.mql_lists.specs.Machines.{braces_step, filter_item, named_item}
use Rattle.mql_lists.specs.Values.{value_of}
use Rattle.mql_lists.specs.declared.braces.Gathered.{Gathered}
use Rattle.mql_lists.specs.declared.braces.Place.{Place}
use Rattle.mql_lists.specs.declared.braces.Place.TheVariants.{First, Wanted, AtName, AtSign, BehindItem, AfterComma, AfterOr}
use Rattle.mql_lists.proofs.RoleLaws.{mark_at, name_at, string_at, curly_mark, equals_mark, string_word, name_word}
use Rattle.mql_lists.proofs.BraceGrammars.{braces_only}
use Rattle.mql_lists.proofs.BraceReads.{braces_read, reader}

abbrev close_at : ℕ → Word
close_at at = mark_at (codes "}") at

-- `= "" }`
abbrev rest_of_filter : ℕ → List Word
rest_of_filter at = mark_at (codes "=") at ∷ string_at at ∷ close_at at ∷ []

abbrev with_empty : Gathered → List ℕ → List (List Item)
with_empty found name =
    found.lists
    ++ (found.items
    ++ filter_item (record { name = name; op = Equal }) (value_of (codes "\"\"")) ∷ []) ∷ []

goes_on : (place : Place) (found : Gathered) (at : ℕ) (rest : List Word)
    → GoesOn braces_step (reader found place) at rest
goes_on First found at rest = record {
  more = close_at at ∷ [];
  value = found.lists ++ found.items ∷ [];
  places = (refl, tt);
  ends = rw (curly_mark at) refl;
}
goes_on BehindItem found at rest = record {
  more = close_at at ∷ [];
  value = found.lists ++ found.items ∷ [];
  places = (refl, tt);
  ends = rw (curly_mark at) refl;
}
goes_on AfterComma found at rest = record {
  more = close_at at ∷ [];
  value = found.lists ++ found.items ∷ [];
  places = (refl, tt);
  ends = rw (curly_mark at) refl;
}
goes_on Wanted found at rest = record {
  more = name_at at ∷ close_at at ∷ [];
  value = found.lists
      ++ (found.items ++ named_item (record { at = at; name = codes "a"; free = true }) ∷ []) ∷ [];
  places = (refl, (refl, tt));
  ends = rw (name_word at, curly_mark at) refl;
}
goes_on (AtName head) found at rest = record {
  more = rest_of_filter at;
  value = with_empty found head.name;
  places = (refl, (refl, (refl, tt)));
  ends = rw (equals_mark at, string_word at, curly_mark at) refl;
}
goes_on (AfterOr name) found at rest = record {
  more = rest_of_filter at;
  value = with_empty found name;
  places = (refl, (refl, (refl, tt)));
  ends = rw (equals_mark at, string_word at, curly_mark at) refl;
}
goes_on (AtSign begun) found at rest = record {
  more = string_at at ∷ close_at at ∷ [];
  value = found.lists ++ (found.items ++ filter_item begun (value_of (codes "\"\"")) ∷ []) ∷ [];
  places = (refl, (refl, tt));
  ends = rw (string_word at, curly_mark at) refl;
}

pub braces_law : BracesAreRead
braces_law = record {
  read = braces_read;
  only = braces_only;
  viable = λ state at rest. goes_on state.place state.found at rest;
}
