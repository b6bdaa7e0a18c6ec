-- The machines that read names, parameters and braces. What they read is what `specs/Grammar.antt`
-- says: that is proved.
use Rattle.std.specs.Prelude.{ℕ, Bool, true, false, List, [], ◌∷◌, ◌++◌, Option, Some, None, if◌then◌else◌}
use Rattle.mql_lex.specs.declared.operator.Op.{Op}
use Rattle.mql_lex.specs.declared.operator.Op.TheVariants.{Default, If, IfNot, Or, And, Unless, Differs}
use Rattle.mql_expr.specs.declared.item.Item.{Item}
use Rattle.mql_expr.specs.declared.item.Item.TheVariants.{Is, Named}
use Rattle.mql_expr.specs.declared.expr.Param.{Param}
use Rattle.vm_labels.specs.declared.selector.FilterOp.TheVariants.{Equal, Differs as DiffersFrom, Matches, MatchesNot}
use Rattle.mql_lists.specs.Words.{Word}
use Rattle.mql_lists.specs.Classes.{class_of_word}
use Rattle.mql_lists.specs.Grammar.{param}
use Rattle.mql_lists.specs.Values.{value_of}
use Rattle.mql_lists.specs.declared.class.Class.{Class}
use Rattle.mql_lists.specs.declared.class.Class.TheVariants.{Identifier, Quoted, Operator, Assign, Like, Unlike, Comma, CloseRound, CloseCurly, Grouping, Pairing, Joining, Truth, Offset, With, Keep}
use Rattle.mql_lists.specs.declared.progress.Progress.{Progress}
use Rattle.mql_lists.specs.declared.progress.Progress.TheVariants.{Goes, Done}
use Rattle.mql_lists.specs.declared.role.Role.{Role}
use Rattle.mql_lists.specs.declared.role.Role.TheVariants.{Free, Either, Reserved, Compare, Value, Next, EndRound, EndCurly, Other}
use Rattle.mql_lists.specs.declared.names.NamesReader.{NamesReader}
use Rattle.mql_lists.specs.declared.params.ParamsReader.{ParamsReader}
use Rattle.mql_lists.specs.declared.params.Spot.{Spot}
use Rattle.mql_lists.specs.declared.params.Spot.TheVariants.{Opened, BehindName, BehindComma}
use Rattle.mql_lists.specs.declared.braces.BracesReader.{BracesReader}
use Rattle.mql_lists.specs.declared.braces.Begun.{Begun}
use Rattle.mql_lists.specs.declared.braces.Gathered.{Gathered}
use Rattle.mql_lists.specs.declared.braces.Heading.{Heading}
use Rattle.mql_lists.specs.declared.braces.Place.{Place}
use Rattle.mql_lists.specs.declared.braces.Place.TheVariants.{First, Wanted, AtName, AtSign, BehindItem, AfterComma, AfterOr}

-- ---- what a word is to the machines

-- what an operator is to the machines
abbrev pub role_of_operator : Op → Role
role_of_operator Or = Either
role_of_operator Differs = Compare DiffersFrom
role_of_operator Default = Reserved
role_of_operator If = Reserved
role_of_operator IfNot = Reserved
role_of_operator And = Reserved
role_of_operator Unless = Reserved
role_of_operator _ = Other

-- what a class is to the machines
abbrev pub role_of : Class → Role
role_of Identifier = Free
role_of Quoted = Value
role_of (Operator op) = role_of_operator op
role_of Assign = Compare Equal
role_of Like = Compare Matches
role_of Unlike = Compare MatchesNot
role_of Comma = Next
role_of CloseRound = EndRound
role_of CloseCurly = EndCurly
role_of (Grouping by) = Reserved
role_of (Pairing kind) = Reserved
role_of (Joining many) = Reserved
role_of Truth = Reserved
role_of Offset = Reserved
role_of With = Reserved
role_of Keep = Reserved
role_of _ = Other

-- what a word is to the machines
unfoldable pub word_role : Word → Role
word_role word = role_of (class_of_word word)

-- a name, also a reserved word
abbrev pub is_label : Role → Bool
is_label Free = true
is_label Either = true
is_label Reserved = true
is_label _ = false

-- a name that is no reserved word
abbrev pub is_free : Role → Bool
is_free Free = true
is_free _ = false

-- ---- names

-- more words are to be read; `wanted` says whether a name may come next
abbrev pub names_go : List (List ℕ) → Bool → Option (Progress NamesReader (List (List ℕ)))
names_go names wanted = Some (Goes (record { names = names; wanted = wanted }))

-- the names, where `)` comes next
abbrev pub ended_names : List (List ℕ) → Role → Option (Progress NamesReader (List (List ℕ)))
ended_names names EndRound = Some (Done names)
ended_names names _ = None

-- where a name may come next, and after a name
abbrev pub names_at : Bool → List (List ℕ) → List ℕ → Role
    → Option (Progress NamesReader (List (List ℕ)))
names_at true names text role =
    if is_label role then names_go (names ++ text ∷ []) false else ended_names names role
names_at false names text Next = names_go names true
names_at false names text role = ended_names names role

-- after `(`
abbrev pub names_start : NamesReader
names_start = record { names = []; wanted = true }

-- one more word
abbrev pub names_step : NamesReader → Word → Option (Progress NamesReader (List (List ℕ)))
names_step state word = names_at state.wanted state.names word.text (word_role word)

-- ---- parameters

-- more words are to be read, after this spot
abbrev pub params_go : List Param → Spot → Option (Progress ParamsReader (List Param))
params_go params spot = Some (Goes (record { params = params; spot = spot }))

-- what a word leads to, which is `new` where it is a parameter
abbrev pub params_at : Spot → List Param → Param → Role
    → Option (Progress ParamsReader (List Param))
params_at Opened params new Free = params_go (params ++ new ∷ []) BehindName
params_at Opened params new EndRound = Some (Done params)
params_at BehindComma params new Free = params_go (params ++ new ∷ []) BehindName
params_at BehindName params new Next = params_go params BehindComma
params_at BehindName params new EndRound = Some (Done params)
params_at _ params new _ = None

-- after `(`
abbrev pub params_start : ParamsReader
params_start = record { params = []; spot = Opened }

-- one more word
abbrev pub params_step : ParamsReader → Word → Option (Progress ParamsReader (List Param))
params_step state word = params_at state.spot state.params (param word) (word_role word)

-- ---- braces

-- what a word leads to, none where no braces go on with it
abbrev pub Turn : Type 0
Turn = Option (Progress BracesReader (List (List Item)))

-- more words are to be read, after this place
abbrev pub goes : Gathered → Place → Turn
goes found place = Some (Goes (record { found = found; place = place }))

-- the last list ends, and with it all
abbrev pub done : Gathered → Turn
done found = Some (Done (found.lists ++ found.items ∷ []))

-- one more item of the last list
abbrev pub with_item : Gathered → Item → Gathered
with_item found item = record { lists = found.lists; items = found.items ++ item ∷ [] }

-- the list ends, and another begins
abbrev pub with_list : Gathered → Gathered
with_list found = record { lists = found.lists ++ found.items ∷ []; items = [] }

-- a bare name as an item
abbrev pub named_item : Heading → Item
named_item head = Named head.at head.name

-- a filter with its value as an item
abbrev pub filter_item : Begun → List ℕ → Item
filter_item begun value = Is (record { name = begun.name; op = begun.op; value = value })

-- a name at the beginning of an item
abbrev pub begins_item : Gathered → Word → Role → Turn
begins_item found word role =
    if is_label role
    then goes found (AtName (record { at = word.at; name = word.text; free = is_free role }))
    else None

-- after `{`
abbrev pub at_first : Gathered → Word → Role → Turn
at_first found word EndCurly = done found
at_first found word role = begins_item found word role

-- after an item
abbrev pub behind_item : Gathered → Role → Turn
behind_item found Next = goes found AfterComma
behind_item found Either = goes (with_list found) Wanted
behind_item found EndCurly = done found
behind_item found _ = None

-- after a name, which is an item where it is no reserved word
abbrev pub behind_name : Gathered → Heading → Role → Turn
behind_name found head (Compare op) = goes found (AtSign (record { name = head.name; op = op }))
behind_name found head role =
    if head.free then behind_item (with_item found (named_item head)) role else None

-- after the operator of a filter
abbrev pub behind_sign : Gathered → Begun → Word → Role → Turn
behind_sign found begun word Value =
    goes (with_item found (filter_item begun (value_of word.text))) BehindItem
behind_sign found begun word _ = None

-- after a comma, where `or` may be a name or part two lists
abbrev pub after_comma : Gathered → Word → Role → Turn
after_comma found word Either = goes found (AfterOr word.text)
after_comma found word EndCurly = done found
after_comma found word role = begins_item found word role

-- after this `or`
abbrev pub after_or : Gathered → List ℕ → Word → Role → Turn
after_or found name word (Compare op) = goes found (AtSign (record { name = name; op = op }))
after_or found name word role = begins_item (with_list found) word role

-- one more word after a place
abbrev pub braces_at : Place → Gathered → Word → Role → Turn
braces_at First found word role = at_first found word role
braces_at Wanted found word role = begins_item found word role
braces_at (AtName head) found word role = behind_name found head role
braces_at (AtSign begun) found word role = behind_sign found begun word role
braces_at BehindItem found word role = behind_item found role
braces_at AfterComma found word role = after_comma found word role
braces_at (AfterOr name) found word role = after_or found name word role

-- after `{`
abbrev pub braces_start : BracesReader
braces_start = record { found = record { lists = []; items = [] }; place = First }

-- one more word
abbrev pub braces_step : BracesReader → Word → Turn
braces_step state word = braces_at state.place state.found word (word_role word)
