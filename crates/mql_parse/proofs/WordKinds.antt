-- The kinds of the words of some classes.
use Rattle.std.specs.Prelude.{◌≡◌}
use Rattle.std.proofs.Common.{refl, ap}
use Rattle.mql_lex.specs.declared.token.TokenKind.TheVariants.{Name, Str}
use Rattle.mql_lists.specs.Classes.{class_of_word}
use Rattle.mql_lists.specs.Machines.{is_label, word_role}
use Rattle.mql_lists.specs.Words.{Word}
use Rattle.mql_lists.specs.declared.class.Class.{Class}
use Rattle.mql_lists.proofs.RoleLaws.{label_says, role_free, role_value, value_kind}

pub identifier_kind : (w : Word) → class_of_word w ≡ Class.Identifier → w.kind ≡ Name
identifier_kind w is = label_says w (word_role w) refl (ap is_label (role_free w is))

pub quoted_kind : (w : Word) → class_of_word w ≡ Class.Quoted → w.kind ≡ Str
quoted_kind w is = value_kind w (role_value w is)
