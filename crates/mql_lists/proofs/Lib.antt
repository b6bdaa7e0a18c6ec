mod BraceGrammars
pub mod BraceLaws
mod BraceReads
pub mod NameLaws
pub mod ParamLaws
pub mod RoleLaws
mod TextLaws
