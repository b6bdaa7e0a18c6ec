mod BraceLaws
mod EscapeLaws
mod HandedLaws
mod LabelLaws
mod Leads
pub mod LineLaws
mod PairLaws
mod PartLaws
mod RowLaws
mod TimeLaws
mod TokenLaws
mod Utf8Laws
mod ValueLaws
mod ValuedLaws
