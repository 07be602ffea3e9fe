pub mod ClassLemmas
pub mod RowLemmas
pub mod TableLemmas
