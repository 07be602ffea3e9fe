pub mod ArithmeticLemmas
pub mod BitLemmas
pub mod BlastLemmas
pub mod MarkLemmas
pub mod NumberLemmas
pub mod TableLemmas
pub mod TermLemmas
pub mod WordLemmas
