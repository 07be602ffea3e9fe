pub mod ChangeLemmas
pub mod FieldLemmas
mod StandardFacts
