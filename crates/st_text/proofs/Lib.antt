pub mod OrderLemmas
mod StandardFacts
