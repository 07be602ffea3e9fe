pub mod TextLemmas
pub mod FitLemmas
pub mod WrittenLemmas
