pub mod UnitLemmas
pub mod UnitListLemmas
pub mod NumberLemmas
pub mod EntryTextLemmas
pub mod ReadingLemmas
pub mod PoolReadingLemmas
pub mod EntryLemmas
pub mod EntryFaultLemmas
pub mod PoolLemmas
pub mod UnitDecisionLemmas
pub mod EntryDecisionLemmas
pub mod PoolDecisionLemmas
mod StandardFacts
