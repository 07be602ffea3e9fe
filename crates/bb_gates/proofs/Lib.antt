pub mod ChainLemmas
pub mod DefineLemmas
pub mod FoldingLemmas
pub mod GateLemmas
pub mod GrowthLemmas
pub mod TableLemmas
pub mod TripleLemmas
pub mod ValueLemmas
