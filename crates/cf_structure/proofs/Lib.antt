pub mod LoopLemmas
pub mod ReadLemmas
pub mod CodeLemmas
pub mod AttributeLemmas
pub mod ClassLemmas
pub mod FaultLemmas
pub mod FileLemmas
pub mod ExtraLemmas
pub mod StructureLemmas
mod StandardFacts
