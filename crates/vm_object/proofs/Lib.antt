pub mod EffectLemmas
pub mod StoreLemmas
pub mod LawLemmas
pub mod ChangeLemmas
mod StandardFacts
