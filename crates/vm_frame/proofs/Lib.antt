pub mod CopyLemmas
pub mod WrapLemmas
pub mod StoreLemmas
pub mod EffectLemmas
pub mod NumberLemmas
pub mod LawLemmas
