pub mod NameLemmas
pub mod DescriptorLemmas
pub mod OpcodeLemmas
pub mod FactLemmas
