pub mod ExtensionLemmas
pub mod FormulaLemmas
pub mod InputLemmas
pub mod LiteralLemmas
pub mod PropagationLemmas
pub mod PushedLemmas
pub mod SatisfactionLemmas
