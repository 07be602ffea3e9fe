-- What private functions ensure; no public promise names any of it.
pub mod Decisions
