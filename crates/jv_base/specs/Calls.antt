-- What private functions ensure; no public promise names any of it.
pub mod Fronts
pub mod Parts
pub mod Progress
pub mod Units
