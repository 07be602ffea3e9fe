-- What private functions ensure, a file for each module.
pub mod Analyze
pub mod Propagate
pub mod Start
