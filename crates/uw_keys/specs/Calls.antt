pub mod Backward
pub mod Phases
