pub mod Calls
pub mod Command
pub mod CommandLine
pub mod Laws
