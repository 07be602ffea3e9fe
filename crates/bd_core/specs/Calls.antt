-- What private functions ask for and ensure.
pub mod Grouped
pub mod Groups
pub mod Adds
pub mod Entry
pub mod Gives
pub mod Closes
pub mod Logs
pub mod Tells
pub mod Queues
pub mod Cores
