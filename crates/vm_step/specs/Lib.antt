pub mod Arguments
pub mod Frames
pub mod Handlers
pub mod Invocations
pub mod Laws
pub mod Returns
pub mod Throws
pub mod Words
