pub mod Faults
pub mod Folder
pub mod Limit
pub mod MemFolder
pub mod MemSink
pub mod Sink
pub mod SureFolder
