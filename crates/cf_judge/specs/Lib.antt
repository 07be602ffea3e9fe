pub mod Forms
pub mod Texts
pub mod Indices
pub mod Words
pub mod Demands
pub mod Judged
pub mod Laws
pub mod Calls
