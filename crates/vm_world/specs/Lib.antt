pub mod Classes
pub mod Fields
pub mod Heap
pub mod Laws
pub mod Lists
pub mod Objects
pub mod Start
pub mod State
