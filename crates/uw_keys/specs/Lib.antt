pub mod Calls
pub mod Intervals
pub mod Keys
pub mod Laws
pub mod Next
pub mod Order
