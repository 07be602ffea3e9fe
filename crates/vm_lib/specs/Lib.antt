pub mod BuilderRows
pub mod Called
pub mod ObjectRows
pub mod Operands
pub mod PlainRows
pub mod Plans
pub mod StringRows
pub mod Values
