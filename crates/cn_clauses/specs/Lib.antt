pub mod Clauses
pub mod Extension
pub mod Formulas
pub mod Laws
pub mod Literals
pub mod Propagation
pub mod Satisfaction
