pub mod Clause
pub mod Literals
