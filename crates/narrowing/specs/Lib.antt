pub mod Narrowing
pub mod Narrowers
