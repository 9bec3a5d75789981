pub mod Times
pub mod Absolute
pub mod Division
pub mod Remainder
pub mod Products
