pub mod Narrowing
pub mod Shapes
pub mod Settled
pub mod Rests
pub mod Sides
pub mod Open
pub mod Sole
pub mod Found
