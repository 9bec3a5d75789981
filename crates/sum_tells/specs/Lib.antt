pub mod Linear
pub mod Equality
pub mod Extended
