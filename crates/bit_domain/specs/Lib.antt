pub mod Bits
pub mod Mixes
