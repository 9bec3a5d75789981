mod Examples
pub mod Twos
