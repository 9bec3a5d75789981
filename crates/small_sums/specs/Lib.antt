pub mod Short
pub mod Slight
