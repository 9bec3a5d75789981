pub mod Bytes
pub mod Spelling
pub mod Lexing
pub mod Machine
