pub mod Told
pub mod Sharings
