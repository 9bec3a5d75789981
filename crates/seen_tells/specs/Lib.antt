pub mod Three
pub mod Few
pub mod Seen
pub mod Held
pub mod Natural
