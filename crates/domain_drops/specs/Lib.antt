pub mod Hearing
pub mod Removals
pub mod Drops
pub mod Closed
