pub mod Asked
pub mod Tests
pub mod Decided
