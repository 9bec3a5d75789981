pub mod CountingLemmas
pub mod ViewLaws
pub mod Moves
