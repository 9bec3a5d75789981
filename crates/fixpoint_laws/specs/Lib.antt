pub mod Fixpoints
pub mod Changes
pub mod Rounds
pub mod Greatest
pub mod OneRound
pub mod LimitedEnds
