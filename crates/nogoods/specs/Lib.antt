pub mod Nogoods
pub mod Laws
pub mod Bearings
pub mod Learnings
pub mod Learners
