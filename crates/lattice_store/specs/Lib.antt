pub mod Words
pub mod Rule
pub mod Steps
pub mod Standing
pub mod Seats
