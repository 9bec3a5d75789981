pub mod Order
pub mod Words
pub mod Domains
pub mod Props
pub mod Rule
pub mod Steps
pub mod Standing
pub mod Seats
