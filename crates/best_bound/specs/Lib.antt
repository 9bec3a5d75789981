pub mod Lists
pub mod Codes
pub mod Rule
pub mod Seats
