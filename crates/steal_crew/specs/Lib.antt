pub mod Numbers
pub mod Rule
pub mod Rights
pub mod Hands
pub mod Dealing
pub mod Settling
