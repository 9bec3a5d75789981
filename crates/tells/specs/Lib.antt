pub mod Words
pub mod Hearing
pub mod Laws
