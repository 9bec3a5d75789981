pub mod Filling
pub mod Items
mod Made
mod Tickets
mod HandLaws
mod Hired
mod InTurn
