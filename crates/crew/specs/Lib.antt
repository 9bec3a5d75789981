pub mod Ends
pub mod Slots
pub mod Crews
pub mod Rights
pub mod AtWork
pub mod InTurn
pub mod TicketRights
pub mod HandRights
