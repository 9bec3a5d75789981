pub mod LongLaws
pub mod TextLaws
pub mod TurnLaws
