pub mod Turns
pub mod Nodes
pub mod Beaten
pub mod Walks
