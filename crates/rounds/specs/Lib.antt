pub mod Shares
pub mod Steps
pub mod Lanes
pub mod Ends
pub mod Flat
pub mod Engines
pub mod Propagations
pub mod Even
