pub mod Calls
pub mod Faults
pub mod MemSources
pub mod Memory
pub mod Streams
