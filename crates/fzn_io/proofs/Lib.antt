pub mod MemoryLaws
pub mod StreamLaws
