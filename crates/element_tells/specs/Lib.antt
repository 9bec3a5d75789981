pub mod Element
pub mod Hull
