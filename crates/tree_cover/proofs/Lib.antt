pub mod CoverLemmas
pub mod DepthLemmas
