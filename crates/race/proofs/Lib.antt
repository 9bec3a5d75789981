pub mod FirstLaws
pub mod LeastLaws
pub mod EndLaws
