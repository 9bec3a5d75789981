pub mod BoxLaws
pub mod HalfLaws
pub mod KeyLaws
pub mod LeastLaws
pub mod StepLaws
