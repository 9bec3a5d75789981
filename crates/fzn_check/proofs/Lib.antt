pub mod FirstLaws
pub mod WithinLaws
pub mod WrongLaws
pub mod EndLaws
pub mod StepLaws
pub mod BadLaws
pub mod TopLaws
pub mod WordLaws
