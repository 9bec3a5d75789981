pub mod QuotientLaws
pub mod BoxLaws
pub mod ClampLaws
pub mod CornerLaws
pub mod NaturalCorners
