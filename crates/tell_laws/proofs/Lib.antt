pub mod HearingLaws
pub mod NarrowingLaws
pub mod Lists
pub mod LiteralLaws
pub mod PlaceLaws
pub mod CommonLaws
