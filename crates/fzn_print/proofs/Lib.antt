pub mod JoinLaws
pub mod NumberLaws
pub mod LineLaws
pub mod FillLaws
pub mod ReadLaws
pub mod PlaceLaws
