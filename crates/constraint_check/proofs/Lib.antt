pub mod TestLaws
pub mod HoldLaws
pub mod SumLaws
pub mod SmallLaws
pub mod TaskLaws
