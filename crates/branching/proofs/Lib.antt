pub mod PickLaws
pub mod FrontLaws
pub mod PartLaws
pub mod TreeLaws
pub mod ListLaws
pub mod PointCounting
