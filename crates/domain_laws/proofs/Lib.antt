pub mod Between
pub mod PointDoms
pub mod PointMixes
pub mod SolutionLaws
