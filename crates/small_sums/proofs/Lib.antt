pub mod ShortLaws
pub mod QuietLaws
pub mod PairLaws
pub mod SlightLaws
pub mod PartedSums
