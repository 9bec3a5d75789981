pub mod ShortTellLaws
pub mod GrowthLaws
pub mod ShortSumLaws
