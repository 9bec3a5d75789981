pub mod TogetherLaws
pub mod BoxLaws
