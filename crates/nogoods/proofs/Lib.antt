pub mod NogoodLaws
pub mod Keeping
