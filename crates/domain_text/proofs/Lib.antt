pub mod OneLaws
pub mod SetLaws
