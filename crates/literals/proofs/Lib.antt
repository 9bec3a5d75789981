pub mod LiteralLaws
pub mod ListLaws
