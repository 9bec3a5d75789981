-- What hearing a list of tells is, as the crate below says it.
pub use Rattle.tells.specs.Hearing.{MayHearAll, HearsAll}
