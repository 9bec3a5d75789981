-- The words of tells, boxes and assignments are those of the crate below, and are given on.
pub use Rattle.tells.specs.declared.tell.Lit.{Lit}
pub use Rattle.tells.specs.declared.tell.Side.{Side}
pub use Rattle.tells.specs.declared.tell.Side.TheVariants.{Low, High}
pub use Rattle.tells.specs.declared.tell.Tell.{Tell}
pub use Rattle.tells.specs.Words.{low_tell, high_tell, when, KeepsSide, Keeps}
pub use Rattle.tells.specs.Words.{sign_true, literal_true, sign_tell, tell_true, tell_false}
unfoldable pub use Rattle.tells.specs.Words.{is_sure, is_out}
pub use Rattle.tells.specs.Words.{value_of, point_of, IsProperIn, IsInsideIn, AgreeIn, SameValuesIn, AreVariables}
