-- What the tests know of a model that they made of a text.
use Rattle.std.specs.Prelude.{length}
use Rattle.constraint_model.specs.declared.model.FznModel.{FznModel}
use Rattle.constraint_model.specs.WellFormed.{IsWellFormed}
use Rattle.moved_set.specs.Sets.{Naming}
use Rattle.moved_fixpoint.specs.Moved.{AreMasksOf}
use Rattle.decompose.specs.declared.program.Program.{Program}
use Rattle.decompose.specs.Program.{IsProgramOf}

-- the model is well-formed, the program is the model's, and the masks are the program's
pub record IsCompiled (model : FznModel) (program : Program) (masks : Naming) : Type 0 where
  pub well_formed : IsWellFormed model
  pub is_program : IsProgramOf model program
  pub are_masks : AreMasksOf program.kernels (length program.start) masks
