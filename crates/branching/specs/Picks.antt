-- What is picked of a list of variables, or of a model's phases.
use Rattle.std.specs.Prelude.{◌≡◌, ℕ, ◌<◌, List, length, All, Option, Some, None}
use Rattle.interval.specs.Boxes.{Bounds}
use Rattle.constraint_model.specs.declared.model.VarSel.{VarSel}
use Rattle.constraint_model.specs.declared.model.ValSel.{ValSel}
use Rattle.constraint_model.specs.declared.model.Phase.{Phase}
use Rattle.constraint_model.specs.declared.model.FznModel.{FznModel}
use Rattle.branching.specs.Selection.{IsFixed, IsChosen, IsChoice}

-- the chosen variable, or none where all are fixed
abbrev pub IsPick : VarSel → Bounds → List ℕ → Option ℕ → Type 0
IsPick selection b vars None = All (IsFixed b) vars
IsPick selection b vars (Some v) = IsChosen selection b vars v

-- the variable and the value selection of the phase that the box is parted by
pub record IsChoiceBy (model : FznModel) (b : Bounds) (selection : ValSel) (v : ℕ) : Type 0 where
  pub phase : Phase
  pub choice : IsChoice model b phase v
  pub same : selection ≡ phase.val_sel
  pub declared : v < length model.vars
