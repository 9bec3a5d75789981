-- The phases that a model is searched by.
use Rattle.std.specs.Prelude.{◌≡◌, ℕ, ◌<◌, List, [], ◌∷◌, ◌++◌, length, All}
use Rattle.std.specs.List.{range_with_len}
use Rattle.constraint_model.specs.declared.model.VarSel.{VarSel}
use Rattle.constraint_model.specs.declared.model.ValSel.{ValSel}
use Rattle.constraint_model.specs.declared.model.Phase.{Phase}
use Rattle.constraint_model.specs.declared.model.FznModel.{FznModel}

-- the phase that comes last: all of so many declared variables in order, the least value first
abbrev pub last_phase : ℕ → Phase
last_phase count = record { vars = range_with_len 0 count; var_sel = VarSel.InputOrder; val_sel = ValSel.Min }

-- the phases that a model can be searched by: their variables are declared, and the last phase has all of them in order,
-- the least value first
pub record IsSearchOf (model : FznModel) : Type 0 where
  pub declared : All (λ p. All (λ v. v < length model.vars) p.vars) model.search
  pub front : List Phase
  pub last : model.search ≡ front ++ last_phase (length model.vars) ∷ []
