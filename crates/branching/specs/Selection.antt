-- Which variable a box is parted at. The declared variables are numbered from 0; variable v has pair v + 1 of a box, since
-- pair 0 is the constant 1.
--
-- Source: the FlatZinc chapter of the MiniZinc Handbook, its search annotations.
use Rattle.std.specs.Prelude.{◌≡◌, ℕ, suc, ℤ, pos, neg_ℤ, ◌-ℤ◌, ◌≤ℤ◌, ◌<ℤ◌, ◌<◌, List, ◌∷◌, ◌++◌, length, All}
use Rattle.interval.specs.Boxes.{Bounds, low_of, high_of}
use Rattle.constraint_model.specs.declared.model.VarSel.{VarSel}
use Rattle.constraint_model.specs.declared.model.Phase.{Phase}
use Rattle.constraint_model.specs.declared.model.FznModel.{FznModel}

-- one number is left for the variable
abbrev pub IsFixed : Bounds → ℕ → Type 0
IsFixed b v = low_of b (suc v) ≡ high_of b (suc v)

-- more than one number is left for it
abbrev pub IsUnfixed : Bounds → ℕ → Type 0
IsUnfixed b v = low_of b (suc v) <ℤ high_of b (suc v)

-- Each selection takes a variable whose rank is least: any one; least or greatest high - low; least lower bound; greatest
-- upper bound.
abbrev pub rank_of : VarSel → ℤ → ℤ → ℤ
rank_of VarSel.InputOrder low high = pos 0
rank_of VarSel.FirstFail low high = high -ℤ low
rank_of VarSel.AntiFirstFail low high = low -ℤ high
rank_of VarSel.Smallest low high = low
rank_of VarSel.Largest low high = neg_ℤ high

abbrev pub rank_in : VarSel → Bounds → ℕ → ℤ
rank_in selection b v = rank_of selection (low_of b (suc v)) (high_of b (suc v))

-- Of these variables v is the chosen one: it is unfixed, every unfixed variable before it has a greater rank,
-- and none after it has a lesser one.
pub record IsChosen (selection : VarSel) (b : Bounds) (vars : List ℕ) (v : ℕ) : Type 0 where
  pub before : List ℕ
  pub after : List ℕ
  pub stands : vars ≡ before ++ v ∷ after
  pub unfixed : IsUnfixed b v
  pub earlier : All (λ w. IsUnfixed b w → rank_in selection b v <ℤ rank_in selection b w) before
  pub later : All (λ w. IsUnfixed b w → rank_in selection b v ≤ℤ rank_in selection b w) after

-- The box is parted at v by this phase: it is the first that has an unfixed variable, and v is its chosen one.
pub record IsChoice (model : FznModel) (b : Bounds) (phase : Phase) (v : ℕ) : Type 0 where
  pub before : List Phase
  pub after : List Phase
  pub stands : model.search ≡ before ++ phase ∷ after
  pub passed : All (λ p. All (IsFixed b) p.vars) before
  pub chosen : IsChosen phase.var_sel b phase.vars v

-- some declared variable isn't fixed
pub record HasUnfixed (model : FznModel) (b : Bounds) : Type 0 where
  pub var : ℕ
  pub declared : var < length model.vars
  pub unfixed : IsUnfixed b var
