-- The program of a model: the box in which its solutions lie, and the kernels that must hold on them.
--
-- The variables of a program are numbered thus: 0 is the constant 1, which is also true; then come the declared variables
-- in their order; then each other number that occurs where a variable may be, in the order of first occurrences.
use Rattle.std.specs.Prelude.{◌≡◌, ◌↔◌, ℕ, ◌<◌, ℤ, pos, List, ◌∷◌, ◌++◌, length, map, sum_by, All}
use Rattle.interval.specs.Limits.{IsNumber}
use Rattle.interval.specs.Boxes.{Bounds, low_of, high_of, IsInRange, IsInside}
use Rattle.guarded_tell.specs.Kernels.{IsKernel, Holds as KernelHolds}
use Rattle.constraint_model.specs.declared.model.VarDecl.{VarDecl}
use Rattle.constraint_model.specs.declared.model.FznModel.{FznModel}
use Rattle.constraint_model.specs.Fits.{kernels_of as kernel_count}
use Rattle.constraint_model.specs.Relations.{Holds, IsWithin}
use Rattle.constraint_model.specs.WellFormed.{constants_of}
use Rattle.decompose.specs.Kernels.{kernels_of}
use Rattle.decompose.specs.declared.program.Program.{Program}

-- the box that holds these numbers alone
abbrev pub fixed_box : List ℤ → Bounds
fixed_box numbers = map (λ z. (z, z)) numbers

-- the pairs of the constant 1, of the declared bounds and of the other constants
abbrev pub start_pairs : List VarDecl → List ℤ → Bounds
start_pairs vars constants = (pos 1, pos 1) ∷ (map (λ d. (d.low, d.high)) vars ++ fixed_box constants)

-- the box of the program's start
abbrev pub start_of : FznModel → Bounds
start_of model = start_pairs model.vars (constants_of model)

-- an assignment of the declared variables with the constants around it: a number for each variable of the program
abbrev pub with_constants : List ℤ → List ℤ → List ℤ
with_constants constants a = pos 1 ∷ (a ++ constants)

abbrev pub extended : FznModel → List ℤ → List ℤ
extended model a = with_constants (constants_of model) a

-- the assignment within the declared bounds of which these numbers are the extension
pub record Extends (model : FznModel) (numbers : List ℤ) : Type 0 where
  pub assignment : List ℤ
  pub within : IsWithin assignment model.vars
  pub is_extension : numbers ≡ extended model assignment

-- a program means its model: its kernels are those of the constraints, its start's bounds are numbers of a model, the points
-- of its start are the extended assignments within the declared bounds, and on each of them all kernels hold exactly where
-- all constraints of the model do
pub record IsProgramOf (model : FznModel) (program : Program) : Type 0 where
  pub start : program.start ≡ start_of model
  pub kernels : program.kernels ≡ kernels_of model
  pub in_range : IsInRange program.start
  pub bounds : (v : ℕ) → v < length program.start → IsNumber (low_of program.start v) × IsNumber (high_of program.start v)
  pub points : (numbers : List ℤ) → IsInside (fixed_box numbers) program.start ↔ Extends model numbers
  pub can_run : All (IsKernel (length program.start)) program.kernels
  pub count : length program.kernels ≡ sum_by kernel_count model.constraints
  pub meaning : (a : List ℤ) → IsWithin a model.vars →
      All (λ k. KernelHolds k (extended model a)) program.kernels ↔ All (λ c. Holds c a) model.constraints
