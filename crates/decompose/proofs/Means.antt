-- What the law of a row says: its kernels can be run, are as many as are counted, and hold exactly where the constraint does.
use Rattle.std.proofs.Common.{◌≡◌, ◌≢◌, ◌↔◌, ℕ, suc, ℤ, pos, ◌+◌, ◌<◌, List, length, true}
use Rattle.std.specs.List.{All, list_any}
use Rattle.std.specs.Ordering.{int_eq}
use Rattle.guarded_tell.specs.declared.kernel.Kernel.{Kernel}
use Rattle.guarded_tell.specs.Kernels.{IsKernel, Holds as KernelHolds}
use Rattle.constraint_model.specs.declared.model.Term.{Term}
use Rattle.constraint_model.specs.declared.model.VarDecl.{VarDecl}
use Rattle.constraint_model.specs.declared.model.Constraint.{Constraint}
use Rattle.constraint_model.specs.declared.meanings.Meaning.{Meaning}
use Rattle.constraint_model.specs.declared.table.ConstraintName.{ConstraintName}
use Rattle.constraint_model.specs.Fits.{constants_in, kernels_of, constraint_on}
use Rattle.constraint_model.specs.Relations.{Holds, IsWithin}
use Rattle.constraint_model.specs.WellFormed.{IsDeclaration}
use Rattle.decompose.specs.Places.{numbering_of, AreFew}
use Rattle.decompose.specs.Program.{with_constants}
use Rattle.decompose.specs.Kernels.{kernels_on}

-- how many variables a program has
abbrev pub size_of : List VarDecl → List ℤ → ℕ
size_of vars constants = suc (length vars + length constants)

abbrev pub IsAmong : ℤ → List ℤ → Type 0
IsAmong n numbers = list_any (int_eq n) numbers ≡ true

-- a term has a variable: a declared one, or that of its number
abbrev pub HasVariable : List VarDecl → List ℤ → Term → Type 0
HasVariable vars constants (Term.Number n) = n ≢ pos 1 → IsAmong n constants
HasVariable vars constants (Term.Var v) = v < length vars

-- each constant that a constraint needs is there
abbrev pub HasConstants : List ℤ → Constraint → Type 0
HasConstants constants c = (n : ℤ) → IsAmong n (constants_in c) → IsAmong n constants

-- the kernels of a constraint
pub record Means (vars : List VarDecl) (constants : List ℤ) (c : Constraint) (kernels : List Kernel) : Type 0 where
  pub can_run : All (IsKernel (size_of vars constants)) kernels
  pub count : length kernels ≡ kernels_of c
  pub meaning : (a : List ℤ) → IsWithin a vars → All (λ k. KernelHolds k (with_constants constants a)) kernels ↔ Holds c a

-- one kernel, whose relation this is
pub record MeansOne (vars : List VarDecl) (constants : List ℤ) (R : List ℤ → Type 0) (k : Kernel) : Type 0 where
  pub can_run : IsKernel (size_of vars constants) k
  pub meaning : (a : List ℤ) → IsWithin a vars → KernelHolds k (with_constants constants a) ↔ R a

-- what is known of the declared variables
pub record IsGiven (vars : List VarDecl) (constants : List ℤ) : Type 0 where
  pub few : AreFew (numbering_of vars constants)
  pub declared : All IsDeclaration vars

-- the kernels of a constraint of this name on these arguments
abbrev pub RowMeans : List VarDecl → List ℤ → ConstraintName → List Meaning → Type 0
RowMeans vars constants name ms = Means vars constants (constraint_on name ms) (kernels_on (numbering_of vars constants) (constraint_on name ms))
