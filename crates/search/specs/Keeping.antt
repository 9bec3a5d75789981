-- What a worker keeps over its runs.
use Rattle.std.specs.Prelude.{◌≡◌, ℕ, List, IfSome, IfNone}
use Rattle.guarded_tell.specs.declared.kernel.Kernel.{Kernel}
use Rattle.narrowing.specs.Narrowers.{Fits, lanes_of, lanes_for}
use Rattle.search.specs.declared.kept.Spare.{Spare}
use Rattle.search.specs.declared.kept.Kept.{Kept}

-- a searcher of a box of so many variables by so many lanes may use it: its narrower serves the kernels by as many
pub record CanServe (kernels : List Kernel) (lanes count : ℕ) (spare : Spare) : Type 0 where
  pub fits : Fits spare.narrower kernels count
  pub same_lanes : lanes_of spare.narrower ≡ lanes_for kernels lanes

-- something is kept
abbrev pub HasKept : Kept → Type 0
HasKept kept = IfNone kept.spare ⊥

-- so may it use what is kept, if something is
abbrev pub IsKeptFor : List Kernel → ℕ → ℕ → Kept → Type 0
IsKeptFor kernels lanes count kept = IfSome kept.spare (CanServe kernels lanes count)
