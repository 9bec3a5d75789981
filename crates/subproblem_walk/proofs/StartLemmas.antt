-- A walk's start can be cut, and what its numbers lead to lies inside.
use Rattle.std.proofs.Common.{◌≡◌, ℕ, ℤ, List, length, map, sym, ap, subst, arith, Option, None, Some}
use Rattle.std.specs.Prelude.{IfSome}
use Rattle.std.specs.List.{All}
use Rattle.std.proofs.lemmas.List.{length-append, length-map}
use Rattle.interval.specs.Boxes.{Bounds, IsInRange, IsInside}
use Rattle.guarded_tell.specs.declared.kernel.Kernel.{Kernel}
use Rattle.guarded_tell.specs.Kernels.{IsKernel}
use Rattle.constraint_model.specs.declared.model.VarDecl.{VarDecl}
use Rattle.constraint_model.specs.declared.model.FznModel.{FznModel}
use Rattle.constraint_model.specs.WellFormed.{constants_of}
use Rattle.constraint_model.specs.Searches.{IsSearchOf}
use Rattle.decompose.specs.declared.program.Program.{Program}
use Rattle.decompose.specs.Program.{fixed_box, IsProgramOf}
use Rattle.subproblems.specs.Cuts.{CanBeCut}
use Rattle.subproblems.specs.Paths.{LeadsTo, PathLaws}

pub start_can : (model : FznModel) (program : Program) (b : Bounds) → IsProgramOf model program → IsSearchOf model →
    length b ≡ length program.start → IsInRange b → CanBeCut model program.kernels b
start_can model program b is phases same range = record {
  search = phases;
  in_range = range;
  long =
      let declared = length-map {B = ℤ × ℤ} model.vars (λ (d : VarDecl). (d.low, d.high)) in
      let parts = length-append (map (λ (d : VarDecl). (d.low, d.high)) model.vars) (fixed_box (constants_of model)) in
      omega (arith, same, ap (λ (x : Bounds). length x) is.start, declared, parts);
  fit = subst (λ (n : ℕ). All (IsKernel n) program.kernels) (sym same) is.can_run;
}

pub inside_start : PathLaws → (model : FznModel) (kernels : List Kernel) (depth : ℕ) (b : Bounds) (number : ℕ) → CanBeCut model kernels b → (found : Option Bounds) →
    LeadsTo model kernels depth b number found → IfSome found (λ x. IsInside x b)
inside_start law model kernels depth b number can None leads = tt
inside_start law model kernels depth b number can (Some x) leads = law.inside model kernels depth b number x can leads
