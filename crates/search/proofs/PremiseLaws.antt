-- What follows for a search inside the start of a model's program.
use Rattle.std.proofs.Common.{ℕ, ℤ, ◌<◌, List, length, map, sym, subst, arith, length-append}
use Rattle.std.specs.List.{All}
use Rattle.std.proofs.lemmas.List.{length-map}
use Rattle.interval.specs.Boxes.{Bounds, IsInside}
use Rattle.guarded_tell.specs.declared.kernel.Kernel.{Kernel}
use Rattle.guarded_tell.specs.Kernels.{IsKernel}
use Rattle.constraint_model.specs.declared.model.VarDecl.{VarDecl}
use Rattle.constraint_model.specs.declared.model.FznModel.{FznModel}
use Rattle.constraint_model.specs.WellFormed.{constants_of}
use Rattle.decompose.specs.Program.{fixed_box, start_of}
use Rattle.moved_fixpoint.specs.Moved.{AreMasksOf}
use Rattle.search.specs.declared.run.Run.{Run}
use Rattle.search.specs.Machine.{Search}
use Rattle.search.specs.Premises.{IsRun, CanSearch}
use Rattle.search.specs.Laws.{IsInsideStart}

start_is_long : (model : FznModel) → length model.vars < length (start_of model)
start_is_long model =
    let a = length-append (map (λ (d : VarDecl). (d.low, d.high)) model.vars) (fixed_box (constants_of model)) in
    let b = length-map {B = ℤ × ℤ} model.vars (λ (d : VarDecl). (d.low, d.high)) in
    omega arith

pub long_sub : (s : Search) → IsInsideStart s → length s.model.vars < length s.sub
long_sub s p =
    let e = p.inside.same_length in
    let l = subst (λ (b : Bounds). length s.model.vars < length b) (sym p.means.start) (start_is_long s.model) in
    omega (arith, e, l)

pub runs_sub : (s : Search) → IsInsideStart s → All (IsKernel (length s.sub)) s.kernels
runs_sub s p =
    subst (λ (ks : List Kernel). All (IsKernel (length s.sub)) ks) (sym p.kernels)
    (subst (λ (n : ℕ). All (IsKernel n) p.program.kernels) (sym p.inside.same_length) p.means.can_run)

-- a run of a model can search each box inside its program's start
pub can_search : {L : Type 0} (run : Run L) (sub : Bounds) → IsRun run → IsInside sub run.program.now.start → CanSearch run (length sub)
can_search run sub r i = record {
  phases = r.model.search;
  kernels = subst (λ (n : ℕ). All (IsKernel n) run.program.now.kernels) (sym i.same_length) r.program.can_run;
  long = let e = i.same_length in
      let l = subst (λ (b : Bounds). length run.model.now.vars < length b) (sym r.program.start) (start_is_long run.model.now) in
      omega (arith, e, l);
  masks = subst (λ (n : ℕ). AreMasksOf run.program.now.kernels n run.masks.now) (sym i.same_length) r.masks;
  some_lanes = r.some_lanes;
  most_lanes = r.most_lanes;
}
