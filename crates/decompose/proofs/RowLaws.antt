-- The kernels of all constraints of a model mean its constraints.
use Rattle.std.proofs.Common.{◌≡◌, ◌↔◌, ℤ, List, [], ◌∷◌, ◌++◌, length, flat_map, refl, arith, length-append}
use Rattle.std.specs.Prelude.{sum_by}
use Rattle.std.specs.List.{All}
use Rattle.std.proofs.lemmas.List.Sums.{sum_by-cons}
use Rattle.std.proofs.lemmas.List.Elements.{All-nil, All-cons, All-head, All-tail, All-append}
use Rattle.guarded_tell.specs.declared.kernel.Kernel.{Kernel}
use Rattle.guarded_tell.specs.Kernels.{IsKernel, Holds as KernelHolds}
use Rattle.constraint_model.specs.declared.model.VarDecl.{VarDecl}
use Rattle.constraint_model.specs.declared.model.Constraint.{Constraint}
use Rattle.constraint_model.specs.declared.model.FznModel.{FznModel}
use Rattle.constraint_model.specs.Fits.{kernels_of as kernel_count, LettersAreThose}
use Rattle.constraint_model.specs.Relations.{Holds, IsWithin}
use Rattle.constraint_model.specs.WellFormed.{IsConstraintOf, IsWellFormed, constants_of}
use Rattle.decompose.specs.Program.{with_constants}
use Rattle.decompose.specs.Kernels.{kernels_on, kernels_of}
use Rattle.decompose.specs.Places.{numbering_of}
use Rattle.decompose.proofs.Means.{HasConstants, Means, IsGiven, size_of}
use Rattle.decompose.proofs.OneKernel.{all_parts}
use Rattle.decompose.proofs.StartLaws.{constants_there}
use Rattle.decompose.proofs.TableLaws.{constraint_means}

-- the kernels of constraints
pub record MeansAll (vars : List VarDecl) (constants : List ℤ) (cs : List Constraint) (kernels : List Kernel) : Type 0 where
  pub can_run : All (IsKernel (size_of vars constants)) kernels
  pub count : length kernels ≡ sum_by kernel_count cs
  pub meaning : (a : List ℤ) → IsWithin a vars → All (λ k. KernelHolds k (with_constants constants a)) kernels ↔ All (λ c. Holds c a) cs

module _ (letters : LettersAreThose) (vars : List VarDecl) (constants : List ℤ) (given : IsGiven vars constants) where
  abbrev kernels_here : Constraint → List Kernel
  kernels_here c = kernels_on (numbering_of vars constants) c

  -- the kernels of a constraint in front of those of others
  means_more : (c : Constraint) (cs : List Constraint) (first rest : List Kernel) → Means vars constants c first → MeansAll vars constants cs rest → MeansAll vars constants (c ∷ cs) (first ++ rest)
  means_more c cs first rest h m = record {
    can_run = All-append (IsKernel (size_of vars constants)) first rest h.can_run m.can_run;
    count =
        let l = length-append first rest in
        let s = sum_by-cons kernel_count c cs in
        let n = h.count in
        let k = m.count in
        omega arith;
    meaning = λ a w.
        let one = h.meaning a w in
        let others = m.meaning a w in (
          λ x.
              let parts = all_parts (λ k. KernelHolds k (with_constants constants a)) first rest x in
              All-cons (λ (d : Constraint). Holds d a) c cs (one.0 parts.0) (others.0 parts.1),
          λ x.
              All-append (λ k. KernelHolds k (with_constants constants a)) first rest
              (one.1 (All-head (λ (d : Constraint). Holds d a) c cs x)) (others.1 (All-tail (λ (d : Constraint). Holds d a) c cs x)),
        );
  }

  all_mean : (cs : List Constraint) → All (IsConstraintOf vars) cs → All (HasConstants constants) cs → MeansAll vars constants cs (flat_map kernels_here cs)
  all_mean [] h there = record {
    can_run = All-nil (IsKernel (size_of vars constants));
    count = refl;
    meaning = λ a w. (λ x. All-nil (λ (d : Constraint). Holds d a), λ x. All-nil (λ k. KernelHolds k (with_constants constants a)));
  }
  all_mean (c ∷ cs) h there =
      means_more c cs (kernels_here c) (flat_map kernels_here cs)
      (constraint_means letters vars constants given c (All-head (IsConstraintOf vars) c cs h) (All-head (HasConstants constants) c cs there))
      (all_mean cs (All-tail (IsConstraintOf vars) c cs h) (All-tail (HasConstants constants) c cs there))

pub is_given : (model : FznModel) → IsWellFormed model → IsGiven model.vars (constants_of model)
is_given model f = record { few = record { vars_fit = f.vars_fit; constants_fit = f.constants_fit }; declared = f.vars }

pub program_means : (model : FznModel) → IsWellFormed model → LettersAreThose → MeansAll model.vars (constants_of model) model.constraints (kernels_of model)
program_means model f letters = all_mean letters model.vars (constants_of model) (is_given model f) model.constraints f.constraints (constants_there model)
