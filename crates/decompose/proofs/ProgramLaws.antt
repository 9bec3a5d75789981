-- The parts of a program together.
use Rattle.std.proofs.Common.{◌≡◌, ◌↔◌, ℕ, ℤ, ◌<◌, List, [], ◌∷◌, length, map, flat_map, Bool, sym, ap, subst, ◌∙◌}
use Rattle.std.specs.List.{All}
use Rattle.std.proofs.lemmas.List.Elements.{All-nil, All-cons, All-head, All-tail}
use Rattle.interval.specs.Limits.{IsNumber}
use Rattle.interval.specs.Boxes.{Bounds, low_of, high_of, IsInRange, IsInside}
use Rattle.guarded_tell.specs.declared.kernel.Kernel.{Kernel}
use Rattle.guarded_tell.specs.Kernels.{IsKernel, Holds as KernelHolds}
use Rattle.constraint_model.specs.Relations.{Holds}
use Rattle.constraint_model.specs.declared.model.Term.{Term}
use Rattle.constraint_model.specs.declared.model.VarDecl.{VarDecl}
use Rattle.constraint_model.specs.declared.model.Constraint.{Constraint}
use Rattle.constraint_model.specs.declared.model.FznModel.{FznModel}
use Rattle.constraint_model.specs.declared.meanings.Scalar.{Scalar}
use Rattle.constraint_model.specs.declared.meanings.Meaning.{Meaning}
use Rattle.constraint_model.specs.Fits.{operand_of, LettersAreThose}
use Rattle.constraint_model.specs.WellFormed.{IsTermOf, IsScalarOf, IsMeaningOf, IsConstraintOf, IsWellFormed, constants_of}
use Rattle.decompose.specs.declared.program.Program.{Program}
use Rattle.decompose.specs.Kernels.{kernels_on, kernels_of}
use Rattle.decompose.specs.Places.{Numbering, numbering_of, IsDeclared, HasDeclared}
use Rattle.decompose.specs.Program.{fixed_box, start_pairs, start_of, extended, Extends, IsProgramOf}
use Rattle.decompose.proofs.StartLaws.{start_bounds, start_in_range, start_length, start_points}
use Rattle.decompose.proofs.RowLaws.{MeansAll, program_means}
use Rattle.decompose.proofs.Means.{size_of}

-- ---- the variables of a well-formed model's constraints are declared

abbrev HasAllDeclared : ℕ → Constraint → Type 0
HasAllDeclared count c = All (HasDeclared count) c.operands

module _ (vars : List VarDecl) where
  term_declared : (b : Bool) (t : Term) → IsTermOf vars b t → IsDeclared (length vars) t
  term_declared b (Term.Number n) h = tt
  term_declared b (Term.Var v) h = h.inside

  row_declared : (es : List Scalar) → All (IsScalarOf vars) es → All (IsDeclared (length vars)) (map (λ s. s.term) es)
  row_declared [] h = All-nil (IsDeclared (length vars))
  row_declared (e ∷ es) h =
      All-cons (IsDeclared (length vars)) e.term (map (λ s. s.term) es)
      (term_declared e.is_bool e.term (All-head (IsScalarOf vars) e es h)) (row_declared es (All-tail (IsScalarOf vars) e es h))

  meaning_declared : (m : Meaning) → IsMeaningOf vars m → HasDeclared (length vars) (operand_of m)
  meaning_declared (Meaning.One s) h = term_declared s.is_bool s.term h
  meaning_declared (Meaning.Row array) h = row_declared array.entries h.1
  meaning_declared (Meaning.Set rs) h = tt

  arguments_declared : (ms : List Meaning) → All (IsMeaningOf vars) ms → All (HasDeclared (length vars)) (map operand_of ms)
  arguments_declared [] h = All-nil (HasDeclared (length vars))
  arguments_declared (m ∷ ms) h =
      All-cons (HasDeclared (length vars)) (operand_of m) (map operand_of ms)
      (meaning_declared m (All-head (IsMeaningOf vars) m ms h)) (arguments_declared ms (All-tail (IsMeaningOf vars) m ms h))

  constraint_declared : (c : Constraint) → IsConstraintOf vars c → HasAllDeclared (length vars) c
  constraint_declared c h = subst (HasAllDeclared (length vars)) (sym h.is_on) (arguments_declared h.meanings h.each)

  all_declared : (cs : List Constraint) → All (IsConstraintOf vars) cs → All (HasAllDeclared (length vars)) cs
  all_declared [] h = All-nil (HasAllDeclared (length vars))
  all_declared (c ∷ cs) h =
      All-cons (HasAllDeclared (length vars)) c cs (constraint_declared c (All-head (IsConstraintOf vars) c cs h))
      (all_declared cs (All-tail (IsConstraintOf vars) c cs h))

-- ---- the program

module _ (model : FznModel) (vars : List VarDecl) (constants : List ℤ) (is_vars : vars ≡ model.vars) (is_constants : constants ≡ constants_of model) where
  same_start : start_pairs vars constants ≡ start_of model
  same_start = ap (λ v. start_pairs v constants) is_vars ∙ ap (start_pairs model.vars) is_constants

  pub pairs_in_range : IsWellFormed model → IsInRange (start_pairs vars constants)
  pairs_in_range f = subst IsInRange (sym same_start) (start_in_range model f)

  module _ (numbering : Numbering) (is_numbering : numbering ≡ numbering_of vars constants) where
    same_numbering : numbering ≡ numbering_of model.vars (constants_of model)
    same_numbering = is_numbering ∙ ap (λ v. numbering_of v constants) is_vars ∙ ap (numbering_of model.vars) is_constants

    pub constraints_declared : (cs : List Constraint) → cs ≡ model.constraints → IsWellFormed model → All (HasAllDeclared numbering.count) cs
    constraints_declared cs e f =
        subst (All (HasAllDeclared numbering.count)) (sym e)
        (subst (λ (n : Numbering). All (HasAllDeclared n.count) model.constraints) (sym same_numbering) (all_declared model.vars model.constraints f.constraints))

    same_kernels : (cs : List Constraint) → cs ≡ model.constraints → flat_map (kernels_on numbering) cs ≡ kernels_of model
    same_kernels cs e = ap (λ n. flat_map (kernels_on n) cs) same_numbering ∙ ap (flat_map (kernels_on (numbering_of model.vars (constants_of model)))) e

    -- the parts, of the model's own variables, constants and constraints
    pub program_of : (start : Bounds) (kernels : List Kernel) (cs : List Constraint) → cs ≡ model.constraints → start ≡ start_pairs vars constants → kernels ≡ flat_map (kernels_on numbering) cs
        → LettersAreThose → IsWellFormed model → IsProgramOf model (record { start = start; kernels = kernels })
    program_of start kernels cs e s k letters f = by (s ∙ same_start) (k ∙ same_kernels cs e) (program_means model f letters)
      where
        by : start ≡ start_of model → kernels ≡ kernels_of model → MeansAll model.vars (constants_of model) model.constraints (kernels_of model) → IsProgramOf model (record { start = start; kernels = kernels })
        by s k m = record {
          start = s;
          kernels = k;
          in_range = subst IsInRange (sym s) (start_in_range model f);
          bounds = subst (λ (b : Bounds). (v : ℕ) → v < length b → IsNumber (low_of b v) × IsNumber (high_of b v)) (sym s) (start_bounds model f);
          points = λ numbers. subst (λ b. IsInside (fixed_box numbers) b ↔ Extends model numbers) (sym s) (start_points model numbers);
          can_run = subst (λ n. All (IsKernel n) kernels) (sym (start_length model.vars (constants_of model)) ∙ ap length (sym s)) (subst (All (IsKernel (size_of model.vars (constants_of model)))) (sym k) m.can_run);
          count = ap length k ∙ m.count;
          meaning = λ a w. subst (λ ks. All (λ q. KernelHolds q (extended model a)) ks ↔ All (λ c. Holds c a) model.constraints) (sym k) (m.meaning a w);
        }

-- one start and one list of kernels
pub one_program : (model : FznModel) (p q : Program) → IsProgramOf model p → IsProgramOf model q → p ≡ q
one_program model p q f g =
    let same_start = f.start ∙ sym g.start in
    let same_kernels = f.kernels ∙ sym g.kernels in
    ap (λ (b : Bounds). record { start = b; kernels = p.kernels }) same_start ∙ ap (λ (ks : List Kernel). record { start = q.start; kernels = ks }) same_kernels
