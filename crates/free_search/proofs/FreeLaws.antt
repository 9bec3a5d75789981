-- What a free search concludes.
use Rattle.std.proofs.Common.{◌≡◌, ◌≢◌, ℕ, ℤ, ◌+◌, ◌<◌, ◌≤ℤ◌, ◌<ℤ◌, List, length, subst, sym, ⊎_elim, arith}
use Rattle.std.specs.Prelude.{slice_index_or}
use Rattle.std.specs.List.{All}
use Rattle.std.proofs.lemmas.Bool.{cases_eq}
use Rattle.std.proofs.lemmas.Int.{ints}
use Rattle.interval.specs.Boxes.{Bounds, low_of, high_of, IsInside, IsCrossed, InsideOrder}
use Rattle.guarded_tell.specs.declared.kernel.Kernel.{Kernel}
use Rattle.fixpoint_laws.specs.Fixpoints.{IsClosed}
use Rattle.constraint_model.specs.declared.model.FznModel.{FznModel}
use Rattle.decompose.specs.declared.program.Program.{Program}
use Rattle.decompose.specs.Program.{IsProgramOf}
use Rattle.branching.specs.Tree.{AreFixed, values_of}
use Rattle.solution_lists.specs.Solutions.{FixedIsPoint, PointSolves, SolvesInside}
use Rattle.literals.specs.Literals.{IsPlaced}
use Rattle.nogoods.specs.declared.learner.Learner.{Learner}
use Rattle.nogoods.specs.Nogoods.{HasNone}
use Rattle.nogoods.specs.Learners.{Serves, AreFor}

-- what serves a space serves boxes of as many variables
pub placed_for : (kernels : List Kernel) (space b : Bounds) (learner : Learner) → Serves kernels space learner → length space ≡ length b → AreFor (length b) learner
placed_for kernels space b learner serves same = λ k d h.
    let kept = serves.nogoods k d h in subst (λ (n : ℕ). All (IsPlaced n) (slice_index_or learner.store.items k d).literals.items) same kept.placed

not_both : (x y z w : ℤ) → x ≤ℤ y → y ≡ z → z ≤ℤ w → w <ℤ x → ⊥
not_both x y z w p e q r = omega (arith, ints)

-- no solution lies in a crossed box
pub crossed_has_none : (kernels : List Kernel) (space b : Bounds) → IsCrossed b → HasNone kernels space b
crossed_has_none kernels space b (v, lt, crossed) p s i =
    not_both (low_of b v) (low_of p v) (high_of p v) (high_of b v) (i.lows v lt) (s.is_point v (subst (λ (n : ℕ). v < n) (sym i.same_length) lt)) (i.highs v lt) crossed

-- what is so of all before, and of one more
pub one_more : (P : ℕ → Type 0) (v : ℕ) → ((i : ℕ) → i < v → P i) → P v → (i : ℕ) → i < v + 1 → P i
one_more P v h p i lt = ⊎_elim (λ (e : i ≡ v). subst P (sym e) p) (λ (ne : i ≢ v). h i (omega arith)) (cases_eq i v)

-- a closed box in the box that is searched which fixes each declared variable is a solution there
pub point_solves_in : InsideOrder → FixedIsPoint → PointSolves → (model : FznModel) (program : Program) (b sub : Bounds) (a : List ℤ) →
    IsProgramOf model program → IsInside sub program.start → IsInside b sub → IsClosed b program.kernels → AreFixed model b →
    a ≡ values_of model b → SolvesInside model sub a
point_solves_in order fixed points model program b sub a f inside i closed are e = (points model program sub a f inside).0 (record {
  point = b;
  is_point = fixed model program b f (order.through b sub program.start i inside) closed.proper are;
  closed = closed;
  inside = i;
  is_values = e;
})
