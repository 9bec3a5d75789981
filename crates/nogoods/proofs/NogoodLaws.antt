-- How nogoods go with spaces and boxes, and what a kernel's tells imply.
use Rattle.std.proofs.Common.{◌≡◌, ℕ, ℤ, ◌<◌, List, ◌∷◌, length, slice_index_or, sym, subst, inl, inr, arith, ◌∙◌}
use Rattle.std.specs.List.{All, Contains}
use Rattle.std.proofs.lemmas.Int.{ints}
use Rattle.std.proofs.lemmas.Bool.{cases_eq}
use Rattle.std.proofs.lemmas.List.{get_or_default}
use Rattle.std.proofs.lemmas.List.Elements.{All-cons, All-contains}
use Rattle.interval.specs.Boxes.{Bounds, IsPoint, IsInside, IsInRange, InsideOrder}
use Rattle.guarded_tell.specs.declared.kernel.Kernel.{Kernel}
use Rattle.guarded_tell.specs.Words.{Side, Low, High, Tell, Keeps, KeepsSide, IsProperIn, IsInsideIn}
use Rattle.guarded_tell.specs.Kernels.{vars_of, tells, IsKernel, IsClosedUnder}
use Rattle.literals.specs.Literals.{Meets, MeetsBut, IsPlaced, opposite, opposite_at}
use Rattle.literals.specs.Laws.{LiteralLaws}
use Rattle.nogoods.specs.Nogoods.{IsSolutionPoint, IsNogood, HasNone, AllMeet}
use Rattle.nogoods.specs.Laws.{NogoodLaws}

-- what the law on kernels says
abbrev pub Monotone : Type 0
Monotone = (k : Kernel) (outer inner : Bounds) → IsKernel (length outer) k → IsInRange outer → length inner ≡ length outer →
    IsProperIn (vars_of k) outer → IsClosedUnder k inner → IsInsideIn (vars_of k) inner outer → All (Keeps inner) (tells k outer)

-- a point that meets all but one of a nogood meets the opposite of that one
pub but_one_at : (laws : LiteralLaws) (kernels : List Kernel) (space p : Bounds) (literals : List Tell) (place : ℕ) (d : Tell) →
    All (IsPlaced (length p)) literals → place < length literals → IsNogood kernels space literals → IsSolutionPoint kernels space p →
    MeetsBut p literals place → Keeps p (opposite (slice_index_or literals place d))
but_one_at laws kernels space p literals place d placed within nogood solution but =
    laws.opposite p (slice_index_or literals place d) (placed place d within).0 solution.is_point
    (λ k. nogood p solution (λ i e h. elim (cases_eq i place) [
      | inl same ↦ subst (λ (j : ℕ). Keeps p (slice_index_or literals j e)) (sym same) (subst (Keeps p) (get_or_default literals place d e within) k)
      | inr other ↦ but i e h other
    ]))

never_at : (s : Side) (p : Bounds) (v : ℕ) (x : ℤ) → v < length p → IsPoint p → KeepsSide p s v x → Keeps p (opposite_at s v x) → ⊥
never_at Low p v x h i k o = omega (arith, ints, i v h)
never_at High p v x h i k o = omega (arith, ints, i v h)

-- no point meets a literal and its opposite
pub never_both : (p : Bounds) (t : Tell) → t.var < length p → IsPoint p → Keeps p t → Keeps p (opposite t) → ⊥
never_both p t h i k o = never_at t.side p t.var t.bound h i k o

module _ (order : InsideOrder) (laws : LiteralLaws) where
  smaller : (kernels : List Kernel) (space inner : Bounds) (literals : List Tell) → IsInside inner space →
      IsNogood kernels space literals → IsNogood kernels inner literals
  smaller kernels space inner literals i nogood p s m =
      nogood p (record { is_point = s.is_point; closed = s.closed; inside = order.through p inner space s.inside i }) m

  -- a box inside another meets its literals
  pub meets_inside : (inner outer : Bounds) (literals : List Tell) → All (IsPlaced (length outer)) literals → IsInside inner outer →
      Meets outer literals → Meets inner literals
  meets_inside inner outer literals placed i m = λ k d h. laws.inside inner outer _ (placed k d h).0 i (m k d h)

  met : (kernels : List Kernel) (space b : Bounds) (literals : List Tell) → All (IsPlaced (length b)) literals →
      IsNogood kernels space literals → Meets b literals → HasNone kernels space b
  met kernels space b literals placed nogood m p s i = nogood p s (meets_inside p b literals placed i m)

  but_one : (kernels : List Kernel) (space b : Bounds) (literals : List Tell) (place : ℕ) (d : Tell) → length b ≡ length space →
      All (IsPlaced (length b)) literals → place < length literals → IsNogood kernels space literals → MeetsBut b literals place →
      AllMeet kernels space b (opposite (slice_index_or literals place d))
  but_one kernels space b literals place d same placed within nogood but p s i =
      but_one_at laws kernels space p literals place d (subst (λ (n : ℕ). All (IsPlaced n) literals) (sym i.same_length) placed) within nogood s
      (λ k e h ne. laws.inside p b _ (placed k e h).0 i (but k e h ne))

  drops : (kernels : List Kernel) (space : Bounds) (t : Tell) (literals : List Tell) → t.var < length space →
      Keeps space t → IsNogood kernels space (t ∷ literals) → IsNogood kernels space literals
  drops kernels space t literals v k nogood p s m = nogood p s (All-cons (Keeps p) t literals (laws.inside p space t v s.inside k) m)

  reason : Monotone → (kernels : List Kernel) (space b p : Bounds) (k : Kernel) → length b ≡ length space → Contains kernels k →
      IsKernel (length b) k → IsInRange b → IsProperIn (vars_of k) b → IsSolutionPoint kernels space p →
      IsInsideIn (vars_of k) p b → Meets p (tells k b)
  reason monotone kernels space b p k same within kernel range proper s i =
      monotone k b p kernel range (s.inside.same_length ∙ sym same) proper (All-contains (λ (j : Kernel). IsClosedUnder j p) kernels k s.closed.quiet within) i

  pub nogood_laws : Monotone → NogoodLaws
  nogood_laws monotone = record { smaller = smaller; met = met; but_one = but_one; drops = drops; reason = reason monotone }
