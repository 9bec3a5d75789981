-- The shapes of the first kernels.
use Rattle.std.proofs.Common.{◌≡◌, ℕ, ◌<◌, ◌≤◌, ◌+◌, List, [], ◌∷◌, ◌++◌, length, get_or, sym, subst, ◌∙◌, ap, ⊎_elim, arith}
use Rattle.std.proofs.lemmas.Bool.{cases_lt}
use Rattle.std.proofs.lemmas.List.{length_push, get_or_append_left, get_or_push, get_or_read}
use Rattle.guarded_tell.specs.declared.kernel.Kernel.{Kernel}
use Rattle.kernel_visits.specs.declared.shape.Shape.{Shape}
use Rattle.kernel_visits.specs.declared.shape.Shape.TheVariants.{Other}
use Rattle.kernel_visits.specs.Shapes.{IsShapeOf}

-- so many shapes are those of the first kernels, and `Other` only where a kernel has no other
pub record AreFirstShapes (kernels : List Kernel) (to : ℕ) (shapes : List Shape) : Type 0 where
  pub same_length : length shapes ≡ to
  pub each : (i : ℕ) (k : Kernel) (s : Shape) → i < to → IsShapeOf (get_or kernels i k) (get_or shapes i s)
  pub own : (i : ℕ) (k : Kernel) (s t : Shape) → i < to → get_or shapes i s ≡ Other → IsShapeOf (get_or kernels i k) t → t ≡ Other

pub shapes_more : (kernels : List Kernel) (j : ℕ) (k : Kernel) (shapes : List Shape) (s : Shape) → j < length kernels → k ≡ get_or kernels j k → IsShapeOf k s
    → ((t : Shape) → IsShapeOf k t → s ≡ Other → t ≡ Other) → AreFirstShapes kernels j shapes → AreFirstShapes kernels (j + 1) (shapes ++ s ∷ [])
shapes_more kernels j k shapes s h is shape own are = record {
  same_length = length_push shapes s ∙ ap (λ (n : ℕ). n + 1) are.same_length;
  each = λ i d e lt.
      let len = are.same_length in
      let before : i < j → IsShapeOf (get_or kernels i d) (get_or (shapes ++ s ∷ []) i e) =
      λ below. subst (IsShapeOf (get_or kernels i d)) (sym (get_or_append_left shapes (s ∷ []) e i (omega arith))) (are.each i d e below) in
      let here : j ≤ i → IsShapeOf (get_or kernels i d) (get_or (shapes ++ s ∷ []) i e) =
      λ above.
      let same : j ≡ i = omega arith in
      let kernel : k ≡ get_or kernels i d = get_or_read kernels j k h is d ∙ ap (λ (n : ℕ). get_or kernels n d) same in
      subst (λ (l : Kernel). IsShapeOf l (get_or (shapes ++ s ∷ []) i e)) kernel (subst (IsShapeOf k) (sym (get_or_push shapes s e i (omega arith))) shape) in
      ⊎_elim before here (cases_lt i j);
  own = λ i d e t lt other of_kernel.
      let len = are.same_length in
      let before : i < j → t ≡ Other =
      λ below. are.own i d e t below (sym (get_or_append_left shapes (s ∷ []) e i (omega arith)) ∙ other) of_kernel in
      let here : j ≤ i → t ≡ Other =
      λ above.
      let same : j ≡ i = omega arith in
      let kernel : k ≡ get_or kernels i d = get_or_read kernels j k h is d ∙ ap (λ (n : ℕ). get_or kernels n d) same in
      own t (subst (λ (l : Kernel). IsShapeOf l t) (sym kernel) of_kernel) (sym (get_or_push shapes s e i (omega arith)) ∙ other) in
      ⊎_elim before here (cases_lt i j);
}
