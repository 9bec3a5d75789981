-- What a number leads to from a box that can be cut can be cut.
use Rattle.std.proofs.Common.{◌≡◌, ◌≢◌, ℕ, zero, suc, ◌-◌, ◌^◌, ◌<◌, ◌≤◌, List, Option, Some, None, subst, arith}
use mathlib.Core.Logic.{dite}
use native.Mathlib.Decide.{ℕ_discrete, dec_le}
use Rattle.interval.specs.Boxes.{Bounds}
use Rattle.guarded_tell.specs.declared.kernel.Kernel.{Kernel}
use Rattle.constraint_model.specs.declared.model.FznModel.{FznModel}
use Rattle.subproblems.specs.declared.cutting.Cut.{Cut}
use Rattle.subproblems.specs.declared.cutting.Cut.TheVariants.{Failed, Fixed, Parted}
use Rattle.subproblems.specs.Cuts.{IsCutInto, CanBeCut, CutLaws}
use Rattle.subproblems.specs.Paths.{IsBelow, LeadsTo}

module _ (cuts : CutLaws) (model : FznModel) (kernels : List Kernel) where
  below_can : (half : ℕ) (Below : Bounds → ℕ → Option Bounds → Type 0) →
      ((b : Bounds) (number : ℕ) (sub : Bounds) → CanBeCut model kernels b → Below b number (Some sub) → CanBeCut model kernels sub) →
      (b : Bounds) (number : ℕ) (sub : Bounds) (cut : Cut) → CanBeCut model kernels b → IsCutInto model kernels b cut → IsBelow cut half Below number (Some sub) → CanBeCut model kernels sub
  below_can half Below each b number sub Failed can is h = let e : Some sub ≡ None = h in absurd cc
  below_can half Below each b number sub (Fixed g) can is h = dite (ℕ_discrete number 0)
      (λ (e : number ≡ 0). let k : Some sub ≡ Some g = h.0 e in let same : g ≡ sub = cc in subst (CanBeCut model kernels) same (cuts.kept model kernels b g can is).1)
      (λ (ne : number ≢ 0). let k : Some sub ≡ None = h.1 ne in absurd cc)
  below_can half Below each b number sub (Parted l r) can is h = dite (dec_le (suc number) half)
      (λ (low : number < half). each l number sub (cuts.left model kernels b l r can is).1 (h.0 low))
      (λ (no : ¬ (number < half)). let high : half ≤ number = omega arith in each r (number - half) sub (cuts.right model kernels b l r can is).1 (h.1 high))

  pub path_can : (depth : ℕ) (b : Bounds) (number : ℕ) (sub : Bounds) → CanBeCut model kernels b → LeadsTo model kernels depth b number (Some sub) → CanBeCut model kernels sub
  path_can zero b number sub can h = let same : b ≡ sub = cc in subst (CanBeCut model kernels) same can
  path_can (suc depth) b number sub can h =
      below_can (2 ^ depth) (LeadsTo model kernels depth) (λ c n s. path_can depth c n s) b number sub h.0 can h.1 h.2
