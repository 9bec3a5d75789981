-- One level of the search tree, as the code has it.
use Rattle.std.proofs.Common.{◌≡◌, ℕ, suc, ◌+◌, ◌^◌, ◌<◌, List, [], ◌∷◌, ◌++◌, length, map, Option, refl, sym, ap, subst, ◌∙◌, append_assoc, append-nil, length-append, arith}
use Rattle.interval.specs.Boxes.{Bounds, IsInRange}
use Rattle.guarded_tell.specs.declared.kernel.Kernel.{Kernel}
use Rattle.constraint_model.specs.declared.model.FznModel.{FznModel}
use Rattle.subproblems.specs.declared.cutting.Cut.{Cut}
use Rattle.subproblems.specs.declared.cutting.Cut.TheVariants.{Failed, Fixed, Parted}
use Rattle.subproblems.specs.Cuts.{IsCutInto}
use Rattle.subproblems.specs.Subproblems.{AreBelow, AreSubproblems}
use Rattle.subproblems.specs.Paths.{IsBelow, LeadsTo}
use Rattle.subproblems.specs.Growth.{IsMore}

module _ (model : FznModel) (kernels : List Kernel) where
  pub leads_by : (depth above : ℕ) (b : Bounds) (number : ℕ) (found : Option Bounds) → depth ≡ suc above → (cut : Cut) → IsCutInto model kernels b cut →
      IsBelow cut (2 ^ above) (LeadsTo model kernels above) number found → LeadsTo model kernels depth b number found
  leads_by depth above b number found e cut h k = subst (λ (n : ℕ). LeadsTo model kernels n b number found) (sym e) (cut, h, k)

  pub leads_here : (depth : ℕ) (b : Bounds) (number : ℕ) (found : Option Bounds) → depth ≡ 0 → LeadsTo model kernels 0 b number found → LeadsTo model kernels depth b number found
  leads_here depth b number found e h = subst (λ (n : ℕ). LeadsTo model kernels n b number found) (sym e) h

  pub more_here : (depth : ℕ) (b : Bounds) (before after : List Bounds) → depth ≡ 0 → after ≡ before ++ b ∷ [] → IsMore model kernels depth b before after
  more_here depth b before after e is = record { subs = b ∷ []; are_subs = subst (λ (n : ℕ). AreSubproblems model kernels n b (b ∷ [])) (sym e) refl; is_after = is }

  more_by : (depth above : ℕ) (b : Bounds) (before after subs : List Bounds) → depth ≡ suc above → (cut : Cut) → IsCutInto model kernels b cut →
      AreBelow cut (AreSubproblems model kernels above) subs → after ≡ before ++ subs → IsMore model kernels depth b before after
  more_by depth above b before after subs e cut h k is =
      record { subs = subs; are_subs = subst (λ (n : ℕ). AreSubproblems model kernels n b subs) (sym e) (cut, h, k); is_after = is }

  pub more_failed : (depth above : ℕ) (b : Bounds) (before : List Bounds) → depth ≡ suc above → IsCutInto model kernels b Failed → IsMore model kernels depth b before before
  more_failed depth above b before e h = more_by depth above b before before [] e Failed h refl (sym (append-nil before))

  pub more_fixed : (depth above : ℕ) (b closed : Bounds) (before after : List Bounds) → depth ≡ suc above → IsCutInto model kernels b (Fixed closed) →
      after ≡ before ++ closed ∷ [] → IsMore model kernels depth b before after
  more_fixed depth above b closed before after e h is = more_by depth above b before after (closed ∷ []) e (Fixed closed) h refl is

  pub more_parted : (depth above : ℕ) (b left right : Bounds) (before middle after : List Bounds) → depth ≡ suc above → IsCutInto model kernels b (Parted left right) →
      IsMore model kernels above left before middle → IsMore model kernels above right middle after → IsMore model kernels depth b before after
  more_parted depth above b left right before middle after e h first second =
      more_by depth above b before after (first.subs ++ second.subs) e (Parted left right) h
      (first.subs, second.subs, first.are_subs, second.are_subs, refl)
      (second.is_after ∙ ap (λ (l : List Bounds). l ++ second.subs) first.is_after ∙ append_assoc before first.subs second.subs)
