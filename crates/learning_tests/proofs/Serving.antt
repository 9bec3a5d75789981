-- Kernels of four variables, and what a learner of boxes of four keeps.
use Rattle.std.proofs.Common.{◌≡◌, ℕ, zero, suc, ◌<◌, List, [], ◌∷◌, length, get_or, sym, subst, arith}
use Rattle.std.specs.List.{All}
use Rattle.std.proofs.lemmas.List.Elements.{All-nil, All-cons}
use Rattle.interval.specs.Boxes.{Bounds}
use Rattle.guarded_tell.specs.Words.{Tell}
use Rattle.guarded_tell.specs.declared.kernel.Kernel.{Kernel}
use Rattle.guarded_tell.specs.declared.kernel.Kernel.TheVariants.{Abs}
use Rattle.guarded_tell.specs.Kernels.{vars_of, HasNumbers, IsKernel}
use Rattle.literals.specs.Literals.{IsPlaced}
use Rattle.nogoods.specs.declared.learner.Learner.{Learner}
use Rattle.nogoods.specs.Learners.{Serves, AreFor}

two : (v w : ℕ) → v < 4 → w < 4 → (i : ℕ) → i < 2 → get_or (v ∷ w ∷ []) i 0 < 4
two v w h k zero l = h
two v w h k (suc zero) l = k
two v w h k (suc (suc i)) l = absurd (omega arith)

absolute : (v w : ℕ) → v < 4 → w < 4 → IsKernel 4 (Abs v w)
unfolding vars_of HasNumbers
absolute v w h k = record { variables = record { each = λ i l. two v w h k i (omega arith) }; numbers = tt }

pub absolutes : All (IsKernel 4) (Abs 1 2 ∷ Abs 3 2 ∷ [])
absolutes = All-cons (IsKernel 4) (Abs 1 2) (Abs 3 2 ∷ []) (absolute 1 2 (omega arith) (omega arith))
    (All-cons (IsKernel 4) (Abs 3 2) [] (absolute 3 2 (omega arith) (omega arith)) (All-nil (IsKernel 4)))

pub kernels_on : (kernels : List Kernel) (b : Bounds) → length b ≡ 4 → All (IsKernel 4) kernels → All (IsKernel (length b)) kernels
kernels_on kernels b four all = subst (λ (n : ℕ). All (IsKernel n) kernels) (sym four) all

pub are_for : (kernels : List Kernel) (space b : Bounds) (learner : Learner) → length space ≡ length b → Serves kernels space learner → AreFor (length b) learner
are_for kernels space b learner same serves k d h =
    subst (λ (n : ℕ). All (IsPlaced n) (get_or learner.store.items k d).literals.items) same (serves.nogoods k d h).placed
