-- A learner with another nogood serves what it served.
use Rattle.std.proofs.Common.{◌≡◌, ◌⊎◌, ℕ, ◌<◌, get_or, List, [], ◌∷◌, ◌++◌, length, sym, subst, inl, inr}
use Rattle.std.specs.List.{All, swap_remove}
use Rattle.std.proofs.lemmas.List.Elements.{All-push, All-tail}
use Rattle.std.proofs.lemmas.List.Sorted.{All-permutation, IsPermutation-swap_remove}
use Rattle.interval.specs.Boxes.{Bounds}
use Rattle.guarded_tell.specs.declared.kernel.Kernel.{Kernel}
use Rattle.guarded_tell.specs.Words.{Tell}
use Rattle.literals.specs.Literals.{IsPlaced}
use Rattle.nogoods.specs.declared.store.Nogood.{Nogood}
use Rattle.nogoods.specs.Nogoods.{IsNogood}
use Rattle.nogoods.specs.Learnings.{IsKept}
use Rattle.nogoods.specs.Bearings.{IfTold, IfFailed}
use Rattle.nogoods.specs.declared.bearing.Bearing.{Bearing}
use Rattle.nogoods.specs.declared.bearing.Bearing.TheVariants.{Quiet, Told, Failed}

pub kept_more : (kernels : List Kernel) (space : Bounds) (old new : List Nogood) (nogood : Nogood) (literals : List Tell) →
    nogood.literals.items ≡ literals → All (IsKept kernels space) old → All (IsPlaced (length space)) literals → IsNogood kernels space literals →
    (new ≡ old ++ nogood ∷ []) ⊎ (new ≡ old) → All (IsKept kernels space) new
kept_more kernels space old new nogood literals e kept placed holds (inr same) = subst (λ (ns : List Nogood). All (IsKept kernels space) ns) (sym same) kept
kept_more kernels space old new nogood literals e kept placed holds (inl more) =
    subst (λ (ns : List Nogood). All (IsKept kernels space) ns) (sym more)
    (All-push (IsKept kernels space) old nogood kept (record {
      placed = subst (λ (ts : List Tell). All (IsPlaced (length space)) ts) (sym e) placed;
      holds = subst (λ (ts : List Tell). IsNogood kernels space ts) (sym e) holds;
    }))

-- and one with a nogood less
pub kept_fewer : (kernels : List Kernel) (space : Bounds) (old : List Nogood) (place : ℕ) (d : Nogood) → place < length old →
    d ≡ get_or old place d → All (IsKept kernels space) old → All (IsKept kernels space) (swap_remove old place d)
kept_fewer kernels space old place d within same kept =
    All-tail (IsKept kernels space) d (swap_remove old place d)
    (All-permutation (IsKept kernels space) old (d ∷ swap_remove old place d) (IsPermutation-swap_remove old place d within same) kept)

-- what a bearing says, said of something else
pub if_failed_weaker : (r : Bearing) {P Q : Type 0} → (P → Q) → IfFailed r P → IfFailed r Q
if_failed_weaker Quiet f h = tt
if_failed_weaker (Told t number) f h = tt
if_failed_weaker (Failed number) f h = f h

pub if_told_weaker : (r : Bearing) {P Q : Tell → Type 0} → ((t : Tell) → P t → Q t) → IfTold r P → IfTold r Q
if_told_weaker Quiet f h = tt
if_told_weaker (Told t number) f h = f t h
if_told_weaker (Failed number) f h = tt
