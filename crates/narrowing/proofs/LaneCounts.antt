-- How many lanes a narrower has that was made for some kernels.
use Rattle.std.proofs.Common.{◌≡◌, ◌==◌, ℕ, true, List, [], ◌∷◌, length, refl, sym, arith}
use Rattle.std.proofs.lemmas.Bool.Decides.{Decides-eqb}
use Rattle.guarded_tell.specs.declared.kernel.Kernel.{Kernel}
use Rattle.narrowing.specs.Narrowers.{lanes_for}

pub one_lane : (kernels : List Kernel) (lanes : ℕ) → lanes ≡ 1 → 1 ≡ lanes_for kernels lanes
one_lane [] lanes e = refl
one_lane (k ∷ kernels) lanes e = sym e

pub no_kernels : (kernels : List Kernel) (lanes : ℕ) → (length kernels == 0) ≡ true → 1 ≡ lanes_for kernels lanes
no_kernels [] lanes e = refl
no_kernels (k ∷ kernels) lanes e = let none : length (k ∷ kernels) ≡ 0 = (Decides-eqb (length (k ∷ kernels)) 0).0 e in absurd (omega arith)
