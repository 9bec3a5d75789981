-- The kernel's variables are there.
use Rattle.std.proofs.Common.{ℕ, zero, suc, ◌<◌, [], ◌∷◌, get_or, arith}
use Rattle.guarded_tell.specs.Kernels.{vars_of, HasNumbers}
use Rattle.fixpoint_tests.proofs.naming.absolute.Goals as goal

two : (x y : ℕ) → x < 130 → y < 130 → (i : ℕ) → i < 2 → get_or (x ∷ y ∷ []) i 0 < 130
two x y h k zero lt = h
two x y h k (suc zero) lt = k
two x y h k (suc (suc i)) lt = absurd (omega arith)

pub returns : goal.returns
unfolding vars_of HasNumbers
returns c = record { variables = record { each = two c.args.x c.args.y c.requires.x c.requires.y }; numbers = tt }
