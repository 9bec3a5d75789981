-- The kernel's variables are there.
use Rattle.std.proofs.Common.{ℕ, zero, suc, ◌<◌, List, ◌∷◌, length, get_or, arith}
use Rattle.std.specs.Prelude.{All}
use Rattle.extreme_tells.specs.Extremes.{member_limit}
use Rattle.guarded_tell.specs.Kernels.{vars_of, HasNumbers}
use Rattle.fixpoint_tests.proofs.naming.element.Goals as goal

two_more : (x c : ℕ) (xs : List ℕ) → x < 200 → c < 200 → All (λ v. v < 200) xs → (i : ℕ) → i < length (x ∷ c ∷ xs) → get_or (x ∷ c ∷ xs) i 0 < 200
two_more x c xs h k all zero lt = h
two_more x c xs h k all (suc zero) lt = k
two_more x c xs h k all (suc (suc i)) lt = all i 0 (omega arith)

pub returns : goal.returns
unfolding vars_of HasNumbers member_limit
returns c =
    let short = c.requires.length in
    record { variables = record { each = two_more c.args.x c.args.c c.args.entries c.requires.x c.requires.c c.requires.variables }; numbers = omega arith }
