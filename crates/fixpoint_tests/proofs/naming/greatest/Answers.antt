-- The kernel's variables are there.
use Rattle.std.proofs.Common.{ℕ, zero, suc, ◌<◌, List, ◌∷◌, length, get_or, arith}
use Rattle.std.specs.Prelude.{All}
use Rattle.extreme_tells.specs.Extremes.{member_limit}
use Rattle.guarded_tell.specs.Kernels.{vars_of, HasNumbers}
use Rattle.fixpoint_tests.proofs.naming.greatest.Goals as goal

one_more : (m : ℕ) (xs : List ℕ) → m < 200 → All (λ v. v < 200) xs → (i : ℕ) → i < length (m ∷ xs) → get_or (m ∷ xs) i 0 < 200
one_more m xs h all zero lt = h
one_more m xs h all (suc i) lt = all i 0 (omega arith)

pub returns : goal.returns
unfolding vars_of HasNumbers member_limit
returns c =
    let short = c.requires.length in
    record { variables = record { each = one_more c.args.m c.args.xs c.requires.m c.requires.variables }; numbers = omega arith }
