-- The first sum is the limit.
use Rattle.std.proofs.Common.{◌≡◌, ◌+ℤ◌, FitsSigned, arith, rules}
use Rattle.std.proofs.lemmas.Bool.{OnTrue_from}
use Rattle.std.proofs.lemmas.Int.{ints}
use mir.Syntax.{w64}
use Rattle.small_sums.proofs.pairs.pair_meets_limit.Goals as goal

pub returns-then-is_same-clause-first : goal.returns-then-is_same-clause-first
returns-then-is_same-clause-first c =
    let f : FitsSigned w64 c.sum.result = search rules in
    let met : c.args.limit ≡ (c.args.pair.first.greatest +ℤ c.args.pair.second.least) = omega (arith, ints, c.if-is_same.ensures, c.sum.ensures) in
    OnTrue_from _ _ (λ e. met)
