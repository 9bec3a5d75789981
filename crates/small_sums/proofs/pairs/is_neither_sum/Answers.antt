-- Neither sum is the limit.
use Rattle.std.proofs.Common.{◌+ℤ◌, FitsSigned, arith, rules}
use Rattle.std.proofs.lemmas.Bool.{OnTrue_at, OnTrue_from}
use Rattle.std.proofs.lemmas.Int.{ints}
use mir.Syntax.{w64}
use Rattle.std.specs.Prelude.{◌≢◌}
use Rattle.small_sums.proofs.pairs.is_neither_sum.Goals as goal

pub returns-then-is_apart-clause-least : goal.returns-then-is_apart-clause-least
returns-then-is_apart-clause-least c =
    let f : FitsSigned w64 c.sum.result = search rules in
    let apart : c.args.limit ≢ (c.args.pair.first.least +ℤ c.args.pair.second.least) = λ q. c.if-is_apart.ensures (omega (arith, ints, q, c.sum.ensures)) in
    OnTrue_from _ _ (λ e. apart)

pub returns-then-is_apart-clause-greatest : goal.returns-then-is_apart-clause-greatest
returns-then-is_apart-clause-greatest c =
    let f : FitsSigned w64 c.sum-then-is_apart.result = search rules in
    OnTrue_from c.is_apart-then-is_apart.result (c.args.limit ≢ (c.args.pair.first.greatest +ℤ c.args.pair.second.greatest)) (λ e q.
    OnTrue_at e c.is_apart-then-is_apart.ensures (omega (arith, ints, q, c.sum-then-is_apart.ensures)))
