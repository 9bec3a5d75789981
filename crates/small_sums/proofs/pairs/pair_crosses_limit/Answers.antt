-- The sums are those of the two terms.
use Rattle.std.proofs.Common.{◌+ℤ◌, ◌≤ℤ◌, ◌<ℤ◌, FitsSigned, to_z, of_z, arith, rules}
use Rattle.std.proofs.lemmas.Bool.{OnTrue_from}
use Rattle.std.proofs.lemmas.Int.{ints}
use mir.Syntax.{w64}
use Rattle.std.specs.Int.RustNames.{int_le}
use Rattle.small_sums.proofs.pairs.pair_crosses_limit.Goals as goal

pub returns-then-least-limit-clause-least : goal.returns-then-least-limit-clause-least
returns-then-least-limit-clause-least c =
    let f : FitsSigned w64 c.sum-least.result = search rules in
    let g : FitsSigned w64 c.sum-greatest.result = search rules in
    OnTrue_from (int_le (to_z w64 (of_z w64 c.args.limit)) (to_z w64 (of_z w64 c.sum-greatest.result))) ((c.args.pair.first.least +ℤ c.args.pair.second.least) ≤ℤ c.args.limit)
    (λ e. omega (arith, ints, c.sum-least.ensures, c.sum-greatest.ensures, c.if-least-greatest.true, c.if-least-limit.true))

pub returns-then-least-limit-clause-greatest : goal.returns-then-least-limit-clause-greatest
returns-then-least-limit-clause-greatest c =
    let f : FitsSigned w64 c.sum-least.result = search rules in
    let g : FitsSigned w64 c.sum-greatest.result = search rules in
    OnTrue_from (int_le (to_z w64 (of_z w64 c.args.limit)) (to_z w64 (of_z w64 c.sum-greatest.result))) (c.args.limit ≤ℤ (c.args.pair.first.greatest +ℤ c.args.pair.second.greatest))
    (λ e. omega (arith, ints, c.sum-least.ensures, c.sum-greatest.ensures, c.if-least-greatest.true, c.if-least-limit.true))

pub returns-then-least-limit-clause-wide : goal.returns-then-least-limit-clause-wide
returns-then-least-limit-clause-wide c =
    let f : FitsSigned w64 c.sum-least.result = search rules in
    let g : FitsSigned w64 c.sum-greatest.result = search rules in
    OnTrue_from (int_le (to_z w64 (of_z w64 c.args.limit)) (to_z w64 (of_z w64 c.sum-greatest.result))) ((c.args.pair.first.least +ℤ c.args.pair.second.least) <ℤ (c.args.pair.first.greatest +ℤ c.args.pair.second.greatest))
    (λ e. omega (arith, ints, c.sum-least.ensures, c.sum-greatest.ensures, c.if-least-greatest.true, c.if-least-limit.true))
