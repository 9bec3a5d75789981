-- The divisors are on one side of 0.
use Rattle.std.proofs.Common.{FitsSigned, arith, rules}
use Rattle.std.proofs.lemmas.Bool.{OnTrue_at, OnTrue_from}
use Rattle.std.proofs.lemmas.Int.{ints}
use mir.Syntax.{w64}
use Rattle.arithmetic_tells.specs.Products.{IsFactorQuiet}
use Rattle.arithmetic_tells.proofs.ProductQuiet.{coded_under, coded_over}
use Rattle.arithmetic_tells.proofs.products.is_factor_quiet.Goals as goal

pub returns-then-is_under_one : goal.returns-then-is_under_one
returns-then-is_under_one c =
    let x_low : FitsSigned w64 c.args.x.0 = search rules in
    let x_high : FitsSigned w64 c.args.x.1 = search rules in
    let y_low : FitsSigned w64 c.args.y.0 = search rules in
    let y_high : FitsSigned w64 c.args.y.1 = search rules in
    OnTrue_from _ (IsFactorQuiet c.args.x c.args.y c.args.z) (λ e. record {
      low_above_zero = λ s. coded_under c.args.z.0 c.args.x.0 c.args.y (search rules) x_low c.if-is_under_one.ensures;
      high_above_zero = λ s. coded_over c.args.z.1 c.args.x.1 c.args.y (search rules) x_high (OnTrue_at e c.is_over_one.ensures);
      low_below_zero = λ s. absurd (omega (arith, ints, c.if-y-gt0.true, c.requires.y_proper));
      high_below_zero = λ s. absurd (omega (arith, ints, c.if-y-gt0.true, c.requires.y_proper));
    })

pub returns-then-is_over_one : goal.returns-then-is_over_one
returns-then-is_over_one c =
    let x_low : FitsSigned w64 c.args.x.0 = search rules in
    let x_high : FitsSigned w64 c.args.x.1 = search rules in
    let y_low : FitsSigned w64 c.args.y.0 = search rules in
    let y_high : FitsSigned w64 c.args.y.1 = search rules in
    OnTrue_from _ (IsFactorQuiet c.args.x c.args.y c.args.z) (λ e. record {
      low_above_zero = λ s. absurd (omega (arith, ints, c.if-y-gt0.false));
      high_above_zero = λ s. absurd (omega (arith, ints, c.if-y-gt0.false));
      low_below_zero = λ s. coded_over c.args.z.1 c.args.x.0 c.args.y (search rules) x_low c.if-is_over_one.ensures;
      high_below_zero = λ s. coded_under c.args.z.0 c.args.x.1 c.args.y (search rules) x_high (OnTrue_at e c.is_under_one-then-is_over_one.ensures);
    })
