use Rattle.std.proofs.Common.{◌<ℤ◌, refl, arith}
use Rattle.std.proofs.lemmas.Int.{ints}
use Rattle.moved_fixpoint.proofs.Joining.{heard_low, heard_high}
use Rattle.moved_fixpoint.proofs.joiner.join.Goals as goal

pub returns-then-low-t-clause-heard : goal.returns-then-low-t-clause-heard
returns-then-low-t-clause-heard c =
    let narrows : c.low-low.result <ℤ c.args.t.bound = omega (arith, ints) in
    heard_low _ _ _ _ _ (c.if-not-goes_on.ensures.0 refl)
    c.low-low.result _ _ c.in-Low.is c.put_bounds.ensures.put (omega (arith, ints)) (omega (arith, ints)) c.low-low.ensures.value narrows

pub returns-then-t-high-clause-heard : goal.returns-then-t-high-clause-heard
returns-then-t-high-clause-heard c =
    let narrows : c.args.t.bound <ℤ c.high-high.result = omega (arith, ints) in
    heard_high _ _ _ _ _ (c.if-not-goes_on.ensures.0 refl)
    _ c.high-high.result _ c.in-High.is c.put_bounds-then-t-high.ensures.put (omega (arith, ints)) (omega (arith, ints)) c.high-high.ensures.value narrows
