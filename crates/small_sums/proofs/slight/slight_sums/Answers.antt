-- The parts' sums are the sums, and short.
use Rattle.std.proofs.Common.{sym, subst}
use Rattle.small_sums.specs.declared.short.Sums.{Sums}
use Rattle.small_sums.specs.Short.{AreShortSums}
use Rattle.small_sums.specs.Slight.{sums_of_reach}
use Rattle.small_sums.proofs.SlightLaws.{least_short, greatest_short}
use Rattle.small_sums.proofs.slight.slight_sums.Goals as goal

pub returns : goal.returns
returns c =
    let P : Sums → Type 0 = λ s. AreShortSums c.args.b.now c.args.coeffs.now c.args.vars.now s in
    let whole : P (sums_of_reach c.reach_of.result) = record {
      sums = c.reach_of.ensures.sums;
      least_in_range = least_short c.reach_of.result c.reach_of.ensures.in_range;
      greatest_in_range = greatest_short c.reach_of.result c.reach_of.ensures.in_range;
    } in
    subst P (sym c.sums_of.ensures) whole
