-- The room is the lesser of the two.
use Rattle.std.proofs.Common.{FitsSigned, to_z, of_z, arith, rules}
use Rattle.std.proofs.lemmas.Bool.{OnTrue_from}
use Rattle.std.proofs.lemmas.Int.{ints}
use mir.Syntax.{w64}
use Rattle.interval.specs.Limits.{largest_number}
use Rattle.std.specs.Int.RustNames.{int_le}
use Rattle.small_sums.specs.Short.{short_sum_limit, IsEquationQuiet}
use Rattle.small_sums.proofs.quiet.leaves_room_on_both_sides.Goals as goal

pub returns-then-stands_true : goal.returns-then-stands_true
unfolding short_sum_limit largest_number
returns-then-stands_true c =
    let f : FitsSigned w64 c.args.sums.widest = search rules in
    let m : FitsSigned w64 c.min-room.result = search rules in
    OnTrue_from (int_le (to_z w64 (of_z w64 c.args.sums.widest)) (to_z w64 (of_z w64 c.min-room.result))) (IsEquationQuiet c.args.b.now c.args.lit c.args.limit c.args.sums) (λ e. record {
      sure_low = λ t. omega (arith, ints, c.min-room.ensures.self_bound);
      sure_high = λ t. omega (arith, ints, c.min-room.ensures.other_bound);
      out = λ t o. absurd (cc);
      open_low = λ t o. absurd (cc);
      open_high = λ t o. absurd (cc);
      open_wide = λ t o. absurd (cc);
    })
