-- The sums are those of the two terms.
use Rattle.std.proofs.Common.{FitsSigned, to_z, of_z, arith, rules}
use Rattle.std.proofs.lemmas.Bool.{OnTrue_from}
use Rattle.std.proofs.lemmas.Int.{ints}
use mir.Syntax.{w64}
use Rattle.std.specs.Int.RustNames.{int_le, int_lt}
use Rattle.small_sums.specs.Short.{IsPairAtMostQuiet}
use Rattle.small_sums.proofs.pairs.pair_leaves_room.Goals as goal

pub returns-then-sum-limit : goal.returns-then-sum-limit
returns-then-sum-limit c =
    let f : FitsSigned w64 c.sum.result = search rules in
    let g : FitsSigned w64 c.sum-then-sum-limit.result = search rules in
    OnTrue_from (int_le (to_z w64 (of_z w64 c.sum-then-sum-limit.result)) (to_z w64 (of_z w64 c.args.limit))) (IsPairAtMostQuiet c.args.b.now c.args.lit c.args.limit c.args.pair) (λ e. record {
      sure_first = λ t. omega (arith, ints, c.sum.ensures, c.if-sum-limit.true);
      sure_second = λ t. omega (arith, ints, c.sum-then-sum-limit.ensures);
      out_first = λ t o. absurd (cc);
      out_second = λ t o. absurd (cc);
      open_low = λ t o. absurd (cc);
      open_high = λ t o. absurd (cc);
    })

pub returns-then-limit-sum : goal.returns-then-limit-sum
returns-then-limit-sum c =
    let f : FitsSigned w64 c.sum-then-stands_false.result = search rules in
    let g : FitsSigned w64 c.sum-then-limit-sum.result = search rules in
    OnTrue_from (int_lt (to_z w64 (of_z w64 c.args.limit)) (to_z w64 (of_z w64 c.sum-then-limit-sum.result))) (IsPairAtMostQuiet c.args.b.now c.args.lit c.args.limit c.args.pair) (λ e. record {
      sure_first = λ t. absurd (cc);
      sure_second = λ t. absurd (cc);
      out_first = λ t o. omega (arith, ints, c.sum-then-stands_false.ensures, c.if-limit-sum.true);
      out_second = λ t o. omega (arith, ints, c.sum-then-limit-sum.ensures);
      open_low = λ t o. absurd (cc);
      open_high = λ t o. absurd (cc);
    })

pub returns-then-sum-limit-2 : goal.returns-then-sum-limit-2
returns-then-sum-limit-2 c =
    let f : FitsSigned w64 c.sum-else-stands_false.result = search rules in
    let g : FitsSigned w64 c.sum-then-sum-limit-2.result = search rules in
    OnTrue_from (int_lt (to_z w64 (of_z w64 c.args.limit)) (to_z w64 (of_z w64 c.sum-then-sum-limit-2.result))) (IsPairAtMostQuiet c.args.b.now c.args.lit c.args.limit c.args.pair) (λ e. record {
      sure_first = λ t. absurd (cc);
      sure_second = λ t. absurd (cc);
      out_first = λ t o. absurd (cc);
      out_second = λ t o. absurd (cc);
      open_low = λ t o. omega (arith, ints, c.sum-else-stands_false.ensures, c.if-sum-limit-2.true);
      open_high = λ t o. omega (arith, ints, c.sum-then-sum-limit-2.ensures);
    })
