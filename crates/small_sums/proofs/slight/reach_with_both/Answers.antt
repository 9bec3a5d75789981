-- The growth is exact, and moves one of the two parts.
use Rattle.std.proofs.Common.{pos, ◌-ℤ◌, ◌≤ℤ◌, ◌<ℤ◌, FitsSigned, arith, rules}
use Rattle.std.proofs.lemmas.Int.{ints, to_z-of_z}
use mir.Syntax.{w64}
use Rattle.small_sums.proofs.SlightLaws.{coded_growth, coded_fall, coded_base, coded_down, coded_up, coded_down_fits, coded_up_fits, moved_down, moved_up}
use Rattle.small_sums.proofs.slight.reach_with_both.Goals as goal

pub overflow_add-result-then-growth-lt0 : goal.overflow_add-result-then-growth-lt0
overflow_add-result-then-growth-lt0 c =
    let p = c.args.at_low in
    let q = c.args.at_high in
    let growth = coded_growth p q c.requires.low c.requires.high in
    let falls : (q -ℤ p) <ℤ pos 0 = omega (arith, ints, growth, c.if-growth-lt0.true) in
    let f : FitsSigned w64 c.args.reach.down = search rules in
    coded_down_fits p q c.requires.low c.requires.high c.args.reach c.requires.room f falls

pub overflow_add-result-else-growth-lt0-2 : goal.overflow_add-result-else-growth-lt0-2
overflow_add-result-else-growth-lt0-2 c =
    let p = c.args.at_low in
    let q = c.args.at_high in
    let growth = coded_growth p q c.requires.low c.requires.high in
    let rises : pos 0 ≤ℤ (q -ℤ p) = omega (arith, ints, growth, c.if-growth-lt0.false) in
    let f : FitsSigned w64 c.args.reach.up = search rules in
    coded_up_fits p q c.requires.low c.requires.high c.args.reach c.requires.room f rises

pub returns-then-growth-lt0 : goal.returns-then-growth-lt0
returns-then-growth-lt0 c =
    let p = c.args.at_low in
    let q = c.args.at_high in
    let growth = coded_growth p q c.requires.low c.requires.high in
    let fall = coded_fall p q c.requires.low c.requires.high in
    let falls : (q -ℤ p) <ℤ pos 0 = omega (arith, ints, growth, c.if-growth-lt0.true) in
    let base : FitsSigned w64 c.args.reach.base = search rules in
    let down : FitsSigned w64 c.args.reach.down = search rules in
    let up : FitsSigned w64 c.args.reach.up = search rules in
    let widest : FitsSigned w64 c.args.reach.widest = search rules in
    let most : FitsSigned w64 c.max.result = search rules in
    let widest_is = to_z-of_z w64 c.args.reach.widest widest in
    let most_is = to_z-of_z w64 c.max.result most in
    moved_down c.args.reach _ p q
    (coded_base p q c.requires.low c.requires.high c.args.reach c.requires.room base)
    (coded_down p q c.requires.low c.requires.high c.args.reach c.requires.room down falls)
    (to_z-of_z w64 c.args.reach.up up)
    (omega (arith, ints, c.max.ensures.self_bound, widest_is, most_is))
    (omega (arith, ints, c.max.ensures.other_bound, fall, most_is))
    falls

pub returns-else-growth-lt0 : goal.returns-else-growth-lt0
returns-else-growth-lt0 c =
    let p = c.args.at_low in
    let q = c.args.at_high in
    let growth = coded_growth p q c.requires.low c.requires.high in
    let rises : pos 0 ≤ℤ (q -ℤ p) = omega (arith, ints, growth, c.if-growth-lt0.false) in
    let base : FitsSigned w64 c.args.reach.base = search rules in
    let down : FitsSigned w64 c.args.reach.down = search rules in
    let up : FitsSigned w64 c.args.reach.up = search rules in
    let widest : FitsSigned w64 c.args.reach.widest = search rules in
    let most : FitsSigned w64 c.max-else-growth-lt0.result = search rules in
    let widest_is = to_z-of_z w64 c.args.reach.widest widest in
    let most_is = to_z-of_z w64 c.max-else-growth-lt0.result most in
    moved_up c.args.reach _ p q
    (coded_base p q c.requires.low c.requires.high c.args.reach c.requires.room base)
    (to_z-of_z w64 c.args.reach.down down)
    (coded_up p q c.requires.low c.requires.high c.args.reach c.requires.room up rises)
    (omega (arith, ints, c.max-else-growth-lt0.ensures.self_bound, widest_is, most_is))
    (omega (arith, ints, c.max-else-growth-lt0.ensures.other_bound, growth, most_is))
    rises
