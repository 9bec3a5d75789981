-- The quotient of numbers that aren't below zero is the floor.
use Rattle.std.proofs.Common.{◌≡◌, ℤ, pos, ◌-ℤ◌, ◌<ℤ◌, sym, subst, ◌∙◌, arith}
use Rattle.std.proofs.lemmas.Int.{ints, to_z-of_z}
use mir.Syntax.{w64}
use Rattle.interval.specs.Quotients.{floor_of}
use Rattle.sum_tells.proofs.QuotientLaws.{floor_by_one}
use Rattle.short_tells.proofs.GrowthLaws.{steps_inside, coded_floor}
use Rattle.short_tells.proofs.short_terms.steps.Goals as goal

pub returns-then-size-eq1-clause-value : goal.returns-then-size-eq1-clause-value
returns-then-size-eq1-clause-value c =
    let read = to_z-of_z w64 c.args.size c.ranges.size in
    let one : c.args.size ≡ pos 1 = omega (arith, ints, read, c.if-size-eq1.true) in
    to_z-of_z w64 c.args.slack c.ranges.slack ∙ floor_by_one c.law_quotient_order.ensures c.args.slack ∙ (λ i. floor_of c.args.slack (sym one i))

pub returns-else-size-eq1-clause-value : goal.returns-else-size-eq1-clause-value
returns-else-size-eq1-clause-value c = coded_floor c.args.slack c.args.size c.ranges.slack c.ranges.size c.requires.above_zero c.requires.size

pub returns-else-size-eq1-clause-inside : goal.returns-else-size-eq1-clause-inside
returns-else-size-eq1-clause-inside c =
    let P : ℤ → Type 0 = λ z. z <ℤ (c.args.high -ℤ c.args.low) in
    subst P (sym (coded_floor c.args.slack c.args.size c.ranges.slack c.ranges.size c.requires.above_zero c.requires.size))
    (steps_inside c.law_quotient_order.ensures c.args.size c.args.slack c.args.low c.args.high c.requires.size c.requires.above_zero c.requires.wide)
