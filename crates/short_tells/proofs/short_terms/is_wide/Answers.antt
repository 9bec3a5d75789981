-- The growth is exact, and a variable with one number left makes none.
use Rattle.std.proofs.Common.{◌≡◌, false, ℤ, pos, ◌-ℤ◌, ◌*ℤ◌, ◌≤ℤ◌, FitsSigned, to_z, of_z, sym, ◌∙◌, rules, arith}
use Rattle.std.proofs.lemmas.Bool.{OnFalse_from}
use Rattle.std.proofs.lemmas.Int.{ints, to_z-of_z}
use mir.Syntax.{w64}
use Rattle.std.specs.Int.{int_min, int_max}
use Rattle.std.specs.Int.RustNames.{int_lt}
use Rattle.interval.specs.Boxes.{low_of, high_of}
use Rattle.sum_tells.specs.Linear.{least_of, greatest_of}
use Rattle.small_sums.specs.Short.{growth_of, growth_limit}
use Rattle.tell_laws.proofs.HearingLaws.{along}
use Rattle.sum_tells.proofs.ProductLaws.{coded_number}
use Rattle.small_sums.proofs.SlightLaws.{bound_read}
use Rattle.short_tells.proofs.GrowthLaws.{still_grows}
use Rattle.short_tells.proofs.short_terms.is_wide.Goals as goal

pub growth-requires-clause-short : goal.growth-requires-clause-short
unfolding least_of greatest_of
growth-requires-clause-short c =
    let b = c.args.b.now in
    let x = c.args.term.1 in
    let P : ℤ → ℤ → ℤ → Type 0 = λ a l h. (int_max (a *ℤ l) (a *ℤ h) -ℤ int_min (a *ℤ l) (a *ℤ h)) ≤ℤ pos growth_limit in
    let number = coded_number c.args.term.0 c.requires.coefficient in
    let low = bound_read c.low-low.result (low_of b x) c.low-low.ensures.in_range c.low-low.ensures.value in
    let high = bound_read c.high-high.result (high_of b x) c.high-high.ensures.in_range c.high-high.ensures.value in
    along P (sym number) (sym low) (sym high) c.requires.growth.short

pub returns-then-low-high : goal.returns-then-low-high
unfolding least_of greatest_of
returns-then-low-high c = OnFalse_from _ _ (λ e.
    let b = c.args.b.now in
    let x = c.args.term.1 in
    let number = coded_number c.args.term.0 c.requires.coefficient in
    let low = bound_read c.low-low.result (low_of b x) c.low-low.ensures.in_range c.low-low.ensures.value in
    let high = bound_read c.high-high.result (high_of b x) c.high-high.ensures.in_range c.high-high.ensures.value in
    let f : FitsSigned w64 c.growth.result = search rules in
    let grown : to_z w64 (of_z w64 c.growth.result) ≡ growth_of b c.args.term.0 x =
    to_z-of_z w64 c.growth.result f ∙ c.growth.ensures
    ∙ (λ i. int_max (number i *ℤ low i) (number i *ℤ high i) -ℤ int_min (number i *ℤ low i) (number i *ℤ high i)) in
    let slack = to_z-of_z w64 c.args.slack c.ranges.slack in
    let own : int_lt c.args.slack (growth_of b c.args.term.0 x) ≡ false = sym (λ i. int_lt (slack i) (grown i)) ∙ e in
    omega (arith, ints))

pub returns-else-low-high : goal.returns-else-low-high
returns-else-low-high c =
    let b = c.args.b.now in
    let x = c.args.term.1 in
    let low = bound_read c.low-low.result (low_of b x) c.low-low.ensures.in_range c.low-low.ensures.value in
    let high = bound_read c.high-high.result (high_of b x) c.high-high.ensures.in_range c.high-high.ensures.value in
    let same : low_of b x ≡ high_of b x = omega (arith, ints, low, high, c.if-low-high.false, c.requires.proper) in
    let still = still_grows b c.args.term.0 x same in
    let small : growth_of b c.args.term.0 x ≤ℤ c.args.slack = omega (arith, ints, still, c.requires.above_zero) in
    OnFalse_from _ _ (λ e. small)
