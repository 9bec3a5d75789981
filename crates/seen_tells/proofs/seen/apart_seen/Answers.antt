-- The bound that is left out, as the code reads it.
use Rattle.std.proofs.Common.{◌∙◌, ℤ, pos, ◌+ℤ◌, ◌-ℤ◌, FitsSigned, inl, inr, subst, rules, arith}
use Rattle.std.proofs.lemmas.Int.{ints, to_z-of_z}
use mir.Syntax.{w64}
use Rattle.tells.specs.declared.tell.Side.TheVariants.{Low, High}
use Rattle.interval.specs.Limits.{IsBound, bound_limit, largest_number}
use Rattle.seen_tells.proofs.seen.apart_seen.Goals as goal

pub returns-then-low-value : goal.returns-then-low-value
returns-then-low-value c =
    let low_fits : FitsSigned w64 c.low-low.result = search rules in
    let low = to_z-of_z w64 c.low-low.result low_fits ∙ c.low-low.ensures.value in
    let fits : FitsSigned w64 c.added.result = search rules in
    let bound = to_z-of_z w64 c.added.result fits ∙ c.added.ensures ∙ (λ i. low i +ℤ pos 1) in (
      c.last.ensures.last,
      record {
        low_in_range = subst (λ (z : ℤ). IsBound z) c.low-low.ensures.value c.low-low.ensures.in_range;
        high_in_range = subst (λ (z : ℤ). IsBound z) c.high-high.ensures.value c.high-high.ensures.in_range;
        moves = inl (omega (arith, ints), c.last.ensures.tell ∙ (λ i. record { var = c.args.var; side = Low; bound = bound i }));
      },
    )

pub returns-then-high-value : goal.returns-then-high-value
returns-then-high-value c =
    let high_fits : FitsSigned w64 c.high-high.result = search rules in
    let high = to_z-of_z w64 c.high-high.result high_fits ∙ c.high-high.ensures.value in
    let fits : FitsSigned w64 c.less.result = search rules in
    let bound = to_z-of_z w64 c.less.result fits ∙ c.less.ensures ∙ (λ i. high i -ℤ pos 1) in (
      c.last-then-high-value.ensures.last,
      record {
        low_in_range = subst (λ (z : ℤ). IsBound z) c.low-low.ensures.value c.low-low.ensures.in_range;
        high_in_range = subst (λ (z : ℤ). IsBound z) c.high-high.ensures.value c.high-high.ensures.in_range;
        moves = inr (omega (arith, ints), c.last-then-high-value.ensures.tell ∙ (λ i. record { var = c.args.var; side = High; bound = bound i }));
      },
    )

pub added-requires-clause-second : goal.added-requires-clause-second
unfolding bound_limit largest_number
added-requires-clause-second c = omega (arith, ints)
