-- The bound as the code forms it, where it is told; else it stays.
use Rattle.std.proofs.Common.{◌∙◌, ◌++◌, ◌+ℤ◌, List, ℤ, FitsSigned, sym, subst, rules, arith}
use Rattle.std.proofs.lemmas.Int.{ints, to_z-of_z}
use Rattle.std.proofs.lemmas.List.{append-nil}
use mir.Syntax.{w64}
use Rattle.tells.specs.declared.tell.Side.TheVariants.{High}
use Rattle.tells.specs.declared.tell.Tell.{Tell}
use Rattle.interval.specs.Limits.{IsBound, bound_limit, largest_number}
use Rattle.interval.specs.Boxes.{low_of}
use Rattle.seen_tells.specs.Few.{AreFew}
use Rattle.short_tells.proofs.GrowthLaws.{high_told}
use Rattle.seen_tells.proofs.ThreeLaws.{high_kept}
use Rattle.seen_tells.proofs.three.add_high.Goals as goal

pub raised-bound-requires : goal.raised-bound-requires
unfolding bound_limit largest_number
raised-bound-requires c =
    let p = c.low-low.ensures.in_range in let q = c.high-high.ensures.in_range in
    let g = c.gap.ensures in let h = c.if-slack-gap.true in let s = c.ranges.slack in
    omega (arith, ints)

pub returns-then-slack-gap : goal.returns-then-slack-gap
unfolding bound_limit largest_number
returns-then-slack-gap c ts few =
    let b = c.args.b.now in
    let v = c.args.var in
    let low_fits : FitsSigned w64 c.low-low.result = search rules in
    let fits : FitsSigned w64 c.raised-bound.result = search rules in
    let bound = to_z-of_z w64 c.raised-bound.result fits ∙ c.raised-bound.ensures ∙ (λ i. (to_z-of_z w64 c.low-low.result low_fits ∙ c.low-low.ensures.value) i +ℤ to_z-of_z w64 c.args.slack c.ranges.slack i) in
    let p = c.low-low.ensures.in_range in let q = c.high-high.ensures.in_range in
    let low = c.low-low.ensures.value in let high = c.high-high.ensures.value in
    let g = c.gap.ensures in let h = c.if-slack-gap.true in let s = c.requires.slack in
    let told = high_told c.law_clamp_order.ensures b v (low_of b v +ℤ c.args.slack)
    (subst (λ (z : ℤ). IsBound z) low p) (subst (λ (z : ℤ). IsBound z) high q) (omega (arith, ints)) (omega (arith, ints))
    _ (λ i. record { var = v; side = High; bound = bound i }) in
    subst (λ (us : List Tell). AreFew (ts ++ us) c.add.new.self) (sym told) (c.add.ensures ts few)

pub returns-else-slack-gap : goal.returns-else-slack-gap
unfolding bound_limit largest_number
returns-else-slack-gap c ts few =
    let b = c.args.b.now in
    let v = c.args.var in
    let p = c.low-low.ensures.in_range in let q = c.high-high.ensures.in_range in
    let low = c.low-low.ensures.value in let high = c.high-high.ensures.value in
    let g = c.gap.ensures in let h = c.if-slack-gap.false in let s = c.ranges.slack in
    let kept = high_kept c.law_clamp_order.ensures b v (low_of b v +ℤ c.args.slack) (subst (λ (z : ℤ). IsBound z) high q) (omega (arith, ints)) in
    subst (λ (us : List Tell). AreFew us c.args.seen.now) (sym (append-nil ts) ∙ (λ i. ts ++ sym kept i)) few
