-- The bounds are those that are read.
use Rattle.std.proofs.Common.{◌≡◌, ℤ, ◌≤ℤ◌, to_z, of_z, ap, sym, subst, ◌∙◌, rules, arith}
use Rattle.std.proofs.lemmas.Bool.{OnTrue_from, eqb-true}
use Rattle.std.proofs.lemmas.Int.{ints}
use Rattle.std.specs.Int.{int_max}
use mir.Syntax.{w64}
use Rattle.interval.specs.Limits.{IsBound}
use Rattle.interval.specs.Boxes.{low_of, high_of}
use Rattle.seen_tells.proofs.NaturalLaws.{read}
use Rattle.seen_tells.proofs.greatest.is_reach_kept.Goals as goal

pub returns-then-larger-low-clause-low : goal.returns-then-larger-low-clause-low
returns-then-larger-low-clause-low c =
    let first = read c.low.result (search rules) ∙ c.low.ensures.value in
    let second = read c.low-2.result (search rules) ∙ c.low-2.ensures.value in
    let own = read c.low-3.result (search rules) ∙ c.low-3.ensures.value in
    let least : to_z w64 (of_z w64 c.larger.result) ≡ int_max (low_of c.args.b.now c.args.x) (low_of c.args.b.now c.args.y) = read c.larger.result (search rules) ∙ c.larger.ensures ∙ (λ i. int_max (first i) (second i)) in
    let test = c.if-larger-low.true in
    OnTrue_from _ (int_max (low_of c.args.b.now c.args.x) (low_of c.args.b.now c.args.y) ≤ℤ low_of c.args.b.now c.args.m) (λ e. omega (arith, ints))

pub returns-then-larger-low-clause-high : goal.returns-then-larger-low-clause-high
returns-then-larger-low-clause-high c =
    let first = read c.high.result (search rules) ∙ c.high.ensures.value in
    let second = read c.high-then-larger-low.result (search rules) ∙ c.high-then-larger-low.ensures.value in
    let own = read c.high-then-larger-low-2.result (search rules) ∙ c.high-then-larger-low-2.ensures.value in
    let most : to_z w64 (of_z w64 c.larger-then-larger-low.result) ≡ int_max (high_of c.args.b.now c.args.x) (high_of c.args.b.now c.args.y) = read c.larger-then-larger-low.result (search rules) ∙ c.larger-then-larger-low.ensures ∙ (λ i. int_max (first i) (second i)) in
    OnTrue_from _ (int_max (high_of c.args.b.now c.args.x) (high_of c.args.b.now c.args.y) ≡ high_of c.args.b.now c.args.m)
    (λ e. sym most ∙ ap (to_z w64) (eqb-true (of_z w64 c.larger-then-larger-low.result) (of_z w64 c.high-then-larger-low-2.result) e) ∙ own)

pub returns-then-larger-low-clause-low_in_range : goal.returns-then-larger-low-clause-low_in_range
returns-then-larger-low-clause-low_in_range c =
    let B : ℤ → Type 0 = λ z. IsBound z in
    OnTrue_from _ (IsBound (low_of c.args.b.now c.args.m)) (λ e. subst B c.low-3.ensures.value c.low-3.ensures.in_range)
