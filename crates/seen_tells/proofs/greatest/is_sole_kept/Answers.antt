-- Where one can't be as great, the other is so.
use Rattle.std.proofs.Common.{ℤ, ◌≤ℤ◌, subst, ◌∙◌, rules}
use Rattle.std.proofs.lemmas.Bool.{OnTrue_from, OnTrue_at}
use Rattle.std.specs.Int.{int_max}
use Rattle.std.specs.List.{All}
use Rattle.interval.specs.Limits.{IsBound}
use Rattle.interval.specs.Boxes.{low_of, high_of}
use Rattle.guarded_tell.specs.Words.{Keeps}
use Rattle.seen_tells.proofs.NaturalLaws.{read}
use Rattle.seen_tells.proofs.GreatestLaws.{sole_tells, sole_kept}
use Rattle.seen_tells.proofs.greatest.is_sole_kept.Goals as goal

pub returns-then-may_reach : goal.returns-then-may_reach
returns-then-may_reach c =
    let b = c.args.b.now in
    let low = read c.low-low.result (search rules) ∙ c.low-low.ensures.value in
    let B : ℤ → Type 0 = λ z. IsBound z in
    let P : ℤ → Type 0 = λ z. z ≤ℤ int_max (high_of b c.args.x) (low_of b c.args.y) in
    let Q : ℤ → Type 0 = λ z. z ≤ℤ int_max (high_of b c.args.y) (low_of b c.args.x) in
    OnTrue_from _ (All (Keeps b) (sole_tells b c.args.m c.args.x c.args.y)) (λ e.
    sole_kept b c.args.m c.args.x c.args.y c.law_clamp_order.ensures (subst B c.low-low.ensures.value c.low-low.ensures.in_range)
    (subst P low c.if-may_reach.ensures) (subst Q low (OnTrue_at e c.may_reach-then-may_reach.ensures)))
