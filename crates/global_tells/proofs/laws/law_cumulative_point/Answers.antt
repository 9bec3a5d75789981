-- At a point what is sure is what is under way.
use Rattle.std.proofs.Common.{◌≡◌, ℤ, get_or, ◌≤ℤ◌, sym, subst, ◌∙◌}
use Rattle.interval.specs.Boxes.{low_of, high_of}
use Rattle.tells.specs.Words.{value_of, point_of}
use Rattle.global_tells.specs.Cumulative.{tasks_of, usage_at, used_at}
use Rattle.global_tells.proofs.PlaceLaws.{value-point}
use Rattle.global_tells.proofs.TaskLaws.{All-starts, tasks_positive}
use Rattle.global_tells.proofs.CumulativeLaws.{closed_holds, holds_closed}
use Rattle.global_tells.proofs.CumulativePlace.{used_sure}
use Rattle.global_tells.proofs.laws.law_cumulative_point.Goals as goal

pub returns : goal.returns
returns c = λ s d r limit b tasks variables point.
    let ts = tasks_of s d r in
    let fixed = All-starts s d r (λ x. low_of b x ≡ high_of b x) (λ i h. point (get_or s i 0) (variables.each i h)) in
    let values = All-starts s d r (λ x. (low_of b x ≡ value_of (point_of b) x) × (high_of b x ≡ value_of (point_of b) x)) (λ i h.
    let x = get_or s i 0 in
    let e = value-point b x in
    (sym e, sym (point x (variables.each i h)) ∙ sym e)) in
    let same : (t : ℤ) → usage_at ts b t ≡ used_at ts (point_of b) t = (λ t. used_sure ts b (point_of b) t values) in (
      λ closed. (λ t. subst (λ (z : ℤ). z ≤ℤ limit) (same t) (closed_holds c.law_clamp_order.ensures ts limit b (tasks_positive s d r limit tasks) tasks.limit.positive fixed closed t)),
      λ holds. holds_closed c.law_clamp_order.ensures ts limit b (tasks_positive s d r limit tasks) tasks.limit.positive fixed (λ t. subst (λ (z : ℤ). z ≤ℤ limit) (sym (same t)) (holds t)),
    )
