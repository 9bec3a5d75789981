use Rattle.std.proofs.Common.{get_or, ◌≤ℤ◌}
use Rattle.interval.specs.Limits.{IsBound}
use Rattle.interval.specs.Boxes.{low_of, high_of}
use Rattle.global_tells.specs.Cumulative.{tasks_of}
use Rattle.global_tells.proofs.TaskLaws.{All-starts, tasks_positive}
use Rattle.global_tells.proofs.CumulativeLaws.{IsTighterFor, cumulative_monotone}
use Rattle.global_tells.proofs.laws.law_cumulative_monotone.Goals as goal

pub returns : goal.returns
returns c = λ s d r limit outer inner tasks variables range proper inside closed.
    let tighter : IsTighterFor (tasks_of s d r) inner outer = record {
      proper = All-starts s d r (λ x. low_of inner x ≤ℤ high_of inner x) proper;
      lows = All-starts s d r (λ x. low_of outer x ≤ℤ low_of inner x) inside.lows;
      highs = All-starts s d r (λ x. high_of inner x ≤ℤ high_of outer x) inside.highs;
      outer_lows = All-starts s d r (λ x. IsBound (low_of outer x)) (λ i h. range.lows (get_or s i 0) (variables.each i h));
      outer_highs = All-starts s d r (λ x. IsBound (high_of outer x)) (λ i h. range.highs (get_or s i 0) (variables.each i h));
    } in
    cumulative_monotone c.law_clamp_order.ensures (tasks_of s d r) limit outer inner (tasks_positive s d r limit tasks) tasks.limit.positive tighter closed
