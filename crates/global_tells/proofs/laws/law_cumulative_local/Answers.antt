use Rattle.std.proofs.Common.{◌≡◌}
use Rattle.interval.specs.Boxes.{low_of, high_of}
use Rattle.tells.specs.Words.{value_of}
use Rattle.global_tells.specs.Cumulative.{tasks_of}
use Rattle.global_tells.proofs.TaskLaws.{All-starts}
use Rattle.global_tells.proofs.CumulativePlace.{cumulative_local, cumulative_local_relation}
use Rattle.global_tells.proofs.laws.law_cumulative_local.Goals as goal

pub returns-clause-tells : goal.returns-clause-tells
returns-clause-tells c = λ s d r limit b b' agree.
    cumulative_local (tasks_of s d r) limit b b' (All-starts s d r (λ x. (low_of b x ≡ low_of b' x) × (high_of b x ≡ high_of b' x)) (λ i h. (agree.lows i h, agree.highs i h)))

pub returns-clause-relation : goal.returns-clause-relation
returns-clause-relation c = λ s d r limit f g same holds.
    cumulative_local_relation (tasks_of s d r) limit f g (All-starts s d r (λ x. value_of f x ≡ value_of g x) same) holds
