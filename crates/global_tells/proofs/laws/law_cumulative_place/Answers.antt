use Rattle.std.proofs.Common.{ℕ, ℤ, List, length, sym, subst}
use Rattle.std.specs.List.{All}
use Rattle.tells.specs.Words.{low_tell, high_tell}
use Rattle.global_tells.specs.Ranges.{none_tells}
use Rattle.global_tells.specs.Cumulative.{tasks_of}
use Rattle.global_tells.proofs.PlaceLaws.{IsPlaced, low_placed, high_placed, none_placed}
use Rattle.global_tells.proofs.TaskLaws.{All-starts, tasks_starts}
use Rattle.global_tells.proofs.CumulativePlace.{cumulative_placed}
use Rattle.global_tells.proofs.laws.law_cumulative_place.Goals as goal

pub returns : goal.returns
returns c = λ s d r limit b tasks variables.
    let clamped = c.law_clamp_order.ensures in
    let P : List ℕ → Type 0 = λ xs. All (IsPlaced (length b) s) (none_tells xs) in
    let none = subst P (sym (tasks_starts s d r limit tasks)) (none_placed clamped (length b) s variables) in
    cumulative_placed (length b) s (tasks_of s d r) limit b none
    (All-starts s d r (λ x. (z : ℤ) → IsPlaced (length b) s (low_tell x z) × IsPlaced (length b) s (high_tell x z)) (λ i h z. (low_placed clamped (length b) s variables i z h, high_placed clamped (length b) s variables i z h)))
