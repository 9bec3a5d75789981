-- What is known of a search for better and better plans.
use Rattle.std.specs.Prelude.{◌≡◌, ◌+◌, ◌<◌, ℕ, ℤ, pos, ◌+ℤ◌, unsigned_abs, List, Option, Some, None, IfSome}
use Rattle.interval.specs.Limits.{bound_limit}
use Rattle.constraint_model.specs.declared.model.FznModel.{FznModel}
use Rattle.search.specs.declared.run.Run.{Run}
use Rattle.search.specs.declared.first_turns.FirstTurn.{FirstTurn}
use Rattle.search.specs.declared.first_turns.FirstTurns.{FirstTurns}
use Rattle.search.specs.declared.least_turns.LeastTurns.{LeastTurns}
use Rattle.search.specs.LeastEnds.{IsCost}
use Rattle.search.specs.Turns.{IsFirstTurns, IsLeastTurns, first_asked, found_last, least_asked, lowest_of as plain_lowest}
use Rattle.free_search.specs.Free.{IsFreeSearch}
use Rattle.race.specs.Leasts.{IsAsLow}
use Rattle.best_search.specs.declared.better.BestSearch.{BestSearch}
use Rattle.best_search.specs.declared.better.Step.{Step}
use Rattle.best_search.specs.declared.plain.Found.{Found as FoundPlan}
use Rattle.best_search.specs.declared.better.Step.TheVariants.{Found, Done, Paused}
use Rattle.best_search.specs.Plans.{IsAny, IsCheaper, NoneIsCheaper}

-- ---- for the least cost

-- the cost of the last plan, if there is one
abbrev pub lowest_of : BestSearch → Option ℤ
lowest_of search = search.lowest

-- how many plans may come, at most
abbrev pub room_of : Option ℤ → ℕ
room_of None = bound_limit + bound_limit + 1
room_of (Some cost) = unsigned_abs (cost +ℤ pos bound_limit)

-- both searches are of the run's whole box, the free one if it is made; and the last plan costs at most what the plain one knows of
pub record IsBestSearch {L : Type 0} (run : Run L) (search : BestSearch) : Type 0 where
  pub plain : IsLeastTurns run search.plain
  pub same_box : least_asked search.plain ≡ run.program.now.start
  pub is_free : IfSome search.free (IsFreeSearch run)
  pub cost : IfSome search.lowest (IsCost run.model.now)
  pub as_low : IsAsLow search.lowest (plain_lowest search.plain)

-- a cheaper plan is found, so that fewer may come, or nothing is cheaper, or neither
abbrev pub IsStep : FznModel → Option ℤ → Option ℤ → Step → Type 0
IsStep model before after (Found plan) = IsCheaper model before after plan × (room_of after < room_of before)
IsStep model before after Done = (after ≡ before) × NoneIsCheaper model before
IsStep model before after Paused = after ≡ before

abbrev pub IfPaused : Step → Type 0 → Type 0
IfPaused (Found plan) p = Unit {0}
IfPaused Done p = Unit {0}
IfPaused Paused p = p

-- what the plain search found last, and its cost
pub record IsLastOf (plain : LeastTurns) (found : FoundPlan) : Type 0 where
  pub plan : found_last plain ≡ Some found.plan
  pub cost : plain_lowest plain ≡ Some found.cost

-- ---- for any solution

-- the plain search is one of the run's whole box
pub record IsPlain {L : Type 0} (run : Run L) (plain : FirstTurns) : Type 0 where
  pub turns : IsFirstTurns run plain
  pub same_box : first_asked plain ≡ run.program.now.start

-- it is at its end, or paused
abbrev pub IsPlainTurn : {L : Type 0} → Run L → FirstTurns → FirstTurn → Type 0
IsPlainTurn run plain (FirstTurn.Done answer) = IsAny run.model.now answer
IsPlainTurn run plain FirstTurn.Paused = IsPlain run plain
