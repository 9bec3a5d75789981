-- What is known of a race for the least cost.
use Rattle.std.specs.Prelude.{◌≡◌, ℤ, ◌≤ℤ◌, true, List, Option, Some, None, IfSome}
use Rattle.interval.specs.Boxes.{Bounds}
use Rattle.constraint_model.specs.declared.model.FznModel.{FznModel}
use Rattle.constraint_model.specs.Relations.{cost_of}
use Rattle.solution_lists.specs.Solutions.{SolvesInside}
use Rattle.solution_lists.specs.Static.{IsStaticSearch}
use Rattle.search.specs.declared.run.Run.{Run}
use Rattle.search.specs.declared.least_turns.LeastTurns.{LeastTurns}
use Rattle.search.specs.Costs.{IsBelow}
use Rattle.search.specs.Turns.{CostsAtLeast, IsFirstOfItsCost, IsLeastTurns, least_asked, lowest_of, found_last}
use Rattle.free_search.specs.Free.{IsFreeSearch}
use Rattle.race.specs.declared.task.Task.{Task}
use Rattle.race.specs.declared.incumbent.Incumbent.{Incumbent}
use Rattle.race.specs.declared.lowering.Raced.{Raced}
use Rattle.race.specs.declared.lowering.FreeTurn.{FreeTurn}
use Rattle.race.specs.declared.lowering.FreeTurn.TheVariants.{Proved, Goes, Over}
use Rattle.race.specs.declared.least.PlainTurn.{PlainTurn}
use Rattle.race.specs.declared.least.PlainTurn.TheVariants.{Done, Paused}

-- ---- the best solution that is known

-- the order is static, and each solution in the box that precedes it costs more
pub record IsFirstOfCost (model : FznModel) (b : Bounds) (a : List ℤ) : Type 0 where
  pub static_order : IsStaticSearch model
  pub first : IsFirstOfItsCost model b a

-- a solution in the box with its cost, and the first of that cost where it is said to be
pub record IsIncumbent (model : FznModel) (b : Bounds) (best : Incumbent) : Type 0 where
  pub solves : SolvesInside model b best.values
  pub costs : cost_of model.goal best.values ≡ Some best.cost
  pub first : best.is_first ≡ true → IsFirstOfCost model b best.values

-- what the best one costs, if there is one
abbrev pub best_cost : Option Incumbent → Option ℤ
best_cost None = None
best_cost (Some best) = Some best.cost

-- such a solution of least cost; none only where the box has no solution
abbrev pub IsLeastIn : FznModel → Bounds → Option Incumbent → Type 0
IsLeastIn model b None = (a : List ℤ) → SolvesInside model b a → ⊥
IsLeastIn model b (Some best) = IsIncumbent model b best × CostsAtLeast model b (Some best.cost)

-- ---- over the turns

-- there is a cost of this kind only where the other is as low
abbrev pub IsAsLow : Option ℤ → Option ℤ → Type 0
IsAsLow None lowest = lowest ≡ None
IsAsLow (Some cost) None = Unit {0}
IsAsLow (Some cost) (Some lowest) = cost ≤ℤ lowest

-- an incumbent of the box, if there is one, that costs at most so much
pub record IsBest {L : Type 0} (task : Task L) (lowest : Option ℤ) (best : Option Incumbent) : Type 0 where
  pub incumbent : IfSome best (IsIncumbent task.run.now.model.now task.sub.now)
  pub as_low : IsAsLow (best_cost best) lowest

-- a solution in the box that costs less than so much, if that is given
pub record IsLower (model : FznModel) (b : Bounds) (best : Option ℤ) (a : List ℤ) : Type 0 where
  pub solves : SolvesInside model b a
  pub below : (cost : ℤ) → cost_of model.goal a ≡ Some cost → IsBelow cost best

-- the plain search is one of the box
pub record IsPlain {L : Type 0} (task : Task L) (plain : LeastTurns) : Type 0 where
  pub turns : IsLeastTurns task.run.now plain
  pub same_box : least_asked plain ≡ task.sub.now

-- the plain search and the best of both
pub record IsStanding {L : Type 0} (task : Task L) (plain : LeastTurns) (best : Option Incumbent) : Type 0 where
  pub is_plain : IsPlain task plain
  pub is_best : IsBest task (lowest_of plain) best

-- the solution that the plain search found last, with the least cost, if there are both
abbrev pub IsCopy : LeastTurns → Incumbent → Type 0
IsCopy plain best = (found_last plain ≡ Some best.values) × (lowest_of plain ≡ Some best.cost)

-- the plain search is at its end, or paused
abbrev pub IsPlainTurn : {L : Type 0} → Task L → LeastTurns → PlainTurn → Type 0
IsPlainTurn task plain (Done best) = IsLeastIn task.run.now.model.now task.sub.now best
IsPlainTurn task plain (Paused best) = IsStanding task plain best

abbrev pub IfPaused : PlainTurn → Type 0 → Type 0
IfPaused (Done best) p = Unit {0}
IfPaused (Paused best) p = p

-- the best one, and the free search if it is made
pub record IsRacing {L : Type 0} (task : Task L) (lowest : Option ℤ) (raced : Raced) : Type 0 where
  pub best : IsBest task lowest raced.best
  pub free : IfSome raced.free (IsFreeSearch task.run.now)

-- the same in the end, where the best one is of least cost in the box
pub record IsOutcome {L : Type 0} (run : Run L) (b : Bounds) (raced : Raced) : Type 0 where
  pub least : IsLeastIn run.model.now b raced.best
  pub free : IfSome raced.free (IsFreeSearch run)

-- a turn of the free search, where the best cost was so low: none costs less, or it goes on, or it is over
abbrev pub IsFreeTurn : {L : Type 0} → Task L → Option ℤ → FreeTurn → Type 0
IsFreeTurn task lowest (Proved raced) = IsOutcome task.run.now task.sub.now raced
IsFreeTurn task lowest (Goes raced) = IsRacing task lowest raced
IsFreeTurn task lowest (Over best) = IsBest task lowest best
