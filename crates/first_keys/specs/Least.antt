-- How far a search for the first solution of a static order has come.
use Rattle.std.specs.Prelude.{◌≡◌, ℕ, suc, ◌≤◌, ◌<◌, ℤ, ◌≤ℤ◌, List, length}
use Rattle.interval.specs.Limits.{IsBound}
use Rattle.interval.specs.Boxes.{Bounds, low_of, high_of, IsInside}
use Rattle.constraint_model.specs.declared.model.FznModel.{FznModel}
use Rattle.solution_lists.specs.Solutions.{LiesIn, SolvesInside}
use Rattle.solution_lists.specs.Order.{value_at}
use Rattle.solution_lists.specs.Static.{IsStaticSearch}
use Rattle.free_laws.specs.Keys.{HasKeys, IsLeastAt}
use Rattle.search.specs.declared.run.Run.{Run}
use Rattle.first_keys.specs.declared.keys.Keys.{Keys}
use Rattle.first_keys.specs.declared.keys.Numbers.{Numbers}
use Rattle.first_keys.specs.Order.{keys_of}

-- The first i keys of the solution s are the least in the box `sub`, one after another, and the solutions there that have
-- them are those in the box `rest`.
pub record AreLeast (model : FznModel) (sub rest : Bounds) (s : List ℤ) (i : ℕ) : Type 0 where
  pub inside : IsInside rest sub
  pub solves : SolvesInside model rest s
  pub have : (a : List ℤ) → SolvesInside model rest a → HasKeys model s i a
  pub hold : (a : List ℤ) → SolvesInside model sub a → HasKeys model s i a → LiesIn model a rest
  pub least : (j : ℕ) → j < i → IsLeastAt model (SolvesInside model sub) s j

-- the box that is asked for
abbrev pub asked : Keys → Bounds
asked keys = keys.sub

-- the search is a static one, the keys are those of its order, and so many of them are the least
pub record IsKeys {L : Type 0} (run : Run L) (keys : Keys) : Type 0 where
  pub is_static : IsStaticSearch run.model.now
  pub list : keys.list ≡ keys_of run.model.now
  pub inside : IsInside keys.sub run.program.now.start
  pub least : AreLeast run.model.now keys.sub keys.rest keys.solution keys.place

-- all keys are the least
abbrev pub IsDone : Keys → Type 0
IsDone keys = length keys.list ≤ keys.place

-- a number of a variable in the solution, and the bounds that it has in the box that is left
pub record AreNumbersOf (keys : Keys) (var : ℕ) (numbers : Numbers) : Type 0 where
  pub low : numbers.low ≡ low_of keys.rest (suc var)
  pub high : numbers.high ≡ high_of keys.rest (suc var)
  pub value : numbers.value ≡ value_at keys.solution var
  pub from : numbers.low ≤ℤ numbers.value
  pub to : numbers.value ≤ℤ numbers.high
  pub low_bound : IsBound numbers.low
  pub high_bound : IsBound numbers.high
