-- When the best solution of the search for the least cost is known to be the first that costs so much: in a static order.
use Rattle.std.specs.Prelude.{◌≡◌, ℤ, List, Some}
use Rattle.interval.specs.Boxes.{Bounds}
use Rattle.constraint_model.specs.declared.model.FznModel.{FznModel}
use Rattle.constraint_model.specs.Relations.{cost_of, IsSolution}
use Rattle.constraint_model.specs.Searches.{IsSearchOf}
use Rattle.constraint_model.specs.WellFormed.{IsWellFormed}
use Rattle.solution_lists.specs.Solutions.{SolvesInside}
use Rattle.solution_lists.specs.Static.{IsStaticSearch, Precedes, BeginsWithFirst}
use Rattle.search.specs.Machine.{Search}
use Rattle.search.specs.declared.kind.Kind.{Kind}
use Rattle.search.specs.declared.ends.LeastEnd.{LeastEnd}
use Rattle.search.specs.Ends.{head_of}
use Rattle.search.specs.LeastEnds.{EndsLeast}
use Rattle.search.specs.Laws.{IsInsideStart}
use Rattle.tree_cover.specs.declared.part.Part.{Part}
use Rattle.answer.specs.declared.options.Options.{Options}
use Rattle.answer.specs.Lists.{Assignment, ListsSolutions, IsSolutionAt, ListsSolutionsAt}
use Rattle.answer.specs.Unfinished.{FindsBest}
use Rattle.answer.specs.Parts.{whole_tree}

-- in a static order the list of all solutions, and that of those that cost so much, begin with the one that precedes all others
pub record FirstOfLists : Type 0 where
  pub all : (model : FznModel) (found : List Assignment) → IsStaticSearch model → IsSearchOf model →
      ListsSolutions model found → BeginsWithFirst model (IsSolution model) found
  pub at : (model : FznModel) (cost : ℤ) (found : List Assignment) → IsStaticSearch model → IsSearchOf model →
      ListsSolutionsAt model cost found → BeginsWithFirst model (IsSolutionAt model cost) found

-- a is a solution in the box that costs so much, and none of these precedes it
pub record IsFirstIn (model : FznModel) (cost : ℤ) (b : Bounds) (a : Assignment) : Type 0 where
  pub solves : SolvesInside model b a
  pub costs : cost_of model.goal a ≡ Some cost
  pub first : (x : Assignment) → SolvesInside model b x → cost_of model.goal x ≡ Some cost → Precedes model x a → ⊥

-- there the solution that a search of a box for the least cost ends with is the first of its cost in the box
abbrev pub LastIsFirst : Type 0
LastIsFirst = (s : Search) (found : List Assignment) (a : Assignment) (cost : ℤ) → s.kind ≡ Kind.Least → IsInsideStart s → IsStaticSearch s.model →
    EndsLeast s found (LeastEnd.Done (Some a)) → cost_of s.model.goal a ≡ Some cost → IsFirstIn s.model cost s.sub a

-- so the best one is the first of all solutions that cost so much, where the one part was the whole tree
abbrev pub BestIsFirst : Type 0
BestIsFirst = (model : FznModel) (options : Options) (best : Assignment) (cost : ℤ) (found : List Assignment) → IsWellFormed model → IsStaticSearch model →
    FindsBest model options whole_tree best → cost_of model.goal best ≡ Some cost → ListsSolutionsAt model cost found → head_of found ≡ Some best

-- the order is static, the one part is the whole tree, and no limit is set
pub record IsSettled (model : FznModel) (options : Options) (parts : List Part) : Type 0 where
  pub static : IsStaticSearch model
  pub one_part : parts ≡ whole_tree
  pub node_limit : options.node_limit ≡ 0
  pub round_limit : options.round_limit ≡ 0
