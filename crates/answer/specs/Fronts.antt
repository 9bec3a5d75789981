-- What is given of each part of the search tree, where all solutions are asked for: a front of its list.
use Rattle.std.specs.Prelude.{◌≡◌, List, ◌++◌, flat_map, Option}
use Rattle.interval.specs.Boxes.{Bounds}
use Rattle.constraint_model.specs.declared.model.FznModel.{FznModel}
use Rattle.decompose.specs.Kernels.{kernels_of}
use Rattle.decompose.specs.Program.{start_of}
use Rattle.subproblems.specs.Paths.{SolutionsOf}
use Rattle.tree_cover.specs.Covers.{parts_to}
use Rattle.answer.specs.declared.options.Options.{Options}
use Rattle.answer.specs.Lists.{Assignment}
use Rattle.answer.specs.Places.{AreResults}

-- these solutions are the first of the list of those of what a part leads to
pub record IsFrontOfPart (model : FznModel) (path : Option Bounds) (front : List Assignment) : Type 0 where
  pub rest : List Assignment
  pub listed : SolutionsOf model (kernels_of model) path (front ++ rest)

-- the solutions are a front of the list of each part to the depth that is asked for, one behind the other in the order of the parts
pub record ComeInFronts (model : FznModel) (options : Options) (solutions : List Assignment) : Type 0 where
  pub fronts : List (List Assignment)
  pub are : AreResults model (parts_to options.depth) (start_of model) (λ place path front. IsFrontOfPart model path front) fronts
  pub joined : solutions ≡ flat_map (λ front. front) fronts
