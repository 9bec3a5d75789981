-- What a portfolio tells of the first solution.
use Rattle.std.proofs.Common.{◌≡◌, ℕ, suc, List, [], ◌∷◌, ◌++◌, length, take, Option, None, Some, refl, sym, ap, subst, ◌∙◌, arith}
use Rattle.std.specs.List.{AllZip}
use Rattle.std.proofs.lemmas.Option.{slice_get_within, get_or_from_slice_get}
use Rattle.interval.specs.Boxes.{Bounds, IsInside, IsInRange, InsideOrder}
use Rattle.guarded_tell.specs.declared.kernel.Kernel.{Kernel}
use Rattle.constraint_model.specs.declared.model.FznModel.{FznModel}
use Rattle.decompose.specs.Kernels.{kernels_of}
use Rattle.branching.specs.Tree.{OneList, EveryList, SolutionsIn}
use Rattle.subproblems.specs.Cuts.{CanBeCut, CutLaws}
use Rattle.subproblems.specs.Paths.{SolutionsOfAll, PathLaws}
use Rattle.tree_cover.specs.declared.part.Part.{Part}
use Rattle.tree_parts.specs.Whole.{WholeOfParts}
use Rattle.search.specs.declared.kind.Kind.{Kind}
use Rattle.search.specs.declared.ends.FirstEnd.{FirstEnd}
use Rattle.search.specs.Ends.{head_of, search_in, IsFirstDone, IsFirstEnd}
use Rattle.portfolio.specs.declared.told.FirstTold.{FirstTold}
use Rattle.portfolio.specs.Told.{TellsFirst, joined, TellsFirstIn}
use Rattle.answer.specs.declared.plan.Plan.{Plan}
use Rattle.answer.specs.Lists.{Assignment}
use Rattle.answer.specs.Results.{listed}
use Rattle.answer.specs.Places.{StandsAt, PartLeadsTo}
use Rattle.answer.specs.Plans.{IsPlan, model_of, kernels_in}
use Rattle.answer.specs.Parts.{AreParts}
use Rattle.answer.specs.Portfolios.{AreTellingEnds, TellsFirstOf, TellsHead}
use Rattle.answer.proofs.PartPaths.{ArePathsOf, one_at, every_at, listed_by_parts}
use Rattle.answer.proofs.ListedLaws.{is_program, can_be_cut}
use Rattle.answer.proofs.JobLaws.{plan_leads}

-- a plan's box can be cut
pub plan_can : {L : Type 0} (order : InsideOrder) (plan : Plan L) → IsPlan plan → IsInRange plan.start.now → CanBeCut (model_of plan) (kernels_of (model_of plan)) plan.start.now
plan_can order plan is range =
    can_be_cut order (model_of plan) is.run.model.search (is_program (model_of plan) plan.run.now.program.now is.run.program) plan.start.now
    (subst (λ (b : Bounds). IsInside plan.start.now b) is.run.program.start is.inside) range

-- what is told of a list by the program's kernels is told of it by the model's
pub whole_tells : {L : Type 0} (plan : Plan L) → IsPlan plan → (told : FirstTold) → TellsFirstIn plan.run.now plan.start.now told → TellsFirstOf (model_of plan) (Some plan.start.now) told
whole_tells plan is told h found s = h found (subst (λ (ks : List Kernel). SolutionsIn (model_of plan) ks plan.start.now found) (sym is.run.program.kernels) s)

pub tells_whole : {L : Type 0} (plan : Plan L) → IsPlan plan → (told : FirstTold) → TellsFirstOf (model_of plan) (Some plan.start.now) told → TellsFirstIn plan.run.now plan.start.now told
tells_whole plan is told h found s = h found (subst (λ (ks : List Kernel). SolutionsIn (model_of plan) ks plan.start.now found) is.run.program.kernels s)

-- the first that was collected is the head, where it is the first of the list
pub head_of_first : (found : List Assignment) (answer : Option Assignment) → listed answer ≡ take 1 found → answer ≡ head_of found
head_of_first [] None e = refl
head_of_first [] (Some a) e = absurd cc
head_of_first (b ∷ found) None e = absurd cc
head_of_first (b ∷ found) (Some a) e = cc

-- ---- one run

-- nothing is told
pub unknown_first : (found : List Assignment) → TellsFirst found FirstTold.Unknown
unknown_first found = tt

-- what is told is so of whatever answer it is
tells_by : (found : List Assignment) (told : FirstTold) → ((answer : Option Assignment) → told ≡ FirstTold.Known answer → answer ≡ head_of found) → TellsFirst found told
tells_by found FirstTold.Unknown h = tt
tells_by found (FirstTold.Known answer) h = h answer refl

module _ {L : Type 0} (plan : Plan L) (is : IsPlan plan) where
  abbrev model : FznModel
  model = model_of plan

  -- what is told of what the part leads to is told of the part
  tells_at : (laws : PathLaws) (place : ℕ) (path : Option Bounds) (told : FirstTold) → PartLeadsTo model (kernels_in plan) plan.parts.now plan.start.now place path → TellsFirstOf model path told →
      TellsHead model plan.parts.now plan.start.now (suc place) told
  tells_at laws place path told leads h other there =
      subst (λ (p : Option Bounds). TellsFirstOf model p told)
      (one_at laws model (kernels_of model) plan.parts.now plan.start.now place path other is.run.model.search (plan_leads plan is place path leads) there) h

  -- the run of a part that leads to nothing
  pub part_of_nothing : (laws : PathLaws) (place : ℕ) → PartLeadsTo model (kernels_in plan) plan.parts.now plan.start.now place None →
      TellsHead model plan.parts.now plan.start.now (suc place) (FirstTold.Known None)
  part_of_nothing laws place leads = tells_at laws place None (FirstTold.Known None) leads (λ found s. ap head_of (sym s))

  done_head : (one : OneList) (sub : Bounds) (answer : Option Assignment) → IsFirstDone (search_in plan.run.now Kind.First sub) answer → (found : List Assignment) →
      SolutionsIn model (kernels_of model) sub found → answer ≡ head_of found
  done_head one sub answer h found s =
      let listed = subst (λ (ks : List Kernel). SolutionsIn model ks sub h.solutions) is.run.program.kernels h.listed in
      h.is_head ∙ ap head_of (one model (kernels_of model) sub h.solutions found is.run.model.search listed s)

  -- that of one that leads to a box
  pub part_of_end : (one : OneList) (laws : PathLaws) (place number : ℕ) (seen : List ℕ) (sub : Bounds) (end : FirstEnd) (told : FirstTold) →
      PartLeadsTo model (kernels_in plan) plan.parts.now plan.start.now place (Some sub) → IsFirstEnd (search_in plan.run.now Kind.First sub) number seen end →
      ((answer : Option Assignment) → told ≡ FirstTold.Known answer → end ≡ FirstEnd.Done answer) → TellsHead model plan.parts.now plan.start.now (suc place) told
  part_of_end one laws place number seen sub end told leads is_end known =
      tells_at laws place (Some sub) told leads (λ found s. tells_by found told (λ answer e.
      done_head one sub answer (subst (IsFirstEnd (search_in plan.run.now Kind.First sub) number seen) (known answer e) is_end) found s))

-- ---- all runs

-- the lists of all parts, of which the first is told, one behind the other
record AreTold (told : List FirstTold) (found : List Assignment) : Type 0 where
  lists : List (List Assignment)
  tell : AllZip TellsFirst lists told
  are : found ≡ joined lists

module _ (model : FznModel) where
  along : (paths : List (Option Bounds)) (told : List FirstTold) (found : List Assignment) → length told ≡ length paths →
      ((place : ℕ) (p : Option Bounds) (t : FirstTold) → StandsAt paths place p → StandsAt told place t → TellsFirstOf model p t) → SolutionsOfAll model (kernels_of model) paths found → AreTold told found
  along [] [] found e each s = record { lists = []; tell = tt; are = s }
  along [] (t ∷ told) found e each s = absurd (omega arith)
  along (p ∷ paths) [] found e each s = absurd (omega arith)
  along (p ∷ paths) (t ∷ told) found e each (own, others, is_own, are_others, same) =
      let rest = along paths told others (omega arith) (λ place q u h k. each (suc place) q u h k) are_others in
      record {
        lists = own ∷ rest.lists;
        tell = (each 0 p t refl refl own is_own, rest.tell);
        are = same ∙ ap (λ (xs : List Assignment). own ++ xs) rest.are;
      }

-- what they told together is so of the whole
pub parts_tell : (one : OneList) (every : EveryList) (laws : PathLaws) (cuts : CutLaws) (whole : WholeOfParts) (model : FznModel) (parts : List Part) → AreParts parts → (b : Bounds) → CanBeCut model (kernels_of model) b →
    (free : FirstTold) (told : List FirstTold) → AreTellingEnds (TellsHead model parts b) (length parts) (free ∷ told) → (result : FirstTold) →
    ((lists : List (List Assignment)) → TellsFirst (joined lists) free → AllZip TellsFirst lists told → TellsFirst (joined lists) result) → TellsFirstOf model (Some b) result
parts_tell one every laws cuts whole model parts are_parts b can free told h result by_lists found s =
    let are = along model paths.0 told found same_length each (listed_by_parts whole one every cuts model (kernels_of model) parts b paths.0 found can are_parts paths.1 s) in
    subst (λ (xs : List Assignment). TellsFirst xs result) (sym are.are)
    (by_lists are.lists (subst (λ (xs : List Assignment). TellsFirst xs free) are.are (h.each 0 free refl found s)) are.tell)
  where
    paths : (ps : List (Option Bounds)) × ArePathsOf model (kernels_of model) parts b ps
    paths = every_at laws model (kernels_of model) parts b are_parts.each can

    same_length : length told ≡ length paths.0
    same_length = let e = h.count in let c = paths.1.count in omega arith

    each : (place : ℕ) (p : Option Bounds) (t : FirstTold) → StandsAt paths.0 place p → StandsAt told place t → TellsFirstOf model p t
    each place p t there stands =
        let within = slice_get_within paths.0 place p there in
        let c = paths.1.count in
        let leads = subst (PartLeadsTo model (kernels_of model) parts b place) (get_or_from_slice_get paths.0 place p None there) (paths.1.each place (omega arith)) in
        h.each (suc place) t stands p leads
