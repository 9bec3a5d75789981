-- What a portfolio tells of the least cost.
use Rattle.std.proofs.Common.{◌≡◌, ◌≢◌, ℕ, suc, ◌<◌, List, ◌∷◌, length, get_or, All, Option, None, Some, refl, sym, subst, arith}
use Rattle.std.specs.Prelude.{IfSome}
use Rattle.std.proofs.lemmas.Option.{slice_get-get_or}
use Rattle.std.proofs.lemmas.List.Elements.{All-from_get_or}
use Rattle.interval.specs.Boxes.{Bounds, InsideOrder}
use Rattle.constraint_model.specs.declared.model.Goal.{Goal}
use Rattle.constraint_model.specs.declared.model.FznModel.{FznModel}
use Rattle.constraint_model.specs.Searches.{IsSearchOf}
use Rattle.decompose.specs.Kernels.{kernels_of}
use Rattle.decompose.specs.Program.{start_of, IsProgramOf}
use Rattle.branching.specs.Tree.{OneList, EveryList}
use Rattle.solution_lists.specs.Solutions.{SolutionsAreListed}
use Rattle.subproblems.specs.Cuts.{CutLaws}
use Rattle.subproblems.specs.Paths.{PathLaws}
use Rattle.search.specs.Turns.{CostsAtLeast}
use Rattle.tree_cover.specs.declared.part.Part.{Part}
use Rattle.tree_parts.specs.Whole.{WholeOfParts}
use Rattle.race.specs.Leasts.{IsIncumbent}
use Rattle.portfolio.specs.declared.told.Bound.{Bound}
use Rattle.portfolio.specs.declared.told.CostTold.{CostTold}
use Rattle.portfolio.specs.declared.told.LeastTold.{LeastTold}
use Rattle.portfolio.specs.Told.{TellsCosts, BoundTogether, TellsLeast}
use Rattle.answer.specs.declared.options.Options.{Options}
use Rattle.answer.specs.declared.plan.Plan.{Plan}
use Rattle.answer.specs.Plans.{IsPlan, model_of, kernels_in}
use Rattle.answer.specs.Places.{PartLeadsTo}
use Rattle.answer.specs.Parts.{AreParts}
use Rattle.answer.specs.Results.{program_of}
use Rattle.answer.specs.Portfolios.{AreTellingEnds, TellsCostAt, TellsCost}
use Rattle.answer.proofs.PartPaths.{one_at}
use Rattle.answer.proofs.CoverLaws.{covered}
use Rattle.answer.proofs.JobLaws.{plan_leads}

-- ---- one run

module _ {L : Type 0} (plan : Plan L) (is : IsPlan plan) (laws : PathLaws) (place : ℕ) where
  abbrev model : FznModel
  model = model_of plan

  -- a part that leads to nothing has no solution
  pub costs_of_nothing : PartLeadsTo model (kernels_in plan) plan.parts.now plan.start.now place None → (told : CostTold) → IfSome told.best (IsIncumbent model plan.start.now) →
      TellsCostAt model plan.parts.now plan.start.now place told
  costs_of_nothing leads told best = record {
    best = best;
    bound = λ sub there.
        let e = one_at laws model (kernels_of model) plan.parts.now plan.start.now place None (Some sub) is.run.model.search (plan_leads plan is place None leads) there in absurd cc;
  }

  -- what is told of what the part leads to is told of the part
  pub costs_of_part : (sub : Bounds) (told : CostTold) → PartLeadsTo model (kernels_in plan) plan.parts.now plan.start.now place (Some sub) → TellsCosts model plan.run.now.program.now.start sub told →
      plan.start.now ≡ plan.run.now.program.now.start → TellsCostAt model plan.parts.now plan.start.now place told
  costs_of_part sub told leads h whole = record {
    best = subst (λ (b : Bounds). IfSome told.best (IsIncumbent model b)) (sym whole) h.best;
    bound = λ other there.
        let e = one_at laws model (kernels_of model) plan.parts.now plan.start.now place (Some sub) (Some other) is.run.model.search (plan_leads plan is place (Some sub) leads) there in
        let same : sub ≡ other = cc in
        subst (λ (c : Bounds). IfSome told.bound (λ bound. CostsAtLeast model c bound.at_least)) same h.bound;
  }

-- ---- all runs

nothing : CostTold
nothing = record { bound = None; best = None }

module _ (order : InsideOrder) (one : OneList) (every : EveryList) (laws : PathLaws) (cuts : CutLaws) (whole : WholeOfParts) (listed : SolutionsAreListed) (model : FznModel) (rule : IsSearchOf model)
    (f : IsProgramOf model (program_of model)) (options : Options) (parts : List Part) (are_parts : AreParts parts) (free : CostTold) (told : List CostTold)
    (h : AreTellingEnds (TellsCost model parts (start_of model)) (length parts) (free ∷ told)) where
  -- each best one is a solution
  bests : All (λ (t : CostTold). IfSome t.best (IsIncumbent model (start_of model))) told
  bests = All-from_get_or (λ (t : CostTold). IfSome t.best (IsIncumbent model (start_of model))) told nothing (λ i below.
      (h.each (suc i) (get_or told i nothing) (slice_get-get_or told i nothing below)).best)

  bounded : (bound : Option Bound) (own : Bound) (P : Bound → Type 0) → bound ≡ Some own → IfSome bound P → P own
  bounded bound own P e k = subst (λ (o : Option Bound). IfSome o P) e k

  -- what bounds each part bounds the whole
  together : BoundTogether model (start_of model) told
  together least all a cost s costs =
      let c = covered order one every laws cuts whole listed model rule f options parts are_parts a s.solves in
      let below : c.number < length told = let e = h.count in let l = c.below in omega arith in
      let part = get_or told c.number nothing in
      let own = h.each (suc c.number) part (slice_get-get_or told c.number nothing below) in
      let done = all c.number nothing below in
      done.lower cost (bounded part.bound done.own (λ (bound : Bound). CostsAtLeast model c.sub bound.at_least) done.is (own.bound c.sub c.leads) a cost c.solves costs)

  -- so what they tell together is so
  pub least_tells : model.goal ≢ Goal.Satisfy → (result : LeastTold) →
      ((m : FznModel) (b : Bounds) → m.goal ≢ Goal.Satisfy → TellsCosts m b b free → All (λ (t : CostTold). IfSome t.best (IsIncumbent m b)) told → BoundTogether m b told → TellsLeast m b result) →
      TellsLeast model (start_of model) result
  least_tells objective result by_all = by_all model (start_of model) objective (h.each 0 free refl) bests together
