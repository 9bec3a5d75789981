use Rattle.std.proofs.Common.{ℤ, Some, ap, sym, subst, ◌∙◌, w64}
use Rattle.std.proofs.lemmas.Int.{to_z-of_z}
use Rattle.interval.specs.Limits.{IsNumber}
use Rattle.search.specs.declared.kind.Kind.{Kind}
use Rattle.search.specs.Machine.{cut_by}
use Rattle.search.specs.Turns.{IsCutBelow}
use Rattle.search.proofs.LeastRunLaws.{cost_number}
use Rattle.search.proofs.TurnLaws.{cut_objective, is_cut_below}
use Rattle.search.proofs.costs.cut_below_cost.Goals as goal

pub cut_below-cut-requires-clause-best : goal.cut_below-cut-requires-clause-best
cut_below-cut-requires-clause-best g c = (
  subst IsNumber (sym (to_z-of_z w64 c.args.best c.ranges.best))
      (cost_number c.args.run.now.model.now c.requires.run.model c.requires.best.assignment c.requires.best.solves c.args.best c.requires.best.costs),
  cut_objective c.args.run.now c.requires.run c.requires.objective c.args.b.now c.requires.inside,
)

pub returns-clause-cut : goal.returns-clause-cut
returns-clause-cut g c =
    c.put_cut.ensures _ c.cut_below-cut.ensures
    ∙ ap (λ (z : ℤ). cut_by Kind.Least c.args.run.now.model.now.goal (Some z) c.args.b.now) (to_z-of_z w64 c.args.best c.ranges.best)

pub returns-clause-below : goal.returns-clause-below
returns-clause-below g c =
    let cut = c.put_cut.ensures _ c.cut_below-cut.ensures
    ∙ ap (λ (z : ℤ). cut_by Kind.Least c.args.run.now.model.now.goal (Some z) c.args.b.now) (to_z-of_z w64 c.args.best c.ranges.best) in
    subst (IsCutBelow c.args.run.now.model.now c.args.best c.args.b.now) (sym cut)
    (is_cut_below c.args.run.now c.requires.run c.requires.objective c.args.b.now c.requires.inside c.law_inside_order.ensures c.args.best)
