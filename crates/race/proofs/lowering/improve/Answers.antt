use Rattle.std.proofs.Common.{Option, sym, subst}
use Rattle.std.specs.Prelude.{IfSome}
use Rattle.search.specs.Turns.{CostsAtLeast}
use Rattle.free_search.specs.declared.ends.FreeEnd.{FreeEnd}
use Rattle.free_search.specs.declared.free.FreeSearch.{FreeSearch}
use Rattle.free_search.specs.Ends.{IfRefuted}
use Rattle.free_search.specs.Free.{IsFreeSearch}
use Rattle.race.specs.declared.incumbent.Incumbent.{Incumbent}
use Rattle.race.specs.Leasts.{IsLeastIn}
use Rattle.race.proofs.LeastLaws.{least_in}
use Rattle.race.proofs.lowering.improve.Goals as goal

pub returns-in-Ok-Refuted : goal.returns-in-Ok-Refuted
returns-in-Ok-Refuted g c =
    let task = c.args.task.now in
    let model = task.run.now.model.now in
    let least : CostsAtLeast model task.sub.now c.cost_of-cost.result =
    subst (λ (e : FreeEnd). IfRefuted e (CostsAtLeast model task.sub.now c.cost_of-cost.result)) c.in-Ok-Refuted.field-0-is c.in-Ok-Refuted.ensures.refuted in
    record {
      least = subst (λ (o : Option Incumbent). IsLeastIn model task.sub.now o) (sym c.with_search.ensures.best)
          (least_in model task.sub.now c.loop.incumbent c.requires.objective c.loop.invariant.incumbent (subst (CostsAtLeast model task.sub.now) c.cost_of-cost.ensures least));
      free = subst (λ (o : Option FreeSearch). IfSome o (IsFreeSearch task.run.now)) (sym c.with_search.ensures.free) c.in-Ok-Refuted.ensures.free;
    }
