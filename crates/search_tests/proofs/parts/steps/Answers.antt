use Rattle.std.proofs.Common.{length, sym, ap, subst, ◌∙◌}
use Rattle.interval.specs.Boxes.{Bounds, IsProper}
use Rattle.branching.specs.Fronts.{IsFrontOf, left_by}
use Rattle.search_tests.proofs.parts.steps.Goals as goal

pub loop-init : goal.loop-init
loop-init c = record { pairs = c.requires.pairs; proper = c.requires.proper; front = c.first-front.ensures c.args.model.now c.args.b.now }

pub loop-preserved : goal.loop-preserved
loop-preserved c =
    let part = c.in-Some.ensures.parts.first_part in
    let front = c.law_fronts.ensures c.args.model.now c.loop.b (left_by c.loop.b c.in-Some.branching) c.in-Some.reached c.in-Some.ensures.front part.inside part.proper in
    record {
      pairs = ap (λ (b : Bounds). length b) c.take_first.ensures ∙ part.inside.same_length ∙ c.loop.invariant.pairs;
      proper = subst IsProper (sym c.take_first.ensures) part.proper;
      front = subst (λ (b : Bounds). IsFrontOf c.args.model.now b c.in-Some.reached) (sym c.take_first.ensures) front;
    }
