use Rattle.race.specs.Leasts.{IsIncumbent}
use Rattle.portfolio.proofs.TogetherLaws.{best_next, one_of_two}
use Rattle.portfolio.proofs.together.best_of_parts.Goals as goal

pub loop-part-preserved : goal.loop-part-preserved
loop-part-preserved c = λ model b first all.
    let so_far = c.loop-part.invariant model b first all in
    let next = best_next model b c.loop-part.part-iterator.rest.items c.next.new.self.rest.items c.in-Some.part c.in-Some.ensures.steps.0 so_far.1 in
    (one_of_two (IsIncumbent model b) c.loop-part.best c.in-Some.part.best c.better-best.result c.better-best.ensures.some so_far.0 next.0, next.1)
