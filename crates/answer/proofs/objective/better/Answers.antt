use Rattle.std.proofs.Common.{ℤ, List, Option, subst}
use Rattle.answer.specs.Unfinished.{CostsMore, IsBestOf}
use Rattle.answer.proofs.BestLaws.{next_is_best}
use Rattle.answer.proofs.objective.better.Goals as goal

pub returns-then-costs_less-clause-best : goal.returns-then-costs_less-clause-best
returns-then-costs_less-clause-best c =
    let next = subst (λ (x : List ℤ). CostsMore c.args.goal x c.as_slice-in-Some.result.now) c.as_slice.ensures c.if-costs_less.ensures.less in
    let less = subst (λ (x : List ℤ). CostsMore c.args.goal c.args.next x) c.as_slice-in-Some.ensures next in
    λ collected h.
    next_is_best c.args.goal collected c.in-Some.a c.args.next c.requires.objective (subst (λ (b : Option (List ℤ)). IsBestOf c.args.goal collected b) c.in-Some.is h) less
