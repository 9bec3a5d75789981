use Rattle.std.proofs.Common.{ℤ, List, length, All, None, Some, subst, sym, refl, ◌∙◌, flat_map, arith}
use Rattle.search.specs.declared.ends.LeastEnd.{LeastEnd}
use Rattle.search.specs.Costs.{IsObjectiveIn}
use Rattle.answer.specs.Results.{least_collected}
use Rattle.answer.proofs.BestLaws.{next_and_rest, one_of, best_more, best_same}
use Rattle.answer.proofs.objective.best_of.Goals as goal

pub loop-end-init : goal.loop-end-init
loop-end-init c = record {
  best = refl;
  own = λ k d l. absurd (omega arith);
  rest =
      subst (λ (ends : List LeastEnd). All (λ (a : List ℤ). IsObjectiveIn (length a) c.args.goal) (flat_map least_collected ends))
      (sym (c.into_iter-end-iterator.ensures.into_iter_gives.0 ∙ c.into_vec-end-items.ensures)) c.requires.lengths;
}

pub loop-end-preserved-in-Some-solution_of : goal.loop-end-preserved-in-Some-solution_of
loop-end-preserved-in-Some-solution_of c =
    let more = next_and_rest c.args.goal (λ (a : List ℤ). IsObjectiveIn (length a) c.args.goal) c.loop-end.end-iterator.rest.items c.next.new.self.rest.items c.in-Some.end (Some c.in-Some-solution_of.next)
    c.in-Some.ensures.steps.0 c.in-Some-solution_of.ensures c.loop-end.invariant.rest in
    record {
      best = best_more c.args.goal c.loop-end.yielded c.in-Some.end c.in-Some-solution_of.next c.better.result c.in-Some-solution_of.ensures
          (c.better.ensures.best (flat_map least_collected c.loop-end.yielded) c.loop-end.invariant.best);
      own = one_of (λ (a : List ℤ). IsObjectiveIn (length a) c.args.goal) c.better.result c.better.ensures.objective;
      rest = more.1;
    }

pub loop-end-preserved : goal.loop-end-preserved
loop-end-preserved c =
    let more = next_and_rest c.args.goal (λ (a : List ℤ). IsObjectiveIn (length a) c.args.goal) c.loop-end.end-iterator.rest.items c.next.new.self.rest.items c.in-Some.end None
    c.in-Some.ensures.steps.0 c.in_default.ensures c.loop-end.invariant.rest in
    record {
      best = best_same c.args.goal c.loop-end.yielded c.in-Some.end c.loop-end.best c.in_default.ensures c.loop-end.invariant.best;
      own = c.loop-end.invariant.own;
      rest = more.1;
    }
