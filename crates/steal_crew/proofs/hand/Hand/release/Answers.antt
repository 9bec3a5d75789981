use Rattle.std.specs.Prelude.{option_to_list}
use Rattle.crossbeam_deque.specs.Handles.{worker_view}
use Rattle.steal_crew.specs.Numbers.{numbers_below}
use Rattle.steal_crew.proofs.DrawLaws.{fewer_below}
use Rattle.steal_crew.proofs.hand.Hand.release.Goals as goal

pub invariant_of-self-clause-below : goal.invariant_of-self-clause-below
invariant_of-self-clause-below c =
    let old = c.args.self.now in
    fewer_below old.drawn.items (numbers_below old.count) (worker_view old.own).dealt (worker_view old.own).taken old.others.items c.pop.new.self.items (option_to_list c.pop.result) c.pop.ensures.items old.below
