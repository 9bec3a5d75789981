use Rattle.crossbeam_deque.specs.Handles.{worker_view}
use Rattle.steal_crew.proofs.DealLaws.{fresh_within, fresh_below}
use Rattle.steal_crew.proofs.dealing.deal_one.Goals as goal

pub invariant_of-result-clause-within : goal.invariant_of-result-clause-within
invariant_of-result-clause-within c = fresh_within (worker_view c.push_share.new.own) c.args.n c.args.workers c.args.rest c.in_ok-push_share.ensures.share

pub invariant_of-result-clause-below : goal.invariant_of-result-clause-below
invariant_of-result-clause-below c = fresh_below (worker_view c.push_share.new.own) c.args.n c.args.workers c.args.rest c.in_ok-drawn.drawn.items c.new.result.items c.in_ok-push_share.ensures.share c.in_ok-drawn.ensures.items c.new.ensures.items
