use Rattle.std.proofs.Common.{◌≡◌, ◌≤◌, ◌+◌, ◌-◌, ◌%◌, [], min}
use Rattle.crossbeam_deque.specs.Handles.{SameWorker, worker_view}
use Rattle.steal_crew.specs.Numbers.{share}
use Rattle.steal_crew.specs.Rule.{view_of}
use Rattle.steal_crew.proofs.dealing.push_share.Given as goal

abbrev pub invariant-loop-next : goal.invariant-loop-next
invariant-loop-next l = record {
  same : SameWorker l.initial.own l.own;
  share : worker_view l.own ≡ view_of 1024 (share (min l.next l.n) l.workers l.rest) [];
  rest : l.next % l.workers ≡ l.rest;
  bound : l.next ≤ l.n + l.workers;
}

abbrev pub decreases-loop-next : goal.decreases-loop-next
decreases-loop-next l = (l.n + l.workers) - l.next
