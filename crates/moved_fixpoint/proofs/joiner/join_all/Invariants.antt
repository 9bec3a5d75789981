use Rattle.std.proofs.Common.{◌≡◌}
use Rattle.moved_fixpoint.specs.Heard.{joined}
use Rattle.moved_fixpoint.proofs.Hearing.{Heard}
use Rattle.moved_fixpoint.proofs.joiner.join_all.Given as goal

abbrev pub invariant-loop-t : goal.invariant-loop-t
invariant-loop-t l = record {
  stack : l.b.stack ≡ l.initial.b.stack;
  heard : Heard (joined l.initial.b.current l.initial.progress) l.told l.t-index (joined l.b.current l.progress);
}
