use Rattle.std.proofs.Common.{◌≡◌, ◌<◌, length}
use Rattle.std.specs.Prelude.{All}
use Rattle.fixpoint_tests.proofs.naming.variables.Given as goal

abbrev pub invariant-loop-k : goal.invariant-loop-k
invariant-loop-k l = record {
  variables : All (λ v. v < 200) l.list.items;
  count : length l.list.items ≡ l.k;
}
