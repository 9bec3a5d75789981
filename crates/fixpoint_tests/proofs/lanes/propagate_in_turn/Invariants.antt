use Rattle.std.proofs.Common.{◌≡◌, length}
use Rattle.rounds.specs.Engines.{engine_len, engine_shares}
use Rattle.fixpoint_tests.proofs.lanes.propagate_in_turn.Given as goal

abbrev pub invariant-loop-pass : goal.invariant-loop-pass
invariant-loop-pass g l = record {
  length_is : engine_len l.engine ≡ 4;
  shares : engine_shares l.engine ≡ 1;
  into : length l.into ≡ 4;
}
