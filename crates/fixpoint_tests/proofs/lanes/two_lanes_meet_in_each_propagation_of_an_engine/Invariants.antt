use Rattle.std.proofs.Common.{◌≡◌, length}
use Rattle.rounds.specs.Engines.{engine_len, engine_shares}
use Rattle.fixpoint_tests.proofs.lanes.two_lanes_meet_in_each_propagation_of_an_engine.Given as goal

abbrev pub invariant-loop : goal.invariant-loop
invariant-loop g l = record {
  length_is : engine_len l.engine ≡ 4;
  shares : engine_shares l.engine ≡ 2;
  into : length l.into ≡ 4;
}
