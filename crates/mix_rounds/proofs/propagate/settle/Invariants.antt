use Rattle.std.proofs.Common.{◌≡◌, length}
use Rattle.std.specs.List.{All}
use Rattle.domain_drops.specs.Closed.{weight_of}
use Rattle.mix_store.specs.Seats.{seen_of, floor_of}
use Rattle.mix_rounds.specs.Greatest.{greatest_mix_of}
use Rattle.mix_rounds.specs.Lanes.{FitsLength, MayBegin}
use Rattle.mix_rounds.proofs.Ending.{Goes}
use Rattle.mix_rounds.proofs.propagate.settle.Given as goal

abbrev pub invariant-rounds : goal.invariant-rounds
invariant-rounds g l = record {
  begins : MayBegin l.dealt l.first;
  floor : floor_of l.first ≡ greatest_mix_of l.initial.into l.dealt.kernels.now;
  lengths : All (λ lane. FitsLength (length l.initial.into) lane.cache) l.lanes;
  into_length : length l.into ≡ length l.initial.into;
  goes : Goes l.dealt.kernels.now l.initial.into l.rounds (seen_of l.first);
}

abbrev pub decreases-rounds : goal.decreases-rounds
decreases-rounds g l = weight_of (seen_of l.first)
