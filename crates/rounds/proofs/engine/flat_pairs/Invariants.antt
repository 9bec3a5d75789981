use Rattle.std.proofs.Common.{◌≡◌, length}
use Rattle.rounds.specs.Flat.{IsFlat}
use Rattle.rounds.proofs.engine.flat_pairs.Given as goal

abbrev pub invariant-loop : goal.invariant-loop
invariant-loop l = record {
  length_is : length l.pairs.items ≡ l.counter;
  flat : IsFlat l.pairs.items;
}
