use Rattle.std.proofs.Common.{◌≡◌, length, map, vec_capacity}
use Rattle.std.specs.List.{All}
use Rattle.steal_crew.specs.Numbers.{numbers_below, share}
use Rattle.steal_crew.specs.Hands.{dealt_of}
use Rattle.steal_crew.specs.Dealing.{IsFresh}
use Rattle.steal_crew.proofs.dealing.deal_each.Given as goal

abbrev pub invariant-loop-rest : goal.invariant-loop-rest
invariant-loop-rest l = record {
  dealt : map dealt_of l.hands.items ≡ map (share l.n l.workers) (numbers_below l.rest);
  fresh : All (IsFresh l.n) l.hands.items;
  long : length l.hands.items ≡ l.rest;
  room : vec_capacity l.hands ≡ l.workers;
}
