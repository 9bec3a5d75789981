use Rattle.std.proofs.Common.{◌≡◌}
use Rattle.free_search.specs.Free.{IsFreeSearch}
use Rattle.first_keys.specs.Least.{IsKeys, asked}
use Rattle.first_keys.proofs.keys.Keys.go_on.Given as goal

-- the keys can go on
abbrev pub invariant-loop : goal.invariant-loop
invariant-loop g l = record {
  keys : IsKeys l.run l.self;
  same_asked : asked l.self ≡ asked l.initial.self;
  free : IsFreeSearch l.run l.free;
}
