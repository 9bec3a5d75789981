use Rattle.std.proofs.Common.{◌≡◌, ◌<◌, ℕ, [], length, get_or}
use Rattle.std.specs.Prelude.{Vec}
use Rattle.std.specs.declared.alloc.Global.{Global}
use Rattle.rounds.proofs.cuts.empty_shares.Given as goal

abbrev pub invariant-loop : goal.invariant-loop
invariant-loop l = record {
  length_is : length l.shares.items ≡ l.counter;
  empty : (i : ℕ) (d : Vec ℕ Global) → i < l.counter → (get_or l.shares.items i d).items ≡ [];
}
