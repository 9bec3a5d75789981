use Rattle.std.proofs.Common.{◌≡◌, ◌++◌, ◌≤◌, length, map, take, vec_len, vec_capacity}
use Rattle.std.specs.List.{All}
use Rattle.steal_crew.specs.Numbers.{numbers_below}
use Rattle.crew.proofs.recruit.recruit_all.Given as goal

abbrev pub invariant-loop-right : goal.invariant-loop-right
invariant-loop-right g l = record {
  all : l.yielded ++ l.right-iterator.rest.items ≡ l.fn.rights.items;
  len : vec_len l.recruits ≡ length l.yielded;
  room : length l.fn.rights.items ≤ vec_capacity l.recruits;
  rights : map (λ recruit. recruit.right) l.recruits.items ≡ l.yielded;
  numbers : map (λ recruit. recruit.number) l.recruits.items ≡ numbers_below (length l.yielded);
  turns : map (λ recruit. recruit.turn) l.recruits.items ≡ take (length l.yielded) l.turns;
  own : All (λ recruit. g.J.Job.owns l.job recruit.own) l.recruits.items;
}
