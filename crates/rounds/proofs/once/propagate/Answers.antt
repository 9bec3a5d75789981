use Rattle.std.proofs.Common.{arith}
use Rattle.rounds.specs.Shares.{share_limit}
use Rattle.rounds.proofs.once.propagate.Goals as goal

pub overflow_cast-cut : goal.overflow_cast-cut
unfolding share_limit
overflow_cast-cut g c = let h = c.requires.cut.short in record { fits = omega arith }
