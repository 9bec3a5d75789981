use Rattle.rounds.specs.Even.{AreDealt}
use Rattle.rounds.proofs.cuts.deal_all.Given as goal

abbrev pub invariant-loop-j : goal.invariant-loop-j
invariant-loop-j l = AreDealt l.j l.lanes l.shares.items
