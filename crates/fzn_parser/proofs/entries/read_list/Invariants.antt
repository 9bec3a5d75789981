use Rattle.std.proofs.Common.{◌-◌}
use Rattle.fzn_parser.proofs.Lists.{Going}
use Rattle.fzn_parser.proofs.entries.read_list.Given as goal

abbrev pub invariant-loop-turn : goal.invariant-loop-turn
invariant-loop-turn g l = Going g.row.E.Denot l.initial.close g.E.Entry.at l.most l.initial.cursor l.list (l.most - l._turn) l.cursor
