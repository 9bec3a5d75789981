use Rattle.std.proofs.Common.{◌+◌, ◌-◌, ◌*◌, map}
use Rattle.fzn_parser.specs.Notes.{ArgTree, arg_tree, arg_at}
use Rattle.fzn_parser.proofs.Lists.{Going}
use Rattle.fzn_parser.proofs.notes.+notes.Given as goal

abbrev pub decreases-read_arg : goal.decreases-read_arg
decreases-read_arg l = 3 * l.depth + 2

abbrev pub decreases-read_args : goal.decreases-read_args
decreases-read_args l = 3 * l.depth

abbrev pub decreases-read_called : goal.decreases-read_called
decreases-read_called l = 3 * l.depth + 1

abbrev pub invariant-read_args-loop-turn : goal.invariant-read_args-loop-turn
invariant-read_args-loop-turn l = Going ArgTree l.close (arg_at (l.depth - 1)) l.most l.initial.cursor (map arg_tree l.list.items) (l.most - l._turn) l.cursor
