use Rattle.std.proofs.Common.{◌-◌, map}
use Rattle.fzn_parser.specs.Notes.{ann_tree}
use Rattle.fzn_parser.proofs.NoteLists.{GoingNotes}
use Rattle.fzn_parser.proofs.notes.read_notes.Given as goal

abbrev pub invariant-loop-turn : goal.invariant-loop-turn
invariant-loop-turn l = GoingNotes l.depth l.most l.initial.cursor (map ann_tree l.list.items) (l.most - l._turn) l.cursor
