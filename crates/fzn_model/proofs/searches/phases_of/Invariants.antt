use Rattle.std.proofs.Common.{[], map}
use Rattle.fzn_parser.specs.Notes.{ann_tree}
use Rattle.fzn_model.specs.Searches.{phases_of}
use Rattle.fzn_model.proofs.Turns.{Joined}
use Rattle.fzn_model.proofs.searches.phases_of.Given as goal

abbrev pub invariant-loop-note : goal.invariant-loop-note
invariant-loop-note l = Joined (λ notes. phases_of l.text l.scope (map ann_tree notes)) l.notes [] l.note-index l.phases
