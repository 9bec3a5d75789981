use Rattle.std.proofs.Common.{map}
use Rattle.fzn_parser.specs.Notes.{ann_tree}
use Rattle.fzn_model.specs.Outputs.{output_ranges}
use Rattle.fzn_model.proofs.Turns.{Passed}
use Rattle.fzn_model.proofs.outputs.output_ranges.Given as goal

abbrev pub invariant-loop-note : goal.invariant-loop-note
invariant-loop-note l = Passed (λ notes. output_ranges l.text (map ann_tree notes)) l.notes l.note-index
