use Rattle.fzn_parser.proofs.Trees.{view-Ann}
use Rattle.fzn_parser.proofs.notes.arg_of_note.Goals as goal

pub returns : goal.returns
returns c = view-Ann c.args.note
