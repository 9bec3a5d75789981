use Rattle.fzn_lexer.proofs.Rows.{dead_piece, mark_piece}
use Rattle.fzn_lexer.proofs.machine.piece_behind.Goals as goal

pub returns-in-Dead : goal.returns-in-Dead
returns-in-Dead c = dead_piece c.args.state c.args.from c.args.text.now c.in-Dead.is

pub returns-in-MarkEnd : goal.returns-in-MarkEnd
returns-in-MarkEnd c = mark_piece c.args.state c.args.from c.args.text.now c.in-MarkEnd.is
