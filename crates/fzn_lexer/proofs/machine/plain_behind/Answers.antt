use Rattle.std.proofs.Common.{sym}
use Rattle.fzn_lexer.proofs.Rows.{mark_piece, told_here, told_on}
use Rattle.fzn_lexer.proofs.machine.plain_behind.Goals as goal

pub returns-in-MarkEnd : goal.returns-in-MarkEnd
returns-in-MarkEnd c = sym (mark_piece c.args.state c.args.from c.args.text.now c.in-MarkEnd.is)

pub returns-in-Colon : goal.returns-in-Colon
returns-in-Colon c = told_on c.colon_behind.result c.args.state _ c.args.from c.args.text.now c.in-Colon.is c.colon_behind.ensures

pub returns-in-Dot : goal.returns-in-Dot
returns-in-Dot c = told_on c.point_behind.result c.args.state _ c.args.from c.args.text.now c.in-Dot.is c.point_behind.ensures

pub returns-in-Zero : goal.returns-in-Zero
returns-in-Zero c = told_here c.plain_zero.result c.args.state _ c.args.from c.args.text.now c.in-Zero.is c.plain_zero.ensures
