use Rattle.fzn_lexer.proofs.Rows.{plain_first}
use Rattle.fzn_lexer.proofs.machine.plain_piece.Goals as goal

pub returns-in-Some : goal.returns-in-Some
returns-in-Some c = plain_first c.args.at c.args.text.now c.in-Some.state c.plain_behind.result c.requires c.in-Some.ensures c.plain_behind.ensures
