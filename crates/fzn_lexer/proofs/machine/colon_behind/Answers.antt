use Rattle.fzn_lexer.proofs.Rows.{colon_one, colon_two, colon_all}
use Rattle.fzn_lexer.proofs.machine.colon_behind.Goals as goal

pub returns-then-from-text : goal.returns-then-from-text
returns-then-from-text c = colon_all c.args.from c.args.text.now c.if-from-text.true

pub returns-then-text-from-eq58 : goal.returns-then-text-from-eq58
returns-then-text-from-eq58 c = colon_two c.args.from c.args.text.now c.if-from-text.false c.if-text-from-eq58.true

pub returns : goal.returns
returns c = colon_one c.args.from c.args.text.now c.if-from-text.false c.if-text-from-eq58.false
