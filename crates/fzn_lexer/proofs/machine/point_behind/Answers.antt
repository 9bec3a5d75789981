use Rattle.fzn_lexer.proofs.Rows.{point_one, point_two, point_all}
use Rattle.fzn_lexer.proofs.machine.point_behind.Goals as goal

pub returns-then-from-text : goal.returns-then-from-text
returns-then-from-text c = point_all c.args.from c.args.text.now c.if-from-text.true

pub returns-then-text-from-eq46 : goal.returns-then-text-from-eq46
returns-then-text-from-eq46 c = point_two c.args.from c.args.text.now c.if-from-text.false c.if-text-from-eq46.true

pub returns : goal.returns
returns c = point_one c.args.from c.args.text.now c.if-from-text.false c.if-text-from-eq46.false
