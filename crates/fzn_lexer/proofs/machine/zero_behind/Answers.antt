use Rattle.std.proofs.Common.{◌∙◌}
use Rattle.fzn_lexer.proofs.Rows.{zero_as_digits, zero_all}
use Rattle.fzn_lexer.proofs.machine.zero_behind.Goals as goal

pub returns-then-from-text : goal.returns-then-from-text
returns-then-from-text c = zero_all c.args.from c.args.text.now c.if-from-text.true

pub returns : goal.returns
returns c = c.number_behind.ensures ∙ zero_as_digits c.args.from c.args.text.now c.if-from-text.false (c.is_base_letter.ensures c.if-is_base_letter.false)
