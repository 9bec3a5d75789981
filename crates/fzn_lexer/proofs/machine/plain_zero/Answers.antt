use Rattle.fzn_lexer.proofs.Rows.{told_zero, zero_as_digits}
use Rattle.fzn_lexer.proofs.machine.plain_zero.Goals as goal

pub returns : goal.returns
returns c =
    told_zero c.plain_number.result c.args.from c.args.text.now
    (zero_as_digits c.args.from c.args.text.now c.if-from-text.false (c.is_base_letter.ensures c.if-is_base_letter.false))
    c.plain_number.ensures
