use Rattle.std.proofs.Common.{◌<◌, ◌∙◌, length, sym, arith}
use Rattle.fzn_lexer.proofs.Rows.{digits_more}
use Rattle.fzn_lexer.proofs.machine.digits_end.Goals as goal

pub loop-at-preserved : goal.loop-at-preserved
loop-at-preserved c =
    let inside : c.loop-at.at < length c.args.text.now = omega arith in
    digits_more c.loop-at.at c.args.text.now inside (sym c.is_ascii_digit.ensures.value ∙ c.if-not-is_ascii_digit.false) ∙ c.loop-at.invariant
