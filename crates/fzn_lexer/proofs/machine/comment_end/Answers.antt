use Rattle.std.proofs.Common.{◌≡◌, ◌<◌, ◌∙◌, length, sym, arith}
use Rattle.fzn_lexer.proofs.Rows.{comment_more, comment_dead, comment_all, line_end, in_line}
use Rattle.fzn_lexer.proofs.machine.comment_end.Goals as goal

pub returns-then-text-at-eq10 : goal.returns-then-text-at-eq10
returns-then-text-at-eq10 c =
    let inside : c.loop-at.at < length c.args.text.now = omega arith in
    sym c.loop-at.invariant ∙ comment_dead c.loop-at.at c.args.text.now inside (line_end _ c.if-text-at-eq10.true)

pub loop-at-preserved : goal.loop-at-preserved
loop-at-preserved c =
    let inside : c.loop-at.at < length c.args.text.now = omega arith in
    comment_more c.loop-at.at c.args.text.now inside (in_line _ c.if-text-at-eq10.false) ∙ c.loop-at.invariant

pub returns : goal.returns
returns c =
    let end : c.loop-at.at ≡ length c.args.text.now = omega arith in
    rw (← end) (sym c.loop-at.invariant ∙ comment_all c.loop-at.at c.args.text.now (omega arith))
