use Rattle.std.proofs.Common.{◌≡◌, ◌<◌, ◌∙◌, length, sym, arith}
use Rattle.fzn_lexer.proofs.Rows.{word_more, word_dead, word_all}
use Rattle.fzn_lexer.proofs.machine.word_end.Goals as goal

pub returns-then-not-is_word_byte : goal.returns-then-not-is_word_byte
returns-then-not-is_word_byte c =
    let inside : c.loop-at.at < length c.args.text.now = omega arith in
    sym c.loop-at.invariant ∙ word_dead c.loop-at.at c.args.text.now inside (sym c.is_word_byte.ensures ∙ c.if-not-is_word_byte.true)

pub loop-at-preserved : goal.loop-at-preserved
loop-at-preserved c =
    let inside : c.loop-at.at < length c.args.text.now = omega arith in
    word_more c.loop-at.at c.args.text.now inside (sym c.is_word_byte.ensures ∙ c.if-not-is_word_byte.false) ∙ c.loop-at.invariant

pub returns : goal.returns
returns c =
    let end : c.loop-at.at ≡ length c.args.text.now = omega arith in
    rw (← end) (sym c.loop-at.invariant ∙ word_all c.loop-at.at c.args.text.now (omega arith))
