use Rattle.std.proofs.Common.{◌<◌, ◌∙◌, length, sym, arith}
use Rattle.fzn_lexer.proofs.Turns.{nothing, blank_more, ends_here}
use Rattle.fzn_lexer.proofs.machine.after_blanks.Goals as goal

pub loop-at-init : goal.loop-at-init
loop-at-init c = nothing c.args.text.now c.args.from c.requires

pub loop-at-preserved : goal.loop-at-preserved
loop-at-preserved c =
    let inside : c.loop-at.at < length c.args.text.now = omega arith in
    blank_more c.args.text.now c.args.from c.loop-at.at inside (sym c.is_blank_byte.ensures ∙ c.if-not-is_blank_byte.false) c.loop-at.invariant

pub returns : goal.returns
returns c = ends_here c.args.text.now c.args.from c.loop-at.at (omega arith) c.loop-at.invariant
