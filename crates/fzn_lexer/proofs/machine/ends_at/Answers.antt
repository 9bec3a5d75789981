use Rattle.std.proofs.Common.{◌∙◌, arith, sym}
use Rattle.std.proofs.lemmas.Bool.{not-true}
use Rattle.fzn_lexer.proofs.Rows.{digits_all, digits_dead, point_dead}
use Rattle.fzn_lexer.proofs.machine.ends_at.Goals as goal

pub returns-then-to-text : goal.returns-then-to-text
returns-then-to-text c = λ _. digits_all c.args.to c.args.text.now c.if-to-text.true

pub returns-then-text-to-ne46 : goal.returns-then-text-to-ne46
returns-then-text-to-ne46 c = λ e. digits_dead c.args.to c.args.text.now c.if-to-text.false (c.goes_on.ensures (not-true c.goes_on.result e))

pub returns-then-to-text-2 : goal.returns-then-to-text-2
returns-then-to-text-2 c = λ _. point_dead c.args.to c.args.text.now c.if-to-text.false c.if-text-to-ne46.false (λ inside. absurd (omega (arith, inside, c.if-to-text-2.true)))

pub returns-else-to-text-2 : goal.returns-else-to-text-2
returns-else-to-text-2 c = λ e. point_dead c.args.to c.args.text.now c.if-to-text.false c.if-text-to-ne46.false (λ _. sym c.is_ascii_digit.ensures.value ∙ not-true c.is_ascii_digit.result e)
