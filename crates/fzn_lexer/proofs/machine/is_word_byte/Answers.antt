use Rattle.std.proofs.Common.{arith}
use Rattle.fzn_lexer.proofs.Rows.{table_tells}
use Rattle.fzn_lexer.proofs.machine.is_word_byte.Goals as goal

pub returns : goal.returns
returns c = table_tells c.args.b (omega (arith, c.ranges.b))
