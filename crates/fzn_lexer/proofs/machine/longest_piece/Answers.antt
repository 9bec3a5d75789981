use Rattle.std.proofs.Common.{◌<◌, length, arith}
use Rattle.fzn_lexer.proofs.Rows.{first_byte, no_byte}
use Rattle.fzn_lexer.proofs.machine.longest_piece.Goals as goal

pub returns-then-from-text : goal.returns-then-from-text
returns-then-from-text c = no_byte c.args.from c.args.text.now (omega arith)

pub returns : goal.returns
returns c =
    let inside : c.args.from < length c.args.text.now = omega arith in
    rw (c.piece_behind.ensures, c.start_step.ensures) (first_byte c.args.from c.args.text.now inside)
