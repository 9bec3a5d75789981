use Rattle.fzn_lexer.proofs.Turns.{plain_next}
use Rattle.fzn_lexer.proofs.next_plain.Goals as goal

pub returns-in-Some : goal.returns-in-Some
returns-in-Some c = plain_next c.args.text.now c.args.from c.after_blanks-at.result c.in-Some.found c.token_in.result c.in-Some.ensures c.token_in.ensures.token c.token_in.ensures.ends c.after_blanks-at.ensures
