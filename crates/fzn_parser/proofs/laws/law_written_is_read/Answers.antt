use Rattle.fzn_parser.proofs.ItemForms.{written_is_read}
use Rattle.fzn_parser.proofs.WholeItems.{what_whole}
use Rattle.fzn_parser.proofs.laws.law_written_is_read.Goals as goal

pub returns : goal.returns
returns c = record { front = what_whole; item = written_is_read }
