use Rattle.fzn_parser.proofs.ItemForms.{read_is_written}
use Rattle.fzn_parser.proofs.Shallow.{what_shallow}
use Rattle.fzn_parser.proofs.SoundItems.{what_sound}
use Rattle.fzn_parser.proofs.laws.law_read_is_written.Goals as goal

pub returns : goal.returns
returns c = record { front = λ depth ls r what e. (what_sound depth ls r what e, what_shallow depth ls r what e); item = read_is_written }
