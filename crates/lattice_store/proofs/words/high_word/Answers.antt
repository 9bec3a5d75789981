use Rattle.std.proofs.Common.{arith}
use Rattle.std.proofs.lemmas.Int.{ints}
use Rattle.interval.specs.Limits.{bound_limit, largest_number}
use Rattle.lattice_store.specs.Words.{last_epoch, middle, span, doubled_to, word_of, epoch_of, code_of, low_code, high_code, low_value, high_value}
use Rattle.lattice_store.proofs.words.high_word.Goals as goal

pub returns : goal.returns
unfolding last_epoch bound_limit largest_number middle span doubled_to word_of epoch_of code_of low_code high_code low_value high_value
returns c = grind (arith, ints)
