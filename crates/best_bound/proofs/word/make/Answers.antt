use Rattle.std.proofs.Common.{refl}
use Rattle.best_bound.specs.Codes.{none_word}
use Rattle.best_bound.proofs.Steps.{opens}
use Rattle.best_bound.proofs.word.make.Goals as goal

pub of_words-requires : goal.of_words-requires
unfolding none_word
of_words-requires g c = opens g.L.Law.passes _ refl
