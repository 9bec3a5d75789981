use Rattle.std.proofs.Common.{◌∙◌, refl}
use Rattle.clap.specs.Matches.{found_of}
use Rattle.best_words.proofs.WordLaws.{flag_is}
use Rattle.best_words.proofs.words.is_given.Goals as goal

pub returns : goal.returns
returns c = c.unwrap_or.ensures ∙ flag_is _ (found_of c.args.matches.now) c.args.id.now c.get_one.result _ refl c.get_one.ensures.none c.get_one.ensures.value
