use Rattle.search.proofs.RunLaws.{all_done, done_of, spent_of}
use Rattle.search.proofs.all.all_end.Goals as goal

pub returns-in-None : goal.returns-in-None
returns-in-None c = λ s all h. all_done s all c.args.closing.found (done_of s c.args.closing c.in-None.is h)

pub returns-in-Some : goal.returns-in-Some
returns-in-Some c = λ s all h. spent_of s c.args.closing c.in-Some.why c.in-Some.is h
