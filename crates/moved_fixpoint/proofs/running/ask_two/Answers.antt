use Rattle.moved_fixpoint.proofs.RunLemmas.{two_asked}
use Rattle.moved_fixpoint.proofs.running.ask_two.Goals as goal

pub returns : goal.returns
returns c =
    two_asked c.args.masks.now c.args.rests.now c.args.b.now c.has_one-by_side.result c.args.told.0 c.args.told.1 c.args.asked.now c.ask.new.asked c.ask-2.new.asked c.has_one-by_side.ensures
    c.ask.ensures c.ask-2.ensures
