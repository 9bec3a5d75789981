use Rattle.std.proofs.Common.{length}
use Rattle.std.proofs.lemmas.Result.{on_ok_weaker}
use Rattle.nogoods.proofs.bounds_met.meet_unless.Goals as goal

pub returns-clause-met : goal.returns-clause-met
returns-clause-met c = on_ok_weaker c.meet.result (λ more p i m. more p m) c.meet.ensures.more

pub returns-clause-all_placed : goal.returns-clause-all_placed
returns-clause-all_placed c =
    on_ok_weaker c.meet.result (λ kept. kept (length c.args.space.now) c.requires.all_placed c.requires.placed) c.meet.ensures.placed
