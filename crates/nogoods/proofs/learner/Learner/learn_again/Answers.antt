use Rattle.std.proofs.Common.{◌∙◌}
use Rattle.nogoods.proofs.learner.Learner.learn_again.Goals as goal

pub returns-in-Ok : goal.returns-in-Ok
returns-in-Ok c = c.keep.ensures c.args.kernels.now c.args.space.now
    (record { past_count = c.make_of.ensures.past ∙ c.requires.serves.past_count; nogoods = rw c.make_of.ensures.store c.requires.serves.nogoods })
    c.in-Ok.ensures.placed c.in-Ok.ensures.nogood

pub returns-in-Err : goal.returns-in-Err
returns-in-Err c = record { past_count = c.make_of.ensures.past ∙ c.requires.serves.past_count; nogoods = rw c.make_of.ensures.store c.requires.serves.nogoods }
