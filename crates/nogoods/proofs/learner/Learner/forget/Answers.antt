use Rattle.nogoods.proofs.learner.Learner.forget.Goals as goal

pub returns-in-Some : goal.returns-in-Some
returns-in-Some c = λ kernels space serves. record {
  past_count = serves.past_count;
  nogoods = c.forget_some.ensures kernels space serves.nogoods;
}
