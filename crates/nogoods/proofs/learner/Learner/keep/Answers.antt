use Rattle.nogoods.proofs.Keeping.{kept_more}
use Rattle.nogoods.proofs.learner.Learner.keep.Goals as goal

pub returns-in-Ok : goal.returns-in-Ok
returns-in-Ok c = λ kernels space serves placed holds. record {
  past_count = serves.past_count;
  nogoods = kept_more kernels space _ _ c.in-Ok.nogood _ c.in-Ok.ensures serves.nogoods placed holds c.put_behind.ensures;
}
