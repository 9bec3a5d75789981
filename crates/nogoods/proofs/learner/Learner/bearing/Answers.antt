use Rattle.nogoods.proofs.Keeping.{if_failed_weaker, if_told_weaker}
use Rattle.nogoods.proofs.learner.Learner.bearing.Goals as goal

pub returns-clause-failed : goal.returns-clause-failed
returns-clause-failed c = if_failed_weaker c.look.result
    (λ out kernels space serves same. out kernels space (rw c.as_slice.ensures.value serves.nogoods) same) c.look.ensures.failed

pub returns-clause-told : goal.returns-clause-told
returns-clause-told c = if_told_weaker c.look.result
    (λ t told kernels space serves same. told kernels space (rw c.as_slice.ensures.value serves.nogoods) same) c.look.ensures.told
