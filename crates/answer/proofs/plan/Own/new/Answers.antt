use Rattle.answer.proofs.plan.Own.new.Goals as goal

pub returns : goal.returns
returns c = λ model kernels start lanes count. record { walk = c.new-walk.ensures model kernels start; kept = c.new-kept.ensures kernels lanes count }
