use Rattle.nogoods.proofs.learner.forget_some.Goals as goal

pub loop-place-preserved-then-as_slice-gt2 : goal.loop-place-preserved-then-as_slice-gt2
loop-place-preserved-then-as_slice-gt2 c = λ kernels space all. c.drop_one.ensures kernels space (c.loop-place.invariant kernels space all)
