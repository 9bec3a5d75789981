use Rattle.learning_tests.proofs.boxes.go_back.Goals as goal

pub returns : goal.returns
returns c = c.begin_anew.ensures c.args.kernels.now c.args.space.now (c.back_to.ensures c.args.kernels.now c.args.space.now c.requires)
