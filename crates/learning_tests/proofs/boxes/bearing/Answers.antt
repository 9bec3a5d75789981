use Rattle.std.proofs.Common.{◌∙◌, sym, ap, length}
use Rattle.learning_tests.proofs.Serving.{are_for}
use Rattle.learning_tests.proofs.boxes.bearing.Goals as goal

pub bearing-requires : goal.bearing-requires
bearing-requires c = are_for c.args.kernels.now c.args.space.now c.current.result.now c.args.learner.now
    (c.requires.space ∙ sym c.requires.same_count ∙ sym (ap length c.current.ensures)) c.requires.serves

pub returns : goal.returns
returns c = c.bearing.ensures.serves c.args.kernels.now c.args.space.now c.requires.serves
