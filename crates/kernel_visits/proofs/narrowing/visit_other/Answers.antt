-- What is seen to narrow nothing is heard.
use Rattle.guarded_tell.specs.Kernels.{tells}
use Rattle.short_tells.proofs.ShortSumLaws.{quiet_heard}
use Rattle.kernel_visits.proofs.narrowing.visit_other.Goals as goal

pub returns-in-Some-clause-heard : goal.returns-in-Some-clause-heard
returns-in-Some-clause-heard g c = quiet_heard g.H.Hear.hears c.args.h.now c.args.b.now (tells c.args.k.now c.args.b.now) c.in-Some.ensures.kept
