use Rattle.std.proofs.Common.{refl}
use Rattle.kernel_visits.specs.Narrowing.{narrowing_tells}
use Rattle.moved_fixpoint.proofs.Gathering.{gathered}
use Rattle.moved_fixpoint.proofs.told.Told.gather.Goals as goal

pub returns-clause-gathered : goal.returns-clause-gathered
returns-clause-gathered c kept = gathered c.args.b.now _ (narrowing_tells c.args.kernel.now c.args.b.now) _ c.gather_on.ensures.taken refl c.clear.ensures.items kept
