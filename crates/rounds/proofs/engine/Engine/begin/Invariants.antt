use Rattle.fixpoint_laws.specs.Greatest.{greatest_of}
use Rattle.rounds.proofs.engine.Engine.begin.Given as goal

abbrev pub ghost-open_for : goal.ghost-open_for
ghost-open_for a = greatest_of a.start.now a._kernels.now

abbrev pub ghost-make_for : goal.ghost-make_for
ghost-make_for a = greatest_of a.start.now a._kernels.now
