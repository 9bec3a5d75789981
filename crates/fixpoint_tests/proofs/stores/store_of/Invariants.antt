use Rattle.std.specs.Prelude.{None}
use Rattle.fixpoint_tests.proofs.stores.store_of.Given as goal

abbrev pub ghost-new : goal.ghost-new
ghost-new g = None
