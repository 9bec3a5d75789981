use Rattle.std.specs.Prelude.{None}
use Rattle.fixpoint_tests.proofs.stores.an_epoch_starts_anew.Given as goal

abbrev pub ghost-open : goal.ghost-open
ghost-open g a = None
