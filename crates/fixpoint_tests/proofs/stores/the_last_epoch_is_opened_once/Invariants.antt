use Rattle.std.specs.Prelude.{None}
use Rattle.fixpoint_tests.proofs.stores.the_last_epoch_is_opened_once.Given as goal

abbrev pub ghost-new_from : goal.ghost-new_from
ghost-new_from g a = None

abbrev pub ghost-open : goal.ghost-open
ghost-open g a = None
