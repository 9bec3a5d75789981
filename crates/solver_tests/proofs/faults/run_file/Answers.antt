use Rattle.std.proofs.Common.{rules}
use Rattle.solver_tests.proofs.NamedFile.{can_open_file}
use Rattle.solver_tests.proofs.faults.run_file.Goals as goal

pub solve_main-status-requires : goal.solve_main-status-requires
solve_main-status-requires g c = (search rules, (search rules, (search rules, can_open_file _ _ (search rules) (search rules))))
