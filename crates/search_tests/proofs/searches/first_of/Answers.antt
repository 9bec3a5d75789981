use Rattle.std.proofs.Common.{lit≤}
use Rattle.search_tests.proofs.searches.first_of.Goals as goal

pub run_first-requires-clause-run : goal.run_first-requires-clause-run
run_first-requires-clause-run g c = λ ks b.
    let is = c.requires.compiled in
    record { model = is.well_formed; program = is.is_program; masks = is.are_masks; some_lanes = lit≤ tt; most_lanes = lit≤ tt }
