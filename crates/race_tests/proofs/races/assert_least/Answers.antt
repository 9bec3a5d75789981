use Rattle.std.proofs.Common.{lit≤}
use Rattle.race_tests.proofs.races.assert_least.Goals as goal

pub assert_same_least-requires-clause-run : goal.assert_same_least-requires-clause-run
assert_same_least-requires-clause-run g c = λ ks b.
    let is = c.in_ok-searched.ensures in
    record { model = is.well_formed; program = is.is_program; masks = is.are_masks; some_lanes = lit≤ tt; most_lanes = lit≤ tt }
