use Rattle.search_tests.proofs.searches.all_in.Goals as goal

pub run_all-requires-clause-run : goal.run_all-requires-clause-run
run_all-requires-clause-run g c = λ ks b.
    let is = c.requires.compiled in
    record { model = is.well_formed; program = is.is_program; masks = is.are_masks; some_lanes = c.requires.some_lanes; most_lanes = c.requires.most_lanes }
