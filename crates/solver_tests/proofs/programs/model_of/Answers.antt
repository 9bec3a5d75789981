use Rattle.solver_tests.proofs.programs.model_of.Goals as goal

pub returns-in-Ok : goal.returns-in-Ok
returns-in-Ok c = c.law_well_formed.ensures c.as_bytes.result.now c.in-Ok.ensures.items c.in-Ok.model c.in-Ok.ensures.resolved
