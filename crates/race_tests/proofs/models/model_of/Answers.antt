use Rattle.race_tests.proofs.models.model_of.Goals as goal

pub returns-in-Ok-resolve : goal.returns-in-Ok-resolve
returns-in-Ok-resolve c = c.law_well_formed.ensures _ _ _ c.in-Ok-resolve.ensures
