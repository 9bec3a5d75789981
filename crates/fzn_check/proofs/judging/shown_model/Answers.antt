use Rattle.fzn_check.proofs.judging.shown_model.Goals as goal

pub hidden-requires : goal.hidden-requires
hidden-requires c = c.law_well_formed.ensures c.args.text.now c.in-Ok.ensures.items c.in-Ok.model c.in-Ok.ensures.resolved

pub returns-in-None-clause-well_formed : goal.returns-in-None-clause-well_formed
returns-in-None-clause-well_formed c = c.law_well_formed.ensures c.args.text.now c.in-Ok.ensures.items c.in-Ok.model c.in-Ok.ensures.resolved
