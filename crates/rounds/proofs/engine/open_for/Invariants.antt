use Rattle.rounds.proofs.engine.open_for.Given as goal

abbrev pub ghost-open : goal.ghost-open
ghost-open g a = g.floor
