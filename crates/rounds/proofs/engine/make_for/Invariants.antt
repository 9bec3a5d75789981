use Rattle.rounds.proofs.engine.make_for.Given as goal

abbrev pub ghost-new : goal.ghost-new
ghost-new g a = g.floor
