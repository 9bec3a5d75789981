use Rattle.mix_rounds.proofs.propagate.make_for.Given as goal

abbrev pub ghost-new : goal.ghost-new
ghost-new g a = g.floor
