use Rattle.mix_rounds.specs.Greatest.{greatest_mix_of}
use Rattle.mix_rounds.proofs.propagate.propagate_mix.Given as goal

abbrev pub ghost-make_for : goal.ghost-make_for
ghost-make_for g a = greatest_mix_of a.start.now a._kernels.now
