use Rattle.std.proofs.Common.{◌≡◌, ◌++◌, drop}
use Rattle.fzn_model.specs.Effects.{meanings_of}
use Rattle.fzn_model.specs.Faults.{all_mean}
use Rattle.fzn_model.proofs.constraints.arguments.Given as goal

-- what was found, with what the rest stands for, is what all stand for
abbrev pub invariant-loop-arg : goal.invariant-loop-arg
invariant-loop-arg l =
    (l.meanings ++ meanings_of l.text l.scope (drop l.arg-index l.args) ≡ meanings_of l.text l.scope l.args)
    × (all_mean l.text l.scope (drop l.arg-index l.args) ≡ all_mean l.text l.scope l.args)
