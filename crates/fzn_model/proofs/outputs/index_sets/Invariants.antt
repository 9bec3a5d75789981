use Rattle.fzn_model.specs.Outputs.{index_sets}
use Rattle.fzn_model.proofs.Turns.{Gathered}
use Rattle.fzn_model.proofs.NoteLaws.{trees}
use Rattle.fzn_model.proofs.outputs.index_sets.Given as goal

abbrev pub invariant-loop-arg : goal.invariant-loop-arg
invariant-loop-arg l = Gathered (λ args. index_sets l.text (trees args)) l.args l.arg-index l.ranges
