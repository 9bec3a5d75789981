use Rattle.std.proofs.Common.{arith}
use Rattle.fzn_model.proofs.NoteLaws.{no_phase}
use Rattle.fzn_model.proofs.searches.phase_of.Goals as goal

pub returns-in_default : goal.returns-in_default
returns-in_default c = no_phase c.args.text.now c.args.scope.now c.args.args.now (omega arith)
