use Rattle.std.proofs.Common.{sym, arith}
use Rattle.fzn_model.proofs.NoteLaws.{more_range_lists}
use Rattle.fzn_model.proofs.outputs.array_arguments.Goals as goal

pub returns-in-len2-up : goal.returns-in-len2-up
returns-in-len2-up c = sym (more_range_lists c.args.text.now c.args.args.now (omega arith))
