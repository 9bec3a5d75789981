use Rattle.std.proofs.Common.{◌+◌, refl, arith}
use Rattle.made_model.specs.Made.{variable_line}
use Rattle.made_model.proofs.MadeLaws.{one_more}
use Rattle.made_model.proofs.text.push_variables.Goals as goal

pub loop-place-preserved : goal.loop-place-preserved
loop-place-preserved c =
    one_more (variable_line c.args.n) 1 c.loop-place.place (c.loop-place.place + 1) c.args.text.now.items c.loop-place.text.items c.push_variable.new.text.items
    c.loop-place.invariant c.in_ok-push_variable.ensures (omega arith)
