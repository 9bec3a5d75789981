use Rattle.fzn_print.proofs.LineLaws.{lines_step}
use Rattle.fzn_print.proofs.lines.read_lines.Goals as goal

pub loop-output-preserved : goal.loop-output-preserved
loop-output-preserved c =
    lines_step c.args.outputs.now c.loop-output.output-index c.output-item.result c.args.rest.now c.loop-output.left.now c.in_ok-left.left.now c.args.values.now c.loop-output.values c.read_line.new.values
    c.loop-output-test.true c.output-item.is c.loop-output.invariant c.in_ok-left.ensures
