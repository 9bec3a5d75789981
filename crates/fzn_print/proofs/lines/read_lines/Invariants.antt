use Rattle.fzn_print.proofs.LineLaws.{LinesSoFar}
use Rattle.fzn_print.proofs.lines.read_lines.Given as goal

-- the lines so far were read
abbrev pub invariant-loop-output : goal.invariant-loop-output
invariant-loop-output l = LinesSoFar l.outputs l.output-index l.rest l.initial.values l.left l.values
