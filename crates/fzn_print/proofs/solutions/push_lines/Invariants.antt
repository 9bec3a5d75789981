use Rattle.std.proofs.Common.{◌≡◌, ◌++◌, take}
use Rattle.std.specs.Prelude.{flat_map}
use Rattle.fzn_print.specs.AnswerText.{output_line}
use Rattle.fzn_print.proofs.solutions.push_lines.Given as goal

-- the lines of the outputs so far
abbrev pub invariant-loop-output : goal.invariant-loop-output
invariant-loop-output l = l.text.items ≡ l.initial.text.items ++ flat_map (output_line l.solution) (take l.output-index l.outputs)
