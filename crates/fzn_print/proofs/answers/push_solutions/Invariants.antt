use Rattle.std.proofs.Common.{◌≡◌, ◌++◌, take}
use Rattle.std.specs.Prelude.{flat_map}
use Rattle.fzn_print.specs.AnswerText.{solution_text}
use Rattle.fzn_print.proofs.answers.push_solutions.Given as goal

-- the texts of the solutions so far
abbrev pub invariant-loop-solution : goal.invariant-loop-solution
invariant-loop-solution l = l.text.items ≡ l.initial.text.items ++ flat_map (solution_text l.model) (take l.solution-index l.solutions)
