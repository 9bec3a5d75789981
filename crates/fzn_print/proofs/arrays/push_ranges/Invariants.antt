use Rattle.std.proofs.Common.{◌≡◌, ◌++◌, take}
use Rattle.std.specs.Prelude.{flat_map}
use Rattle.fzn_print.specs.AnswerText.{range_text, comma}
use Rattle.fzn_print.proofs.arrays.push_ranges.Given as goal

-- the ranges so far, each with its comma
abbrev pub invariant-loop-range : goal.invariant-loop-range
invariant-loop-range l = l.text.items ≡ l.initial.text.items ++ flat_map (λ range. range_text range ++ comma) (take l.range-index l.ranges)
