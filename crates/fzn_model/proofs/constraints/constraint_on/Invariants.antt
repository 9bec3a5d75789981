use Rattle.std.proofs.Common.{◌≡◌, map}
use Rattle.constraint_model.specs.Fits.{operand_of}
use Rattle.fzn_model.proofs.constraints.constraint_on.Given as goal

-- the operands so far
abbrev pub invariant-loop-meaning : goal.invariant-loop-meaning
invariant-loop-meaning l = l.operands ≡ map operand_of l.yielded
