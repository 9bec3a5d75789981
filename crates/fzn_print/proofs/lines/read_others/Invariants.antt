use Rattle.fzn_print.proofs.LineLaws.{OthersSoFar}
use Rattle.fzn_print.proofs.lines.read_others.Given as goal

-- the terms so far were read
abbrev pub invariant-loop-term : goal.invariant-loop-term
invariant-loop-term l = OthersSoFar l.is_bool l.terms l.term-index l.rest l.initial.values l.left l.values
