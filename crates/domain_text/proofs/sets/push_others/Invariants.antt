-- What is written, with the numbers that are left, is the whole.
use Rattle.std.proofs.Common.{◌≡◌, ◌++◌}
use Rattle.domain_text.proofs.SetLaws.{others_text}
use Rattle.domain_text.proofs.sets.push_others.Given as goal

abbrev pub invariant-loop-rest : goal.invariant-loop-rest
invariant-loop-rest l = l.text.items ++ others_text l.base l.rest ≡ l.initial.text.items ++ others_text l.base l.set

abbrev pub decreases-loop-rest : goal.decreases-loop-rest
decreases-loop-rest l = l.rest
