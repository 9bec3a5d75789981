use Rattle.std.proofs.Common.{take, All}
use Rattle.answer.proofs.collecting.is_any_spent.Given as goal

-- none so far was stopped
abbrev pub invariant-loop-end : goal.invariant-loop-end
invariant-loop-end g l = All (λ end. g.E.Ended.is_spent end → ⊥) (take l.end-index l.ends)
