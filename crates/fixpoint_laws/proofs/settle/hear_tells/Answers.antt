use Rattle.std.proofs.lemmas.Bool.{OnTrue_from, OnFalse_from}
use Rattle.fixpoint_laws.specs.declared.settle.Joiner.{Joiner}
use Rattle.guarded_tell.specs.Kernels.{tells}
use Rattle.fixpoint_laws.proofs.Hearing.{Effect, all_placed, may_hear_all, effect, same_name, of_own, run_of, still_of, closed_of, moves_of}
use Rattle.fixpoint_laws.proofs.settle.hear_tells.Goals as goal
use Rattle.fixpoint_laws.proofs.settle.hear_tells.Goals.{After-visit_tells}

pub visit_tells-requires-clause-hearer : goal.visit_tells-requires-clause-hearer
visit_tells-requires-clause-hearer c =
    may_hear_all c.law_inside_order.ensures (λ (h : Joiner). h.b.now) (λ (h : Joiner). h.moved) _ (λ h t g j. j.0) _ (λ h t p. p) _ _
    (all_placed c.law_tell_place.ensures c.law_local.ensures.tells c.args.kernel.now c.args.spare.now c.args.joiner.now.b.now c.requires.kernel c.requires.agree)

pub returns-clause-same_box : goal.returns-clause-same_box
returns-clause-same_box c =
    same_name c.law_inside_order.ensures (λ (h : Joiner). h.b.now) (λ (h : Joiner). h.moved) _ (λ h t g j. j.0) (λ (h : Joiner). h.b.ghost_name) (λ h t g j. j.1) _ _ _ c.visit_tells.ensures

the_effect : (c : After-visit_tells) →
    Effect c.args.joiner.now.b.now c.args.joiner.now.moved (tells c.args.kernel.now c.args.joiner.now.b.now) c.visit_tells.new.h.b.now c.visit_tells.new.h.moved
the_effect c = of_own c.law_tell_place.ensures c.law_local.ensures.tells c.args.kernel.now c.args.spare.now c.args.joiner.now.b.now c.requires.kernel c.requires.agree _ _ _
    (effect c.law_inside_order.ensures (λ (h : Joiner). h.b.now) (λ (h : Joiner). h.moved) _ (λ h t g j. j.0) _ _ _
    (all_placed c.law_tell_place.ensures c.law_local.ensures.tells c.args.kernel.now c.args.spare.now c.args.joiner.now.b.now c.requires.kernel c.requires.agree)
    c.visit_tells.ensures)

pub returns-clause-run : goal.returns-clause-run
returns-clause-run c = run_of c.args.kernel.now c.args.joiner.now.b.now _ _ _ (the_effect c) c.law_monotone.ensures c.len-length.ensures.in_range c.requires.kernel c.requires.proper

pub returns-clause-still : goal.returns-clause-still
returns-clause-still c = OnFalse_from _ _ (still_of c.args.kernel.now c.args.joiner.now.b.now _ _ _ (the_effect c))

pub returns-clause-closed : goal.returns-clause-closed
returns-clause-closed c = OnFalse_from _ _ (closed_of c.args.kernel.now c.args.joiner.now.b.now _ _ _ (the_effect c) c.requires.proper)

pub returns-clause-moved : goal.returns-clause-moved
returns-clause-moved c = OnTrue_from _ _ (moves_of c.args.kernel.now c.args.joiner.now.b.now _ _ _ (the_effect c) c.requires.unmoved)
