use Rattle.std.proofs.Common.{◌<◌, ◌∙◌, ap, subst, arith}
use Rattle.std.specs.Prelude.{IfSome}
use Rattle.crew.proofs.HandLaws.{fewer_left, done_of}
use Rattle.crew.proofs.hand_source.HandSourceSourceHand.next.Goals as goal

pub returns-clause-right : goal.returns-clause-right
returns-clause-right c = ap (λ s. s.count) c.take.ensures.same.standing ∙ c.requires

pub returns-clause-same : goal.returns-clause-same
returns-clause-same c = λ first same. c.law_hands.ensures.transitive first c.args.right.now c.take.new.self same c.take.ensures.same

pub returns-clause-below : goal.returns-clause-below
returns-clause-below c = subst (λ n. IfSome c.take.result (λ k. k < n)) c.requires c.take.ensures.below

pub returns-clause-fewer : goal.returns-clause-fewer
returns-clause-fewer c = fewer_left c.take.result _ _ _ c.take.ensures.drawn (omega (arith, c.take.ensures.few, c.requires))

pub returns-clause-passed : goal.returns-clause-passed
returns-clause-passed c = done_of c.take.result _ c.take.ensures.done
