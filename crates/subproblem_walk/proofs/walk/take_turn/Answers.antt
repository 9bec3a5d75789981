use Rattle.std.proofs.Common.{ℕ, Option, sym, subst}
use Rattle.moved_fixpoint.specs.Made.{IsMadeBy}
use Rattle.subproblem_walk.proofs.WalkLemmas.{made_part}
use Rattle.subproblem_walk.proofs.walk.take_turn.Goals as goal

pub returns-clause-made : goal.returns-clause-made
returns-clause-made c = λ model kernels closed parted.
    subst (λ (x : Option ℕ). IsMadeBy x kernels c.enter.new.sub.boxes.current) (sym c.in_ok-enter.ensures.changed)
    (made_part model kernels c.args.sub.now.boxes.current c.enter.new.sub.boxes.current c.args.branching c.first_turn-goes_right.result.0 c.part_on-part.result.var c.part_on-part.result.low c.part_on-part.result.high
    closed parted c.part_on-part.ensures.pair c.in_ok-enter.ensures.current (c.part_on-part.ensures.part c.args.sub.now.boxes.current))
