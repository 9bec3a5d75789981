use Rattle.std.proofs.Common.{arith}
use Rattle.subproblem_walk.proofs.TurnLemmas.{no_turn, next_turn}
use Rattle.subproblem_walk.proofs.turns.shared_turns.Goals as goal

pub loop-count-init : goal.loop-count-init
loop-count-init c = record { within = omega arith; depth = omega arith; to = no_turn c.args.address.depth c.args.address.number }

pub loop-count-preserved : goal.loop-count-preserved
loop-count-preserved c =
    let n = c.if-rest-eq0.false in
    let d = c.first_turn-goes_right.ensures.depth in
    let h = c.loop-count.invariant in
    let all = h.depth in
    let l = c.loop-count-test.true in
    let m = c.requires.limit in
    record {
      within = omega arith;
      depth = omega arith;
      to =
          next_turn c.args.address.depth c.args.address.number c.loop-count.rest.depth c.loop-count.rest.number c.first_turn-goes_right.result.1.depth c.first_turn-goes_right.result.1.number
          c.loop-count.count c.args.turns.now c.first_turn-goes_right.result.0 _ h.to (omega arith) (omega arith) d c.first_turn-goes_right.ensures.turn c.if-goes_right-turns.false;
    }
