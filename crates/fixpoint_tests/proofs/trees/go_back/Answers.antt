use Rattle.std.proofs.Common.{length}
use Rattle.fixpoint_tests.proofs.TreeLaws.{no_snoc, back_for, back_settled, back_part, back_keeps}
use Rattle.fixpoint_tests.proofs.trees.go_back.Goals as goal

pub returns-in-None : goal.returns-in-None
returns-in-None c = λ kernels masks before rests part fits leaves settled is_part. no_snoc c.args.b.now.stack before.stack _ c.in-None.ensures.none leaves.stack

pub returns-in_ok-put_inside-in-Some : goal.returns-in_ok-put_inside-in-Some
returns-in_ok-put_inside-in-Some c = λ kernels masks before rests part fits leaves settled is_part.
    let after = c.args.b.now in
    let old = c.args.sets.now in
    let new = c.back.new.self in
    let o = c.back.ensures.open in
    let a = c.back.ensures.alert in
    let is = c.in-Some.ensures.some in (
      c.in_ok-put_inside-in-Some.ensures.can_settle kernels masks
          (back_for part before after rests kernels masks old new leaves o a c.back.ensures.moved c.back.ensures.asked (length after.current) (length c.pop.new.self.current) c.in-Some.ensures.same_length fits)
          (back_settled part before after rests kernels masks old new leaves o a c.pop.new.self c.in-Some.part is settled)
          (back_part part before after rests kernels masks old new leaves o a c.pop.new.self c.in-Some.part is is_part),
      back_keeps part before after rests kernels masks old new leaves o a c.pop.new.self c.in-Some.part is _ _ c.in_ok-put_inside-in-Some.ensures.keeps,
    )
