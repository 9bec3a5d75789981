use Rattle.std.proofs.lemmas.Result.{err_from_is_err_and}
use Rattle.std.proofs.Common.{arith}
use Rattle.std.proofs.lemmas.Grind.{common_steps}
use Rattle.fzn_io.proofs.StreamLaws.{takes_next, takes_at_most, takes_exactly}
use Rattle.fzn_io.proofs.whole.read_all.Goals as goal

pub loop-text-preserved : goal.loop-text-preserved
loop-text-preserved g c =
    let i = c.loop-text.invariant in
    let e = c.in_ok-taken.ensures in
    (grind (arith, common_steps), grind (arith, common_steps), takes_next _ _ _ _ _ _ _ i.2 e.taken (grind (arith, common_steps)), omega (arith, e.never_falls, i.3), e.open_kept, cc, cc)

pub returns-then-taken-room-clause-refused : goal.returns-then-taken-room-clause-refused
returns-then-taken-room-clause-refused g c =
    takes_at_most _ _ _ _ _ _ _ c.loop-text.invariant.2 c.in_ok-taken.ensures.taken (grind (arith, common_steps))

pub returns-then-taken-room-clause-too_long : goal.returns-then-taken-room-clause-too_long
returns-then-taken-room-clause-too_long g c h =
    takes_exactly _ _ _ _ _ _ _ c.loop-text.invariant.2 c.in_ok-taken.ensures.taken (grind (arith, common_steps)) (grind (arith, common_steps))

pub returns-in_err-extend_from_slice-clause-refused :
    goal.returns-in_err-extend_from_slice-clause-refused
returns-in_err-extend_from_slice-clause-refused g c =
    let p = err_from_is_err_and c.from_residual-in_err-extend_from_slice.result c.from_residual-in_err-extend_from_slice.ensures.1 in
    rw p.1 (takes_at_most _ _ _ _ _ _ _ c.loop-text.invariant.2 c.in_ok-taken.ensures.taken (grind (arith, common_steps)))
