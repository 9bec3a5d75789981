use Rattle.std.proofs.Common.{subst, sym}
use Rattle.guarded_tell.specs.Words.{Keeps}
use Rattle.nogoods.proofs.bearing.bearing_on.Goals as goal

pub returns-then-is_put-clause-told : goal.returns-then-is_put-clause-told
returns-then-is_put-clause-told c = λ kernels space same nogood p s i.
    subst (Keeps p) (sym c.opposite-t.ensures)
    (c.law_nogoods.ensures.but_one kernels space c.args.b.now c.args.reason.now c.in-AllBut.place _ same c.requires c.in-AllBut.ensures.0 nogood c.in-AllBut.ensures.1 p s i)
