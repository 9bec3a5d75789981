use Rattle.std.proofs.Common.{length, sym, subst, ℕ}
use Rattle.guarded_tell.specs.Words.{Keeps}
use Rattle.guarded_tell.specs.Kernels.{IsKernel}
use Rattle.nogoods.proofs.resolving.resolve.Goals as goal

pub meet_bounds-requires-clause-placed : goal.meet_bounds-requires-clause-placed
meet_bounds-requires-clause-placed c = c.take.ensures.placed (length c.args.space.now) c.requires.placed

pub returns-clause-nogood : goal.returns-clause-nogood
returns-clause-nogood c = λ kernels within nogood p s m.
    let a = c.in_ok-meet_bounds.ensures.met p s.inside m in
    let t = c.law_nogoods.ensures.reason kernels c.args.space.now c.args.past.now p c.args.kernel.now c.requires.same_count within
    (subst (λ (n : ℕ). IsKernel n c.args.kernel.now) (sym c.requires.same_count) c.requires.kernel) c.len-length.ensures.in_range c.if-not-is_proper_in.ensures s a.1 in
    let sought : Keeps p c.at-sought.result = c.if-not-is_told.ensures p t in
    nogood p s (c.take.ensures.less c.at-sought.result p a.0 (subst (Keeps p) (c.at-sought.ensures c.at-sought.result) sought))
