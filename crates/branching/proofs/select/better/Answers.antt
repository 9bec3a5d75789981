use Rattle.std.proofs.Common.{subst, arith}
use Rattle.std.proofs.lemmas.Int.{ints}
use Rattle.branching.specs.Picks.{IsPick}
use Rattle.branching.proofs.PickLaws.{pick_fixed, pick_kept, pick_better}
use Rattle.branching.proofs.select.better.Goals as goal

pub returns-then-is_fixed : goal.returns-then-is_fixed
returns-then-is_fixed c = λ vars h. pick_fixed c.args.selection c.args.b.now vars c.args.best c.args.var c.if-is_fixed.ensures.fixed h

pub returns-then-rank_in : goal.returns-then-rank_in
returns-then-rank_in c = λ vars h. pick_better c.args.selection c.args.b.now vars c.in-Some.kept c.args.var c.if-is_fixed.ensures.unfixed
    (let e = c.rank_in.ensures in let f = c.rank_in-in-Some.ensures in let t = c.if-rank_in.true in omega (arith, ints))
    (subst (IsPick c.args.selection c.args.b.now vars) c.in-Some.is h)

pub returns-else-rank_in : goal.returns-else-rank_in
returns-else-rank_in c = λ vars h. pick_kept c.args.selection c.args.b.now vars c.in-Some.kept c.args.var
    (let e = c.rank_in.ensures in let f = c.rank_in-in-Some.ensures in let t = c.if-rank_in.false in omega (arith, ints))
    (subst (IsPick c.args.selection c.args.b.now vars) c.in-Some.is h)
