use Rattle.std.proofs.Common.{List, subst, sym}
use Rattle.std.specs.List.{All}
use Rattle.nogoods.specs.declared.store.Nogood.{Nogood}
use Rattle.nogoods.specs.Learnings.{IsKept}
use Rattle.nogoods.proofs.Keeping.{kept_fewer}
use Rattle.nogoods.proofs.learner.drop_one.Goals as goal

pub returns : goal.returns
returns c = λ kernels space kept. subst (λ (ns : List Nogood). All (IsKept kernels space) ns) (sym c.swap_remove.ensures.items)
    (kept_fewer kernels space c.args.store.now.items c.args.place c.swap_remove.result c.requires c.swap_remove.ensures.value kept)
