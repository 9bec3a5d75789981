use Rattle.std.proofs.Common.{◌<◌, List, length, sym, subst, arith}
use Rattle.guarded_tell.specs.Words.{Tell}
use Rattle.nogoods.specs.declared.store.Nogood.{Nogood}
use Rattle.nogoods.specs.Nogoods.{IsNogood}
use Rattle.nogoods.specs.Learnings.{IsKept}
use Rattle.nogoods.proofs.learner.Learner.refutes.Goals as goal

pub returns-in-Failed : goal.returns-in-Failed
returns-in-Failed c = λ kernels space serves same.
    let within : c.args.number < length c.args.self.now.store.items = omega arith in
    let k : IsKept kernels space c.index.result.now =
    subst (λ (n : Nogood). IsKept kernels space n) (sym c.index.ensures) (serves.nogoods c.args.number c.index.result.now within) in
    c.in-Failed.ensures.failed kernels space (subst (λ (ts : List Tell). IsNogood kernels space ts) (sym c.as_slice-2.ensures.value) k.holds)
