use Rattle.std.proofs.Common.{◌<◌, List, length, sym, subst, arith}
use Rattle.guarded_tell.specs.Words.{Tell}
use Rattle.nogoods.specs.Nogoods.{IsNogood}
use Rattle.nogoods.proofs.learner.look.Goals as goal

pub returns-in-Failed-clause-failed : goal.returns-in-Failed-clause-failed
returns-in-Failed-clause-failed c = λ kernels space kept same.
    let within : c.in-Some.number < length c.args.store.now = omega arith in
    let one = kept c.in-Some.number c.index-store-number.result within in
    c.in-Failed.ensures.failed kernels space (subst (λ (ts : List Tell). IsNogood kernels space ts) (sym c.as_slice.ensures.value) one.holds)

pub returns-in-Told-clause-told : goal.returns-in-Told-clause-told
returns-in-Told-clause-told c = λ kernels space kept same.
    let within : c.in-Some.number < length c.args.store.now = omega arith in
    let one = kept c.in-Some.number c.index-store-number.result within in
    c.in-Told.ensures.told kernels space same (subst (λ (ts : List Tell). IsNogood kernels space ts) (sym c.as_slice.ensures.value) one.holds)
