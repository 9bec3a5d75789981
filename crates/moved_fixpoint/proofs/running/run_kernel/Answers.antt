-- A kernel of which its shape says that it narrows nothing tells nothing.
use Rattle.std.proofs.Common.{◌∙◌, List, [], length, inl, refl, sym}
use Rattle.guarded_tell.specs.Words.{Tell}
use Rattle.guarded_tell.specs.Kernels.{tells}
use Rattle.moved_fixpoint.specs.Asked.{has_one}
use Rattle.moved_fixpoint.proofs.RunLemmas.{here_is, told_by, then_ok, gathered_runs, none_of_quiet, none_heard, none_asked, any_default}
use Rattle.moved_fixpoint.proofs.running.run_kernel.Goals as goal

pub returns-then-is_ok-clause-run : goal.returns-then-is_ok-clause-run
returns-then-is_ok-clause-run c =
    let before = c.args.b.now.current in
    let on = c.current.result.now in
    let k = c.index-kernels-place.result in
    let told : List Tell = [] in
    let asked = c.rest_for.new.self.asked in
    any_default c.args.kernels.now c.args.place k _ _ _ _ _ _ _ _ c.requires.place c.index-kernels-place.is
    (gathered_runs c.law_tell_place.ensures k before
    (here_is c.args.kernels.now (length before) c.args.place k c.requires.kernels c.requires.place c.index-kernels-place.is) told
    (told_by k before on told told c.current.ensures refl (inl (sym (none_of_quiet c.law_narrowing.ensures.tighter on (tells k on) c.in-Some.ensures.kept))))
    c.law_local.ensures.tells c.law_monotone.ensures c.len-length.ensures.in_range c.requires.proper c.args.kernels.now c.args.place c.index-kernels-place.is c.requires.place
    c.args.masks.now c.requires.masks.naming c.requires.kernels c.law_sided.ensures c.args.sets.now.asked c.requires.set c.args.sets.now.rests c.args.progress c.law_narrowing.ensures.tighter
    c.law_inside_order.ensures c.law_tightens_one.ensures c.law_narrowing.ensures.keeps
    before c.args.progress (none_heard _ told refl)
    on c.current.ensures c.args.sets.now.rests refl c.rest_for.new.self.rests
    (then_ok c.rest_for.result _ (sym c.is_ok.ensures.value ∙ c.if-is_ok.true) (c.rest_for.ensures.rested k on c.in-Some.ensures.rest))
    before refl told refl asked asked (c.rest_for.ensures.asked ∙ c.forget.ensures)
    (none_asked c.args.masks.now c.rest_for.new.self.rests before (has_one before) told asked refl))
