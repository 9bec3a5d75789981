-- A kernel that narrows nothing tells nothing.
use Rattle.std.proofs.Common.{◌∙◌, List, [], length, get_or, inl, refl, sym}
use Rattle.std.proofs.lemmas.List.{get_or_default}
use Rattle.guarded_tell.specs.Words.{Tell}
use Rattle.guarded_tell.specs.Kernels.{tells}
use Rattle.moved_fixpoint.specs.Asked.{has_one}
use Rattle.moved_fixpoint.proofs.RunLemmas.{here_is, then_ok, gathered_runs, none_of_quiet, none_heard, none_asked, any_default}
use Rattle.moved_fixpoint.proofs.running.run_quiet.Goals as goal

pub returns-then-is_ok-clause-run : goal.returns-then-is_ok-clause-run
returns-then-is_ok-clause-run c d =
    let before = c.args.b.now.current in
    let k = get_or c.args.kernels.now c.args.place d in
    let is = get_or_default c.args.kernels.now c.args.place d k c.requires.place in
    let told : List Tell = [] in
    let asked = c.rest_for.new.self.asked in
    let quiet = c.requires.quiet d in
    any_default c.args.kernels.now c.args.place k _ _ _ _ _ _ _ _ c.requires.place is
    (gathered_runs c.law_tell_place.ensures k before
    (here_is c.args.kernels.now (length before) c.args.place k c.requires.kernels c.requires.place is) told
    (inl (sym (none_of_quiet c.law_narrowing.ensures.tighter before (tells k before) quiet.kept)))
    c.law_local.ensures.tells c.law_monotone.ensures c.len-length.ensures.in_range c.requires.proper c.args.kernels.now c.args.place is c.requires.place
    c.args.masks.now c.requires.masks.naming c.requires.kernels c.law_sided.ensures c.args.sets.now.asked c.requires.set c.args.sets.now.rests c.args.progress c.law_narrowing.ensures.tighter
    c.law_inside_order.ensures c.law_tightens_one.ensures c.law_narrowing.ensures.keeps
    before c.args.progress (none_heard _ told refl)
    before refl c.args.sets.now.rests refl c.rest_for.new.self.rests
    (then_ok c.rest_for.result _ (sym c.is_ok.ensures.value ∙ c.if-is_ok.true) (c.rest_for.ensures.rested k before quiet.rest))
    before refl told refl asked asked (c.rest_for.ensures.asked ∙ c.forget.ensures)
    (none_asked c.args.masks.now c.rest_for.new.self.rests before (has_one before) told asked refl)) d
