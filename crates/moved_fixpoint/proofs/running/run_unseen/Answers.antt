use Rattle.std.proofs.Common.{◌∙◌, List, [], length, inl, refl, sym, ap, arith}
use Rattle.std.proofs.lemmas.Bool.{true≢false}
use Rattle.guarded_tell.specs.Words.{Tell}
use Rattle.moved_fixpoint.specs.declared.told.Told.{Told}
use Rattle.moved_fixpoint.specs.Asked.{has_one}
use Rattle.moved_fixpoint.proofs.RunLemmas.{here_is, gathered_placed, gathered_over, gathered_refused, gathered_runs, kernel_after, length_after, proper_after, none_heard, none_asked, any_default, told_by, ok_then, then_ok}
use Rattle.moved_fixpoint.proofs.running.run_unseen.Goals as goal

pub returns-then-is_ok-clause-run : goal.returns-then-is_ok-clause-run
returns-then-is_ok-clause-run c =
    let before = c.args.b.now.current in
    let on = c.current.result.now in
    let k = c.index-kernels-place.result in
    let told : List Tell = [] in
    let asked = c.rest_for.new.self.asked in
    any_default c.args.kernels.now c.args.place k _ _ _ _ _ _ _ _ c.requires.place c.index-kernels-place.is
    (gathered_runs c.law_tell_place.ensures k before
    (here_is c.args.kernels.now (length before) c.args.place k c.requires.kernels c.requires.place c.index-kernels-place.is) told
    (told_by k before on told told c.current.ensures refl (inl (sym c.in-Some.ensures.quiet)))
    c.law_local.ensures.tells c.law_monotone.ensures c.len-length.ensures.in_range c.requires.proper c.args.kernels.now c.args.place c.index-kernels-place.is c.requires.place
    c.args.masks.now c.requires.masks.naming c.requires.kernels c.law_sided.ensures c.args.sets.now.asked c.requires.set c.args.sets.now.rests c.args.progress c.law_narrowing.ensures.tighter
    c.law_inside_order.ensures c.law_tightens_one.ensures c.law_narrowing.ensures.keeps
    before c.args.progress (none_heard _ told refl)
    on c.current.ensures c.visit.new.self.rests c.visit.ensures.rests c.rest_for.new.self.rests
    (then_ok c.rest_for.result _ (sym c.is_ok.ensures.value ∙ c.if-is_ok.true) (c.rest_for.ensures.rested k on c.in-Some.ensures.rest))
    before refl told refl asked asked (c.rest_for.ensures.asked ∙ c.visit.ensures.asked ∙ c.forget.ensures)
    (none_asked c.args.masks.now c.rest_for.new.self.rests before (has_one before) told asked refl))

pub join_all-after-requires : goal.join_all-after-requires
join_all-after-requires c = record {
  placed =
      gathered_placed c.law_tell_place.ensures c.index-kernels-place.result c.args.b.now.current
      (here_is c.args.kernels.now (length c.args.b.now.current) c.args.place c.index-kernels-place.result c.requires.kernels c.requires.place c.index-kernels-place.is) c.as_slice.result.now
      (told_by c.index-kernels-place.result c.args.b.now.current _ _ _ c.current.ensures c.as_slice.ensures.value (c.in_default.ensures.told c.if-sets.false));
}

pub returns-then-not-goes_on-clause-run : goal.returns-then-not-goes_on-clause-run
returns-then-not-goes_on-clause-run c =
    any_default c.args.kernels.now c.args.place c.index-kernels-place.result _ _ _ _ _ _ _ _ c.requires.place c.index-kernels-place.is
    (gathered_over c.law_tell_place.ensures c.index-kernels-place.result c.args.b.now.current
    (here_is c.args.kernels.now (length c.args.b.now.current) c.args.place c.index-kernels-place.result c.requires.kernels c.requires.place c.index-kernels-place.is) c.as_slice.result.now
    (told_by c.index-kernels-place.result c.args.b.now.current _ _ _ c.current.ensures c.as_slice.ensures.value (c.in_default.ensures.told c.if-sets.false))
    c.law_local.ensures.tells c.law_monotone.ensures c.len-length.ensures.in_range c.requires.proper c.args.kernels.now c.args.place c.index-kernels-place.is c.requires.place
    c.args.masks.now c.requires.masks.naming c.requires.kernels c.law_sided.ensures c.args.sets.now.asked c.requires.set c.args.sets.now.rests c.args.progress c.law_narrowing.ensures.tighter
    c.law_inside_order.ensures c.law_tightens_one.ensures c.law_narrowing.ensures.keeps
    c.join_all-after.new.b.current c.join_all-after.result c.join_all-after.ensures.heard
    (λ g. true≢false (sym (c.if-not-goes_on.ensures.1 g))) c.visit.new.self.asked (c.visit.ensures.asked ∙ c.forget.ensures) c.visit.new.self.rests)

pub rest-requires-clause-kernel : goal.rest-requires-clause-kernel
rest-requires-clause-kernel c =
    kernel_after c.law_tell_place.ensures c.index-kernels-place.result c.args.b.now.current
    (here_is c.args.kernels.now (length c.args.b.now.current) c.args.place c.index-kernels-place.result c.requires.kernels c.requires.place c.index-kernels-place.is) c.as_slice.result.now
    (told_by c.index-kernels-place.result c.args.b.now.current _ _ _ c.current.ensures c.as_slice.ensures.value (c.in_default.ensures.told c.if-sets.false))
    c.law_local.ensures.tells c.law_monotone.ensures c.len-length.ensures.in_range c.requires.proper c.args.kernels.now c.args.place c.index-kernels-place.is c.requires.place
    c.args.masks.now c.requires.masks.naming c.requires.kernels c.law_sided.ensures c.args.sets.now.asked c.requires.set c.args.sets.now.rests c.args.progress c.law_narrowing.ensures.tighter
    c.law_inside_order.ensures c.law_tightens_one.ensures c.law_narrowing.ensures.keeps
    c.join_all-after.new.b.current c.join_all-after.result c.join_all-after.ensures.heard
    c.current-2.result.now c.current-2.ensures

pub rest-requires-clause-proper : goal.rest-requires-clause-proper
rest-requires-clause-proper c =
    proper_after c.law_tell_place.ensures c.index-kernels-place.result c.args.b.now.current
    (here_is c.args.kernels.now (length c.args.b.now.current) c.args.place c.index-kernels-place.result c.requires.kernels c.requires.place c.index-kernels-place.is) c.as_slice.result.now
    (told_by c.index-kernels-place.result c.args.b.now.current _ _ _ c.current.ensures c.as_slice.ensures.value (c.in_default.ensures.told c.if-sets.false))
    c.law_local.ensures.tells c.law_monotone.ensures c.len-length.ensures.in_range c.requires.proper c.args.kernels.now c.args.place c.index-kernels-place.is c.requires.place
    c.args.masks.now c.requires.masks.naming c.requires.kernels c.law_sided.ensures c.args.sets.now.asked c.requires.set c.args.sets.now.rests c.args.progress c.law_narrowing.ensures.tighter
    c.law_inside_order.ensures c.law_tightens_one.ensures c.law_narrowing.ensures.keeps
    c.join_all-after.new.b.current c.join_all-after.result c.join_all-after.ensures.heard
    c.current-2.result.now c.current-2.ensures (c.if-not-goes_on.ensures.0 refl)

pub returns-then-is_err-clause-run : goal.returns-then-is_err-clause-run
returns-then-is_err-clause-run c =
    any_default c.args.kernels.now c.args.place c.index-kernels-place.result _ _ _ _ _ _ _ _ c.requires.place c.index-kernels-place.is
    (gathered_refused c.law_tell_place.ensures c.index-kernels-place.result c.args.b.now.current
    (here_is c.args.kernels.now (length c.args.b.now.current) c.args.place c.index-kernels-place.result c.requires.kernels c.requires.place c.index-kernels-place.is) c.as_slice.result.now
    (told_by c.index-kernels-place.result c.args.b.now.current _ _ _ c.current.ensures c.as_slice.ensures.value (c.in_default.ensures.told c.if-sets.false))
    c.law_local.ensures.tells c.law_monotone.ensures c.len-length.ensures.in_range c.requires.proper c.args.kernels.now c.args.place c.index-kernels-place.is c.requires.place
    c.args.masks.now c.requires.masks.naming c.requires.kernels c.law_sided.ensures c.args.sets.now.asked c.requires.set c.args.sets.now.rests c.args.progress c.law_narrowing.ensures.tighter
    c.law_inside_order.ensures c.law_tightens_one.ensures c.law_narrowing.ensures.keeps
    c.join_all-after.new.b.current c.join_all-after.result c.join_all-after.ensures.heard
    c.rest.new.self.asked (c.rest.ensures.asked ∙ c.visit.ensures.asked ∙ c.forget.ensures) c.rest.new.self.rests)

pub ask_told-requires-clause-variables : goal.ask_told-requires-clause-variables
ask_told-requires-clause-variables c k d h =
    let placed =
    gathered_placed c.law_tell_place.ensures c.index-kernels-place.result c.args.b.now.current
    (here_is c.args.kernels.now (length c.args.b.now.current) c.args.place c.index-kernels-place.result c.requires.kernels c.requires.place c.index-kernels-place.is) c.as_slice-2.result.now
    (told_by c.index-kernels-place.result c.args.b.now.current _ _ _ c.current.ensures (c.as_slice-2.ensures.value ∙ ap (λ (t : Told). t.tells.items) c.rest.ensures.told) (c.in_default.ensures.told c.if-sets.false)) in
    let count = c.requires.masks.same_count in
    let lt = (placed k d h).0 in
    omega arith

pub ask_told-requires-clause-length : goal.ask_told-requires-clause-length
ask_told-requires-clause-length c =
    c.requires.masks.same_count
    ∙ sym (length_after c.law_tell_place.ensures c.index-kernels-place.result c.args.b.now.current
    (here_is c.args.kernels.now (length c.args.b.now.current) c.args.place c.index-kernels-place.result c.requires.kernels c.requires.place c.index-kernels-place.is) c.as_slice.result.now
    (told_by c.index-kernels-place.result c.args.b.now.current _ _ _ c.current.ensures c.as_slice.ensures.value (c.in_default.ensures.told c.if-sets.false))
    c.law_local.ensures.tells c.law_monotone.ensures c.len-length.ensures.in_range c.requires.proper c.args.kernels.now c.args.place c.index-kernels-place.is c.requires.place
    c.args.masks.now c.requires.masks.naming c.requires.kernels c.law_sided.ensures c.args.sets.now.asked c.requires.set c.args.sets.now.rests c.args.progress c.law_narrowing.ensures.tighter
    c.law_inside_order.ensures c.law_tightens_one.ensures c.law_narrowing.ensures.keeps
    c.join_all-after.new.b.current c.join_all-after.result c.join_all-after.ensures.heard
    c.current-3.result.now c.current-3.ensures)

pub returns-clause-run : goal.returns-clause-run
returns-clause-run c =
    any_default c.args.kernels.now c.args.place c.index-kernels-place.result _ _ _ _ _ _ _ _ c.requires.place c.index-kernels-place.is
    (gathered_runs c.law_tell_place.ensures c.index-kernels-place.result c.args.b.now.current
    (here_is c.args.kernels.now (length c.args.b.now.current) c.args.place c.index-kernels-place.result c.requires.kernels c.requires.place c.index-kernels-place.is) c.as_slice.result.now
    (told_by c.index-kernels-place.result c.args.b.now.current _ _ _ c.current.ensures c.as_slice.ensures.value (c.in_default.ensures.told c.if-sets.false))
    c.law_local.ensures.tells c.law_monotone.ensures c.len-length.ensures.in_range c.requires.proper c.args.kernels.now c.args.place c.index-kernels-place.is c.requires.place
    c.args.masks.now c.requires.masks.naming c.requires.kernels c.law_sided.ensures c.args.sets.now.asked c.requires.set c.args.sets.now.rests c.args.progress c.law_narrowing.ensures.tighter
    c.law_inside_order.ensures c.law_tightens_one.ensures c.law_narrowing.ensures.keeps
    c.join_all-after.new.b.current c.join_all-after.result c.join_all-after.ensures.heard
    c.current-2.result.now c.current-2.ensures c.visit.new.self.rests c.visit.ensures.rests c.rest.new.self.rests
    (ok_then c.rest.result _ (sym c.is_err.ensures.value ∙ c.if-is_err.false) c.rest.ensures.rested)
    c.current-3.result.now c.current-3.ensures c.as_slice-2.result.now
    (c.as_slice-2.ensures.value ∙ ap (λ (t : Told). t.tells.items) c.rest.ensures.told ∙ sym c.as_slice.ensures.value)
    c.rest.new.self.asked c.ask_told.new.asked (c.rest.ensures.asked ∙ c.visit.ensures.asked ∙ c.forget.ensures) c.ask_told.ensures)
