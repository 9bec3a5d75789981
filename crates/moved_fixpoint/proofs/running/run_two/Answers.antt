-- Both tells are joined, and asked for.
use Rattle.std.proofs.Common.{◌∙◌, [], ◌∷◌, length, refl, sym, arith}
use Rattle.std.proofs.lemmas.Bool.{true≢false}
use Rattle.moved_fixpoint.proofs.RunLemmas.{here_is, gathered_placed, gathered_over, gathered_refused, gathered_runs, kernel_after, length_after, proper_after, any_default, gathered_here, ok_then}
use Rattle.moved_fixpoint.proofs.running.run_two.Goals as goal

pub join_two-after-requires-clause-first : goal.join_two-after-requires-clause-first
join_two-after-requires-clause-first c = let placed = gathered_placed c.law_tell_place.ensures c.index-kernels-place.result c.args.b.now.current
    (here_is c.args.kernels.now (length c.args.b.now.current) c.args.place c.index-kernels-place.result c.requires.kernels c.requires.place c.index-kernels-place.is) (c.args.told.0 ∷ c.args.told.1 ∷ [])
    (gathered_here c.args.kernels.now c.args.place c.index-kernels-place.result c.args.b.now.current (c.args.told.0 ∷ c.args.told.1 ∷ []) c.index-kernels-place.is c.requires.told) 0 c.args.told.0 (omega arith) in placed.0

pub join_two-after-requires-clause-first_bound : goal.join_two-after-requires-clause-first_bound
join_two-after-requires-clause-first_bound c = let placed = gathered_placed c.law_tell_place.ensures c.index-kernels-place.result c.args.b.now.current
    (here_is c.args.kernels.now (length c.args.b.now.current) c.args.place c.index-kernels-place.result c.requires.kernels c.requires.place c.index-kernels-place.is) (c.args.told.0 ∷ c.args.told.1 ∷ [])
    (gathered_here c.args.kernels.now c.args.place c.index-kernels-place.result c.args.b.now.current (c.args.told.0 ∷ c.args.told.1 ∷ []) c.index-kernels-place.is c.requires.told) 0 c.args.told.0 (omega arith) in placed.1

pub join_two-after-requires-clause-second : goal.join_two-after-requires-clause-second
join_two-after-requires-clause-second c = let placed = gathered_placed c.law_tell_place.ensures c.index-kernels-place.result c.args.b.now.current
    (here_is c.args.kernels.now (length c.args.b.now.current) c.args.place c.index-kernels-place.result c.requires.kernels c.requires.place c.index-kernels-place.is) (c.args.told.0 ∷ c.args.told.1 ∷ [])
    (gathered_here c.args.kernels.now c.args.place c.index-kernels-place.result c.args.b.now.current (c.args.told.0 ∷ c.args.told.1 ∷ []) c.index-kernels-place.is c.requires.told) 1 c.args.told.0 (omega arith) in placed.0

pub join_two-after-requires-clause-second_bound : goal.join_two-after-requires-clause-second_bound
join_two-after-requires-clause-second_bound c = let placed = gathered_placed c.law_tell_place.ensures c.index-kernels-place.result c.args.b.now.current
    (here_is c.args.kernels.now (length c.args.b.now.current) c.args.place c.index-kernels-place.result c.requires.kernels c.requires.place c.index-kernels-place.is) (c.args.told.0 ∷ c.args.told.1 ∷ [])
    (gathered_here c.args.kernels.now c.args.place c.index-kernels-place.result c.args.b.now.current (c.args.told.0 ∷ c.args.told.1 ∷ []) c.index-kernels-place.is c.requires.told) 1 c.args.told.0 (omega arith) in placed.1

pub returns-then-not-goes_on-clause-run : goal.returns-then-not-goes_on-clause-run
returns-then-not-goes_on-clause-run c =
    any_default c.args.kernels.now c.args.place c.index-kernels-place.result _ _ _ _ _ _ _ _ c.requires.place c.index-kernels-place.is
    (gathered_over c.law_tell_place.ensures c.index-kernels-place.result c.args.b.now.current
    (here_is c.args.kernels.now (length c.args.b.now.current) c.args.place c.index-kernels-place.result c.requires.kernels c.requires.place c.index-kernels-place.is) (c.args.told.0 ∷ c.args.told.1 ∷ [])
    (gathered_here c.args.kernels.now c.args.place c.index-kernels-place.result c.args.b.now.current (c.args.told.0 ∷ c.args.told.1 ∷ []) c.index-kernels-place.is c.requires.told)
    c.law_local.ensures.tells c.law_monotone.ensures c.len-length.ensures.in_range c.requires.proper c.args.kernels.now c.args.place c.index-kernels-place.is c.requires.place
    c.args.masks.now c.requires.masks.naming c.requires.kernels c.law_sided.ensures c.args.sets.now.asked c.requires.set c.args.sets.now.rests c.args.progress c.law_narrowing.ensures.tighter
    c.law_inside_order.ensures c.law_tightens_one.ensures c.law_narrowing.ensures.keeps
    c.join_two-after.new.b.current c.join_two-after.result c.join_two-after.ensures.heard
    (λ g. true≢false (sym (c.if-not-goes_on.ensures.1 g))) c.forget.new.self c.forget.ensures c.args.sets.now.rests)

pub shape_rest-rest-requires-clause-kernel : goal.shape_rest-rest-requires-clause-kernel
shape_rest-rest-requires-clause-kernel c =
    kernel_after c.law_tell_place.ensures c.index-kernels-place.result c.args.b.now.current
    (here_is c.args.kernels.now (length c.args.b.now.current) c.args.place c.index-kernels-place.result c.requires.kernels c.requires.place c.index-kernels-place.is) (c.args.told.0 ∷ c.args.told.1 ∷ [])
    (gathered_here c.args.kernels.now c.args.place c.index-kernels-place.result c.args.b.now.current (c.args.told.0 ∷ c.args.told.1 ∷ []) c.index-kernels-place.is c.requires.told)
    c.law_local.ensures.tells c.law_monotone.ensures c.len-length.ensures.in_range c.requires.proper c.args.kernels.now c.args.place c.index-kernels-place.is c.requires.place
    c.args.masks.now c.requires.masks.naming c.requires.kernels c.law_sided.ensures c.args.sets.now.asked c.requires.set c.args.sets.now.rests c.args.progress c.law_narrowing.ensures.tighter
    c.law_inside_order.ensures c.law_tightens_one.ensures c.law_narrowing.ensures.keeps
    c.join_two-after.new.b.current c.join_two-after.result c.join_two-after.ensures.heard
    c.current-now.result.now c.current-now.ensures

pub shape_rest-rest-requires-clause-proper : goal.shape_rest-rest-requires-clause-proper
shape_rest-rest-requires-clause-proper c =
    proper_after c.law_tell_place.ensures c.index-kernels-place.result c.args.b.now.current
    (here_is c.args.kernels.now (length c.args.b.now.current) c.args.place c.index-kernels-place.result c.requires.kernels c.requires.place c.index-kernels-place.is) (c.args.told.0 ∷ c.args.told.1 ∷ [])
    (gathered_here c.args.kernels.now c.args.place c.index-kernels-place.result c.args.b.now.current (c.args.told.0 ∷ c.args.told.1 ∷ []) c.index-kernels-place.is c.requires.told)
    c.law_local.ensures.tells c.law_monotone.ensures c.len-length.ensures.in_range c.requires.proper c.args.kernels.now c.args.place c.index-kernels-place.is c.requires.place
    c.args.masks.now c.requires.masks.naming c.requires.kernels c.law_sided.ensures c.args.sets.now.asked c.requires.set c.args.sets.now.rests c.args.progress c.law_narrowing.ensures.tighter
    c.law_inside_order.ensures c.law_tightens_one.ensures c.law_narrowing.ensures.keeps
    c.join_two-after.new.b.current c.join_two-after.result c.join_two-after.ensures.heard
    c.current-now.result.now c.current-now.ensures (c.if-not-goes_on.ensures.0 refl)

pub returns-then-is_err-clause-run : goal.returns-then-is_err-clause-run
returns-then-is_err-clause-run c =
    any_default c.args.kernels.now c.args.place c.index-kernels-place.result _ _ _ _ _ _ _ _ c.requires.place c.index-kernels-place.is
    (gathered_refused c.law_tell_place.ensures c.index-kernels-place.result c.args.b.now.current
    (here_is c.args.kernels.now (length c.args.b.now.current) c.args.place c.index-kernels-place.result c.requires.kernels c.requires.place c.index-kernels-place.is) (c.args.told.0 ∷ c.args.told.1 ∷ [])
    (gathered_here c.args.kernels.now c.args.place c.index-kernels-place.result c.args.b.now.current (c.args.told.0 ∷ c.args.told.1 ∷ []) c.index-kernels-place.is c.requires.told)
    c.law_local.ensures.tells c.law_monotone.ensures c.len-length.ensures.in_range c.requires.proper c.args.kernels.now c.args.place c.index-kernels-place.is c.requires.place
    c.args.masks.now c.requires.masks.naming c.requires.kernels c.law_sided.ensures c.args.sets.now.asked c.requires.set c.args.sets.now.rests c.args.progress c.law_narrowing.ensures.tighter
    c.law_inside_order.ensures c.law_tightens_one.ensures c.law_narrowing.ensures.keeps
    c.join_two-after.new.b.current c.join_two-after.result c.join_two-after.ensures.heard
    c.rest_for.new.self.asked (c.rest_for.ensures.asked ∙ c.forget.ensures) c.rest_for.new.self.rests)

pub ask_two-requires-clause-first : goal.ask_two-requires-clause-first
ask_two-requires-clause-first c =
    let placed = gathered_placed c.law_tell_place.ensures c.index-kernels-place.result c.args.b.now.current
    (here_is c.args.kernels.now (length c.args.b.now.current) c.args.place c.index-kernels-place.result c.requires.kernels c.requires.place c.index-kernels-place.is) (c.args.told.0 ∷ c.args.told.1 ∷ [])
    (gathered_here c.args.kernels.now c.args.place c.index-kernels-place.result c.args.b.now.current (c.args.told.0 ∷ c.args.told.1 ∷ []) c.index-kernels-place.is c.requires.told) 0 c.args.told.0 (omega arith) in
    let count = c.requires.masks.same_count in
    let lt = placed.0 in
    omega arith

pub ask_two-requires-clause-second : goal.ask_two-requires-clause-second
ask_two-requires-clause-second c =
    let placed = gathered_placed c.law_tell_place.ensures c.index-kernels-place.result c.args.b.now.current
    (here_is c.args.kernels.now (length c.args.b.now.current) c.args.place c.index-kernels-place.result c.requires.kernels c.requires.place c.index-kernels-place.is) (c.args.told.0 ∷ c.args.told.1 ∷ [])
    (gathered_here c.args.kernels.now c.args.place c.index-kernels-place.result c.args.b.now.current (c.args.told.0 ∷ c.args.told.1 ∷ []) c.index-kernels-place.is c.requires.told) 1 c.args.told.0 (omega arith) in
    let count = c.requires.masks.same_count in
    let lt = placed.0 in
    omega arith

pub ask_two-requires-clause-length : goal.ask_two-requires-clause-length
ask_two-requires-clause-length c =
    c.requires.masks.same_count
    ∙ sym (length_after c.law_tell_place.ensures c.index-kernels-place.result c.args.b.now.current
    (here_is c.args.kernels.now (length c.args.b.now.current) c.args.place c.index-kernels-place.result c.requires.kernels c.requires.place c.index-kernels-place.is) (c.args.told.0 ∷ c.args.told.1 ∷ [])
    (gathered_here c.args.kernels.now c.args.place c.index-kernels-place.result c.args.b.now.current (c.args.told.0 ∷ c.args.told.1 ∷ []) c.index-kernels-place.is c.requires.told)
    c.law_local.ensures.tells c.law_monotone.ensures c.len-length.ensures.in_range c.requires.proper c.args.kernels.now c.args.place c.index-kernels-place.is c.requires.place
    c.args.masks.now c.requires.masks.naming c.requires.kernels c.law_sided.ensures c.args.sets.now.asked c.requires.set c.args.sets.now.rests c.args.progress c.law_narrowing.ensures.tighter
    c.law_inside_order.ensures c.law_tightens_one.ensures c.law_narrowing.ensures.keeps
    c.join_two-after.new.b.current c.join_two-after.result c.join_two-after.ensures.heard
    c.current-now.result.now c.current-now.ensures)

pub returns-clause-run : goal.returns-clause-run
returns-clause-run c =
    any_default c.args.kernels.now c.args.place c.index-kernels-place.result _ _ _ _ _ _ _ _ c.requires.place c.index-kernels-place.is
    (gathered_runs c.law_tell_place.ensures c.index-kernels-place.result c.args.b.now.current
    (here_is c.args.kernels.now (length c.args.b.now.current) c.args.place c.index-kernels-place.result c.requires.kernels c.requires.place c.index-kernels-place.is) (c.args.told.0 ∷ c.args.told.1 ∷ [])
    (gathered_here c.args.kernels.now c.args.place c.index-kernels-place.result c.args.b.now.current (c.args.told.0 ∷ c.args.told.1 ∷ []) c.index-kernels-place.is c.requires.told)
    c.law_local.ensures.tells c.law_monotone.ensures c.len-length.ensures.in_range c.requires.proper c.args.kernels.now c.args.place c.index-kernels-place.is c.requires.place
    c.args.masks.now c.requires.masks.naming c.requires.kernels c.law_sided.ensures c.args.sets.now.asked c.requires.set c.args.sets.now.rests c.args.progress c.law_narrowing.ensures.tighter
    c.law_inside_order.ensures c.law_tightens_one.ensures c.law_narrowing.ensures.keeps
    c.join_two-after.new.b.current c.join_two-after.result c.join_two-after.ensures.heard
    c.current-now.result.now c.current-now.ensures c.args.sets.now.rests refl c.rest_for.new.self.rests
    (ok_then c.rest_for.result _ (sym c.is_err.ensures.value ∙ c.if-is_err.false) (c.rest_for.ensures.rested c.index-kernels-place.result c.current-now.result.now c.shape_rest-rest.ensures))
    c.current-now.result.now c.current-now.ensures (c.args.told.0 ∷ c.args.told.1 ∷ []) refl
    c.rest_for.new.self.asked c.ask_two.new.asked (c.rest_for.ensures.asked ∙ c.forget.ensures)
    c.ask_two.ensures)
