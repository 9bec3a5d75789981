-- The one tell is joined, and asked for.
use Rattle.std.proofs.Common.{◌∙◌, [], ◌∷◌, length, refl, sym, arith}
use Rattle.std.proofs.lemmas.Bool.{true≢false}
use Rattle.moved_fixpoint.proofs.RunLemmas.{here_is, gathered_placed, gathered_over, gathered_refused, gathered_runs, kernel_after, length_after, proper_after, any_default, gathered_here, one_heard, one_asked, ok_then, last_after, last_here}
use Rattle.moved_fixpoint.specs.Heard.{joined}
use Rattle.moved_fixpoint.proofs.running.run_one.Goals as goal

pub join-after-requires-clause-variable : goal.join-after-requires-clause-variable
join-after-requires-clause-variable c = let placed = gathered_placed c.law_tell_place.ensures c.index-kernels-place.result c.args.b.now.current
    (here_is c.args.kernels.now (length c.args.b.now.current) c.args.place c.index-kernels-place.result c.requires.kernels c.requires.place c.index-kernels-place.is) (c.args.sole.tell ∷ [])
    (gathered_here c.args.kernels.now c.args.place c.index-kernels-place.result c.args.b.now.current (c.args.sole.tell ∷ []) c.index-kernels-place.is c.requires.told) 0 c.args.sole.tell (omega arith) in placed.0

pub join-after-requires-clause-bound : goal.join-after-requires-clause-bound
join-after-requires-clause-bound c = let placed = gathered_placed c.law_tell_place.ensures c.index-kernels-place.result c.args.b.now.current
    (here_is c.args.kernels.now (length c.args.b.now.current) c.args.place c.index-kernels-place.result c.requires.kernels c.requires.place c.index-kernels-place.is) (c.args.sole.tell ∷ [])
    (gathered_here c.args.kernels.now c.args.place c.index-kernels-place.result c.args.b.now.current (c.args.sole.tell ∷ []) c.index-kernels-place.is c.requires.told) 0 c.args.sole.tell (omega arith) in placed.1

pub returns-then-not-goes_on-clause-run : goal.returns-then-not-goes_on-clause-run
returns-then-not-goes_on-clause-run c =
    any_default c.args.kernels.now c.args.place c.index-kernels-place.result _ _ _ _ _ _ _ _ c.requires.place c.index-kernels-place.is
    (gathered_over c.law_tell_place.ensures c.index-kernels-place.result c.args.b.now.current
    (here_is c.args.kernels.now (length c.args.b.now.current) c.args.place c.index-kernels-place.result c.requires.kernels c.requires.place c.index-kernels-place.is) (c.args.sole.tell ∷ [])
    (gathered_here c.args.kernels.now c.args.place c.index-kernels-place.result c.args.b.now.current (c.args.sole.tell ∷ []) c.index-kernels-place.is c.requires.told)
    c.law_local.ensures.tells c.law_monotone.ensures c.len-length.ensures.in_range c.requires.proper c.args.kernels.now c.args.place c.index-kernels-place.is c.requires.place
    c.args.masks.now c.requires.masks.naming c.requires.kernels c.law_sided.ensures c.args.sets.now.asked c.requires.set c.args.sets.now.rests c.args.progress c.law_narrowing.ensures.tighter
    c.law_inside_order.ensures c.law_tightens_one.ensures c.law_narrowing.ensures.keeps
    c.join-after.new.b.current c.join-after.result (one_heard (joined c.args.b.now.current c.args.progress) (joined c.join-after.new.b.current c.join-after.result) c.args.sole.tell c.join-after.ensures.heard)
    (λ g. true≢false (sym (c.if-not-goes_on.ensures.1 g))) c.forget.new.self c.forget.ensures c.args.sets.now.rests)

pub rest_after-rest-requires-clause-kernel : goal.rest_after-rest-requires-clause-kernel
rest_after-rest-requires-clause-kernel c =
    kernel_after c.law_tell_place.ensures c.index-kernels-place.result c.args.b.now.current
    (here_is c.args.kernels.now (length c.args.b.now.current) c.args.place c.index-kernels-place.result c.requires.kernels c.requires.place c.index-kernels-place.is) (c.args.sole.tell ∷ [])
    (gathered_here c.args.kernels.now c.args.place c.index-kernels-place.result c.args.b.now.current (c.args.sole.tell ∷ []) c.index-kernels-place.is c.requires.told)
    c.law_local.ensures.tells c.law_monotone.ensures c.len-length.ensures.in_range c.requires.proper c.args.kernels.now c.args.place c.index-kernels-place.is c.requires.place
    c.args.masks.now c.requires.masks.naming c.requires.kernels c.law_sided.ensures c.args.sets.now.asked c.requires.set c.args.sets.now.rests c.args.progress c.law_narrowing.ensures.tighter
    c.law_inside_order.ensures c.law_tightens_one.ensures c.law_narrowing.ensures.keeps
    c.join-after.new.b.current c.join-after.result (one_heard (joined c.args.b.now.current c.args.progress) (joined c.join-after.new.b.current c.join-after.result) c.args.sole.tell c.join-after.ensures.heard)
    c.current-now.result.now c.current-now.ensures

pub rest_after-rest-requires-clause-proper : goal.rest_after-rest-requires-clause-proper
rest_after-rest-requires-clause-proper c =
    proper_after c.law_tell_place.ensures c.index-kernels-place.result c.args.b.now.current
    (here_is c.args.kernels.now (length c.args.b.now.current) c.args.place c.index-kernels-place.result c.requires.kernels c.requires.place c.index-kernels-place.is) (c.args.sole.tell ∷ [])
    (gathered_here c.args.kernels.now c.args.place c.index-kernels-place.result c.args.b.now.current (c.args.sole.tell ∷ []) c.index-kernels-place.is c.requires.told)
    c.law_local.ensures.tells c.law_monotone.ensures c.len-length.ensures.in_range c.requires.proper c.args.kernels.now c.args.place c.index-kernels-place.is c.requires.place
    c.args.masks.now c.requires.masks.naming c.requires.kernels c.law_sided.ensures c.args.sets.now.asked c.requires.set c.args.sets.now.rests c.args.progress c.law_narrowing.ensures.tighter
    c.law_inside_order.ensures c.law_tightens_one.ensures c.law_narrowing.ensures.keeps
    c.join-after.new.b.current c.join-after.result (one_heard (joined c.args.b.now.current c.args.progress) (joined c.join-after.new.b.current c.join-after.result) c.args.sole.tell c.join-after.ensures.heard)
    c.current-now.result.now c.current-now.ensures (c.if-not-goes_on.ensures.0 refl)

pub rest_after-rest-requires-clause-last : goal.rest_after-rest-requires-clause-last
rest_after-rest-requires-clause-last c =
    last_after c.law_tell_place.ensures c.index-kernels-place.result c.args.b.now.current
    (here_is c.args.kernels.now (length c.args.b.now.current) c.args.place c.index-kernels-place.result c.requires.kernels c.requires.place c.index-kernels-place.is) (c.args.sole.tell ∷ [])
    (gathered_here c.args.kernels.now c.args.place c.index-kernels-place.result c.args.b.now.current (c.args.sole.tell ∷ []) c.index-kernels-place.is c.requires.told)
    c.law_local.ensures.tells c.law_monotone.ensures c.len-length.ensures.in_range c.requires.proper c.args.kernels.now c.args.place c.index-kernels-place.is c.requires.place
    c.args.masks.now c.requires.masks.naming c.requires.kernels c.law_sided.ensures c.args.sets.now.asked c.requires.set c.args.sets.now.rests c.args.progress c.law_narrowing.ensures.tighter
    c.law_inside_order.ensures c.law_tightens_one.ensures c.law_narrowing.ensures.keeps
    c.join-after.new.b.current c.join-after.result (one_heard (joined c.args.b.now.current c.args.progress) (joined c.join-after.new.b.current c.join-after.result) c.args.sole.tell c.join-after.ensures.heard)
    c.current-now.result.now c.current-now.ensures c.args.sole.tell refl c.args.sole.is_last (c.if-not-goes_on.ensures.0 refl)
    (last_here c.args.kernels.now c.args.place c.index-kernels-place.result c.args.b.now.current c.args.sole.tell c.args.sole.is_last c.index-kernels-place.is c.requires.last)

pub returns-then-is_err-clause-run : goal.returns-then-is_err-clause-run
returns-then-is_err-clause-run c =
    any_default c.args.kernels.now c.args.place c.index-kernels-place.result _ _ _ _ _ _ _ _ c.requires.place c.index-kernels-place.is
    (gathered_refused c.law_tell_place.ensures c.index-kernels-place.result c.args.b.now.current
    (here_is c.args.kernels.now (length c.args.b.now.current) c.args.place c.index-kernels-place.result c.requires.kernels c.requires.place c.index-kernels-place.is) (c.args.sole.tell ∷ [])
    (gathered_here c.args.kernels.now c.args.place c.index-kernels-place.result c.args.b.now.current (c.args.sole.tell ∷ []) c.index-kernels-place.is c.requires.told)
    c.law_local.ensures.tells c.law_monotone.ensures c.len-length.ensures.in_range c.requires.proper c.args.kernels.now c.args.place c.index-kernels-place.is c.requires.place
    c.args.masks.now c.requires.masks.naming c.requires.kernels c.law_sided.ensures c.args.sets.now.asked c.requires.set c.args.sets.now.rests c.args.progress c.law_narrowing.ensures.tighter
    c.law_inside_order.ensures c.law_tightens_one.ensures c.law_narrowing.ensures.keeps
    c.join-after.new.b.current c.join-after.result (one_heard (joined c.args.b.now.current c.args.progress) (joined c.join-after.new.b.current c.join-after.result) c.args.sole.tell c.join-after.ensures.heard)
    c.rest_for.new.self.asked (c.rest_for.ensures.asked ∙ c.forget.ensures) c.rest_for.new.self.rests)

pub ask-requires-clause-variable : goal.ask-requires-clause-variable
ask-requires-clause-variable c =
    let placed = gathered_placed c.law_tell_place.ensures c.index-kernels-place.result c.args.b.now.current
    (here_is c.args.kernels.now (length c.args.b.now.current) c.args.place c.index-kernels-place.result c.requires.kernels c.requires.place c.index-kernels-place.is) (c.args.sole.tell ∷ [])
    (gathered_here c.args.kernels.now c.args.place c.index-kernels-place.result c.args.b.now.current (c.args.sole.tell ∷ []) c.index-kernels-place.is c.requires.told) 0 c.args.sole.tell (omega arith) in
    let count = c.requires.masks.same_count in
    let lt = placed.0 in
    omega arith

pub ask-requires-clause-length : goal.ask-requires-clause-length
ask-requires-clause-length c =
    c.requires.masks.same_count
    ∙ sym (length_after c.law_tell_place.ensures c.index-kernels-place.result c.args.b.now.current
    (here_is c.args.kernels.now (length c.args.b.now.current) c.args.place c.index-kernels-place.result c.requires.kernels c.requires.place c.index-kernels-place.is) (c.args.sole.tell ∷ [])
    (gathered_here c.args.kernels.now c.args.place c.index-kernels-place.result c.args.b.now.current (c.args.sole.tell ∷ []) c.index-kernels-place.is c.requires.told)
    c.law_local.ensures.tells c.law_monotone.ensures c.len-length.ensures.in_range c.requires.proper c.args.kernels.now c.args.place c.index-kernels-place.is c.requires.place
    c.args.masks.now c.requires.masks.naming c.requires.kernels c.law_sided.ensures c.args.sets.now.asked c.requires.set c.args.sets.now.rests c.args.progress c.law_narrowing.ensures.tighter
    c.law_inside_order.ensures c.law_tightens_one.ensures c.law_narrowing.ensures.keeps
    c.join-after.new.b.current c.join-after.result (one_heard (joined c.args.b.now.current c.args.progress) (joined c.join-after.new.b.current c.join-after.result) c.args.sole.tell c.join-after.ensures.heard)
    c.current-now.result.now c.current-now.ensures)

pub returns-clause-run : goal.returns-clause-run
returns-clause-run c =
    any_default c.args.kernels.now c.args.place c.index-kernels-place.result _ _ _ _ _ _ _ _ c.requires.place c.index-kernels-place.is
    (gathered_runs c.law_tell_place.ensures c.index-kernels-place.result c.args.b.now.current
    (here_is c.args.kernels.now (length c.args.b.now.current) c.args.place c.index-kernels-place.result c.requires.kernels c.requires.place c.index-kernels-place.is) (c.args.sole.tell ∷ [])
    (gathered_here c.args.kernels.now c.args.place c.index-kernels-place.result c.args.b.now.current (c.args.sole.tell ∷ []) c.index-kernels-place.is c.requires.told)
    c.law_local.ensures.tells c.law_monotone.ensures c.len-length.ensures.in_range c.requires.proper c.args.kernels.now c.args.place c.index-kernels-place.is c.requires.place
    c.args.masks.now c.requires.masks.naming c.requires.kernels c.law_sided.ensures c.args.sets.now.asked c.requires.set c.args.sets.now.rests c.args.progress c.law_narrowing.ensures.tighter
    c.law_inside_order.ensures c.law_tightens_one.ensures c.law_narrowing.ensures.keeps
    c.join-after.new.b.current c.join-after.result (one_heard (joined c.args.b.now.current c.args.progress) (joined c.join-after.new.b.current c.join-after.result) c.args.sole.tell c.join-after.ensures.heard)
    c.current-now.result.now c.current-now.ensures c.args.sets.now.rests refl c.rest_for.new.self.rests
    (ok_then c.rest_for.result _ (sym c.is_err.ensures.value ∙ c.if-is_err.false) (c.rest_for.ensures.rested c.index-kernels-place.result c.current-now.result.now c.rest_after-rest.ensures))
    c.current-now.result.now c.current-now.ensures (c.args.sole.tell ∷ []) refl
    c.rest_for.new.self.asked c.ask.new.asked (c.rest_for.ensures.asked ∙ c.forget.ensures)
    (one_asked c.args.masks.now c.rest_for.new.self.rests c.current-now.result.now c.has_one.result c.args.sole.tell c.rest_for.new.self.asked c.ask.new.asked c.has_one.ensures c.ask.ensures))
