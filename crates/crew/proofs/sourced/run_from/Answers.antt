use Rattle.std.proofs.Common.{rules, ◌≡◌, ◌<◌, ℕ, length, map, get_or, ap, sym, subst, ◌∙◌, arith}
use Rattle.std.proofs.lemmas.Result.{IfOk-weaker}
use Rattle.std.specs.List.{All, AllZip}
use Rattle.tickets.specs.Counting.{IsEachOnce}
use Rattle.crew.specs.Rights.{KeepsSame, AreDrawn}
use Rattle.crew.specs.Crews.{workers_of, turns_of, HasAsked}
use Rattle.crew.specs.AtWork.{HaveRunSome, IsFirstSeat, MayStart, IsHired, IsBack}
use Rattle.crew.specs.Ends.{AreEndsOf, AreInOrder, AreSomeRuns, numbers_of}
use Rattle.crew.specs.declared.worker.Worker.{Worker}
use Rattle.crew.proofs.Items.{all_written, written}
use Rattle.crew.proofs.Made.{on_ok, on_err, no_runs}
use Rattle.crew.proofs.Hired.{all_may_start, rights_drawn, turns_asked}
use Rattle.crew.proofs.sourced.run_from.Goals as goal

pub returns-in_err-room-clause-made : goal.returns-in_err-room-clause-made
returns-in_err-room-clause-made g c = λ kept. on_err _ _ (no_runs (g.J.Job.stands c.args.work.now.job.now) c.args.work.now.count c.args.seat.now c.requires.none)

pub returns-in_err-workers-clause-made : goal.returns-in_err-workers-clause-made
returns-in_err-workers-clause-made g c = λ kept. on_err _ _ (no_runs (g.J.Job.stands c.args.work.now.job.now) c.args.work.now.count c.args.seat.now c.requires.none)

pub returns-in_err-recruits-clause-made : goal.returns-in_err-recruits-clause-made
returns-in_err-recruits-clause-made g c = λ kept. on_err _ _ (no_runs (g.J.Job.stands c.args.work.now.job.now) c.args.work.now.count c.args.seat.now c.requires.none)

pub work_all-requires-clause-hired : goal.work_all-requires-clause-hired
work_all-requires-clause-hired g c κs within =
    subst (All (λ (w : Worker g.row.N.Denot g.row.S.Denot g.row.W.Denot g.row.E.Denot). IsHired (g.J.Job.fits c.args.work.now.job.now) g.J.Job.has_parts (g.J.Job.owns c.args.work.now.job.now) (g.J.Job.stands c.args.work.now.job.now) w))
    (sym c.deref_mut.ensures.value) c.hire_all.ensures.hired

pub work_all-requires-clause-may_start : goal.work_all-requires-clause-may_start
work_all-requires-clause-may_start g c κs within =
    subst (All (λ (w : Worker g.row.N.Denot g.row.S.Denot g.row.W.Denot g.row.E.Denot). MayStart (g.Q.Source.is_right c.args.dealt.source) g.Q.Source.drawn w)) (sym c.deref_mut.ensures.value)
    (all_may_start (g.Q.Source.is_right c.args.dealt.source) g.Q.Source.drawn c.args.dealt.rights.items c.hire_all.new.workers.items (c.hire_all.ensures.rights ∙ c.in_ok-recruits.ensures.rights) c.requires.rights c.requires.idle)

pub gather-requires-clause-seat : goal.gather-requires-clause-seat
gather-requires-clause-seat g c =
    let size : length c.work_all.new.workers ≡ length c.hire_all.new.workers.items = search rules in
    subst (λ xs. IsFirstSeat (g.J.Job.fits c.args.work.now.job.now) g.J.Job.has_parts (length xs) c.hire_all.new.seat)
    (sym (written c.hire_all.new.workers.items c.work_all.new.workers c.hire_all.new.workers.len (search rules) size))
    (subst (λ n. IsFirstSeat (g.J.Job.fits c.args.work.now.job.now) g.J.Job.has_parts n c.hire_all.new.seat) (sym size) c.hire_all.ensures.seat)

pub gather-requires-clause-back : goal.gather-requires-clause-back
gather-requires-clause-back g c =
    all_written (λ (w : Worker g.row.N.Denot g.row.S.Denot g.row.W.Denot g.row.E.Denot). IsBack (g.Q.Source.is_right c.args.dealt.source) g.Q.Source.drawn (g.Q.Source.has_passed c.args.dealt.source) (g.J.Job.fits c.args.work.now.job.now) g.J.Job.has_parts (g.J.Job.stands c.args.work.now.job.now) w) c.hire_all.new.workers.items c.work_all.new.workers c.hire_all.new.workers.len (search rules) (search rules)
    (subst (λ xs. (i : ℕ) (d : Worker g.row.N.Denot g.row.S.Denot g.row.W.Denot g.row.E.Denot) → i < length xs → IsBack (g.Q.Source.is_right c.args.dealt.source) g.Q.Source.drawn (g.Q.Source.has_passed c.args.dealt.source) (g.J.Job.fits c.args.work.now.job.now) g.J.Job.has_parts (g.J.Job.stands c.args.work.now.job.now) (get_or c.work_all.new.workers i d)) c.deref_mut.ensures.value c.work_all.ensures.back)

pub gather-requires-clause-all : goal.gather-requires-clause-all
gather-requires-clause-all g c =
    let size : length c.work_all.new.workers ≡ length c.hire_all.new.workers.items = search rules in
    subst (λ xs. AreDrawn (g.Q.Source.are_dealt c.args.dealt.source) g.Q.Source.same (map (λ (w : Worker g.row.N.Denot g.row.S.Denot g.row.W.Denot g.row.E.Denot). w.right) xs))
    (sym (written c.hire_all.new.workers.items c.work_all.new.workers c.hire_all.new.workers.len (search rules) size))
    (rights_drawn (g.Q.Source.are_dealt c.args.dealt.source) g.Q.Source.same c.args.dealt.rights.items c.hire_all.new.workers.items c.work_all.new.workers (c.hire_all.ensures.rights ∙ c.in_ok-recruits.ensures.rights) c.requires.dealt size
    (subst (λ xs. (i : ℕ) (d : Worker g.row.N.Denot g.row.S.Denot g.row.W.Denot g.row.E.Denot) → i < length xs → KeepsSame g.Q.Source.same (get_or xs i d).right (get_or c.work_all.new.workers i d).right) c.deref_mut.ensures.value c.work_all.ensures.same))

pub in_order-requires : goal.in_order-requires
in_order-requires g c = subst (λ n. IsEachOnce n (numbers_of c.in_ok-runs.runs.items)) c.requires.source c.in_ok-runs.ensures.each_once

pub returns-in_err-runs-clause-made : goal.returns-in_err-runs-clause-made
returns-in_err-runs-clause-made g c = λ kept. on_err _ _
    (subst (λ n. AreSomeRuns n (g.J.Job.stands c.args.work.now.job.now c.gather.new.seat)) c.requires.source
    (c.gather.ensures.made
    (all_written (λ (w : Worker g.row.N.Denot g.row.S.Denot g.row.W.Denot g.row.E.Denot). HaveRunSome (g.J.Job.stands c.args.work.now.job.now) (g.Q.Source.drawn w.right) w.seat) c.hire_all.new.workers.items c.work_all.new.workers c.hire_all.new.workers.len (search rules) (search rules)
    (subst (λ xs. (i : ℕ) (d : Worker g.row.N.Denot g.row.S.Denot g.row.W.Denot g.row.E.Denot) → i < length xs → HaveRunSome (g.J.Job.stands c.args.work.now.job.now) (g.Q.Source.drawn (get_or c.work_all.new.workers i d).right) (get_or c.work_all.new.workers i d).seat) c.deref_mut.ensures.value (c.work_all.ensures.made kept)))))

pub returns-clause-ends : goal.returns-clause-ends
returns-clause-ends g c =
    IfOk-weaker c.in_order.result (AreInOrder c.args.work.now.count c.in_ok-runs.runs.items)
    (AreEndsOf c.args.work.now.count (workers_of c.args.crew.now) (g.J.Job.stands c.args.work.now.job.now c.gather.new.seat)) (λ ends order. record {
      runs = c.in_ok-runs.runs.items;
      stand = c.in_ok-runs.ensures.run;
      in_order = order;
      in_turn = λ sole. absurd (omega (arith, sole, c.requires.several));
    }) c.in_order.ensures

pub returns-clause-made : goal.returns-clause-made
returns-clause-made g c = λ kept. on_err _ _
    (subst (λ n. AreSomeRuns n (g.J.Job.stands c.args.work.now.job.now c.gather.new.seat)) c.requires.source
    (c.gather.ensures.made
    (all_written (λ (w : Worker g.row.N.Denot g.row.S.Denot g.row.W.Denot g.row.E.Denot). HaveRunSome (g.J.Job.stands c.args.work.now.job.now) (g.Q.Source.drawn w.right) w.seat) c.hire_all.new.workers.items c.work_all.new.workers c.hire_all.new.workers.len (search rules) (search rules)
    (subst (λ xs. (i : ℕ) (d : Worker g.row.N.Denot g.row.S.Denot g.row.W.Denot g.row.E.Denot) → i < length xs → HaveRunSome (g.J.Job.stands c.args.work.now.job.now) (g.Q.Source.drawn (get_or c.work_all.new.workers i d).right) (get_or c.work_all.new.workers i d).seat) c.deref_mut.ensures.value (c.work_all.ensures.made kept)))))

pub returns-clause-turns : goal.returns-clause-turns
returns-clause-turns g c = on_ok c.in_order.result
    (let size : length c.work_all.new.workers ≡ length c.hire_all.new.workers.items = search rules in
    subst (AllZip HasAsked (turns_of c.args.crew.now))
    (sym (c.note_turns.ensures.turns ∙ ap (map (λ (w : Worker g.row.N.Denot g.row.S.Denot g.row.W.Denot g.row.E.Denot). w.turn)) (c.deref.ensures.value ∙ written c.hire_all.new.workers.items c.work_all.new.workers c.hire_all.new.workers.len (search rules) size)))
    (turns_asked (turns_of c.args.crew.now) c.hire_all.new.workers.items c.work_all.new.workers (c.hire_all.ensures.turns ∙ c.in_ok-recruits.ensures.turns ∙ c.turns.ensures) size
    (subst (λ xs. (i : ℕ) (d : Worker g.row.N.Denot g.row.S.Denot g.row.W.Denot g.row.E.Denot) → i < length xs → HasAsked (get_or xs i d).turn (get_or c.work_all.new.workers i d).turn) c.deref_mut.ensures.value c.work_all.ensures.asked)))
