use Rattle.std.proofs.Common.{rules, ◌≡◌, ◌+◌, ◌++◌, ℕ, List, [], ◌∷◌, ap, ◌∙◌, sym, subst, arith, length, true}
use Rattle.std.proofs.lemmas.Grind.{common_steps}
use Rattle.std.proofs.lemmas.List.{map-append, flat_map_more}
use Rattle.std.proofs.lemmas.List.Elements.{All-push}
use Rattle.std.specs.List.{All, flat_map}
use Rattle.crew.specs.AtWork.{IsFirstSeat, HaveRun, HaveRunSome}
use Rattle.crew.specs.declared.worker.Worker.{Worker}
use Rattle.crew.proofs.Items.{all_front, all_last, taken_more}
use Rattle.crew.proofs.Made.{on_true}
use Rattle.crew.proofs.hiring.take_all.Goals as goal

pub loop-worker-preserved : goal.loop-worker-preserved
loop-worker-preserved g c =
    let i = c.loop-worker.invariant in
    let right = c.take_in.ensures.right in
    let size : length c.loop-worker.worker-iterator.rest.items ≡ length c.next.new.self.rest.items + 1 = omega (arith, ap length c.in-Some.ensures.steps.0) in
    record {
      all = taken_more c.loop-worker.yielded c.in-Some.worker c.next.new.self.rest.items _ _ c.in-Some.ensures.steps.0 i.all;
      room = omega (arith, c.take_in.ensures.capacity, i.room);
      seat = c.take_in.ensures.seat _ (subst (λ n. IsFirstSeat (g.J.Job.fits c.args.job.now) g.J.Job.has_parts n c.loop-worker.seat) size i.seat);
      rights = right ∙ ap (λ xs. xs ++ c.in-Some.worker.right ∷ []) i.rights ∙ sym (map-append (λ (w : Worker g.row.N.Denot g.row.S.Denot g.row.W.Denot g.row.E.Denot). w.right) c.loop-worker.yielded (c.in-Some.worker ∷ []));
      done = λ whole. All-push (λ (w : Worker g.row.N.Denot g.row.S.Denot g.row.W.Denot g.row.E.Denot). w.is_done ≡ true) c.loop-worker.yielded c.in-Some.worker (i.done whole) c.if-not-take_in.ensures.done;
      run = λ whole drawn each.
          subst (λ xs. HaveRun (g.J.Job.stands c.args.job.now) xs c.take_in.new.seat c.take_in.new.runs.items)
          (flat_map_more drawn [] c.loop-worker.rights.items c.in-Some.worker.right ∙ ap (flat_map drawn) (sym right))
          (c.if-not-take_in.ensures.run _ _ (i.run whole drawn (all_front (λ (w : Worker g.row.N.Denot g.row.S.Denot g.row.W.Denot g.row.E.Denot). HaveRun (g.J.Job.stands c.args.job.now) (drawn w.right) w.seat w.runs.items) c.loop-worker.yielded c.in-Some.worker each)) (all_last (λ (w : Worker g.row.N.Denot g.row.S.Denot g.row.W.Denot g.row.E.Denot). HaveRun (g.J.Job.stands c.args.job.now) (drawn w.right) w.seat w.runs.items) c.loop-worker.yielded c.in-Some.worker each));
      made = λ drawn each.
          subst (λ xs. HaveRunSome (g.J.Job.stands c.args.job.now) xs c.take_in.new.seat)
          (flat_map_more drawn [] c.loop-worker.rights.items c.in-Some.worker.right ∙ ap (flat_map drawn) (sym right))
          (c.take_in.ensures.made _ _ (i.made drawn (all_front (λ (w : Worker g.row.N.Denot g.row.S.Denot g.row.W.Denot g.row.E.Denot). HaveRunSome (g.J.Job.stands c.args.job.now) (drawn w.right) w.seat) c.loop-worker.yielded c.in-Some.worker each)) (all_last (λ (w : Worker g.row.N.Denot g.row.S.Denot g.row.W.Denot g.row.E.Denot). HaveRunSome (g.J.Job.stands c.args.job.now) (drawn w.right) w.seat) c.loop-worker.yielded c.in-Some.worker each));
    }

pub loop-worker-preserved-then-not-take_in : goal.loop-worker-preserved-then-not-take_in
loop-worker-preserved-then-not-take_in g c =
    let i = c.loop-worker.invariant in
    let right = c.take_in.ensures.right in
    let size : length c.loop-worker.worker-iterator.rest.items ≡ length c.next.new.self.rest.items + 1 = omega (arith, ap length c.in-Some.ensures.steps.0) in
    record {
      all = taken_more c.loop-worker.yielded c.in-Some.worker c.next.new.self.rest.items _ _ c.in-Some.ensures.steps.0 i.all;
      room = omega (arith, c.take_in.ensures.capacity, i.room);
      seat = c.take_in.ensures.seat _ (subst (λ n. IsFirstSeat (g.J.Job.fits c.args.job.now) g.J.Job.has_parts n c.loop-worker.seat) size i.seat);
      rights = right ∙ ap (λ xs. xs ++ c.in-Some.worker.right ∷ []) i.rights ∙ sym (map-append (λ (w : Worker g.row.N.Denot g.row.S.Denot g.row.W.Denot g.row.E.Denot). w.right) c.loop-worker.yielded (c.in-Some.worker ∷ []));
      done = λ whole. absurd cc;
      run = λ whole drawn each. absurd cc;
      made = λ drawn each.
          subst (λ xs. HaveRunSome (g.J.Job.stands c.args.job.now) xs c.take_in.new.seat)
          (flat_map_more drawn [] c.loop-worker.rights.items c.in-Some.worker.right ∙ ap (flat_map drawn) (sym right))
          (c.take_in.ensures.made _ _ (i.made drawn (all_front (λ (w : Worker g.row.N.Denot g.row.S.Denot g.row.W.Denot g.row.E.Denot). HaveRunSome (g.J.Job.stands c.args.job.now) (drawn w.right) w.seat) c.loop-worker.yielded c.in-Some.worker each)) (all_last (λ (w : Worker g.row.N.Denot g.row.S.Denot g.row.W.Denot g.row.E.Denot). HaveRunSome (g.J.Job.stands c.args.job.now) (drawn w.right) w.seat) c.loop-worker.yielded c.in-Some.worker each));
    }

pub returns-clause-run : goal.returns-clause-run
returns-clause-run g c =
    let whole : c.loop-worker.yielded ≡ c.args.workers.items = first_of (search rules, grind (arith, common_steps)) in
    on_true c.loop-worker.is_whole ((drawn : g.row.N.Denot → List ℕ) → All (λ (w : Worker g.row.N.Denot g.row.S.Denot g.row.W.Denot g.row.E.Denot). HaveRun (g.J.Job.stands c.args.job.now) (drawn w.right) w.seat w.runs.items) c.args.workers.items → HaveRun (g.J.Job.stands c.args.job.now) (flat_map drawn c.loop-worker.rights.items) c.loop-worker.seat c.loop-worker.runs.items) (λ is_whole drawn each.
    c.loop-worker.invariant.run is_whole drawn (subst (All (λ (w : Worker g.row.N.Denot g.row.S.Denot g.row.W.Denot g.row.E.Denot). HaveRun (g.J.Job.stands c.args.job.now) (drawn w.right) w.seat w.runs.items)) (sym whole) each))

pub returns-clause-made : goal.returns-clause-made
returns-clause-made g c = λ drawn each.
    let whole : c.loop-worker.yielded ≡ c.args.workers.items = first_of (search rules, grind (arith, common_steps)) in
    c.loop-worker.invariant.made drawn (subst (All (λ (w : Worker g.row.N.Denot g.row.S.Denot g.row.W.Denot g.row.E.Denot). HaveRunSome (g.J.Job.stands c.args.job.now) (drawn w.right) w.seat)) (sym whole) each)
