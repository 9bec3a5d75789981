use Rattle.std.proofs.Common.{◌≡◌, sym, subst, true}
use Rattle.std.proofs.lemmas.List.Elements.{All-map}
use Rattle.std.specs.List.{All, flat_map}
use Rattle.tickets.specs.Counting.{IsEachOnce}
use Rattle.crew.specs.AtWork.{HaveRun}
use Rattle.crew.specs.declared.worker.Worker.{Worker}
use Rattle.crew.proofs.Made.{of_true, some_runs}
use Rattle.crew.proofs.sourced.gather.Goals as goal

pub gather-is_whole-requires-clause-rights : goal.gather-is_whole-requires-clause-rights
gather-is_whole-requires-clause-rights g c =
    subst (All (g.Q.Source.is_right c.args.source)) (sym c.take_all-is_done.ensures.rights)
    (All-map (g.Q.Source.is_right c.args.source) (λ (w : Worker g.row.N.Denot g.row.S.Denot g.row.W.Denot g.row.E.Denot). w.right) c.args.workers.items (λ k d within. (c.requires.back k d within).right))

pub returns-then-is_whole-clause-run : goal.returns-then-is_whole-clause-run
returns-then-is_whole-clause-run g c =
    let done : All (λ (w : Worker g.row.N.Denot g.row.S.Denot g.row.W.Denot g.row.E.Denot). w.is_done ≡ true) c.args.workers.items = of_true _ _ c.if-is_done.true c.take_all-is_done.ensures.done in
    (of_true _ _ c.if-is_done.true c.take_all-is_done.ensures.run g.Q.Source.drawn (λ k d within. (c.requires.back k d within).run (done k d within))).stand

pub returns-then-is_whole-clause-each_once : goal.returns-then-is_whole-clause-each_once
returns-then-is_whole-clause-each_once g c =
    let done : All (λ (w : Worker g.row.N.Denot g.row.S.Denot g.row.W.Denot g.row.E.Denot). w.is_done ≡ true) c.args.workers.items = of_true _ _ c.if-is_done.true c.take_all-is_done.ensures.done in
    let run : HaveRun (g.J.Job.stands c.args.job.now) (flat_map g.Q.Source.drawn c.take_all-is_done.new.rights.items) c.take_all-is_done.new.seat c.take_all-is_done.new.runs.items =
    of_true _ _ c.if-is_done.true c.take_all-is_done.ensures.run g.Q.Source.drawn (λ k d within. (c.requires.back k d within).run (done k d within)) in
    let passed : All (g.Q.Source.has_passed c.args.source) c.take_all-is_done.new.rights.items =
    subst (All (g.Q.Source.has_passed c.args.source)) (sym c.take_all-is_done.ensures.rights)
    (All-map (g.Q.Source.has_passed c.args.source) (λ (w : Worker g.row.N.Denot g.row.S.Denot g.row.W.Denot g.row.E.Denot). w.right) c.args.workers.items (λ k d within. (c.requires.back k d within).passed (done k d within))) in
    subst (IsEachOnce (g.Q.Source.count c.args.source)) run.all (of_true _ _ c.if-is_whole.true c.gather-is_whole.ensures.each_once passed)

pub returns-then-is_whole-clause-made : goal.returns-then-is_whole-clause-made
returns-then-is_whole-clause-made g c = λ each.
    some_runs _ _ _ _ c.gather-is_whole.ensures.once c.gather-is_whole.ensures.below (c.take_all-is_done.ensures.made g.Q.Source.drawn each)

pub returns-else-is_done-clause-made : goal.returns-else-is_done-clause-made
returns-else-is_done-clause-made g c = λ each.
    some_runs _ _ _ _ c.gather-is_whole.ensures.once c.gather-is_whole.ensures.below (c.take_all-is_done.ensures.made g.Q.Source.drawn each)
