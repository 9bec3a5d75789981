use Rattle.std.proofs.Common.{◌≡◌, ◌+◌, ◌<◌, ◌++◌, [], ◌∷◌, ap, ◌∙◌, sym, subst, arith, map, length, length-append}
use Rattle.std.proofs.lemmas.List.{map-append}
use Rattle.std.proofs.lemmas.List.Elements.{All-push}
use Rattle.std.specs.List.{All}
use Rattle.crew.specs.AtWork.{IsFirstSeat, IsHired}
use Rattle.crew.specs.declared.recruit.Recruit.{Recruit}
use Rattle.crew.specs.declared.worker.Worker.{Worker}
use Rattle.crew.proofs.Items.{taken_more, length_taken}
use Rattle.crew.proofs.hiring.hire_all.Goals as goal

pub loop-recruit-preserved : goal.loop-recruit-preserved
loop-recruit-preserved g c =
    let i = c.loop-recruit.invariant in
    let p = c.push_reserved.ensures in
    let one = length-append c.loop-recruit.yielded (c.in-Some.recruit ∷ []) in
    let long : length c.push_reserved.new.self.items ≡ length c.loop-recruit.workers.items + 1 = ap length p.items ∙ length-append c.loop-recruit.workers.items (c.hire.result ∷ []) in
    let few : length c.loop-recruit.workers.items < 64 =
    omega (arith, i.len, c.requires.few, length_taken c.loop-recruit.yielded c.in-Some.recruit c.next.new.self.rest.items _ _ c.in-Some.ensures.steps.0 i.all) in
    record {
      all = taken_more c.loop-recruit.yielded c.in-Some.recruit c.next.new.self.rest.items _ _ c.in-Some.ensures.steps.0 i.all;
      len = omega (arith, long, i.len, one);
      room = omega (arith, p.capacity, i.room);
      seat = subst (λ n. IsFirstSeat (g.J.Job.fits c.args.job.now) g.J.Job.has_parts n c.hire.new.seat) (sym long) (c.hire.ensures.seat _ few i.seat);
      none = c.hire.ensures.none;
      hired = subst (All (IsHired (g.J.Job.fits c.args.job.now) g.J.Job.has_parts (g.J.Job.owns c.args.job.now) (g.J.Job.stands c.args.job.now))) (sym p.items) (All-push (IsHired (g.J.Job.fits c.args.job.now) g.J.Job.has_parts (g.J.Job.owns c.args.job.now) (g.J.Job.stands c.args.job.now)) c.loop-recruit.workers.items c.hire.result i.hired c.hire.ensures.hired);
      numbers =
          ap (map (λ (worker : Worker g.row.N.Denot g.row.S.Denot g.row.W.Denot g.row.E.Denot). worker.number)) p.items
          ∙ map-append (λ (worker : Worker g.row.N.Denot g.row.S.Denot g.row.W.Denot g.row.E.Denot). worker.number) c.loop-recruit.workers.items (c.hire.result ∷ [])
          ∙ ap (λ xs. xs ++ c.hire.result.number ∷ []) i.numbers
          ∙ ap (λ number. map (λ (recruit : Recruit g.row.N.Denot g.row.W.Denot). recruit.number) c.loop-recruit.yielded ++ number ∷ []) c.hire.ensures.number
          ∙ sym (map-append (λ (recruit : Recruit g.row.N.Denot g.row.W.Denot). recruit.number) c.loop-recruit.yielded (c.in-Some.recruit ∷ []));
      turns =
          ap (map (λ (worker : Worker g.row.N.Denot g.row.S.Denot g.row.W.Denot g.row.E.Denot). worker.turn)) p.items
          ∙ map-append (λ (worker : Worker g.row.N.Denot g.row.S.Denot g.row.W.Denot g.row.E.Denot). worker.turn) c.loop-recruit.workers.items (c.hire.result ∷ [])
          ∙ ap (λ xs. xs ++ c.hire.result.turn ∷ []) i.turns
          ∙ ap (λ turn. map (λ (recruit : Recruit g.row.N.Denot g.row.W.Denot). recruit.turn) c.loop-recruit.yielded ++ turn ∷ []) c.hire.ensures.turn
          ∙ sym (map-append (λ (recruit : Recruit g.row.N.Denot g.row.W.Denot). recruit.turn) c.loop-recruit.yielded (c.in-Some.recruit ∷ []));
      rights =
          ap (map (λ (worker : Worker g.row.N.Denot g.row.S.Denot g.row.W.Denot g.row.E.Denot). worker.right)) p.items
          ∙ map-append (λ (worker : Worker g.row.N.Denot g.row.S.Denot g.row.W.Denot g.row.E.Denot). worker.right) c.loop-recruit.workers.items (c.hire.result ∷ [])
          ∙ ap (λ xs. xs ++ c.hire.result.right ∷ []) i.rights
          ∙ ap (λ right. map (λ (recruit : Recruit g.row.N.Denot g.row.W.Denot). recruit.right) c.loop-recruit.yielded ++ right ∷ []) c.hire.ensures.right
          ∙ sym (map-append (λ (recruit : Recruit g.row.N.Denot g.row.W.Denot). recruit.right) c.loop-recruit.yielded (c.in-Some.recruit ∷ []));
    }
