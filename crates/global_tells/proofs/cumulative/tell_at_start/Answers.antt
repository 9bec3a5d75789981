-- What is used then is in the list.
use Rattle.std.proofs.Common.{◌≡◌, ℕ, ℤ, pos, get_or, to_z, of_z, sym, ap, subst, ◌∙◌}
use mir.Syntax.{w64}
use Rattle.interval.specs.Boxes.{high_of}
use Rattle.tells.specs.Hearing.{MayHearAll, HearsAll}
use Rattle.global_tells.specs.declared.tasks.Task.{Task}
use Rattle.global_tells.specs.Cumulative.{usage_at, crowded_tells, tasks_in, task_in}
use Rattle.global_tells.proofs.HearingLaws.{along}
use Rattle.global_tells.proofs.TaskLaws.{coded_amount, coded_bound, coded_usage, start_in}
use Rattle.global_tells.proofs.cumulative.tell_at_start.Goals as goal

pub tell_where_crowded-requires-clause-hearer : goal.tell_where_crowded-requires-clause-hearer
tell_where_crowded-requires-clause-hearer g c =
    let t = c.args.tasks.now in
    let j = c.args.j in
    let b = c.args.b.now in
    let used = get_or c.args.used.now j (pos 0) in
    let start = start_in _ t c.requires.tasks j c.requires.j in
    let there : used ≡ usage_at (tasks_in t) b (high_of b (task_in t j).start) = c.requires.used.each j c.requires.j ∙ ap (λ (v : ℕ). usage_at (tasks_in t) b (high_of b v)) (sym start) in
    let time : c.high.result ≡ high_of b (task_in t j).start = c.high.ensures.value ∙ ap (high_of b) (sym start) in
    let P : ℤ → ℤ → ℤ → Type 0 = λ u l z. MayHearAll g.H.Hear.can_hear g.H.Hear.hears c.args.h.now (crowded_tells u l b (task_in t c.args.k) z) in
    let may : P (to_z w64 (of_z w64 used)) (to_z w64 (of_z w64 t.limit)) (to_z w64 (of_z w64 c.high.result)) =
    along P (sym (coded_usage used (c.requires.used.in_range j c.requires.j) ∙ there)) (sym (coded_amount t.limit c.requires.tasks.fit.limit)) (sym (coded_bound c.high.result c.high.ensures.in_range ∙ time)) c.requires.hearer in
    let Q : Task → Type 0 = λ k. MayHearAll g.H.Hear.can_hear g.H.Hear.hears c.args.h.now (crowded_tells (to_z w64 (of_z w64 used)) (to_z w64 (of_z w64 t.limit)) b k (to_z w64 (of_z w64 c.high.result))) in
    subst Q (sym c.at-task.ensures.value) may

pub returns : goal.returns
returns g c =
    let t = c.args.tasks.now in
    let j = c.args.j in
    let b = c.args.b.now in
    let used = get_or c.args.used.now j (pos 0) in
    let start = start_in _ t c.requires.tasks j c.requires.j in
    let there : used ≡ usage_at (tasks_in t) b (high_of b (task_in t j).start) = c.requires.used.each j c.requires.j ∙ ap (λ (v : ℕ). usage_at (tasks_in t) b (high_of b v)) (sym start) in
    let time : c.high.result ≡ high_of b (task_in t j).start = c.high.ensures.value ∙ ap (high_of b) (sym start) in
    let after = c.tell_where_crowded.new.h in
    let P : ℤ → ℤ → ℤ → Type 0 = λ u l z. HearsAll g.H.Hear.hears c.args.h.now (crowded_tells u l b (task_in t c.args.k) z) after in
    let Q : Task → Type 0 = λ k. HearsAll g.H.Hear.hears c.args.h.now (crowded_tells (to_z w64 (of_z w64 used)) (to_z w64 (of_z w64 t.limit)) b k (to_z w64 (of_z w64 c.high.result))) after in
    let heard : P (to_z w64 (of_z w64 used)) (to_z w64 (of_z w64 t.limit)) (to_z w64 (of_z w64 c.high.result)) = subst Q c.at-task.ensures.value c.tell_where_crowded.ensures in
    along P (coded_usage used (c.requires.used.in_range j c.requires.j) ∙ there) (coded_amount t.limit c.requires.tasks.fit.limit) (coded_bound c.high.result c.high.ensures.in_range ∙ time) heard
