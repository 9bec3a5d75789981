-- The starts of the tasks are the list of starts.
use Rattle.std.proofs.Common.{ℕ, Bool, List, map, subst, sym, refl, ◌∙◌}
use Rattle.tells.specs.Words.{when}
use Rattle.tells.specs.Hearing.{MayHearAll, HearsAll}
use Rattle.global_tells.specs.Ranges.{none_tells}
use Rattle.global_tells.specs.Cumulative.{tasks_in}
use Rattle.global_tells.proofs.TaskLaws.{tasks_starts}
use Rattle.global_tells.proofs.cumulative.tell_overload.Goals as goal

pub tell_none-requires : goal.tell_none-requires
tell_none-requires g c =
    let t = c.args.tasks.now in
    let P : Bool → Type 0 = λ s. MayHearAll g.H.Hear.can_hear g.H.Hear.hears c.args.h.now (when s (none_tells (map (λ k. k.start) (tasks_in t)))) in
    let Q : List ℕ → Type 0 = λ xs. MayHearAll g.H.Hear.can_hear g.H.Hear.hears c.args.h.now (none_tells xs) in
    subst Q (tasks_starts t.starts.now t.durations.now t.usages.now t.limit c.requires.tasks.fit) (subst P (sym c.is_overload.ensures ∙ c.if-is_overload.true) c.requires.hearer)

pub returns-then-is_overload : goal.returns-then-is_overload
returns-then-is_overload g c =
    let t = c.args.tasks.now in
    let P : Bool → Type 0 = λ s. HearsAll g.H.Hear.hears c.args.h.now (when s (none_tells (map (λ k. k.start) (tasks_in t)))) c.tell_none.new.h in
    let Q : List ℕ → Type 0 = λ xs. HearsAll g.H.Hear.hears c.args.h.now (none_tells xs) c.tell_none.new.h in
    subst P (sym (sym c.is_overload.ensures ∙ c.if-is_overload.true)) (subst Q (sym (tasks_starts t.starts.now t.durations.now t.usages.now t.limit c.requires.tasks.fit)) c.tell_none.ensures)

pub returns-else-is_overload : goal.returns-else-is_overload
returns-else-is_overload g c =
    let t = c.args.tasks.now in
    let P : Bool → Type 0 = λ s. HearsAll g.H.Hear.hears c.args.h.now (when s (none_tells (map (λ k. k.start) (tasks_in t)))) c.args.h.now in
    subst P (sym (sym c.is_overload.ensures ∙ c.if-is_overload.false)) refl
