use Rattle.std.proofs.Common.{ℕ, ◌<◌, Option, subst}
use Rattle.std.specs.Prelude.{IfSome}
use Rattle.moved_fixpoint.specs.Moved.{count_of}
use Rattle.moved_fixpoint.specs.Made.{IsMadeBy}
use Rattle.subproblem_walk.proofs.CutterLemmas.{one_noted, all_noted}
use Rattle.subproblem_walk.proofs.cutter.note.Goals as goal

pub returns-in-Some-clause-quiet : goal.returns-in-Some-clause-quiet
returns-in-Some-clause-quiet c = λ kernels b e are made.
    one_noted c.law_quiet_unless_moved.ensures c.args.sets.now.moved c.mark.new.self c.in-Some.pair c.mark.ensures
    (subst (λ (x : Option ℕ). IfSome x (λ pair. pair < count_of c.args.sets.now.moved)) c.in-Some.is c.requires)
    kernels b e are (subst (λ (x : Option ℕ). IsMadeBy x kernels b) c.in-Some.is made)

pub returns-in-None-clause-quiet : goal.returns-in-None-clause-quiet
returns-in-None-clause-quiet c = λ kernels b e are made.
    all_noted c.law_quiet_unless_moved.ensures c.args.sets.now.moved c.mark_all.new.self c.mark_all.ensures kernels b e are
