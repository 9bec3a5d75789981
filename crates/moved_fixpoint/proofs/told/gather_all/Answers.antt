use Rattle.std.proofs.Common.{◌<◌, length}
use Rattle.std.proofs.lemmas.List.Elements.{All-filter}
use Rattle.guarded_tell.specs.Words.{Tell}
use Rattle.guarded_tell.specs.Kernels.{tells}
use Rattle.tell_laws.specs.Narrowing.{narrows}
use Rattle.moved_fixpoint.specs.declared.told.Gathering.{Gathering}
use Rattle.moved_fixpoint.proofs.Gathering.{may_take, takes, takes_name}
use Rattle.moved_fixpoint.proofs.told.gather_all.Goals as goal

pub visit_unseen-requires-clause-hearer : goal.visit_unseen-requires-clause-hearer
visit_unseen-requires-clause-hearer c =
    let b = c.args.gathering.now.b.now in
    may_take (λ (w : Gathering). w.told.now) (λ (w : Gathering). w.b.now) (λ (w : Gathering). w.told.ghost_name) _ _
    (All-filter (narrows b) (λ (t : Tell). t.var < length b) (tells c.args.kernel.now b) (λ k d h. (c.law_tell_place.ensures _ _ c.requires.kernel k d h).1))

pub returns-clause-same_list : goal.returns-clause-same_list
returns-clause-same_list c = takes_name (λ (w : Gathering). w.told.now) (λ (w : Gathering). w.b.now) (λ (w : Gathering). w.told.ghost_name) _ _ _ c.visit_unseen.ensures.heard

pub returns-clause-taken : goal.returns-clause-taken
returns-clause-taken c = takes (λ (w : Gathering). w.told.now) (λ (w : Gathering). w.b.now) (λ (w : Gathering). w.told.ghost_name) _ _ _ c.visit_unseen.ensures.heard
