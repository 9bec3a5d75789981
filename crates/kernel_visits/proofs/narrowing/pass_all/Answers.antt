-- What is passed on is what narrows the box.
use Rattle.tell_laws.proofs.NarrowingLaws.{may_pass, passes, passes_name}
use Rattle.kernel_visits.specs.declared.narrowing.Passing.{Passing}
use Rattle.kernel_visits.proofs.narrowing.pass_all.Goals as goal

pub visit_tells-requires-clause-hearer : goal.visit_tells-requires-clause-hearer
visit_tells-requires-clause-hearer g c =
    may_pass g.H.Hear.can_hear g.H.Hear.hears (λ (w : Passing g.row.H.Denot). w.to.now) (λ (w : Passing g.row.H.Denot). w.b.now) (λ (w : Passing g.row.H.Denot). w.to.ghost_name) _ _
    (λ k d h. (c.law_tell_place.ensures _ _ c.requires.kernel k d h).1) c.requires.hearer

pub returns-clause-same_hearer : goal.returns-clause-same_hearer
returns-clause-same_hearer g c =
    passes_name g.H.Hear.can_hear g.H.Hear.hears (λ (w : Passing g.row.H.Denot). w.to.now) (λ (w : Passing g.row.H.Denot). w.b.now) (λ (w : Passing g.row.H.Denot). w.to.ghost_name) _ _ _ c.visit_tells.ensures

pub returns-clause-passed : goal.returns-clause-passed
returns-clause-passed g c =
    passes g.H.Hear.can_hear g.H.Hear.hears (λ (w : Passing g.row.H.Denot). w.to.now) (λ (w : Passing g.row.H.Denot). w.b.now) (λ (w : Passing g.row.H.Denot). w.to.ghost_name) _ _ _ c.visit_tells.ensures
