use Rattle.std.proofs.Common.{inl, inr}
use Rattle.std.proofs.lemmas.Bool.{OnTrue_from, false≢true}
use Rattle.reasons.specs.declared.watch.Watch.{Watch}
use Rattle.reasons.proofs.Watching.{may_hear_all, told_since}
use Rattle.reasons.proofs.watch.is_told.Goals as goal

pub visit_tells-requires-clause-hearer : goal.visit_tells-requires-clause-hearer
visit_tells-requires-clause-hearer c = may_hear_all _ _ (λ h t. tt) _ _

pub returns : goal.returns
returns c = OnTrue_from _ _
    (λ e. elim (told_since c.law_literals.ensures (λ (w : Watch). w.sought) (λ (w : Watch). w.told) _ (λ h t g j. j) _ _ _ c.visit_tells.ensures e) [
      | inl before ↦ absurd (false≢true before)
      | inr since ↦ since
    ])
