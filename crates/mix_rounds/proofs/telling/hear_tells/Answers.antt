use Rattle.mix_rounds.specs.declared.telling.Teller.{Teller}
use Rattle.mix_rounds.proofs.TellingAll.{may_hear_all, same_name, steps, kept}
use Rattle.mix_rounds.proofs.telling.hear_tells.Goals as goal

pub visit_tells-requires-clause-hearer : goal.visit_tells-requires-clause-hearer
visit_tells-requires-clause-hearer c =
    may_hear_all (λ (h : Teller). h.store.now) (λ (h : Teller). h.seat.now) (λ (h : Teller). h.moved) _ (λ h t g j. j.0) (λ h t g j. j.1) _ (λ h t s m. (s, m)) _ _ c.requires.store c.requires.tells

pub returns-clause-stepped : goal.returns-clause-stepped
returns-clause-stepped c =
    steps (λ (h : Teller). h.store.now) (λ (h : Teller). h.seat.now) (λ (h : Teller). h.moved) _ (λ h t g j. j.0) (λ h t g j. j.1) _ _ _ c.visit_tells.ensures

pub returns-clause-kept : goal.returns-clause-kept
returns-clause-kept c =
    kept (λ (h : Teller). h.store.now) (λ (h : Teller). h.seat.now) (λ (h : Teller). h.moved) _ (λ h t g j. j.0) (λ h t g j. j.1) _ _ _ c.visit_tells.ensures

pub returns-clause-same_seat : goal.returns-clause-same_seat
returns-clause-same_seat c =
    same_name (λ (h : Teller). h.seat.ghost_name) _ (λ h t g j. j.2) _ _ _ c.visit_tells.ensures

pub returns-clause-store : goal.returns-clause-store
returns-clause-store c =
    same_name (λ (h : Teller). h.store.now) _ (λ h t g j. j.1) _ _ _ c.visit_tells.ensures
