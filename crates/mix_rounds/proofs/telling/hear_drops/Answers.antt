use Rattle.mix_rounds.specs.declared.telling.Teller.{Teller}
use Rattle.mix_rounds.proofs.TellingAll.{may_drop_all, same_drop_name, drop_steps, all_gone}
use Rattle.mix_rounds.proofs.telling.hear_drops.Goals as goal

pub visit_drops-requires-clause-hearer : goal.visit_drops-requires-clause-hearer
visit_drops-requires-clause-hearer c =
    may_drop_all (λ (h : Teller). h.store.now) (λ (h : Teller). h.seat.now) (λ (h : Teller). h.moved) _ (λ h d g j. j.0) (λ h d g j. j.1) _ (λ h d s m. (s, m)) _ _ c.requires.store c.requires.drops

pub returns-clause-stepped : goal.returns-clause-stepped
returns-clause-stepped c =
    drop_steps (λ (h : Teller). h.store.now) (λ (h : Teller). h.seat.now) (λ (h : Teller). h.moved) _ (λ h d g j. j.0) (λ h d g j. j.1) _ _ _ c.visit_drops.ensures

pub returns-clause-gone : goal.returns-clause-gone
returns-clause-gone c =
    all_gone (λ (h : Teller). h.store.now) (λ (h : Teller). h.seat.now) (λ (h : Teller). h.moved) _ (λ h d g j. j.0) (λ h d g j. j.1) _ _ _ c.visit_drops.ensures

pub returns-clause-same_seat : goal.returns-clause-same_seat
returns-clause-same_seat c =
    same_drop_name (λ (h : Teller). h.seat.ghost_name) _ (λ h d g j. j.2) _ _ _ c.visit_drops.ensures
