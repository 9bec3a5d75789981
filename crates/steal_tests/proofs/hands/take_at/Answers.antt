use Rattle.std.proofs.Common.{ℕ, zero, suc, ◌≡◌, ◌≢◌, ◌<◌, List, [], ◌∷◌, length, get_or, set, refl, sym, ap, ◌∙◌, subst, length-set, arith}
use Rattle.std.proofs.lemmas.List.{get_or-set_other}
use Rattle.std.proofs.lemmas.Grind.{get_or-set_at}
use mathlib.Core.Logic.{dite}
use native.Mathlib.Decide.{ℕ_discrete}
use Rattle.steal_crew.specs.Hands.{IsSameHand}
use Rattle.steal_crew.specs.declared.hand.Hand.{Hand}
use Rattle.steal_tests.proofs.hands.take_at.Goals as goal

any_default : (xs : List Hand) (i : ℕ) (d e : Hand) → i < length xs → get_or xs i d ≡ get_or xs i e
any_default [] i d e h = absurd (omega arith)
any_default (x ∷ xs) zero d e h = refl
any_default (x ∷ xs) (suc i) d e h = any_default xs i d e (omega arith)

-- one hand took a number, and the others are as before
same_hands : (hands : List Hand) (place : ℕ) (old new : Hand) → place < length hands → old ≡ get_or hands place old → IsSameHand old new → ((h : Hand) → IsSameHand h h)
    → (i : ℕ) (d : Hand) → i < length hands → IsSameHand (get_or hands i d) (get_or (set hands place new) i d)
same_hands hands place old new inside value same each i d lt = dite (ℕ_discrete i place)
    (λ (at : i ≡ place).
    let a : get_or (set hands place new) i d ≡ new = get_or-set_at hands place i new d at inside in
    let b : get_or hands i d ≡ old = ap (λ (j : ℕ). get_or hands j d) at ∙ any_default hands place d old inside ∙ sym value in
    subst (λ (h : Hand). IsSameHand h (get_or (set hands place new) i d)) (sym b) (subst (IsSameHand old) (sym a) same))
    (λ (ne : i ≢ place). subst (IsSameHand (get_or hands i d)) (sym (get_or-set_other hands place i new d ne)) (each (get_or hands i d)))

pub returns-clause-deal : goal.returns-clause-deal
returns-clause-deal c =
    let hands = c.args.hands.now.items in
    let place = c.args.place in
    let new = c.take.new.self in
    let law = c.law_hands.ensures in
    (c.requires.deal.0, law.one_deal c.requires.deal.0 hands (set hands place new) (length-set hands place new) (same_hands hands place c.index_mut.result.now new c.requires.place c.index_mut.ensures.value c.take.ensures.same law.reflexive) c.requires.deal.1)
