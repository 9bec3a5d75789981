-- Whoever listens for a tell.
use Rattle.std.proofs.Common.{◌≡◌, Bool, true, List, [], ◌∷◌, ◌⊎◌, inl, inr, sym, subst}
use Rattle.std.proofs.lemmas.List.Elements.{All-head, All-tail}
use Rattle.guarded_tell.specs.Words.{Tell, Keeps}
use Rattle.guarded_tell.specs.Hearing.{MayHearAll, HearsAll}
use Rattle.literals.specs.Literals.{IsAsTight}
use Rattle.literals.specs.Laws.{LiteralLaws}
use Rattle.reasons.specs.Reasons.{IsTold}

-- any hearer that may hear everything
pub may_hear_all : {H : Type 0} (may : H → Tell → Type 0) (heard : H → Tell → H → Type 0) → ((h : H) (t : Tell) → may h t) →
    (h : H) (ts : List Tell) → MayHearAll may heard h ts
may_hear_all may heard free h [] = tt
may_hear_all may heard free h (t ∷ ts) = (free h t, λ g j. may_hear_all may heard free g ts)

-- one that notes a tell that is as tight as what it seeks
module _ (laws : LiteralLaws) {H : Type 0} (sought : H → Tell) (told : H → Bool) (heard : H → Tell → H → Type 0)
    (takes : (h : H) (t : Tell) (g : H) → heard h t g → (sought g ≡ sought h) × (told g ≡ true → (told h ≡ true) ⊎ IsAsTight t (sought h))) where
  pub told_since : (h : H) (ts : List Tell) (g : H) → HearsAll heard h ts g → told g ≡ true → (told h ≡ true) ⊎ IsTold ts (sought h)
  told_since h [] g e t = inl (subst (λ (w : H). told w ≡ true) (sym e) t)
  told_since h (t ∷ ts) g (mid, j, rest) e =
      let step = takes h t mid j in
      elim (told_since mid ts g rest e) [
        | inl m ↦ elim (step.1 m) [
          | inl before ↦ inl before
          | inr tight ↦ inr (λ b a. laws.tighter b t (sought h) tight (All-head (Keeps b) t ts a))
        ]
        | inr later ↦ inr (λ b a. subst (Keeps b) step.0 (later b (All-tail (Keeps b) t ts a)))
      ]
