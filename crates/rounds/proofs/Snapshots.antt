-- Copies of the bounds of a kernel's variables, one after another.
use Rattle.std.proofs.Common.{◌≡◌, ℕ, ℤ, ◌+◌, ◌<◌, ◌≤◌, ◌≤ℤ◌, ◌<ℤ◌, List, length, get_or, refl, sym, ap, subst, ◌∙◌, arith, inl, inr}
use Rattle.std.proofs.lemmas.Int.{ints}
use Rattle.std.proofs.lemmas.Bool.{cases_eq}
use borrow.Author.Count.{below_more}
use Rattle.interval.specs.Boxes.{Bounds, low_of, high_of, put_of}
use Rattle.guarded_tell.specs.Words.{IsProperIn}
use Rattle.rounds.specs.Steps.{IsSnapshot}
use Rattle.rounds.proofs.BoxLaws.{get_put, low_put, high_put, low_other, high_other}

-- both boxes have the same bounds of variable w
pub record SameAt (a b : Bounds) (w : ℕ) : Type 0 where
  pub low : low_of a w ≡ low_of b w
  pub high : high_of a w ≡ high_of b w

-- the copies of the first variables
pub record Copied (vars : List ℕ) (done : ℕ) (seen b : Bounds) : Type 0 where
  pub proper : (i : ℕ) → i < done → low_of b (get_or vars i 0) ≤ℤ high_of b (get_or vars i 0)
  pub agree : (i : ℕ) → i < done → SameAt b seen (get_or vars i 0)

pub copied_none : (vars : List ℕ) (seen b : Bounds) → Copied vars 0 seen b
copied_none vars seen b = record { proper = λ i h. absurd (omega arith); agree = λ i h. absurd (omega arith) }

module _ (b : Bounds) (v : ℕ) (low high : ℤ) (vh : v < length b) where
  proper_put : low ≤ℤ high → (w : ℕ) → low_of b w ≤ℤ high_of b w → low_of (put_of b v low high) w ≤ℤ high_of (put_of b v low high) w
  proper_put le w p = elim (get_put b v low high w vh) [
    | inl x ↦ omega (arith, ints, x.1, x.2, le)
    | inr x ↦ omega (arith, ints, x.0, x.1, p)
  ]

  proper_here : low ≤ℤ high → low_of (put_of b v low high) v ≤ℤ high_of (put_of b v low high) v
  proper_here le = omega (arith, ints, low_put b v low high vh, high_put b v low high vh, le)

  same_here : (later : Bounds) → low ≡ low_of later v → high ≡ high_of later v → SameAt (put_of b v low high) later v
  same_here later l h = record { low = low_put b v low high vh ∙ l; high = high_put b v low high vh ∙ h }

  -- the bounds of one variable changed in what was seen, and were copied
  same_put : (seen later : Bounds) → low ≡ low_of later v → high ≡ high_of later v → later ≡ put_of seen v low high → (w : ℕ) → SameAt b seen w →
      SameAt (put_of b v low high) later w
  same_put seen later l h e w s = elim (cases_eq w v) [
    | inl q ↦ subst (λ (x : ℕ). SameAt (put_of b v low high) later x) (sym q) (same_here later l h)
    | inr ne ↦ record {
      low = low_other b v low high w ne ∙ s.low ∙ sym (ap (λ (x : Bounds). low_of x w) e ∙ low_other seen v low high w ne);
      high = high_other b v low high w ne ∙ s.high ∙ sym (ap (λ (x : Bounds). high_of x w) e ∙ high_other seen v low high w ne);
    }
  ]

-- one more variable, after the seat has seen more of it
pub copied_more : (vars : List ℕ) (done : ℕ) (seen later b : Bounds) (v : ℕ) →
    v < length b → v ≡ get_or vars done 0 → later ≡ put_of seen v (low_of later v) (high_of later v) → low_of later v ≤ℤ high_of later v →
    Copied vars done seen b → Copied vars (done + 1) later (put_of b v (low_of later v) (high_of later v))
copied_more vars done seen later b v vh e step le c = record {
  proper = below_more (λ i. low_of new (get_or vars i 0) ≤ℤ high_of new (get_or vars i 0)) done
      (λ i h. proper_put b v (low_of later v) (high_of later v) vh le (get_or vars i 0) (c.proper i h))
      (subst (λ (w : ℕ). low_of new w ≤ℤ high_of new w) e (proper_here b v (low_of later v) (high_of later v) vh le));
  agree = below_more (λ i. SameAt new later (get_or vars i 0)) done
      (λ i h. same_put b v (low_of later v) (high_of later v) vh seen later refl refl step (get_or vars i 0) (c.agree i h))
      (subst (λ (w : ℕ). SameAt new later w) e (same_here b v (low_of later v) (high_of later v) vh later refl refl));
}
  where
    new : Bounds
    new = put_of b v (low_of later v) (high_of later v)

-- all variables
pub copied_all : (vars : List ℕ) (done : ℕ) (seen b : Bounds) → length vars ≤ done → Copied vars done seen b → IsSnapshot vars seen b
copied_all vars done seen b h c = record {
  proper = λ i k. c.proper i (omega arith);
  agree = record { lows = λ i k. (c.agree i (omega arith)).low; highs = λ i k. (c.agree i (omega arith)).high };
}

-- a box that is crossed in a kernel's variable isn't proper in them
pub crossed_in : (vars : List ℕ) (i v : ℕ) (b : Bounds) → i < length vars → v ≡ get_or vars i 0 → high_of b v <ℤ low_of b v → IsProperIn vars b → ⊥
crossed_in vars i v b h e c p =
    let q : low_of b v ≤ℤ high_of b v = subst (λ (w : ℕ). low_of b w ≤ℤ high_of b w) (sym e) (p i h) in omega (arith, ints)
