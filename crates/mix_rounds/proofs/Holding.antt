-- Masks that keep what the floor has.
use Rattle.std.proofs.Common.{◌≡◌, ◌≢◌, ℕ, ℤ, ◌<◌, length, subst, sym}
use Rattle.std.specs.Prelude.{Option, None, Some, IfSome}
use Rattle.guarded_tell.specs.Words.{Tell, Keeps}
use Rattle.bit_domain.specs.Bits.{IsSubset}
use Rattle.bit_domain.specs.Mixes.{Mix, dom_of, hull, Has, IsBits, IsDomInRange, IsInsideMix}
use Rattle.mix_store.specs.Domains.{set_of}
use Rattle.mix_rounds.specs.Masks.{AreBitsOf}
use Rattle.mix_rounds.specs.Steps.{base_in, FitsSide, KeepsNumbers, IsGone}
use Rattle.mix_rounds.proofs.MaskLaws.{held_by_mask}

-- the bits of all numbers but one, where base and number are written in other words
pub bits_wrapped : (base value b v : ℤ) (mask : ℕ) → b ≡ base → v ≡ value → AreBitsOf (λ z. z ≢ v) b mask → AreBitsOf (λ z. z ≢ value) base mask
bits_wrapped base value b v mask e f are = subst (λ (x : ℤ). AreBitsOf (λ z. z ≢ x) base mask) f (subst (λ (x : ℤ). AreBitsOf (λ z. z ≢ v) x mask) e are)

module _ (seen : Mix) (v : ℕ) (base : ℤ) (mask : ℕ) (h : v < length seen) (bits : IsBits (dom_of seen v)) (range : IsDomInRange (dom_of seen v)) (e : base ≡ base_in (dom_of seen v)) where
  pub held_told : (floor : Option Mix) (t : Tell) → t.var ≡ v → AreBitsOf (FitsSide t.side t.bound) base mask → IfSome floor (λ f. IsInsideMix f seen) →
      IfSome floor (λ f. Keeps (hull f) t × KeepsNumbers f t) → IfSome floor (λ f. IsSubset (set_of f v) mask)
  held_told None t q are i k = tt
  held_told (Some f) t q are i k = held_by_mask (FitsSide t.side t.bound) (dom_of seen v) (dom_of f v) base mask bits range e (i.doms v h) are
      (λ z has. k.1 z (subst (λ w. Has (dom_of f w) z) (sym q) has))

  pub held_dropped : (floor : Option Mix) (value : ℤ) → AreBitsOf (λ z. z ≢ value) base mask → IfSome floor (λ f. IsInsideMix f seen) →
      IfSome floor (λ f. IsGone f (v, value)) → IfSome floor (λ f. IsSubset (set_of f v) mask)
  held_dropped None value are i g = tt
  held_dropped (Some f) value are i g = held_by_mask (λ z. z ≢ value) (dom_of seen v) (dom_of f v) base mask bits range e (i.doms v h) are
      (λ z has q. g (subst (λ y. Has (dom_of f v) y) q has))
