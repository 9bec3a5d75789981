-- The floor and the ceiling of an exact quotient.
use Rattle.std.specs.Prelude.{◌≡◌, ℤ, pos, negsuc, zero, suc, neg_ℤ, ◌+ℤ◌, ◌*ℤ◌, ◌≤ℤ◌, ◌<ℤ◌, ◌<◌, ◌/◌, ◌↔◌, unsigned_abs}

-- the greatest whole number that is at most a divided by b
unfoldable pub floor_of : ℤ → ℤ → ℤ
floor_of (pos a) (pos b) = pos (a / b)
floor_of (pos zero) (negsuc b) = pos 0
floor_of (pos (suc a)) (negsuc b) = negsuc (a / suc b)
floor_of (negsuc a) (pos b) = negsuc (a / b)
floor_of (negsuc a) (negsuc b) = pos (suc a / suc b)

-- the least whole number that is at least a divided by b
unfoldable pub ceiling_of : ℤ → ℤ → ℤ
ceiling_of a b = neg_ℤ (floor_of (neg_ℤ a) b)

-- q is at most a divided by b, and q + 1 is more; multiplying by a negative b turns the order round
pub record IsFloorOf (a b q : ℤ) : Type 0 where
  pub above_zero : pos 0 <ℤ b → ((q *ℤ b) ≤ℤ a) × (a <ℤ ((q +ℤ pos 1) *ℤ b))
  pub below_zero : b <ℤ pos 0 → (a ≤ℤ (q *ℤ b)) × (((q +ℤ pos 1) *ℤ b) <ℤ a)

-- q is at least a divided by b, and q - 1 is less
pub record IsCeilingOf (a b q : ℤ) : Type 0 where
  pub above_zero : pos 0 <ℤ b → (a ≤ℤ (q *ℤ b)) × (((q +ℤ negsuc 0) *ℤ b) <ℤ a)
  pub below_zero : b <ℤ pos 0 → ((q *ℤ b) ≤ℤ a) × (a <ℤ ((q +ℤ negsuc 0) *ℤ b))

-- q is a divided by b, rounded to one of the two whole numbers beside it, and r is the rest that it leaves
pub record AreParts (a b q r : ℤ) : Type 0 where
  pub whole : q *ℤ b +ℤ r ≡ a
  pub small : unsigned_abs r < unsigned_abs b

-- how whole numbers compare with the floor and the ceiling of every exact quotient
pub record QuotientOrder : Type 0 where
  pub floor_above_zero : (a b z : ℤ) → pos 0 <ℤ b → (z ≤ℤ floor_of a b) ↔ ((z *ℤ b) ≤ℤ a)
  pub floor_below_zero : (a b z : ℤ) → b <ℤ pos 0 → (z ≤ℤ floor_of a b) ↔ (a ≤ℤ (z *ℤ b))
  pub ceiling_above_zero : (a b z : ℤ) → pos 0 <ℤ b → (ceiling_of a b ≤ℤ z) ↔ (a ≤ℤ (z *ℤ b))
  pub ceiling_below_zero : (a b z : ℤ) → b <ℤ pos 0 → (ceiling_of a b ≤ℤ z) ↔ ((z *ℤ b) ≤ℤ a)
