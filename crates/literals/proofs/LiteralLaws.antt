-- How literals go with boxes.
use Rattle.std.proofs.Common.{◌≡◌, ℕ, ℤ, ◌<◌, ◌≤ℤ◌, List, length, arith, sym, subst, ap}
use Rattle.std.proofs.lemmas.Int.{ints, by_lt_z}
use Rattle.interval.specs.Boxes.{Bounds, low_of, high_of, IsInside, IsPoint}
use Rattle.tells.specs.declared.tell.Side.{Side}
use Rattle.tells.specs.declared.tell.Side.TheVariants.{Low, High}
use Rattle.tells.specs.declared.tell.Tell.{Tell}
use Rattle.tells.specs.Words.{Keeps, KeepsSide}
use Rattle.literals.specs.Literals.{opposite, opposite_at, IsTightAt, IsAsTight}
use Rattle.literals.specs.Laws.{LiteralLaws}

tighter_at : (s : Side) (b : Bounds) (v : ℕ) (x y : ℤ) → IsTightAt s x y → KeepsSide b s v x → KeepsSide b s v y
tighter_at Low b v x y t k = omega (arith, ints)
tighter_at High b v x y t k = omega (arith, ints)

pub keeps_tighter : (b : Bounds) (t u : Tell) → IsAsTight t u → Keeps b t → Keeps b u
keeps_tighter b t u h k =
    tighter_at u.side b u.var t.bound u.bound h.tight
    (subst (λ (s : Side). KeepsSide b s u.var t.bound) h.same_side (subst (λ (v : ℕ). KeepsSide b t.side v t.bound) h.same_var k))

inside_at : (s : Side) (inner outer : Bounds) (v : ℕ) (x : ℤ) → v < length outer → IsInside inner outer → KeepsSide outer s v x → KeepsSide inner s v x
inside_at Low inner outer v x h i k = omega (arith, ints, i.lows v h)
inside_at High inner outer v x h i k = omega (arith, ints, i.highs v h)

pub keeps_inside : (inner outer : Bounds) (t : Tell) → t.var < length outer → IsInside inner outer → Keeps outer t → Keeps inner t
keeps_inside inner outer t h i k = inside_at t.side inner outer t.var t.bound h i k

opposite_kept : (s : Side) (p : Bounds) (v : ℕ) (x : ℤ) → v < length p → IsPoint p → (KeepsSide p s v x → ⊥) → Keeps p (opposite_at s v x)
opposite_kept Low p v x h i n = by_lt_z (low_of p v) x (λ l. omega (arith, ints, i v h)) (λ l. absurd (n l))
opposite_kept High p v x h i n = by_lt_z x (high_of p v) (λ l. omega (arith, ints, i v h)) (λ l. absurd (n l))

pub keeps_opposite : (p : Bounds) (t : Tell) → t.var < length p → IsPoint p → (Keeps p t → ⊥) → Keeps p (opposite t)
keeps_opposite p t h i n = opposite_kept t.side p t.var t.bound h i n

pub literal_laws : LiteralLaws
literal_laws = record { tighter = keeps_tighter; inside = keeps_inside; opposite = keeps_opposite }
