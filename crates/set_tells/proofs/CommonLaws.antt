-- Bounds and values at a point, and the bound past all numbers.
use Rattle.std.proofs.Common.{◌≡◌, ℕ, true, ℤ, ◌≤ℤ◌, sym, subst, arith}
use Rattle.std.proofs.lemmas.Int.{ints}
use Rattle.std.specs.Prelude.{IsTrue}
use Rattle.tells.specs.declared.tell.Lit.{Lit}
use Rattle.interval.specs.Limits.{IsNumber, ClampOrder}
use Rattle.interval.specs.Boxes.{Bounds, low_of, high_of}
use Rattle.tells.specs.Words.{low_tell, high_tell, Keeps, literal_true, value_of, point_of}
use Rattle.set_tells.proofs.LiteralLaws.{value-point, is_true, true_is}

-- the literal's truth by the low and by the assignment
pub true_there : (b : Bounds) (l : Lit) → literal_true l (low_of b l.var) ≡ true → IsTrue (literal_true l (value_of (point_of b) l.var))
true_there b l e =
    let V : ℤ → Type 0 = λ z. IsTrue (literal_true l z) in
    subst V (sym (value-point b l.var)) (true_is (literal_true l (low_of b l.var)) (sym e))

pub true_here : (b : Bounds) (l : Lit) → IsTrue (literal_true l (value_of (point_of b) l.var)) → literal_true l (low_of b l.var) ≡ true
true_here b l t =
    let V : ℤ → Type 0 = λ z. IsTrue (literal_true l z) in
    is_true (literal_true l (low_of b l.var)) (subst V (value-point b l.var) t)

-- a looser bound is kept where a tighter is
pub looser_low : ClampOrder → (b : Bounds) (v : ℕ) (y z : ℤ) → z ≤ℤ y → Keeps b (low_tell v y) → Keeps b (low_tell v z)
looser_low c b v y z h k = let e = c.rises z y h in omega (arith, ints)

pub looser_high : ClampOrder → (b : Bounds) (v : ℕ) (y z : ℤ) → y ≤ℤ z → Keeps b (high_tell v y) → Keeps b (high_tell v z)
looser_high c b v y z h k = let e = c.rises y z h in omega (arith, ints)

-- the value of a fixed variable is both of its bounds
pub value_low : (b : Bounds) (v : ℕ) → low_of b v ≡ high_of b v → value_of (point_of b) v ≡ low_of b v
value_low b v fixed = value-point b v

pub number_high : (b : Bounds) (v : ℕ) → low_of b v ≡ high_of b v → IsNumber (low_of b v) → IsNumber (high_of b v)
number_high b v fixed n = let N : ℤ → Type 0 = λ z. IsNumber z in subst N fixed n
