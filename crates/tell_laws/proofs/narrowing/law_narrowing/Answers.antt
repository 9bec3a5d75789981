-- On either side a bound is tighter than the box's, or the box keeps it.
use Rattle.std.proofs.Common.{◌≡◌, ℕ, true, false, ℤ, arith}
use Rattle.std.proofs.lemmas.Int.{ints}
use Rattle.interval.specs.Boxes.{Bounds}
use Rattle.tells.specs.declared.tell.Side.{Side}
use Rattle.tells.specs.declared.tell.Side.TheVariants.{Low, High}
use Rattle.tells.specs.Words.{KeepsSide}
use Rattle.tell_laws.specs.Narrowing.{narrows_side}
use Rattle.tell_laws.proofs.narrowing.law_narrowing.Goals as goal

keeps_side : (b : Bounds) (s : Side) (v : ℕ) (z : ℤ) → narrows_side b s v z ≡ false → KeepsSide b s v z
keeps_side b Low v z e = omega (arith, ints)
keeps_side b High v z e = omega (arith, ints)

tighter_side : (b : Bounds) (s : Side) (v : ℕ) (z : ℤ) → narrows_side b s v z ≡ true → ¬ KeepsSide b s v z
tighter_side b Low v z e = λ k. omega (arith, ints)
tighter_side b High v z e = λ k. omega (arith, ints)

pub returns-clause-keeps : goal.returns-clause-keeps
returns-clause-keeps c = λ b t. keeps_side b t.side t.var t.bound

pub returns-clause-tighter : goal.returns-clause-tighter
returns-clause-tighter c = λ b t. tighter_side b t.side t.var t.bound
