-- The turns on the way to a number.
use Rattle.std.specs.Prelude.{◌≡◌, ℕ, zero, suc, ◌-◌, ◌^◌, ◌<◌, ◌≤◌, Bool, true, false, List, [], ◌∷◌}
use Rattle.interval.specs.Boxes.{Bounds}
use Rattle.subproblem_walk.specs.declared.turns.Turn.{Turn}

-- the part on the side of a turn
abbrev pub side_of : Bool → Bounds → Bounds → Bounds
side_of false left right = left
side_of true left right = right

-- the first turn of the way to a number, and the number to which it goes on: where half is how many numbers a part has, the
-- lower half turns to the left and the upper half to the right
pub record IsTurn (half number : ℕ) (turn : Bool) (rest : ℕ) : Type 0 where
  pub lower : number < half → (turn ≡ false) × (rest ≡ number)
  pub upper : half ≤ number → (turn ≡ true) × (rest ≡ number - half)

-- these are the first turns on the way to a number to a depth, and after them it goes on to another number, to a lesser depth
abbrev pub AreTurnsTo : ℕ → ℕ → List Turn → ℕ → ℕ → Type 0
AreTurnsTo depth number [] below rest = (below ≡ depth) × (rest ≡ number)
AreTurnsTo zero number (turn ∷ turns) below rest = ⊥
AreTurnsTo (suc depth) number (turn ∷ turns) below rest =
    (next : ℕ) × IsTurn (2 ^ depth) number turn.goes_right next × AreTurnsTo depth next turns below rest
