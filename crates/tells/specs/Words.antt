-- The words that the tells of every propagator are written in. A tell is a bound of a variable that a process puts into
-- the store; telling joins it to the bound that is there. (The tells of PCCP: Talbot, Pinel and Bouvry, "A Variant of
-- Concurrent Constraint Programming on GPU", AAAI 2022.)
use Rattle.std.specs.Prelude.{◌≡◌, ℕ, ℤ, pos, ◌<◌, ◌≤ℤ◌, Bool, true, false, not, ◌&&◌, List, [], ◌∷◌, ◌++◌, length, map, slice_index, slice_index_or, int_lt, int_le}
use Rattle.tells.specs.declared.tell.Lit.{Lit}
use Rattle.tells.specs.declared.tell.Side.{Side}
use Rattle.tells.specs.declared.tell.Side.TheVariants.{Low, High}
use Rattle.tells.specs.declared.tell.Tell.{Tell}
use Rattle.interval.specs.Limits.{clamp_of}
use Rattle.interval.specs.Quotients.{floor_of, ceiling_of}
use Rattle.interval.specs.Boxes.{Bounds, low_of, high_of}

-- ---- tells

-- the low and the high of variable v are told the bound nearest to z
abbrev pub low_tell : ℕ → ℤ → Tell
low_tell v z = record { var = v; side = Low; bound = clamp_of z }

abbrev pub high_tell : ℕ → ℤ → Tell
high_tell v z = record { var = v; side = High; bound = clamp_of z }

-- these tells where the test holds, none where not
abbrev pub when : Bool → List Tell → List Tell
when true ts = ts
when false ts = []

-- the tells of: the coefficient times the variable is at most `room`. A coefficient 0 gives none
abbrev pub product_at_most : ℕ → ℤ → ℤ → List Tell
product_at_most var coeff room =
    when (int_lt (pos 0) coeff) (high_tell var (floor_of room coeff) ∷ [])
    ++ when (int_lt coeff (pos 0)) (low_tell var (ceiling_of room coeff) ∷ [])

-- the tells of: the coefficient times the variable is at least `room`
abbrev pub product_at_least : ℕ → ℤ → ℤ → List Tell
product_at_least var coeff room =
    when (int_lt (pos 0) coeff) (low_tell var (ceiling_of room coeff) ∷ [])
    ++ when (int_lt coeff (pos 0)) (high_tell var (floor_of room coeff) ∷ [])

-- the box's bound is as tight as the told one, on that side of that variable
abbrev pub KeepsSide : Bounds → Side → ℕ → ℤ → Type 0
KeepsSide b Low v z = z ≤ℤ low_of b v
KeepsSide b High v z = high_of b v ≤ℤ z

-- a tell leaves the box as it is: its bound isn't tighter than the box's
abbrev pub Keeps : Bounds → Tell → Type 0
Keeps b t = KeepsSide b t.side t.var t.bound

-- ---- literals

-- a literal of a variable that has the value z: a positive one is true from 1 on, a negative one up to 0
abbrev pub sign_true : Bool → ℤ → Bool
sign_true true z = int_le (pos 1) z
sign_true false z = int_le z (pos 0)

abbrev pub literal_true : Lit → ℤ → Bool
literal_true l z = sign_true l.positive z

-- the literal is true for both bounds of its variable
unfoldable pub is_sure : Lit → Bounds → Bool
is_sure l b = literal_true l (low_of b l.var) && literal_true l (high_of b l.var)

-- it is false for both
unfoldable pub is_out : Lit → Bounds → Bool
is_out l b = not (literal_true l (low_of b l.var)) && not (literal_true l (high_of b l.var))

-- the tell that makes a literal of this variable true
abbrev pub sign_tell : Bool → ℕ → Tell
sign_tell true v = low_tell v (pos 1)
sign_tell false v = high_tell v (pos 0)

-- the literal is told true, or false: its opposite is told true
abbrev pub tell_true : Lit → Tell
tell_true l = sign_tell l.positive l.var

abbrev pub tell_false : Lit → Tell
tell_false l = sign_tell (not l.positive) l.var

-- ---- boxes and assignments in some variables

-- the number that an assignment gives to variable v
abbrev pub value_of : List ℤ → ℕ → ℤ
value_of numbers v = slice_index_or numbers v (pos 0)

-- the assignment of a box that is a point
abbrev pub point_of : Bounds → List ℤ
point_of b = map (λ p. p.0) b

-- some number is left for each of these variables
abbrev pub IsProperIn : List ℕ → Bounds → Type 0
IsProperIn vars b = (i : ℕ) → i < length vars → low_of b (slice_index vars i) ≤ℤ high_of b (slice_index vars i)

-- each bound of these variables is at least as tight in the inner box
pub record IsInsideIn (vars : List ℕ) (inner outer : Bounds) : Type 0 where
  pub lows : (i : ℕ) → i < length vars → low_of outer (slice_index vars i) ≤ℤ low_of inner (slice_index vars i)
  pub highs : (i : ℕ) → i < length vars → high_of inner (slice_index vars i) ≤ℤ high_of outer (slice_index vars i)

-- two boxes have the same bounds of these variables
pub record AgreeIn (vars : List ℕ) (b c : Bounds) : Type 0 where
  pub lows : (i : ℕ) → i < length vars → low_of b (slice_index vars i) ≡ low_of c (slice_index vars i)
  pub highs : (i : ℕ) → i < length vars → high_of b (slice_index vars i) ≡ high_of c (slice_index vars i)

-- two assignments give the same numbers to these variables
abbrev pub SameValuesIn : List ℕ → List ℤ → List ℤ → Type 0
SameValuesIn vars f g = (i : ℕ) → i < length vars → value_of f (slice_index vars i) ≡ value_of g (slice_index vars i)

-- each of these variables is one of the first `count`
pub record AreVariables (count : ℕ) (vars : List ℕ) : Type 0 where
  pub each : (i : ℕ) → i < length vars → slice_index vars i < count
