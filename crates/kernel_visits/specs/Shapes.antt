-- Shapes: what a visit looks at first of a kernel, without its lists: a difference, an equation of three terms, a clause of two
-- or three literals, a product, the greater of two, or that it is a sum with slight coefficients.
use Rattle.std.specs.Prelude.{◌≡◌, ◌⊎◌, ℕ, ℤ, pos, negsuc, List, [], ◌∷◌, length, slice_index_or, ◌<◌}
use Rattle.interval.specs.Boxes.{Bounds}
use Rattle.guarded_tell.specs.Words.{Lit}
use Rattle.small_sums.specs.Short.{IsTermOf}
use Rattle.small_sums.specs.Slight.{AreSlight}
use Rattle.small_sums.specs.declared.pairs.Pair.{Pair}
use Rattle.guarded_tell.specs.declared.kernel.Kernel.{Kernel}
use Rattle.guarded_tell.specs.declared.kernel.Kernel.TheVariants.{Le, Eq, Times, Max, Clause}
use Rattle.kernel_visits.specs.declared.shape.Sign.{Sign}
use Rattle.kernel_visits.specs.declared.shape.Sign.TheVariants.{Plus, Minus}
use Rattle.kernel_visits.specs.declared.shape.Terms.{Terms}
use Rattle.kernel_visits.specs.declared.shape.Shape.{Shape}
use Rattle.kernel_visits.specs.declared.shape.Shape.TheVariants.{AtMost, Same, Three, Either, Triple, Product, Greatest, Slight, Other}

-- the sum of these terms is x - y
abbrev pub IsDifference : List ℤ → List ℕ → ℕ → ℕ → Type 0
IsDifference coeffs vars x y =
    ((coeffs ≡ pos 1 ∷ negsuc 0 ∷ []) × (vars ≡ x ∷ y ∷ []))
    ⊎ ((coeffs ≡ negsuc 0 ∷ pos 1 ∷ []) × (vars ≡ y ∷ x ∷ []))

-- the kernel is an inequality, or an equation, of the difference of x and y
abbrev pub IsAtMostOf : Kernel → Lit → ℕ → ℕ → ℤ → Type 0
IsAtMostOf k l x y limit = (coeffs : List ℤ) × (vars : List ℕ) × (k ≡ Le l coeffs vars limit) × IsDifference coeffs vars x y

abbrev pub IsSameOf : Kernel → Lit → ℕ → ℕ → ℤ → Type 0
IsSameOf k l x y limit = (coeffs : List ℤ) × (vars : List ℕ) × (k ≡ Eq l coeffs vars limit) × IsDifference coeffs vars x y

-- the coefficient of a variable, or of its opposite
abbrev pub unit_of : Sign → ℤ
unit_of Plus = pos 1
unit_of Minus = negsuc 0

-- the coefficients and the variables of three terms, in order
abbrev pub units_of : Terms → List ℤ
units_of t = unit_of t.x_sign ∷ unit_of t.y_sign ∷ unit_of t.z_sign ∷ []

abbrev pub places_of : Terms → List ℕ
places_of t = t.x ∷ t.y ∷ t.z ∷ []

-- the kernel is an equation of these three terms
abbrev pub IsThreeOf : Kernel → Terms → ℤ → Type 0
IsThreeOf k t limit = (l : Lit) × (k ≡ Eq l (units_of t) (places_of t) limit)

-- the kernel is an inequality or an equation of a sum with slight coefficients
abbrev pub IsSlightSum : Kernel → Type 0
IsSlightSum k = (l : Lit) × (coeffs : List ℤ) × (vars : List ℕ) × (limit : ℤ) × ((k ≡ Le l coeffs vars limit) ⊎ (k ≡ Eq l coeffs vars limit)) × AreSlight coeffs

-- which kernels a shape is of
unfoldable pub IsShapeOf : Kernel → Shape → Type 0
IsShapeOf k (AtMost l x y limit) = IsAtMostOf k l x y limit
IsShapeOf k (Same l x y limit) = IsSameOf k l x y limit
IsShapeOf k (Three t limit) = IsThreeOf k t limit
IsShapeOf k (Either l m) = k ≡ Clause (l ∷ m ∷ [])
IsShapeOf k (Triple l m n) = k ≡ Clause (l ∷ m ∷ n ∷ [])
IsShapeOf k (Product x y z) = k ≡ Times x y z
IsShapeOf k (Greatest m x y) = k ≡ Max m (x ∷ y ∷ [])
IsShapeOf k Slight = IsSlightSum k
IsShapeOf k Other = Unit {0}

-- each shape is of the kernel at its place
pub record AreShapesOf (kernels : List Kernel) (shapes : List Shape) : Type 0 where
  pub same_length : length shapes ≡ length kernels
  pub each : (i : ℕ) (k : Kernel) (s : Shape) → i < length kernels → IsShapeOf (slice_index_or kernels i k) (slice_index_or shapes i s)

-- what the two terms of a difference are at least and at most
pub record IsDifferenceIn (b : Bounds) (x y : ℕ) (p : Pair) : Type 0 where
  pub first : IsTermOf b (pos 1) x p.first
  pub second : IsTermOf b (negsuc 0) y p.second
