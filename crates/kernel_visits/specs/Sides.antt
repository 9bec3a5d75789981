-- Which bounds of its variables a kernel reads, where it is one-sided: whether it narrows nothing depends on these alone.
use Rattle.std.specs.Prelude.{◌≡◌, ◌==◌, ◌&&◌, ◌<◌, ℕ, ℤ, pos, Bool, true, false, List, [], ◌∷◌, length, map, cond, slice_index, slice_index_or, int_lt}
use Rattle.std.specs.List.{All}
use Rattle.interval.specs.Boxes.{Bounds, low_of, high_of, IsInside}
use Rattle.guarded_tell.specs.declared.kernel.Kernel.{Kernel}
use Rattle.guarded_tell.specs.declared.kernel.Kernel.TheVariants.{Le, Eq, Times, Div, Mod, Abs, Max, Min, Clause, Element, InSet, AllDiff, Cumulative}
use Rattle.guarded_tell.specs.Words.{Lit, Side, Low, High, Keeps, IsProperIn}
use Rattle.guarded_tell.specs.Kernels.{vars_of, tells, IsClosedUnder}

-- the bound that makes a term with this coefficient least
abbrev pub side_of_term : ℤ → Side
side_of_term coeff = cond (int_lt coeff (pos 0)) High Low

-- the bound that says whether the literal is false for both
abbrev pub side_of_literal : Lit → Side
side_of_literal l = cond l.positive High Low

-- the bound that says whether it is true for both
abbrev pub side_of_sure : Lit → Side
side_of_sure l = cond l.positive Low High

-- the bound that a kernel reads of each of its variables, where it is one-sided; of those behind the list neither
unfoldable pub sides_of : Kernel → List Side
sides_of (Le l coeffs vars limit) = side_of_sure l ∷ map side_of_term coeffs
sides_of (Eq l coeffs vars limit) = []
sides_of (Times x y z) = []
sides_of (Div x y z) = []
sides_of (Mod x y z) = []
sides_of (Abs x y) = []
sides_of (Max m xs) = []
sides_of (Min m xs) = []
sides_of (Clause lits) = map side_of_literal lits
sides_of (Element x entries c) = []
sides_of (InSet l x ranges) = []
sides_of (AllDiff xs) = []
sides_of (Cumulative starts durations usages limit) = []

-- both boxes have the same bound of variable v on this side
abbrev pub SameSide : Side → Bounds → Bounds → ℕ → Type 0
SameSide Low b c v = low_of b v ≡ low_of c v
SameSide High b c v = high_of b v ≡ high_of c v

-- the kernel reads this bound of the variable that it names at a place
abbrev pub Reads : Kernel → ℕ → Side → Type 0
Reads k place side = (place < length (sides_of k)) × (slice_index_or (sides_of k) place side ≡ side)

-- both boxes agree in the bounds that the kernel reads
abbrev pub AgreeInRead : Kernel → Bounds → Bounds → Type 0
AgreeInRead k b c = (i : ℕ) (side : Side) → i < length (vars_of k) → Reads k i side → SameSide side b c (slice_index (vars_of k) i)

-- where two boxes agree in the bounds that the kernel reads, and the inner one, which is inside this box, keeps what the kernel
-- tells the outer one, the kernel doesn't narrow the inner one
abbrev pub IsOneSided : Kernel → Bounds → Type 0
IsOneSided k b = (outer inner : Bounds) → IsInside inner b → IsInside inner outer → IsProperIn (vars_of k) inner →
    AgreeInRead k outer inner → All (Keeps inner) (tells k outer) → IsClosedUnder k inner

-- the kernel is one-sided wherever the first variable is at least 1: a clause is, and an inequality that has to hold there
unfoldable pub is_sided : Kernel → Bool
is_sided (Le l coeffs vars limit) = (l.var == 0) && l.positive
is_sided (Eq l coeffs vars limit) = false
is_sided (Times x y z) = false
is_sided (Div x y z) = false
is_sided (Mod x y z) = false
is_sided (Abs x y) = false
is_sided (Max m xs) = false
is_sided (Min m xs) = false
is_sided (Clause lits) = true
is_sided (Element x entries c) = false
is_sided (InSet l x ranges) = false
is_sided (AllDiff xs) = false
is_sided (Cumulative starts durations usages limit) = false
