-- Which numbers a kernel removes on a box: for each place that it looks at a variable, and a test of the numbers that
-- this variable can't have. The test has what the box must say for it, so that the places are the same on every box.
use Rattle.std.specs.Prelude.{ℕ, ℤ, pos, ◌-ℤ◌, Bool, not, ◌&&◌, ◌||◌, List, [], ◌∷◌, map}
use Rattle.std.specs.Ordering.{int_eq}
use Rattle.std.specs.List.{zip, list_any}
use Rattle.tells.specs.declared.tell.Lit.{Lit}
use Rattle.interval.specs.Boxes.{Bounds}
use Rattle.guarded_tell.specs.declared.kernel.Kernel.{Kernel}
use Rattle.guarded_tell.specs.declared.kernel.Kernel.TheVariants.{Le, Eq, Times, Div, Mod, Abs, Max, Min, Clause, Element, InSet, AllDiff, Cumulative}
use Rattle.guarded_tell.specs.Words.{is_sure, is_out}
use Rattle.sum_tells.specs.Linear.{Term, sum_over, least_of, greatest_of}
use Rattle.sum_tells.specs.Equality.{is_same, is_product}
use Rattle.element_tells.specs.Element.{places_of, can_equal}
use Rattle.set_tells.specs.InSet.{has_number}

-- a variable, and which numbers it can't have
pub record Removal : Type 0 where
  pub var : ℕ
  pub test : ℤ → Bool

-- all other terms of a sum are fixed, so that their least and greatest values have the same sum, and with this number the
-- term makes the whole sum the limit
unfoldable pub makes_limit : Bounds → ℤ → ℤ → ℤ → Term → ℤ → Bool
makes_limit b limit least greatest t z =
    is_same (least -ℤ least_of b t) (greatest -ℤ greatest_of b t) && is_product t.0 z (limit -ℤ (least -ℤ least_of b t))

-- where the literal of an equation is out, no term makes the sum the limit
abbrev pub term_removal : Lit → ℤ → ℤ → ℤ → Bounds → Term → Removal
term_removal l limit least greatest b t =
    record { var = t.1; test = λ z. is_out l b && makes_limit b limit least greatest t z }

-- the removals of an equation, with the sums of all least and of all greatest values
abbrev pub equation_removals : Lit → List Term → ℤ → Bounds → List Removal
equation_removals l terms limit b =
    map (term_removal l limit (sum_over (least_of b) terms) (sum_over (greatest_of b) terms) b) terms

-- the number is outside the set where the literal is sure, or in the set where the literal is out
unfoldable pub is_against_set : Lit → List (ℤ × ℤ) → Bounds → ℤ → Bool
is_against_set l ranges b z =
    (is_sure l b && not (list_any (has_number z) ranges)) || (is_out l b && list_any (has_number z) ranges)

abbrev pub set_removal : Lit → ℕ → List (ℤ × ℤ) → Bounds → Removal
set_removal l x ranges b = record { var = x; test = is_against_set l ranges b }

-- z is a place whose variable can't equal c
unfoldable pub is_place_apart : List ℕ → ℕ → Bounds → ℤ → Bool
is_place_apart entries c b z = list_any (λ p. int_eq z (pos p.0) && not (can_equal p.1 c b)) (places_of entries)

abbrev pub place_removal : ℕ → List ℕ → ℕ → Bounds → Removal
place_removal x entries c b = record { var = x; test = is_place_apart entries c b }

-- the removals of a kernel on a box that is proper in the kernel's variables
unfoldable pub removals : Kernel → Bounds → List Removal
removals (Le l coeffs vars limit) b = []
removals (Eq l coeffs vars limit) b = equation_removals l (zip coeffs vars) limit b
removals (Times x y z) b = []
removals (Div x y z) b = []
removals (Mod x y z) b = []
removals (Abs x y) b = []
removals (Max m xs) b = []
removals (Min m xs) b = []
removals (Clause lits) b = []
removals (Element x entries c) b = place_removal x entries c b ∷ []
removals (InSet l x ranges) b = set_removal l x ranges b ∷ []
removals (AllDiff xs) b = []
removals (Cumulative starts durations usages limit) b = []
