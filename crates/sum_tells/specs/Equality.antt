-- A linear equation with a literal: the literal is true exactly where the sum of the coefficients times the variables is
-- the limit. (FlatZinc: int_lin_eq, int_lin_ne, int_eq, int_ne, their reified forms, and int_plus.)
use Rattle.std.specs.Prelude.{◌≡◌, ℕ, ℤ, pos, ◌+ℤ◌, ◌-ℤ◌, ◌*ℤ◌, ◌↔◌, IsTrue, Bool, not, ◌&&◌, ◌||◌, List, [], ◌∷◌, ◌++◌, int_lt, int_le}
use Rattle.std.specs.List.{zip, flat_map}
use Rattle.tells.specs.declared.tell.Lit.{Lit}
use Rattle.tells.specs.declared.tell.Tell.{Tell}
use Rattle.interval.specs.Boxes.{Bounds, low_of, high_of}
use Rattle.tells.specs.Words.{low_tell, high_tell, when, literal_true, is_sure, is_out, tell_true, tell_false, value_of}
use Rattle.sum_tells.specs.Linear.{Term, sum_over, least_of, greatest_of, at_most_tell, at_least_tell, term_value}

-- two numbers are the same
abbrev pub is_same : ℤ → ℤ → Bool
is_same y z = int_le y z && int_le z y

-- the literal is told false where the limit isn't from the least to the greatest sum, true where both are the limit
abbrev pub equation_tells : Lit → ℤ → ℤ → ℤ → List Tell
equation_tells l limit least greatest =
    when (int_lt limit least || int_lt greatest limit) (tell_false l ∷ [])
    ++ when (is_same least limit && is_same greatest limit) (tell_true l ∷ [])

-- the sum is the limit: it is at most and at least the limit
abbrev pub equal_tell : Bounds → ℤ → ℤ → ℤ → Term → List Tell
equal_tell b limit least greatest t = at_most_tell b limit least t ++ at_least_tell b limit greatest t

-- the coefficient isn't 0, and times this number it is `product`
abbrev pub is_product : ℤ → ℤ → ℤ → Bool
is_product coeff z product = not (is_same coeff (pos 0)) && is_same (coeff *ℤ z) product

-- the tells of: the coefficient times the variable isn't `product`. A bound that makes it so is left out
abbrev pub low_is_not : ℕ → ℤ → ℤ → Bounds → List Tell
low_is_not var coeff product b =
    when (is_product coeff (low_of b var) product) (low_tell var (low_of b var +ℤ pos 1) ∷ [])

abbrev pub high_is_not : ℕ → ℤ → ℤ → Bounds → List Tell
high_is_not var coeff product b =
    when (is_product coeff (high_of b var) product) (high_tell var (high_of b var -ℤ pos 1) ∷ [])

abbrev pub product_is_not : ℕ → ℤ → ℤ → Bounds → List Tell
product_is_not var coeff product b = low_is_not var coeff product b ++ high_is_not var coeff product b

-- the sum isn't the limit: where all other terms are fixed, so that their least and greatest values have the same sum,
-- this one isn't what they leave of the limit
abbrev pub unequal_tell : Bounds → ℤ → ℤ → ℤ → Term → List Tell
unequal_tell b limit least greatest t =
    when (is_same (least -ℤ least_of b t) (greatest -ℤ greatest_of b t))
    (product_is_not t.1 t.0 (limit -ℤ (least -ℤ least_of b t)) b)

-- the bounds of the variables are told where the literal is sure, and where it is out
abbrev pub equal_tells : Lit → List Term → ℤ → ℤ → ℤ → Bounds → List Tell
equal_tells l terms limit least greatest b = when (is_sure l b) (flat_map (equal_tell b limit least greatest) terms)

abbrev pub unequal_tells : Lit → List Term → ℤ → ℤ → ℤ → Bounds → List Tell
unequal_tells l terms limit least greatest b = when (is_out l b) (flat_map (unequal_tell b limit least greatest) terms)

-- the tells of the equation on a box, with the sums of all least and of all greatest values
unfoldable pub eq_tells : Lit → List ℤ → List ℕ → ℤ → Bounds → List Tell
eq_tells l coeffs vars limit b =
    let terms = zip coeffs vars in
    let least = sum_over (least_of b) terms in
    let greatest = sum_over (greatest_of b) terms in
    equation_tells l limit least greatest
    ++ (equal_tells l terms limit least greatest b ++ unequal_tells l terms limit least greatest b)

-- the literal is true exactly where the sum is the limit
abbrev pub IsEquation : Lit → List ℤ → List ℕ → ℤ → List ℤ → Type 0
IsEquation l coeffs vars limit numbers =
    IsTrue (literal_true l (value_of numbers l.var)) ↔ (sum_over (term_value numbers) (zip coeffs vars) ≡ limit)
