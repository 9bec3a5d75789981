-- A linear inequality with a literal: the literal is true exactly where the sum of the coefficients times the variables
-- is at most the limit. (FlatZinc: int_lin_le and int_lin_le_reif.)
use Rattle.std.specs.Prelude.{◌≡◌, ℕ, ℤ, pos, ◌+ℤ◌, ◌-ℤ◌, ◌*ℤ◌, ◌*◌, ◌≤◌, ◌<◌, ◌≤ℤ◌, ◌↔◌, IsTrue, List, [], ◌∷◌, ◌++◌, length, slice_index_or, int_lt, int_le}
use Rattle.std.specs.Int.{int_min, int_max}
use Rattle.std.specs.List.{zip, flat_map}
use Rattle.tells.specs.declared.tell.Lit.{Lit}
use Rattle.tells.specs.declared.tell.Tell.{Tell}
pub use Rattle.tells.specs.Words.{product_at_most, product_at_least}
use Rattle.interval.specs.Limits.{IsNumber, largest_number, bound_limit}
use Rattle.interval.specs.Boxes.{Bounds, low_of, high_of}
use Rattle.tells.specs.Words.{when, literal_true, is_sure, is_out, tell_true, tell_false, value_of}

-- a term: a coefficient and its variable
abbrev pub Term : Type 0
Term = ℤ × ℕ

-- the sum of a number for each term
unfoldable pub sum_over : (Term → ℤ) → List Term → ℤ
sum_over f [] = pos 0
sum_over f (t ∷ ts) = f t +ℤ sum_over f ts

-- a sum has at most so many terms
unfoldable pub term_limit : ℕ
term_limit = 65537

-- a product of a coefficient and a bound, and a sum of such products, lie between these and their opposites
unfoldable pub product_limit : ℕ
product_limit = largest_number * bound_limit

unfoldable pub sum_limit : ℕ
sum_limit = term_limit * product_limit

-- the least and the greatest value of a term in a box
unfoldable pub least_of : Bounds → Term → ℤ
least_of b t = int_min (t.0 *ℤ low_of b t.1) (t.0 *ℤ high_of b t.1)

unfoldable pub greatest_of : Bounds → Term → ℤ
greatest_of b t = int_max (t.0 *ℤ low_of b t.1) (t.0 *ℤ high_of b t.1)

-- the sum is at most the limit: what the least values of the other terms leave for this one. `least` is the sum of all
-- least values
abbrev pub at_most_tell : Bounds → ℤ → ℤ → Term → List Tell
at_most_tell b limit least t = product_at_most t.1 t.0 (limit -ℤ (least -ℤ least_of b t))

-- the sum is at least the limit: what the greatest values of the other terms demand of this one. `greatest` is the sum
-- of all greatest values
abbrev pub at_least_tell : Bounds → ℤ → ℤ → Term → List Tell
at_least_tell b limit greatest t = product_at_least t.1 t.0 (limit -ℤ (greatest -ℤ greatest_of b t))

-- the sum is more than the limit
abbrev pub more_than_tell : Bounds → ℤ → ℤ → Term → List Tell
more_than_tell b limit greatest t = at_least_tell b (limit +ℤ pos 1) greatest t

-- the literal is told true where the greatest sum is within the limit, false where the least isn't
abbrev pub literal_tells : Lit → ℤ → ℤ → ℤ → List Tell
literal_tells l limit least greatest =
    when (int_le greatest limit) (tell_true l ∷ []) ++ when (int_lt limit least) (tell_false l ∷ [])

-- the bounds of the variables are told where the literal is sure, and where it is out
abbrev pub sure_tells : Lit → List Term → ℤ → ℤ → Bounds → List Tell
sure_tells l terms limit least b = when (is_sure l b) (flat_map (at_most_tell b limit least) terms)

abbrev pub out_tells : Lit → List Term → ℤ → ℤ → Bounds → List Tell
out_tells l terms limit greatest b = when (is_out l b) (flat_map (more_than_tell b limit greatest) terms)

abbrev pub bound_tells : Lit → List Term → ℤ → ℤ → ℤ → Bounds → List Tell
bound_tells l terms limit least greatest b = sure_tells l terms limit least b ++ out_tells l terms limit greatest b

-- the tells of the inequality on a box, with the sums of all least and of all greatest values
abbrev pub at_most_tells : Lit → List ℤ → List ℕ → ℤ → Bounds → List Tell
at_most_tells l coeffs vars limit b =
    let terms = zip coeffs vars in
    let least = sum_over (least_of b) terms in
    let greatest = sum_over (greatest_of b) terms in
    literal_tells l limit least greatest ++ bound_tells l terms limit least greatest b

-- the value of a term
abbrev pub term_value : List ℤ → Term → ℤ
term_value numbers t = t.0 *ℤ value_of numbers t.1

-- the literal is true exactly where the sum is at most the limit
abbrev pub IsAtMost : Lit → List ℤ → List ℕ → ℤ → List ℤ → Type 0
IsAtMost l coeffs vars limit numbers =
    IsTrue (literal_true l (value_of numbers l.var)) ↔ (sum_over (term_value numbers) (zip coeffs vars) ≤ℤ limit)

-- as many coefficients as variables, not too many, each a number of a model, and so is the limit
pub record IsLinear (coeffs : List ℤ) (vars : List ℕ) (limit : ℤ) : Type 0 where
  pub same_length : length coeffs ≡ length vars
  pub short : length coeffs ≤ term_limit
  pub coefficients : (i : ℕ) → i < length coeffs → IsNumber (slice_index_or coeffs i (pos 0))
  pub limit_in_range : IsNumber limit
