-- The made model of a number of variables: a planning text in which each of `n` times is at most 9n, and 4n orders ask that
-- one time is later than another by at least a gap. Its draws come from a generator of numbers, so that the text depends on
-- `n` alone.
use Rattle.std.specs.Prelude.{ℕ, ℤ, ◌+◌, ◌*◌, ◌%◌, ◌==◌, zero, suc, min, max, List, [], ◌∷◌, ◌++◌, map, flat_map, Option, Some, None, codes, if◌then◌else◌}
use Rattle.std.specs.Fmt.{decimal, signed_decimal}
use Rattle.std.specs.List.{range_with_len}
use Rattle.made_model.specs.declared.draws.Order.{Order}

-- ---- the draws

-- the number after t
abbrev pub next_draw : ℕ → ℕ
next_draw t = (75 * t) % 65537

-- the k-th draw, counted from 1; what stands before the first is n + 1
unfoldable pub draw : ℕ → ℕ → ℕ
draw n zero = n + 1
draw n (suc k) = next_draw (draw n k)

-- ---- the orders

-- the variables, counted from 0, that two draws name: two that differ
abbrev pub one_of_two : ℕ → ℕ → ℕ
one_of_two n p = p % n

abbrev pub other_of_two : ℕ → ℕ → ℕ → ℕ
other_of_two n p q = if q % n == p % n then (p % n + 1) % n else q % n

-- the order that three draws make: the variable that comes first and the one after it, both counted from 1, and the least
-- gap between them
abbrev pub order_of_draws : ℕ → ℕ → ℕ → ℕ → Order
order_of_draws n p q d = record {
  first = min (one_of_two n p) (other_of_two n p q) + 1;
  second = max (one_of_two n p) (other_of_two n p q) + 1;
  gap = 1 + d % 9;
}

-- the order with this number, counted from 0: it takes the next three draws
abbrev pub order : ℕ → ℕ → Order
order n j = order_of_draws n (draw n (3 * j + 1)) (draw n (3 * j + 2)) (draw n (3 * j + 3))

-- ---- the text

abbrev pub line_end : List ℕ
line_end = 10 ∷ []

-- a variable, by its number
abbrev pub variable_name : ℕ → List ℕ
variable_name i = codes "x" ++ decimal i

-- `var 0..U: xi;`
abbrev pub variable_line : ℕ → ℕ → List ℕ
variable_line n i = codes "var 0.." ++ decimal (9 * n) ++ codes ": " ++ variable_name i ++ codes ";" ++ line_end

-- `xA,xB`
unfoldable pub pair_text : Order → List ℕ
pair_text o = variable_name o.first ++ codes "," ++ variable_name o.second

-- `constraint int_lin_le([1,-1],[xA,xB],-D);`
abbrev pub order_line : Order → List ℕ
order_line o =
    codes "constraint int_lin_le([1,-1],[" ++ pair_text o ++ codes "],-" ++ decimal o.gap ++ codes ");" ++ line_end

-- `solve minimize xN;`
abbrev pub goal_line : ℕ → List ℕ
goal_line n = codes "solve minimize " ++ variable_name n ++ codes ";" ++ line_end

-- the text: the variables 1 to n, the 4n orders, and what is minimized
abbrev pub made : ℕ → List ℕ
made n = flat_map (variable_line n) (range_with_len 1 n) ++ flat_map (λ j. order_line (order n j)) (range_with_len 0 (4 * n)) ++ goal_line n

-- ---- what is written of it

-- the least time of the last variable, where it is known
abbrev pub objective_text : Option ℤ → List ℕ
objective_text (Some m) = signed_decimal m
objective_text None = codes "unknown"

-- `variables N kernels 4N objective M`
abbrev pub summary : ℕ → Option ℤ → List ℕ
summary n objective =
    codes "variables " ++ decimal n ++ codes " kernels " ++ decimal (4 * n) ++ codes " objective " ++ objective_text objective ++ line_end
