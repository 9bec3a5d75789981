-- What the numbers and variables of small sums have to meet.
use Rattle.std.specs.Prelude.{ℕ, ℤ, Bool, List, nat_lt, unsigned_abs}
use Rattle.std.specs.List.{list_all}

abbrev pub is_small : ℤ → Bool
is_small z = nat_lt (unsigned_abs z) 15

abbrev pub are_small : List ℤ → Bool
are_small zs = list_all is_small zs

abbrev pub are_below_four : List ℕ → Bool
are_below_four vs = list_all (λ v. nat_lt v 4) vs
