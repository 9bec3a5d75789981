-- Where numbers were put.
use Rattle.std.specs.Prelude.{◌≡◌, ℕ, ◌-◌, ℤ, pos, List, cond, nat_eq, int_le, Option, None, Some, slice_index_or, unsigned_abs}
use Rattle.std.specs.Option.{option_or}
use Rattle.std.specs.Ordering.{int_eq, int_cmp}
use Rattle.std.specs.BTreeMap.{get}
use Rattle.constraint_model.specs.declared.places.Places.{Places}

-- the place that is kept as one more; 0 where there is none
abbrev pub place_kept : ℕ → Option ℕ
place_kept n = cond (nat_eq n 0) None (Some (n - 1))

-- the place that a table has of a number from 0 on
abbrev pub near_at : List ℕ → ℤ → Option ℕ
near_at near n = cond (int_le (pos 0) n) (place_kept (slice_index_or near (unsigned_abs n) 0)) None

-- the place in the table, else in the map
abbrev pub found_in : Places → ℤ → Option ℕ
found_in places n = option_or (near_at places.near.items n) (get int_cmp places.far n)

-- a number was put there, others stay where they were
abbrev pub Puts : Places → ℤ → ℕ → Places → Type 0
Puts places x place more = (q : ℤ) → found_in more q ≡ cond (int_eq x q) (Some place) (found_in places q)

-- all stay where they were
abbrev pub Stays : Places → Places → Type 0
Stays places more = (q : ℤ) → found_in more q ≡ found_in places q
