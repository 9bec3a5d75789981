-- Where numbers are found, and the declared arrays whose constants are among them.
use Rattle.std.specs.Prelude.{◌≡◌, ◌<◌, ℕ, ℤ, List, length, true, Some, All, Contains, flat_map, slice_get}
use Rattle.std.specs.List.{list_any, position_or_len}
use Rattle.std.specs.Ordering.{int_eq, nat_cmp}
use Rattle.std.specs.BTreeSet.{BTreeSet, contains}
use Rattle.constraint_model.specs.declared.model.Term.{Term}
use Rattle.constraint_model.specs.declared.places.Places.{Places}
use Rattle.constraint_model.specs.Places.{found_in}
use Rattle.constraint_model.specs.Fits.{constant_of}

-- numbers in an order, and the terms of the declared arrays
pub record KnownConstants : Type 0 where
  pub numbers : List ℤ
  pub arrays : List (List Term)

-- each of the numbers is found at its first place; what else is found may be anywhere
pub record Finds (places : Places) (numbers : List ℤ) : Type 0 where
  pub at_first : (n : ℤ) → list_any (int_eq n) numbers ≡ true → found_in places n ≡ Some (position_or_len (int_eq n) numbers)

-- the constants of these terms other than 1 are among the numbers
abbrev pub HasConstants : List ℤ → List Term → Type 0
HasConstants numbers terms = All (Contains numbers) (flat_map constant_of terms)

-- the declared arrays of these places have their constants among the numbers
pub record AreCounted (numbers : List ℤ) (arrays : List (List Term)) (marked : BTreeSet ℕ) : Type 0 where
  pub inside : (n : ℕ) → contains nat_cmp marked n ≡ true → n < length arrays
  pub there : (n : ℕ) (terms : List Term) → contains nat_cmp marked n ≡ true → slice_get arrays n ≡ Some terms → HasConstants numbers terms

-- the numbers are found, and the constants of the arrays that were counted are among them
pub record AreConstants (places : Places) (numbers : List ℤ) (arrays : List (List Term)) (marked : BTreeSet ℕ) : Type 0 where
  pub found : Finds places numbers
  pub counted : AreCounted numbers arrays marked
