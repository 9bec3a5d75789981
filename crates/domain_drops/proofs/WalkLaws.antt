-- The numbers of a set, from the least one on.
use Rattle.std.proofs.Common.{◌≡◌, ◌<◌, ℕ, ℤ, pos, ◌+ℤ◌, Bool, List, [], ◌∷◌, ◌++◌, map, ◌∙◌, refl, ap, arith, w64, to_z, of_z, FitsSigned}
use Rattle.std.proofs.lemmas.Int.{ints}
use Rattle.std.proofs.lemmas.Nat.Bits.{bit_at-lt}
use Rattle.std.specs.Int.{bit_at}
use Rattle.std.specs.List.{filter}
use Rattle.interval.specs.Limits.{IsBound, bound_limit, largest_number}
use Rattle.bit_domain.specs.Bits.{members, IsSubset}
use Rattle.bit_domain.specs.Mixes.{values_from}
use Rattle.domain_drops.specs.Hearing.{Drop, drop_when}
use Rattle.domain_drops.proofs.HearingLaws.{drop_split}

pub no_members : members 0 ≡ []
unfolding members
no_members = refl

-- each number of the set over the base is within the range
abbrev pub HasBounds : ℤ → ℕ → Type 0
HasBounds base set = (i : ℕ) → bit_at set i ≡ 1 → IsBound (base +ℤ pos i)

pub bounds_below : (base : ℤ) (inner outer : ℕ) → IsSubset inner outer → HasBounds base outer → HasBounds base inner
bounds_below base inner outer subset bounds i one = let le = subset i in let small = bit_at-lt outer i in bounds i (omega arith)

-- a number of a set is read in 64 bits as it is
pub coded_member : (base : ℤ) (i : ℕ) → IsBound base → i < 64 → to_z w64 (of_z w64 (to_z w64 (of_z w64 base) +ℤ to_z w64 i)) ≡ to_z w64 (of_z w64 base) +ℤ pos i
unfolding bound_limit largest_number
coded_member base i bound small = omega (arith, ints)

pub coded_base : (base : ℤ) → IsBound base → to_z w64 (of_z w64 base) ≡ base
unfolding bound_limit largest_number
coded_base base bound = omega (arith, ints)

-- what is dropped of a set
abbrev pub dropped_of : ℕ → (ℤ → Bool) → ℤ → ℕ → List Drop
dropped_of var test base set = map (λ z. (var, z)) (filter test (values_from base set))

pub dropped_step : (var : ℕ) (test : ℤ → Bool) (base : ℤ) (set rest i : ℕ) → members set ≡ i ∷ members rest
    → dropped_of var test base set ≡ drop_when (test (base +ℤ pos i)) (var, base +ℤ pos i) ++ dropped_of var test base rest
dropped_step var test base set rest i e =
    ap (λ (xs : List ℕ). map (λ z. (var, z)) (filter test (map (λ j. base +ℤ pos j) xs))) e
    ∙ drop_split (λ z. (var, z)) (test (base +ℤ pos i)) (base +ℤ pos i) (filter test (values_from base rest))

pub dropped_none : (var : ℕ) (test : ℤ → Bool) (base : ℤ) (set : ℕ) → set ≡ 0 → dropped_of var test base set ≡ []
dropped_none var test base set e =
    ap (λ (n : ℕ). dropped_of var test base n) e
    ∙ ap (λ (xs : List ℕ). map (λ z. (var, z)) (filter test (map (λ j. base +ℤ pos j) xs))) no_members

pub member_fits : (base : ℤ) (i : ℕ) → IsBound base → i < 64 → FitsSigned w64 (to_z w64 (of_z w64 base) +ℤ to_z w64 i)
unfolding bound_limit largest_number
member_fits base i bound small = omega (arith, ints)
