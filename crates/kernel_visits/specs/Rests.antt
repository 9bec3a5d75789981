-- How long a kernel needs no visit.
use Rattle.std.specs.Prelude.{ℕ, ℤ, ◌≡◌, ◌⊎◌, ◌+ℤ◌, ◌≤ℤ◌, ◌<ℤ◌, ◌<◌, true, false, List, length, slice_index_or}
use Rattle.std.specs.List.{All}
use Rattle.interval.specs.Boxes.{Bounds, low_of, high_of, IsInside}
use Rattle.guarded_tell.specs.declared.kernel.Kernel.{Kernel}
use Rattle.kernel_visits.specs.declared.resting.Rest.{Rest}
use Rattle.kernel_visits.specs.declared.resting.Rest.TheVariants.{Awake, UntilFixed, ForGood}
use Rattle.tells.specs.declared.tell.Lit.{Lit}
use Rattle.small_sums.specs.declared.pairs.Pair.{Pair}
use Rattle.guarded_tell.specs.Words.{Keeps, IsProperIn, is_sure, is_out}
use Rattle.kernel_visits.specs.Open.{AreTwoOpen}
use Rattle.small_sums.specs.Short.{IsPairAtMostQuiet, IsPairUnequalQuiet, IsPairEquationQuiet}
use Rattle.guarded_tell.specs.Kernels.{vars_of, tells, IsClosedUnder}

-- the variable has one number left
abbrev pub IsFixedAt : Bounds → ℕ → Type 0
IsFixedAt b v = low_of b v ≡ high_of b v

-- of these variables, those that are fixed in the inner box are fixed in the outer one too
abbrev pub FixesNoOther : List ℕ → Bounds → Bounds → Type 0
FixesNoOther vars outer inner = All (λ v. IsFixedAt inner v → IsFixedAt outer v) vars

-- the kernel narrows no box inside this one that is proper in the kernel's variables
abbrev pub IsEntailed : Kernel → Bounds → Type 0
IsEntailed k b = (c : Bounds) → IsInside c b → IsProperIn (vars_of k) c → IsClosedUnder k c

-- it narrows no such box in which only those of its variables are fixed that are fixed in this one
abbrev pub IsQuietUntilFixed : Kernel → Bounds → Type 0
IsQuietUntilFixed k b = (c : Bounds) → IsInside c b → IsProperIn (vars_of k) c → FixesNoOther (vars_of k) b c → IsClosedUnder k c

-- the kernel rests so long
abbrev pub IsRest : Kernel → Bounds → Rest → Type 0
IsRest k b Awake = Unit {0}
IsRest k b UntilFixed = IsQuietUntilFixed k b
IsRest k b ForGood = IsEntailed k b

-- the kernel narrows nothing of the box, and rests so long from there
pub record IsQuietFor (k : Kernel) (b : Bounds) (r : Rest) : Type 0 where
  pub kept : All (Keeps b) (tells k b)
  pub rest : IsRest k b r

-- ---- what is seen of the sum of two terms

-- the literal is sure and the greatest sum at most the limit, or it is out and the least sum above the limit: so it stays,
-- whatever the terms' numbers become
abbrev pub IsAtMostSettled : Bounds → Lit → ℤ → Pair → Type 0
IsAtMostSettled b l limit p =
    ((is_sure l b ≡ true) × ((p.first.greatest +ℤ p.second.greatest) ≤ℤ limit))
    ⊎ ((is_out l b ≡ true) × (limit <ℤ (p.first.least +ℤ p.second.least)))

-- the sum must not be the limit, and can't be
abbrev pub IsNeverSame : Bounds → Lit → ℤ → Pair → Type 0
IsNeverSame b l limit p =
    (is_out l b ≡ true) × ((limit <ℤ (p.first.least +ℤ p.second.least)) ⊎ ((p.first.greatest +ℤ p.second.greatest) <ℤ limit))

-- the sum must not be the limit, and neither term is fixed
abbrev pub IsOpenUnequal : Bounds → Lit → Pair → Type 0
IsOpenUnequal b l p = (is_out l b ≡ true) × (p.first.least <ℤ p.first.greatest) × (p.second.least <ℤ p.second.greatest)

-- the literal at a place is sure
abbrev pub IsSureAt : List Lit → ℕ → Bounds → Type 0
IsSureAt lits place b = (place < length lits) × ((d : Lit) → is_sure (slice_index_or lits place d) b ≡ true)

-- ---- by what is seen that a kernel narrows nothing, and rests so long

-- an inequality of two terms
abbrev pub IsAtMostFor : Bounds → Lit → ℤ → Pair → Rest → Type 0
IsAtMostFor b l limit p Awake = IsPairAtMostQuiet b l limit p
IsAtMostFor b l limit p UntilFixed = ⊥
IsAtMostFor b l limit p ForGood = IsAtMostSettled b l limit p

-- an equation of two terms
abbrev pub IsSameFor : Bounds → Lit → ℤ → Pair → Rest → Type 0
IsSameFor b l limit p Awake = IsPairEquationQuiet b l limit p
IsSameFor b l limit p UntilFixed = IsOpenUnequal b l p
IsSameFor b l limit p ForGood = IsNeverSame b l limit p

-- a sum of two terms that must not be the limit
abbrev pub IsUnequalFor : ℤ → Pair → Rest → Type 0
IsUnequalFor limit p Awake = IsPairUnequalQuiet limit p
IsUnequalFor limit p UntilFixed = (p.first.least <ℤ p.first.greatest) × (p.second.least <ℤ p.second.greatest)
IsUnequalFor limit p ForGood = (limit <ℤ (p.first.least +ℤ p.second.least)) ⊎ ((p.first.greatest +ℤ p.second.greatest) <ℤ limit)

-- a clause of two literals
abbrev pub IsEitherFor : Lit → Lit → Bounds → Rest → Type 0
IsEitherFor l m b Awake = (is_out l b ≡ false) × (is_out m b ≡ false)
IsEitherFor l m b UntilFixed = ⊥
IsEitherFor l m b ForGood = (is_sure l b ≡ true) ⊎ (is_sure m b ≡ true)

-- two of three literals aren't out
abbrev pub AreTwoLeft : Lit → Lit → Lit → Bounds → Type 0
AreTwoLeft l m n b =
    ((is_out l b ≡ false) × (is_out m b ≡ false)) ⊎ (((is_out l b ≡ false) × (is_out n b ≡ false)) ⊎ ((is_out m b ≡ false) × (is_out n b ≡ false)))

-- a clause of three literals
abbrev pub IsTripleFor : Lit → Lit → Lit → Bounds → Rest → Type 0
IsTripleFor l m n b Awake = AreTwoLeft l m n b
IsTripleFor l m n b UntilFixed = ⊥
IsTripleFor l m n b ForGood = (is_sure l b ≡ true) ⊎ ((is_sure m b ≡ true) ⊎ (is_sure n b ≡ true))

-- ---- by places of a list

-- a clause rests so long, by the literal at a place
abbrev pub IsClauseFor : List Lit → ℕ → Bounds → Rest → Type 0
IsClauseFor lits place b Awake = Unit {0}
IsClauseFor lits place b UntilFixed = ⊥
IsClauseFor lits place b ForGood = IsSureAt lits place b

-- the sum must not be the limit, and two terms aren't fixed
abbrev pub IsOpenSum : Bounds → Lit → List ℤ → List ℕ → Type 0
IsOpenSum b l coeffs vars = (is_out l b ≡ true) × AreTwoOpen b coeffs vars
