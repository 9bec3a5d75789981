-- What is seen of the sums of a kernel's terms, and how long it rests then.
use Rattle.std.specs.Prelude.{◌≡◌, ◌⊎◌, ℤ, true, ◌≤ℤ◌, ◌<ℤ◌}
use Rattle.interval.specs.Boxes.{Bounds}
use Rattle.tells.specs.declared.tell.Lit.{Lit}
use Rattle.small_sums.specs.declared.short.Sums.{Sums}
use Rattle.kernel_visits.specs.declared.resting.Rest.{Rest}
use Rattle.kernel_visits.specs.declared.resting.Rest.TheVariants.{Awake, UntilFixed, ForGood}
use Rattle.guarded_tell.specs.Words.{is_sure, is_out}

-- the literal is sure and the greatest sum at most the limit, or it is out and the least sum above the limit: so it stays,
-- whatever the terms' numbers become
abbrev pub IsSumSettled : Bounds → Lit → ℤ → Sums → Type 0
IsSumSettled b l limit s = ((is_sure l b ≡ true) × (s.greatest ≤ℤ limit)) ⊎ ((is_out l b ≡ true) × (limit <ℤ s.least))

-- the sum must not be the limit, and can't be
abbrev pub IsSumApart : Bounds → Lit → ℤ → Sums → Type 0
IsSumApart b l limit s = (is_out l b ≡ true) × ((limit <ℤ s.least) ⊎ (s.greatest <ℤ limit))

-- the sum has to be the limit, and is
abbrev pub IsSumFixed : Bounds → Lit → ℤ → Sums → Type 0
IsSumFixed b l limit s = (is_sure l b ≡ true) × (limit ≤ℤ s.least) × (s.greatest ≤ℤ limit)

-- an inequality rests so long, by its sums
abbrev pub IsAtMostSumFor : Bounds → Lit → ℤ → Sums → Rest → Type 0
IsAtMostSumFor b l limit s Awake = Unit {0}
IsAtMostSumFor b l limit s UntilFixed = ⊥
IsAtMostSumFor b l limit s ForGood = IsSumSettled b l limit s

-- an equation rests so long
abbrev pub IsEquationSumFor : Bounds → Lit → ℤ → Sums → Rest → Type 0
IsEquationSumFor b l limit s Awake = Unit {0}
IsEquationSumFor b l limit s UntilFixed = ⊥
IsEquationSumFor b l limit s ForGood = IsSumApart b l limit s ⊎ IsSumFixed b l limit s
