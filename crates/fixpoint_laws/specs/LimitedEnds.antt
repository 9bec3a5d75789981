-- How propagation with a limit on its rounds ends.
use Rattle.std.specs.Prelude.{ℕ}
use Rattle.fixpoint_laws.specs.declared.limited.Limited.{Limited}
use Rattle.fixpoint_laws.specs.declared.limited.Limited.TheVariants.{Fixed, Failed, RoundsSpent}

-- p holds of the rounds, if the answer is Fixed
abbrev pub IfFixedIn : Limited → (ℕ → Type 0) → Type 0
IfFixedIn (Fixed rounds) p = p rounds
IfFixedIn (Failed rounds) p = Unit {0}
IfFixedIn (RoundsSpent rounds) p = Unit {0}

-- p holds of the rounds, if the answer is Failed
abbrev pub IfFailedIn : Limited → (ℕ → Type 0) → Type 0
IfFailedIn (Fixed rounds) p = Unit {0}
IfFailedIn (Failed rounds) p = p rounds
IfFailedIn (RoundsSpent rounds) p = Unit {0}

-- p holds of the rounds, if the answer is RoundsSpent
abbrev pub IfSpent : Limited → (ℕ → Type 0) → Type 0
IfSpent (Fixed rounds) p = Unit {0}
IfSpent (Failed rounds) p = Unit {0}
IfSpent (RoundsSpent rounds) p = p rounds

-- how many rounds were run
abbrev pub rounds_run : Limited → ℕ
rounds_run (Fixed rounds) = rounds
rounds_run (Failed rounds) = rounds
rounds_run (RoundsSpent rounds) = rounds
