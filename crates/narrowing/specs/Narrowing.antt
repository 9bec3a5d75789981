-- What becomes of a box that is narrowed by propagation with a limit on its rounds.
use Rattle.std.specs.Prelude.{◌≡◌, ◌≢◌, ◌≤◌, ◌+◌, ◌↔◌, ℕ, List}
use Rattle.interval.specs.Boxes.{Bounds, IsInside, IsProper, IsCrossed, width_sum_of}
use Rattle.guarded_tell.specs.declared.kernel.Kernel.{Kernel}
use Rattle.fixpoint_laws.specs.Fixpoints.{IsClosed, IsGreatest, Fails}
use Rattle.fixpoint_laws.specs.OneRound.{LeadsIn}
use Rattle.moved_fixpoint.specs.Sweeps.{SpendsSweeps}
use Rattle.narrowing.specs.declared.narrowed.Narrowed.{Narrowed}

-- propagation of a box may be given up: as many rounds as the limit lead from it to a proper box that holds every closed box
-- inside it
pub record MayGiveUp (kernels : List Kernel) (round_limit : ℕ) (b : Bounds) : Type 0 where
  pub limited : round_limit ≢ 0
  pub into : Bounds
  pub leads : LeadsIn kernels round_limit b into
  pub proper : IsProper into
  pub holds : (c : Bounds) → IsClosed c kernels → IsInside c b → IsInside c into

-- how many rounds the propagation of a box takes: none exactly where it is crossed; else one more than the sum of its
-- widths at most; and at most as many as the limit, where 0 is none
pub record AreFew (round_limit : ℕ) (before : Bounds) (rounds : ℕ) : Type 0 where
  pub at_once : (rounds ≡ 0) ↔ IsCrossed before
  pub few : IsProper before → rounds ≤ width_sum_of before + 1
  pub within : round_limit ≢ 0 → rounds ≤ round_limit

-- the box after propagation by so many rounds: the greatest closed one, which took one round exactly where it was closed
-- before; or there is none; or its propagation was given up after as many rounds as the limit
abbrev pub IsNarrowed : List Kernel → ℕ → Bounds → Bounds → Narrowed → Type 0
IsNarrowed kernels round_limit before after (Narrowed.Fixed rounds) =
    IsGreatest after before kernels × ((rounds ≡ 1) ↔ IsClosed before kernels) × AreFew round_limit before rounds
IsNarrowed kernels round_limit before after (Narrowed.Failed rounds) = Fails before kernels × AreFew round_limit before rounds
IsNarrowed kernels round_limit before after (Narrowed.GivenUp rounds) =
    MayGiveUp kernels round_limit before × (rounds ≡ round_limit) × AreFew round_limit before rounds

-- with one lane it was given up exactly where as many sweeps as the limit each move the box
abbrev pub IsNarrowedAlone : List Kernel → ℕ → Bounds → Narrowed → Type 0
IsNarrowedAlone kernels round_limit before (Narrowed.Fixed rounds) = SpendsSweeps kernels round_limit before → ⊥
IsNarrowedAlone kernels round_limit before (Narrowed.Failed rounds) = SpendsSweeps kernels round_limit before → ⊥
IsNarrowedAlone kernels round_limit before (Narrowed.GivenUp rounds) = SpendsSweeps kernels round_limit before
