-- Rounds, and how propagation ends.
use Rattle.std.specs.Prelude.{ℕ, ◌≡◌, ◌≢◌, ◌+◌, ◌≤◌, ◌↔◌, List, Bool, true, false}
use Rattle.std.specs.List.{All}
use Rattle.interval.specs.Boxes.{Bounds, IsInside, IsProper, IsCrossed, width_sum_of}
use Rattle.guarded_tell.specs.declared.kernel.Kernel.{Kernel}
use Rattle.fixpoint_laws.specs.Fixpoints.{IsClosed, IsGreatest, Fails}
use Rattle.fixpoint_laws.specs.OneRound.{LeadsIn}
use Rattle.fixpoint_laws.specs.declared.limited.Limited.{Limited}
use Rattle.fixpoint_laws.specs.declared.limited.Limited.TheVariants.{Fixed, Failed, RoundsSpent}
use Rattle.rounds.specs.Shares.{WasHeard}

-- a round led from what all lanes had seen to what they have seen, and the mark says whether some lane saw a bound move
pub record IsRound (kernels : List Kernel) (before after : Bounds) (mark : Bool) : Type 0 where
  pub inside : IsInside after before
  pub still : mark ≡ false → after ≡ before
  pub moves : mark ≡ true → after ≢ before
  pub heard : All (WasHeard before after) kernels

-- so many rounds led from the start to the greatest closed box inside it
pub record HasFixed (kernels : List Kernel) (start after : Bounds) (rounds : ℕ) : Type 0 where
  pub greatest : IsGreatest after start kernels
  pub at_once : (rounds ≡ 0) ↔ IsCrossed start
  pub in_one_round : (rounds ≡ 1) ↔ IsClosed start kernels
  pub unmoved : rounds ≡ 1 → after ≡ start
  pub fixed_rounds : rounds + width_sum_of after ≤ width_sum_of start + 1

-- no closed box is inside the start, which took so many rounds to find out
pub record HasFailed (kernels : List Kernel) (start : Bounds) (rounds : ℕ) : Type 0 where
  pub fails : Fails start kernels
  pub at_once : (rounds ≡ 0) ↔ IsCrossed start
  pub rounds_are : IsProper start → rounds ≤ width_sum_of start + 1

-- As many rounds as the limit led from the start to a box that holds every closed box inside the start. Each made the
-- widths fall, so no limit above the start's widths is spent
pub record HasSpent (kernels : List Kernel) (start after : Bounds) (limit rounds : ℕ) : Type 0 where
  pub limited : limit ≢ 0
  pub all : rounds ≡ limit
  pub proper : IsProper after
  pub holds : (c : Bounds) → IsClosed c kernels → IsInside c start → IsInside c after
  pub leads : LeadsIn kernels rounds start after
  pub widths : limit + width_sum_of after ≤ width_sum_of start

-- no more rounds than the limit. Limit 0 is none
abbrev pub IsWithin : ℕ → ℕ → Type 0
IsWithin limit rounds = limit ≢ 0 → rounds ≤ limit

-- how propagation with a limit on its rounds ended, and in which box
abbrev pub HasEnded : List Kernel → Bounds → Bounds → ℕ → Limited → Type 0
HasEnded kernels start after limit (Fixed rounds) = HasFixed kernels start after rounds × IsWithin limit rounds
HasEnded kernels start after limit (Failed rounds) = HasFailed kernels start rounds × IsCrossed after × IsWithin limit rounds
HasEnded kernels start after limit (RoundsSpent rounds) = HasSpent kernels start after limit rounds
