-- Rounds over mixes, and how propagation ends.
use Rattle.std.specs.Prelude.{ℕ, ◌≡◌, ◌≢◌, ◌+◌, ◌≤◌, ◌↔◌, List, Bool, true, false}
use Rattle.std.specs.List.{All}
use Rattle.interval.specs.Boxes.{IsProper, IsCrossed}
use Rattle.guarded_tell.specs.declared.kernel.Kernel.{Kernel}
use Rattle.bit_domain.specs.Mixes.{Mix, hull, IsInsideMix}
use Rattle.domain_drops.specs.Closed.{weight_of, IsClosedMix, IsGreatestMix, FailsMix}
use Rattle.fixpoint_laws.specs.declared.settle.Settled.{Settled}
use Rattle.fixpoint_laws.specs.declared.settle.Settled.TheVariants.{Fixed as SettledFixed, Failed as SettledFailed}
use Rattle.mix_rounds.specs.Heard.{WasHeard}
use Rattle.mix_rounds.specs.declared.propagate.PropagatedMix.{PropagatedMix}
use Rattle.mix_rounds.specs.declared.propagate.PropagatedMix.TheVariants.{Fixed, Failed}

-- a round led from what all lanes had seen to what they have seen, and the mark says whether some lane saw a number go
pub record IsRound (kernels : List Kernel) (before after : Mix) (mark : Bool) : Type 0 where
  pub inside : IsInsideMix after before
  pub still : mark ≡ false → after ≡ before
  pub moves : mark ≡ true → after ≢ before
  pub heard : All (WasHeard before after) kernels

-- so many rounds led from the start to the greatest closed mix inside it
pub record HasFixedMix (kernels : List Kernel) (start after : Mix) (rounds : ℕ) : Type 0 where
  pub greatest : IsGreatestMix after start kernels
  pub at_once : (rounds ≡ 0) ↔ IsCrossed (hull start)
  pub in_one_round : (rounds ≡ 1) ↔ IsClosedMix start kernels
  pub unmoved : rounds ≡ 1 → after ≡ start
  pub rounds_are : rounds + weight_of after ≤ weight_of start + 1

-- no closed mix is inside the start, which took so many rounds to find out
pub record HasFailedMix (kernels : List Kernel) (start : Mix) (rounds : ℕ) : Type 0 where
  pub fails : FailsMix start kernels
  pub at_once : (rounds ≡ 0) ↔ IsCrossed (hull start)
  pub rounds_are : IsProper (hull start) → rounds ≤ weight_of start + 1

-- the greatest closed mix inside the start, or that there is none
abbrev pub HasPropagatedMix : List Kernel → Mix → PropagatedMix → Type 0
HasPropagatedMix kernels start (Fixed mix rounds) = HasFixedMix kernels start mix rounds
HasPropagatedMix kernels start (Failed rounds) = HasFailedMix kernels start rounds

-- the same, by the rounds alone
abbrev pub HasSettled : List Kernel → Mix → Mix → Settled → Type 0
HasSettled kernels start after (SettledFixed rounds) = HasFixedMix kernels start after rounds
HasSettled kernels start after (SettledFailed rounds) = HasFailedMix kernels start rounds
