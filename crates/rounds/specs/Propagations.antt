-- How one propagation by lanes ends.
use Rattle.std.specs.Prelude.{List}
use Rattle.interval.specs.Boxes.{Bounds}
use Rattle.guarded_tell.specs.declared.kernel.Kernel.{Kernel}
use Rattle.rounds.specs.declared.once.Propagated.{Propagated}
use Rattle.rounds.specs.declared.once.Propagated.TheVariants.{Fixed, Failed}
use Rattle.rounds.specs.Ends.{HasFixed, HasFailed}

-- the greatest closed box inside the start, or that there is none
abbrev pub HasPropagated : List Kernel → Bounds → Propagated → Type 0
HasPropagated kernels start (Fixed box_of rounds) = HasFixed kernels start box_of rounds
HasPropagated kernels start (Failed rounds) = HasFailed kernels start rounds
