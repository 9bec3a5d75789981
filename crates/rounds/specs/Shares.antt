-- Shares of the kernels, and what it means that a share's kernels have nothing to tell.
use Rattle.std.specs.List.{All}
pub use Rattle.shared_lanes.specs.Cuts.{IsShare, AllNamed, share_at, IsCut}
unfoldable pub use Rattle.shared_lanes.specs.Cuts.{share_limit}
use Rattle.interval.specs.Boxes.{Bounds}
use Rattle.guarded_tell.specs.declared.kernel.Kernel.{Kernel}
use Rattle.guarded_tell.specs.Words.{Keeps, IsProperIn}
use Rattle.guarded_tell.specs.Kernels.{vars_of, tells}
use Rattle.fixpoint_laws.specs.OneRound.{IsHeardBetween}

-- no tell of the kernel narrows the box, or some variable of the kernel has no number left there
abbrev pub IsQuiet : Bounds → Kernel → Type 0
IsQuiet b k = IsProperIn (vars_of k) b → All (Keeps b) (tells k b)

-- the kernel was heard on the way from b to c, or some variable of the kernel has no number left in c
abbrev pub WasHeard : Bounds → Bounds → Kernel → Type 0
WasHeard b c k = IsProperIn (vars_of k) c → IsHeardBetween k b c
