-- What it means that a kernel was heard on the way from a mix to one inside it.
use Rattle.std.specs.Prelude.{ℕ, ℤ, ◌<◌, List, length, slice_index}
use Rattle.std.specs.List.{All}
use Rattle.guarded_tell.specs.declared.kernel.Kernel.{Kernel}
use Rattle.guarded_tell.specs.Kernels.{vars_of, tells}
use Rattle.bit_domain.specs.Mixes.{Mix, dom_of, hull, Has, IsInsideMix}
use Rattle.domain_drops.specs.Drops.{drops}
use Rattle.mix_rounds.specs.Steps.{KeepsNumbers, IsGone}

-- on the way from b to c the kernel was heard: on some mix inside b that holds c, and none of its tells and drops there takes
-- a number of c
pub record IsHeardBetween (kernel : Kernel) (b c : Mix) : Type 0 where
  pub between : Mix
  pub inside : IsInsideMix between b
  pub holds : IsInsideMix c between
  pub kept : All (KeepsNumbers c) (tells kernel (hull between))
  pub gone : All (IsGone c) (drops kernel between)

-- each of these variables has a number
abbrev pub HaveNumbers : List ℕ → Mix → Type 0
HaveNumbers vars m = (i : ℕ) → i < length vars → (z : ℤ) × Has (dom_of m (slice_index vars i)) z

-- the kernel was heard on the way from b to c, or some variable of the kernel has no number left in c
abbrev pub WasHeard : Mix → Mix → Kernel → Type 0
WasHeard b c k = HaveNumbers (vars_of k) c → IsHeardBetween k b c
