-- What holds of a whole box, holds in the variables of a kernel.
use Rattle.std.proofs.Common.{◌≡◌, ◌<◌, length}
use Rattle.std.specs.List.{All, Contains}
use Rattle.interval.specs.Limits.{IsBound}
use Rattle.interval.specs.Boxes.{Bounds, IsInRange, IsInside, IsProper}
use Rattle.guarded_tell.specs.declared.kernel.Kernel.{Kernel}
use Rattle.guarded_tell.specs.Words.{Keeps, IsProperIn, IsInsideIn, AgreeIn}
use Rattle.guarded_tell.specs.Kernels.{vars_of, tells, IsKernel, IsClosedUnder}

-- the laws of the kernels, as their functions state them
abbrev pub Monotone : Type 0
Monotone = (k : Kernel) (outer inner : Bounds) → IsKernel (length outer) k → IsInRange outer →
    length inner ≡ length outer → IsProperIn (vars_of k) outer → IsClosedUnder k inner →
    IsInsideIn (vars_of k) inner outer → All (Keeps inner) (tells k outer)

abbrev pub TellPlace : Type 0
TellPlace = (k : Kernel) (b : Bounds) → IsKernel (length b) k →
    All (λ t. Contains (vars_of k) t.var × (t.var < length b) × IsBound t.bound) (tells k b)

abbrev pub Local : Type 0
Local = (k : Kernel) (b c : Bounds) → AgreeIn (vars_of k) b c → tells k b ≡ tells k c

pub proper_in : (k : Kernel) (b : Bounds) → IsKernel (length b) k → IsProper b → IsProperIn (vars_of k) b
proper_in k b r p i h = p _ (r.variables.each i h)

pub inside_in : (k : Kernel) (c b : Bounds) → IsKernel (length b) k → IsInside c b → IsInsideIn (vars_of k) c b
inside_in k c b r j = record { lows = λ i h. j.lows _ (r.variables.each i h); highs = λ i h. j.highs _ (r.variables.each i h) }
