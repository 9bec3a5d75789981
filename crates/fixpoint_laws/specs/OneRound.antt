-- What one round of propagation is, in whatever order its kernels are heard, and what a list of rounds leads to.
use Rattle.std.specs.Prelude.{ℕ, zero, suc, ◌+◌, ◌≤◌, List, ◌≡◌, ◌≢◌}
use Rattle.std.specs.List.{All}
use Rattle.interval.specs.Boxes.{Bounds, IsInside, IsProper, width_sum_of}
use Rattle.guarded_tell.specs.declared.kernel.Kernel.{Kernel}
use Rattle.guarded_tell.specs.Words.{Keeps}
use Rattle.guarded_tell.specs.Kernels.{tells}

-- no tell of the kernel on the box m narrows c
abbrev pub LeavesAlone : Kernel → Bounds → Bounds → Type 0
LeavesAlone kernel m c = All (Keeps c) (tells kernel m)

-- on the way from b to c the kernel was heard: on some box inside b that holds c, and none of its tells there narrows c
pub record IsHeardBetween (kernel : Kernel) (b c : Bounds) : Type 0 where
  pub between : Bounds
  pub inside : IsInside between b
  pub holds : IsInside c between
  pub heard : LeavesAlone kernel between c

-- one round leads from b to c: c lies inside b and isn't b, and each kernel was heard on the way
pub record IsOneRound (kernels : List Kernel) (b c : Bounds) : Type 0 where
  pub inside : IsInside c b
  pub moved : b ≢ c
  pub each : All (λ k. IsHeardBetween k b c) kernels

-- so many rounds lead from a box to another, one after the other
unfoldable pub LeadsIn : List Kernel → ℕ → Bounds → Bounds → Type 0
LeadsIn kernels zero a c = a ≡ c
LeadsIn kernels (suc rounds) a c = (b : Bounds) × LeadsIn kernels rounds a b × IsOneRound kernels b c

-- how lists of rounds begin and go on, and that each round makes the widths fall
pub record RoundsLead : Type 0 where
  pub none : (kernels : List Kernel) (a : Bounds) → LeadsIn kernels 0 a a
  pub more : (kernels : List Kernel) (rounds : ℕ) (a b c : Bounds) → LeadsIn kernels rounds a b → IsOneRound kernels b c →
      LeadsIn kernels (rounds + 1) a c
  pub inside : (kernels : List Kernel) (rounds : ℕ) (a c : Bounds) → LeadsIn kernels rounds a c → IsInside c a
  pub widths : (kernels : List Kernel) (rounds : ℕ) (a c : Bounds) → LeadsIn kernels rounds a c → IsProper c →
      rounds + width_sum_of c ≤ width_sum_of a
