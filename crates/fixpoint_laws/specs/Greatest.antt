-- The greatest closed box inside a start, computed: one narrowing tell after another is joined, until no tell narrows
-- the box or it is crossed. Each such tell makes the sum of the widths fall, so as many steps as that sum are enough.
use Rattle.std.specs.Prelude.{ℕ, zero, suc, ◌+◌, ℤ, Bool, false, cond, ◌||◌, List, [], ◌∷◌, length, int_lt, Option, None, Some, MatchOption}
use Rattle.std.specs.List.{All}
use Rattle.interval.specs.Boxes.{Bounds, low_of, high_of, IsInRange, width_sum_of}
use Rattle.guarded_tell.specs.declared.kernel.Kernel.{Kernel}
use Rattle.guarded_tell.specs.Words.{Tell}
use Rattle.guarded_tell.specs.Words.{Side}
use Rattle.guarded_tell.specs.Words.{Low, High}
use Rattle.guarded_tell.specs.Kernels.{tells, IsKernel}
use Rattle.fixpoint_laws.specs.Fixpoints.{IsGreatest, Fails}
use Rattle.fixpoint_laws.specs.Rounds.{told}

-- for some variable no number is left
unfoldable pub is_crossed_box : Bounds → Bool
is_crossed_box [] = false
is_crossed_box (p ∷ b) = int_lt p.1 p.0 || is_crossed_box b

-- the bound of a tell is tighter than that of the box
abbrev pub is_narrowed : Bounds → Side → ℕ → ℤ → Bool
is_narrowed b Low v bound = int_lt (low_of b v) bound
is_narrowed b High v bound = int_lt bound (high_of b v)

-- the first of the tells that narrows the box
unfoldable pub first_narrower : Bounds → List Tell → Option Tell
first_narrower b [] = None
first_narrower b (t ∷ ts) = cond (is_narrowed b t.side t.var t.bound) (Some t) (first_narrower b ts)

-- the first tell, or else the second
abbrev pub or_else : Option Tell → Option Tell → Option Tell
or_else None o = o
or_else (Some t) o = Some t

-- the first tell of the kernels that narrows the box
unfoldable pub first_step : Bounds → List Kernel → Option Tell
first_step b [] = None
first_step b (k ∷ ks) = or_else (first_narrower b (tells k b)) (first_step b ks)

-- what the next tell leads to, or the box itself where there is none
abbrev pub after_step : Option Tell → Bounds → (Tell → Option Bounds) → Option Bounds
after_step None b next = Some b
after_step (Some t) b next = next t

-- the box after at most so many narrowing tells, or none where it is crossed then
unfoldable pub narrowed_in : ℕ → List Kernel → Bounds → Option Bounds
narrowed_in zero kernels b = cond (is_crossed_box b) None (Some b)
narrowed_in (suc steps) kernels b =
    cond (is_crossed_box b) None (after_step (first_step b kernels) b (λ t. narrowed_in steps kernels (told b t)))

-- the greatest closed box inside a start, or none where the start fails
abbrev pub greatest_of : Bounds → List Kernel → Option Bounds
greatest_of start kernels = narrowed_in (width_sum_of start + 1) kernels start

-- the computed box is the greatest closed one, and where there is none the start fails
abbrev pub GreatestIsComputed : Type 0
GreatestIsComputed = (start : Bounds) (kernels : List Kernel) →
    IsInRange start → All (IsKernel (length start)) kernels →
    MatchOption (greatest_of start kernels) (Fails start kernels) (λ g. IsGreatest g start kernels)
