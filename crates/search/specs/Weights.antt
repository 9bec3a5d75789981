-- A bound on the work that is left: how many nodes the boxes of a stack can still have.
use Rattle.std.specs.Prelude.{ℕ, zero, suc, ◌+◌, List}
use Rattle.std.specs.List.{sum_by}
use Rattle.interval.specs.Boxes.{Bounds, width_sum_of}

-- 3 to the power of n
unfoldable pub power : ℕ → ℕ
power zero = 1
power (suc n) = power n + power n + power n

-- a box weighs more than its two parts together
abbrev pub weight : Bounds → ℕ
weight b = power (width_sum_of b)

-- so no more nodes are left
abbrev pub weight_of : List Bounds → ℕ
weight_of boxes = sum_by weight boxes
