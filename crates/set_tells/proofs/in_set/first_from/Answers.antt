-- The ranges' ends rise.
use Rattle.std.proofs.Common.{◌≡◌, ℤ, true, false, rules, subst}
use Rattle.std.proofs.lemmas.List.Sorted.{IsPartitionPoint-from_clause}
use Rattle.std.specs.Int.RustNames.{int_lt}
use Rattle.std.specs.List.Sorted.{IsPartitionPoint}
use Rattle.set_tells.proofs.InSetTells.{ends_parted}
use Rattle.set_tells.proofs.in_set.first_from.Goals as goal

pub returns-clause-point : goal.returns-clause-point
returns-clause-point c =
    let low = c.low-low.result in
    let P : ℤ → Type 0 = λ z. IsPartitionPoint (λ (r : ℤ × ℤ). int_lt r.1 z ≡ true) (λ (r : ℤ × ℤ). int_lt r.1 z ≡ false) c.args.ranges.now c.partition_point.result in
    subst P c.low-low.ensures.value
    (IsPartitionPoint-from_clause (λ (r : ℤ × ℤ). int_lt r.1 low) _ _ c.partition_point.ensures.partitioned (ends_parted c.args.ranges.now c.requires.ranges low) (λ a r q k. search rules))
