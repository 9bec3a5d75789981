-- The ranges' beginnings rise.
use Rattle.std.proofs.Common.{◌≡◌, ℤ, true, false, rules, subst}
use Rattle.std.proofs.lemmas.List.Sorted.{IsPartitionPoint-from_clause}
use Rattle.std.specs.Int.RustNames.{int_le}
use Rattle.std.specs.List.Sorted.{IsPartitionPoint}
use Rattle.set_tells.proofs.InSetTells.{begins_parted}
use Rattle.set_tells.proofs.in_set.count_upto.Goals as goal

pub returns-clause-point : goal.returns-clause-point
returns-clause-point c =
    let high = c.high-high.result in
    let P : ℤ → Type 0 = λ z. IsPartitionPoint (λ (r : ℤ × ℤ). int_le r.0 z ≡ true) (λ (r : ℤ × ℤ). int_le r.0 z ≡ false) c.args.ranges.now c.partition_point.result in
    subst P c.high-high.ensures.value
    (IsPartitionPoint-from_clause (λ (r : ℤ × ℤ). int_le r.0 high) _ _ c.partition_point.ensures.partitioned (begins_parted c.args.ranges.now c.requires.ranges high) (λ a r q k. search rules))
