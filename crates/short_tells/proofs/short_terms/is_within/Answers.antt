-- The product is exact.
use Rattle.std.proofs.Common.{◌≡◌, ◌-ℤ◌, ◌*ℤ◌, FitsSigned, to_z, of_z, ◌∙◌, rules}
use Rattle.std.proofs.lemmas.Int.{to_z-of_z}
use mir.Syntax.{w64}
use Rattle.std.specs.Int.RustNames.{int_le}
use Rattle.short_tells.proofs.short_terms.is_within.Goals as goal

pub returns : goal.returns
returns c =
    let p : FitsSigned w64 c.span.result = search rules in
    let product : to_z w64 (of_z w64 c.span.result) ≡ (c.args.high -ℤ c.args.low) *ℤ c.args.size =
    to_z-of_z w64 c.span.result p ∙ c.span.ensures
    ∙ (λ i. (to_z-of_z w64 c.args.high c.ranges.high i -ℤ to_z-of_z w64 c.args.low c.ranges.low i) *ℤ to_z-of_z w64 c.args.size c.ranges.size i) in
    (λ i. int_le (product i) (to_z-of_z w64 c.args.slack c.ranges.slack i))
