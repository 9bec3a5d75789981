use Rattle.std.proofs.Common.{ℤ, ap, ◌∙◌, w64}
use Rattle.std.specs.List.{position_or_len}
use Rattle.std.specs.Ordering.{int_eq}
use Rattle.std.proofs.lemmas.Int.{to_z-of_z}
use Rattle.decompose.proofs.places.place.Goals as goal

pub returns-clause-value : goal.returns-clause-value
returns-clause-value c =
    c.place_of.ensures.place ∙ ap (λ (y : ℤ). position_or_len (int_eq y) c.args.constants.now.numbers) (to_z-of_z w64 c.args.number c.ranges.number)
