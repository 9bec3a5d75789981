use Rattle.std.proofs.Common.{◌∙◌, ◌∷◌, [], pos, w64, refl}
use Rattle.std.proofs.lemmas.Int.{to_z-of_z}
use Rattle.propagator_tests.proofs.Examples.{in_set_made}
use Rattle.propagator_tests.proofs.lists.in_set.Goals as goal

pub returns : goal.returns
returns c =
    let q = c.requires in
    in_set_made c.args.first c.args.middle c.args.last (record { first_number = q.first; last_number = q.last; first_range = q.first_range; middle_range = q.middle_range; apart = q.apart; last_range = q.last_range }) _ c.in_ok-ranges.ranges refl
    ((c.in_ok-ranges.ensures ∙ c.in_ok-vec.ensures.items) ∙ (λ i. (to_z-of_z w64 c.args.first c.ranges.first i, pos 1) ∷ (pos 4, to_z-of_z w64 c.args.middle c.ranges.middle i) ∷ (pos 9, to_z-of_z w64 c.args.last c.ranges.last i) ∷ []))
