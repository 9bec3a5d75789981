use Rattle.std.proofs.Common.{◌≡◌, Some, length, slice_get, true, false, ap, ◌∙◌, sym, w64}
use Rattle.std.specs.List.{position_or_len}
use Rattle.std.specs.Ordering.{int_eq}
use Rattle.std.proofs.lemmas.Int.{to_z-of_z}
use Rattle.constraint_model.proofs.CountedLaws.{view_numbers}
use Rattle.constraint_model.proofs.FoundLaws.{stands_first, absent_last, strayed_last, place_within}
use Rattle.constraint_model.proofs.constant_set.Constants.place_of.Goals as goal

pub returns-in_default-clause-place : goal.returns-in_default-clause-place
returns-in_default-clause-place c =
    c.len.ensures
    ∙ ap length (sym (view_numbers c.self.view_is))
    ∙ absent_last c.self.inside.places c.self.inside.numbers.items _ c.args.number (to_z-of_z w64 c.args.number c.ranges.number) c.self.invariant.found c.in_default.ensures
    ∙ ap (position_or_len (int_eq c.args.number)) (view_numbers c.self.view_is)

pub returns-then-stands_at-clause-place : goal.returns-then-stands_at-clause-place
returns-then-stands_at-clause-place c =
    let read = to_z-of_z w64 c.args.number c.ranges.number in
    let items = c.self.inside.numbers.items in
    let place = c.in-Some.place in
    let stands : slice_get items place ≡ Some c.args.number =
    ap (λ numbers. slice_get numbers place) (sym c.as_slice.ensures.value) ∙ c.stands_at.ensures.0 c.if-stands_at.true ∙ ap Some read in
    stands_first c.self.inside.places items _ c.args.number place read c.self.invariant.found c.in-Some.ensures stands
    ∙ ap (position_or_len (int_eq c.args.number)) (view_numbers c.self.view_is)

pub returns-else-stands_at-clause-place : goal.returns-else-stands_at-clause-place
returns-else-stands_at-clause-place c =
    let read = to_z-of_z w64 c.args.number c.ranges.number in
    let items = c.self.inside.numbers.items in
    let place = c.in-Some.place in
    c.len-else-stands_at.ensures
    ∙ ap length (sym (view_numbers c.self.view_is))
    ∙ strayed_last c.self.inside.places items _ c.args.number place read c.self.invariant.found c.in-Some.ensures
    (λ s.
    let stands = c.stands_at.ensures.1 (ap (λ numbers. slice_get numbers place) c.as_slice.ensures.value ∙ s ∙ ap Some (sym read)) in
    let k : true ≡ false = sym stands ∙ c.if-stands_at.false in
    cc)
    ∙ ap (position_or_len (int_eq c.args.number)) (view_numbers c.self.view_is)

pub returns-in_default-clause-within : goal.returns-in_default-clause-within
returns-in_default-clause-within c = place_within c.args.self.now.numbers c.args.number _ (returns-in_default-clause-place c)

pub returns-then-stands_at-clause-within : goal.returns-then-stands_at-clause-within
returns-then-stands_at-clause-within c = place_within c.args.self.now.numbers c.args.number _ (returns-then-stands_at-clause-place c)

pub returns-else-stands_at-clause-within : goal.returns-else-stands_at-clause-within
returns-else-stands_at-clause-within c = place_within c.args.self.now.numbers c.args.number _ (returns-else-stands_at-clause-place c)
