use Rattle.std.proofs.Common.{◌≡◌, ◌&&◌, false, length, get_or, sym, ap, ◌∙◌, arith}
use Rattle.std.proofs.lemmas.List.{with_items_is}
use Rattle.moved_set.specs.Words.{has}
use Rattle.moved_set.proofs.SetLaws.{length-set_of}
use Rattle.moved_set.proofs.AskedLaws.{united_in_with, both_same}
use Rattle.moved_set.proofs.asked.AskedSet.unite_in_both.Goals as goal

pub unite_masks_in_both-requires-clause-row : goal.unite_masks_in_both-requires-clause-row
unite_masks_in_both-requires-clause-row c k d h =
    omega (arith, c.requires.row k d h, c.self.invariant.words, ap length c.as_mut_slice.ensures.value, length-set_of c.self.inside.words.items c.self.inside.count, ap length c.self.view_is)

pub unite_masks_in_both-requires-clause-one : goal.unite_masks_in_both-requires-clause-one
unite_masks_in_both-requires-clause-one c k d h = omega (arith, c.requires.row k d h, c.requires.one, c.words.ensures.len)

pub unite_masks_in_both-requires-clause-other : goal.unite_masks_in_both-requires-clause-other
unite_masks_in_both-requires-clause-other c k d h = omega (arith, c.requires.row k d h, c.requires.other, c.words-2.ensures.len)

pub returns : goal.returns
returns c =
    let one : length c.args.one.now.current ≡ c.self.inside.count = c.requires.one ∙ ap length (sym c.self.view_is) ∙ length-set_of c.self.inside.words.items c.self.inside.count in
    let other : length c.args.other.now.current ≡ c.self.inside.count = c.requires.other ∙ ap length (sym c.self.view_is) ∙ length-set_of c.self.inside.words.items c.self.inside.count in
    united_in_with c.args.self.now c.self.inside.words.items c.as_mut_slice.result.now c.unite_masks_in_both.new.words _ c.args.row.now
    (λ j. get_or c.args.one.now.current j false && get_or c.args.other.now.current j false) (λ j. has c.words.result.now j && has c.words-2.result.now j) c.self.inside.count c.self.view_is c.as_mut_slice.ensures.value
    (with_items_is c.self.inside.words c.unite_masks_in_both.new.words (c.unite_masks_in_both.auto.words ∙ c.as_mut_slice.ensures.len))
    (λ j h. both_same (has c.words.result.now j) (has c.words-2.result.now j) _ _ (c.words.ensures.bits j (omega arith)) (c.words-2.ensures.bits j (omega arith))) c.unite_masks_in_both.ensures
