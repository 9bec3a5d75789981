use Rattle.std.proofs.Common.{◌≡◌, false, length, get_or, sym, ap, ◌∙◌, arith}
use Rattle.std.proofs.lemmas.List.{with_items_is}
use Rattle.moved_set.specs.Words.{has}
use Rattle.moved_set.proofs.SetLaws.{length-set_of}
use Rattle.moved_set.proofs.AskedLaws.{united_in_with}
use Rattle.moved_set.proofs.asked.AskedSet.unite_in.Goals as goal

pub unite_masks_in-requires-clause-row : goal.unite_masks_in-requires-clause-row
unite_masks_in-requires-clause-row c k d h =
    omega (arith, c.requires.row k d h, c.self.invariant.words, ap length c.as_mut_slice.ensures.value, length-set_of c.self.inside.words.items c.self.inside.count, ap length c.self.view_is)

pub unite_masks_in-requires-clause-wanted : goal.unite_masks_in-requires-clause-wanted
unite_masks_in-requires-clause-wanted c k d h = omega (arith, c.requires.row k d h, c.requires.wanted, c.words.ensures.len)

pub returns : goal.returns
returns c =
    let same : length c.args.wanted.now.current ≡ c.self.inside.count = c.requires.wanted ∙ ap length (sym c.self.view_is) ∙ length-set_of c.self.inside.words.items c.self.inside.count in
    united_in_with c.args.self.now c.self.inside.words.items c.as_mut_slice.result.now c.unite_masks_in.new.words _ c.args.row.now (λ j. get_or c.args.wanted.now.current j false) (has c.words.result.now) c.self.inside.count c.self.view_is c.as_mut_slice.ensures.value
    (with_items_is c.self.inside.words c.unite_masks_in.new.words (c.unite_masks_in.auto.words ∙ c.as_mut_slice.ensures.len))
    (λ j h. c.words.ensures.bits j (omega arith)) c.unite_masks_in.ensures
