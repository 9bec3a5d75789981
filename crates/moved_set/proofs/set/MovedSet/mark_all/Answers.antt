use Rattle.std.proofs.Common.{◌≡◌, ℕ, true, length, replicate, ap, ◌∙◌}
use Rattle.std.proofs.lemmas.List.{with_items_is}
use Rattle.moved_set.proofs.SetLaws.{filled, has_bit-ones}
use Rattle.moved_set.proofs.ListedLaws.{listing_given_up, worthwhile_all}
use Rattle.moved_set.proofs.set.MovedSet.mark_all.Goals as goal

pub invariant_of-self : goal.invariant_of-self
invariant_of-self c =
    let lent : length c.as_mut_slice.result.now ≡ length c.self.inside.words.items = ap length c.as_mut_slice.ensures.value in
    let items = with_items_is c.self.inside.words c.fill.new.self (c.fill.ensures.len ∙ c.as_mut_slice.ensures.len) in
    record {
      words = ap length items ∙ c.fill.ensures.len ∙ lent ∙ c.self.invariant.words;
      listing = listing_given_up c.give_up.new.self _ c.give_up.ensures.variables c.give_up.ensures.whole;
      worthwhile = worthwhile_all c.give_up.new.self _ (length c.args.self.now) c.give_up.ensures.whole
          (filled c.args.self.now c.self.inside.words.items _ c.self.inside.count 4294967295 true c.self.view_is c.self.invariant.words
          (items ∙ c.fill.ensures.after (λ y h. h) ∙ ap (λ (n : ℕ). replicate n 4294967295) lent)
          has_bit-ones);
    }

pub returns : goal.returns
returns c =
    let lent : length c.as_mut_slice.result.now ≡ length c.self.inside.words.items = ap length c.as_mut_slice.ensures.value in
    filled c.args.self.now c.self.inside.words.items _ c.self.inside.count 4294967295 true c.self.view_is c.self.invariant.words
    (with_items_is c.self.inside.words c.fill.new.self (c.fill.ensures.len ∙ c.as_mut_slice.ensures.len) ∙ c.fill.ensures.after (λ y h. h) ∙ ap (λ (n : ℕ). replicate n 4294967295) lent)
    has_bit-ones
