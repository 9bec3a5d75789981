-- No variable is left in the words: where the list is whole, each that was in the set is listed.
use Rattle.std.proofs.Common.{◌≡◌, ◌/◌, ◌<◌, ℕ, List, length, sym, ap, subst, ◌∙◌, All}
use Rattle.std.proofs.lemmas.List.{with_items_is}
use Rattle.moved_set.specs.Words.{has, set_of}
use Rattle.moved_set.proofs.SetLaws.{length-set_of}
use Rattle.moved_set.proofs.ListedLaws.{all_there, emptied, listing_none, worthwhile_none}
use Rattle.moved_set.proofs.set.MovedSet.clear.Goals as goal

pub empty-requires : goal.empty-requires
empty-requires c = record {
  listed = λ _. subst (λ (ws : List ℕ). All (λ v. v / 32 < length ws) c.self.inside.few.variables) (sym c.as_mut_slice.ensures.value)
      (all_there c.self.inside.few c.self.inside.words.items c.self.inside.count c.self.invariant.listing c.self.invariant.words);
}

pub returns : goal.returns
returns c =
    let items = with_items_is c.self.inside.words c.empty.new.words (c.empty.ensures.len ∙ c.as_mut_slice.ensures.len) in
    let same : length c.args.self.now ≡ c.self.inside.count = sym (ap length c.self.view_is) ∙ length-set_of c.self.inside.words.items c.self.inside.count in
    ap (λ (ws : List ℕ). set_of ws c.self.inside.count) items
    ∙ emptied c.self.inside.few c.self.inside.words.items c.empty.new.words c.self.inside.count (length c.args.self.now) c.self.invariant.listing same
    (λ v f. c.empty.ensures.none v (λ whole t. f whole (ap (λ (ws : List ℕ). has ws v) (sym c.as_mut_slice.ensures.value) ∙ t)))

pub invariant_of-self : goal.invariant_of-self
invariant_of-self c =
    let items = with_items_is c.self.inside.words c.empty.new.words (c.empty.ensures.len ∙ c.as_mut_slice.ensures.len) in
    let same : length c.args.self.now ≡ c.self.inside.count = sym (ap length c.self.view_is) ∙ length-set_of c.self.inside.words.items c.self.inside.count in
    record {
      words = ap length items ∙ c.empty.ensures.len ∙ ap length c.as_mut_slice.ensures.value ∙ c.self.invariant.words;
      listing = listing_none c.clear.new.self _ (length c.args.self.now) c.clear.ensures.variables
          (ap (λ (ws : List ℕ). set_of ws c.self.inside.count) items
          ∙ emptied c.self.inside.few c.self.inside.words.items c.empty.new.words c.self.inside.count (length c.args.self.now) c.self.invariant.listing same
          (λ v f. c.empty.ensures.none v (λ whole t. f whole (ap (λ (ws : List ℕ). has ws v) (sym c.as_mut_slice.ensures.value) ∙ t))));
      worthwhile = worthwhile_none c.clear.new.self _ c.clear.ensures.variables c.clear.ensures.whole;
    }
