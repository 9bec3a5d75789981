use Rattle.std.proofs.Common.{ℕ, false, List, length, ap, ◌∙◌}
use Rattle.std.proofs.lemmas.List.{length-replicate}
use Rattle.moved_set.specs.Words.{set_of}
use Rattle.moved_set.proofs.SetLaws.{set_of_filled, has_bit-zero}
use Rattle.moved_set.proofs.ListedLaws.{listing_none, worthwhile_none}
use Rattle.moved_set.proofs.set.MovedSet.new.Goals as goal

pub returns : goal.returns
returns c =
    ap (λ (words : List ℕ). set_of words c.args.count) (c.in_ok-words.ensures.items_if_clones_equal (λ y h. h))
    ∙ set_of_filled c.args.count c.word_count.result 0 false c.word_count.ensures (λ k _. has_bit-zero k)

pub invariant_of-result : goal.invariant_of-result
invariant_of-result c = record {
  words = ap length (c.in_ok-words.ensures.items_if_clones_equal (λ y h. h)) ∙ length-replicate c.word_count.result 0 ∙ c.word_count.ensures;
  listing = listing_none c.in_ok-few.few (set_of c.in_ok-words.words.items c.args.count) c.args.count c.in_ok-few.ensures.variables
      (ap (λ (words : List ℕ). set_of words c.args.count) (c.in_ok-words.ensures.items_if_clones_equal (λ y h. h))
      ∙ set_of_filled c.args.count c.word_count.result 0 false c.word_count.ensures (λ k _. has_bit-zero k));
  worthwhile = worthwhile_none c.in_ok-few.few (set_of c.in_ok-words.words.items c.args.count) c.in_ok-few.ensures.variables c.in_ok-few.ensures.whole;
}
