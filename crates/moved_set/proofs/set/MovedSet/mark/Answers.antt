use Rattle.std.proofs.Common.{◌≡◌, ◌<◌, ◌/◌, ◌%◌, ◌*◌, ◌^◌, ℕ, List, Bool, true, false, bit_or, set, length, get_or, sym, ap, subst, ◌∙◌, arith}
use Rattle.std.proofs.lemmas.List.{get_or_read, length-set}
use Rattle.moved_set.specs.Words.{has, set_of}
use Rattle.moved_set.specs.Listed.{IsListing, IsWorthwhile}
use Rattle.moved_set.proofs.SetLaws.{length-set_of, set_of_at, set_of_marked, word_there}
use Rattle.moved_set.proofs.ListedLaws.{listing_put, worthwhile_put}
use Rattle.moved_set.proofs.set.MovedSet.mark.Goals as goal

pub is_set-is_known-requires : goal.is_set-is_known-requires
is_set-is_known-requires c = omega (arith, c.self.invariant.words, length-set_of c.self.inside.words.items c.self.inside.count, ap length c.self.view_is, ap length c.as_slice.ensures.value)

pub index_mut-requires : goal.index_mut-requires
index_mut-requires c = omega (arith, c.self.invariant.words, length-set_of c.self.inside.words.items c.self.inside.count, ap length c.self.view_is)

pub invariant_of-self : goal.invariant_of-self
invariant_of-self c =
    let within : c.args.v < c.self.inside.count = omega (arith, length-set_of c.self.inside.words.items c.self.inside.count, ap length c.self.view_is) in
    let there = word_there c.self.inside.count c.args.v (length c.self.inside.words.items) within c.self.invariant.words in
    let word : c.index_mut.result.now ≡ get_or c.self.inside.words.items (c.args.v / 32) 0 = get_or_read c.self.inside.words.items (c.args.v / 32) c.index_mut.result.now there c.index_mut.ensures.value 0 in
    let known : c.is_set-is_known.result ≡ get_or (set_of c.self.inside.words.items c.self.inside.count) c.args.v false =
    c.is_set-is_known.ensures ∙ ap (λ (ws : List ℕ). has ws c.args.v) c.as_slice.ensures.value ∙ sym (set_of_at c.self.inside.words.items c.self.inside.count c.args.v within) in
    let marked = ap (λ (n : ℕ). set_of (set c.self.inside.words.items (c.args.v / 32) (bit_or n (1 * 2 ^ (c.args.v % 32) % 2 ^ 32))) c.self.inside.count) word
    ∙ set_of_marked c.self.inside.words.items c.self.inside.count c.args.v within c.self.invariant.words in
    record {
      words = length-set c.self.inside.words.items (c.args.v / 32) _ ∙ c.self.invariant.words;
      listing = subst (IsListing c.put.new.self) (sym marked)
          (listing_put c.self.inside.few c.put.new.self (set_of c.self.inside.words.items c.self.inside.count) c.args.v c.is_set-is_known.result
          (omega (arith, length-set_of c.self.inside.words.items c.self.inside.count)) known c.put.ensures c.self.invariant.listing);
      worthwhile = subst (IsWorthwhile c.put.new.self) (sym marked)
          (worthwhile_put c.self.inside.few c.put.new.self (set_of c.self.inside.words.items c.self.inside.count) c.args.v c.is_set-is_known.result
          (omega (arith, length-set_of c.self.inside.words.items c.self.inside.count)) known c.put.ensures c.self.invariant.worthwhile);
    }

pub returns : goal.returns
returns c =
    let within : c.args.v < c.self.inside.count = omega (arith, length-set_of c.self.inside.words.items c.self.inside.count, ap length c.self.view_is) in
    let there = word_there c.self.inside.count c.args.v (length c.self.inside.words.items) within c.self.invariant.words in
    let word : c.index_mut.result.now ≡ get_or c.self.inside.words.items (c.args.v / 32) 0 = get_or_read c.self.inside.words.items (c.args.v / 32) c.index_mut.result.now there c.index_mut.ensures.value 0 in
    ap (λ (n : ℕ). set_of (set c.self.inside.words.items (c.args.v / 32) (bit_or n (1 * 2 ^ (c.args.v % 32) % 2 ^ 32))) c.self.inside.count) word
    ∙ set_of_marked c.self.inside.words.items c.self.inside.count c.args.v within c.self.invariant.words ∙ ap (λ (s : List Bool). set s c.args.v true) c.self.view_is
