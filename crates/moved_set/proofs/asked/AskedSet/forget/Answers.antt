use Rattle.std.proofs.Common.{◌≡◌, ◌<◌, ◌/◌, ◌%◌, ◌*◌, ◌^◌, ◌-◌, ℕ, List, Bool, false, bit_and, set, length, get_or, ap, ◌∙◌, arith}
use Rattle.std.proofs.lemmas.List.{get_or_read, length-set}
use Rattle.moved_set.specs.Words.{set_of}
use Rattle.moved_set.proofs.SetLaws.{length-set_of}
use Rattle.moved_set.proofs.AskedLaws.{set_of_cleared, had_before}
use Rattle.moved_set.proofs.asked.AskedSet.forget.Goals as goal

pub index_mut-requires : goal.index_mut-requires
index_mut-requires c = omega (arith, c.self.invariant.words, length-set_of c.self.inside.words.items c.self.inside.count, ap length c.self.view_is)

pub returns : goal.returns
returns c =
    let within : c.args.j < c.self.inside.count = omega (arith, length-set_of c.self.inside.words.items c.self.inside.count, ap length c.self.view_is) in
    let there : c.args.j / 32 < length c.self.inside.words.items = omega (arith, c.self.invariant.words) in
    let word : c.index_mut.result.now ≡ get_or c.self.inside.words.items (c.args.j / 32) 0 = get_or_read c.self.inside.words.items (c.args.j / 32) c.index_mut.result.now there c.index_mut.ensures.value 0 in
    ap (λ (n : ℕ). set_of (set c.self.inside.words.items (c.args.j / 32) (bit_and n (2 ^ 32 - 1 - 1 * 2 ^ (c.args.j % 32) % 2 ^ 32))) c.self.inside.count) word
    ∙ set_of_cleared c.self.inside.words.items c.self.inside.count c.args.j within there ∙ ap (λ (s : List Bool). set s c.args.j false) c.self.view_is

pub invariant_of-self : goal.invariant_of-self
invariant_of-self c =
    let within : c.args.j < c.self.inside.count = omega (arith, length-set_of c.self.inside.words.items c.self.inside.count, ap length c.self.view_is) in
    let there : c.args.j / 32 < length c.self.inside.words.items = omega (arith, c.self.invariant.words) in
    let word : c.index_mut.result.now ≡ get_or c.self.inside.words.items (c.args.j / 32) 0 = get_or_read c.self.inside.words.items (c.args.j / 32) c.index_mut.result.now there c.index_mut.ensures.value 0 in
    record {
      words = length-set c.self.inside.words.items _ _ ∙ c.self.invariant.words;
      pages = c.self.invariant.pages;
      marked = λ i h e. c.self.invariant.marked i h (had_before c.self.inside.words.items c.self.inside.count c.args.j c.index_mut.result.now i within there word h e);
      small = c.self.invariant.small;
    }
