use Rattle.std.proofs.Common.{◌≡◌, ◌<◌, ◌/◌, ◌%◌, ◌*◌, ◌^◌, ℕ, List, true, bit_or, set, length, get_or, map, refl, ap, ◌∙◌, arith}
use Rattle.std.proofs.lemmas.List.{get_or_read, with_items_is}
use Rattle.moved_set.specs.Words.{set_of}
use Rattle.moved_set.specs.Layers.{Layers, layer_at}
use Rattle.moved_set.proofs.SetLaws.{length-set_of}
use Rattle.moved_set.proofs.SetLaws.{set_of_put}
use Rattle.moved_set.proofs.LayerLaws.{on_ok, consistent_spared, stack_spared}
use Rattle.moved_set.proofs.trailed_set.TrailedSet.put_written.Goals as goal

pub index-requires : goal.index-requires
index-requires c = omega (arith, c.requires, c.self.invariant.words, c.self.inside.words.ok, length-set_of c.self.inside.words.items c.self.inside.count, ap (λ (l : Layers). length l.current) c.self.view_is)

pub write-requires-clause-inside : goal.write-requires-clause-inside
write-requires-clause-inside c =
    omega (arith, c.requires, c.self.invariant.words, ap length c.as_mut_slice.ensures.value, length-set_of c.self.inside.words.items c.self.inside.count, ap (λ (l : Layers). length l.current) c.self.view_is)

pub write-requires-clause-small : goal.write-requires-clause-small
write-requires-clause-small c =
    omega (arith, c.requires, c.self.invariant.small, length-set_of c.self.inside.words.items c.self.inside.count, ap (λ (l : Layers). length l.current) c.self.view_is)

pub invariant_of-self : goal.invariant_of-self
invariant_of-self c =
    let items = with_items_is c.self.inside.words c.write.new.words (c.write.auto.words ∙ c.as_mut_slice.ensures.len) in
    consistent_spared c.self.inside _ c.write.new.words c.as_mut_slice.result.now c.self.invariant c.as_mut_slice.ensures.value items refl refl c.write.ensures.spared

pub returns-clause-current : goal.returns-clause-current
returns-clause-current c =
    let within : c.args.j < c.self.inside.count = omega (arith, c.requires, length-set_of c.self.inside.words.items c.self.inside.count, ap (λ (l : Layers). length l.current) c.self.view_is) in
    let there : c.args.j / 32 < length c.self.inside.words.items = omega (arith, c.self.invariant.words) in
    let word : c.index.result.now ≡ get_or c.self.inside.words.items (c.args.j / 32) 0 = get_or_read c.self.inside.words.items (c.args.j / 32) c.index.result.now there c.index.ensures 0 in
    let items = with_items_is c.self.inside.words c.write.new.words (c.write.auto.words ∙ c.as_mut_slice.ensures.len) in
    on_ok c.write.result
    (λ is.
    ap (λ (ws : List ℕ). set_of ws c.self.inside.count)
    (items ∙ is ∙ ap (λ (ws : List ℕ). set ws (c.args.j / 32) (bit_or c.index.result.now (1 * 2 ^ (c.args.j % 32) % 2 ^ 32))) c.as_mut_slice.ensures.value
    ∙ ap (λ (n : ℕ). set c.self.inside.words.items (c.args.j / 32) (bit_or n (1 * 2 ^ (c.args.j % 32) % 2 ^ 32))) word)
    ∙ set_of_put c.self.inside.words.items c.self.inside.count c.args.j within there
    ∙ ap (λ (l : Layers). set l.current c.args.j true) c.self.view_is)
    c.write.ensures.words

pub returns-clause-stack : goal.returns-clause-stack
returns-clause-stack c =
    let items = with_items_is c.self.inside.words c.write.new.words (c.write.auto.words ∙ c.as_mut_slice.ensures.len) in
    on_ok c.write.result
    (λ is.
    ap (λ (ws : List ℕ). map (layer_at c.write.new.trail.items ws c.self.inside.count) c.self.inside.marks.items) items
    ∙ stack_spared c.self.inside.count c.as_mut_slice.result.now c.self.inside.trail.items c.write.new.words c.write.new.trail.items c.self.inside.marks.items c.self.invariant.marks c.write.ensures.spared
    ∙ ap (λ (ws : List ℕ). map (layer_at c.self.inside.trail.items ws c.self.inside.count) c.self.inside.marks.items) c.as_mut_slice.ensures.value
    ∙ ap (λ (l : Layers). l.stack) c.self.view_is)
    c.write.ensures.words
