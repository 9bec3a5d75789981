use Rattle.std.proofs.Common.{◌≡◌, ℕ, true, length, replicate, ap, ◌∙◌}
use Rattle.std.proofs.lemmas.List.{with_items_is}
use Rattle.moved_set.specs.Layers.{Layers}
use Rattle.moved_set.proofs.SetLaws.{has_bit-ones}
use Rattle.moved_set.proofs.AskedLaws.{filled_words}
use Rattle.moved_set.proofs.trailed_set.TrailedSet.fill.Goals as goal

pub returns-clause-current : goal.returns-clause-current
returns-clause-current c =
    let lent : length c.as_mut_slice.result.now ≡ length c.self.inside.words.items = ap length c.as_mut_slice.ensures.value in
    filled_words c.args.self.now.current c.self.inside.words.items _ c.self.inside.count 4294967295 true (ap (λ (l : Layers). l.current) c.self.view_is) c.self.invariant.words
    (with_items_is c.self.inside.words c.fill.new.self (c.fill.ensures.len ∙ c.as_mut_slice.ensures.len) ∙ c.fill.ensures.after (λ y h. h) ∙ ap (λ (n : ℕ). replicate n 4294967295) lent)
    has_bit-ones
