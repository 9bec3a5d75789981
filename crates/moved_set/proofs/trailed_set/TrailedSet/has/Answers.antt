use Rattle.std.proofs.Common.{◌<◌, ℕ, List, false, get_or, length, ap, ◌∙◌, sym, arith}
use Rattle.moved_set.specs.Layers.{Layers}
use Rattle.moved_set.specs.Words.{has}
use Rattle.moved_set.proofs.SetLaws.{length-set_of, set_of_at}
use Rattle.moved_set.proofs.trailed_set.TrailedSet.has.Goals as goal

pub has_bit_at-requires : goal.has_bit_at-requires
has_bit_at-requires c =
    omega (arith, c.requires, c.self.invariant.words, ap length c.as_slice.ensures.value, length-set_of c.self.inside.words.items c.self.inside.count, ap (λ (l : Layers). length l.current) c.self.view_is)

pub returns : goal.returns
returns c =
    let within : c.args.j < c.self.inside.count = omega (arith, c.requires, length-set_of c.self.inside.words.items c.self.inside.count, ap (λ (l : Layers). length l.current) c.self.view_is) in
    c.has_bit_at.ensures ∙ ap (λ (ws : List ℕ). has ws c.args.j) c.as_slice.ensures.value
    ∙ sym (set_of_at c.self.inside.words.items c.self.inside.count c.args.j within)
    ∙ ap (λ (l : Layers). get_or l.current c.args.j false) c.self.view_is
