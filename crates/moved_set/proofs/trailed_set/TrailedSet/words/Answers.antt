use Rattle.std.proofs.Common.{◌<◌, ℕ, List, false, get_or, length, ap, ◌∙◌, sym, arith}
use Rattle.moved_set.specs.Layers.{Layers}
use Rattle.moved_set.specs.Words.{has}
use Rattle.moved_set.proofs.SetLaws.{length-set_of, set_of_at}
use Rattle.moved_set.proofs.trailed_set.TrailedSet.words.Goals as goal

pub returns-clause-len : goal.returns-clause-len
returns-clause-len c =
    omega (arith, c.self.invariant.words, ap length c.as_slice.ensures.value, length-set_of c.self.inside.words.items c.self.inside.count, ap (λ (l : Layers). length l.current) c.self.view_is)

pub returns-clause-bits : goal.returns-clause-bits
returns-clause-bits c = λ j h.
    let within : j < c.self.inside.count = omega (arith, h, length-set_of c.self.inside.words.items c.self.inside.count, ap (λ (l : Layers). length l.current) c.self.view_is) in
    ap (λ (ws : List ℕ). has ws j) c.as_slice.ensures.value
    ∙ sym (set_of_at c.self.inside.words.items c.self.inside.count j within)
    ∙ ap (λ (l : Layers). get_or l.current j false) c.self.view_is
