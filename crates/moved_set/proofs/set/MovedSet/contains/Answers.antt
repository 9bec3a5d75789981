use Rattle.std.proofs.Common.{◌<◌, ℕ, Bool, false, List, length, get_or, sym, ap, ◌∙◌, arith}
use Rattle.moved_set.specs.Words.{has}
use Rattle.moved_set.proofs.SetLaws.{length-set_of, set_of_at}
use Rattle.moved_set.proofs.set.MovedSet.contains.Goals as goal

pub is_set-requires : goal.is_set-requires
is_set-requires c = omega (arith, c.self.invariant.words, length-set_of c.self.inside.words.items c.self.inside.count, ap length c.self.view_is, ap length c.as_slice.ensures.value)

pub returns : goal.returns
returns c =
    let within : c.args.v < c.self.inside.count = omega (arith, length-set_of c.self.inside.words.items c.self.inside.count, ap length c.self.view_is) in
    c.is_set.ensures ∙ ap (λ (ws : List ℕ). has ws c.args.v) c.as_slice.ensures.value
    ∙ sym (set_of_at c.self.inside.words.items c.self.inside.count c.args.v within) ∙ ap (λ (s : List Bool). get_or s c.args.v false) c.self.view_is
