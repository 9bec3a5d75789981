use Rattle.std.proofs.Common.{◌≡◌, ◌++◌, ◌∷◌, [], length, ap, ◌∙◌, arith}
use Rattle.std.proofs.lemmas.Grind.{common_steps}
use Rattle.moved_set.specs.Layers.{Layers}
use Rattle.moved_set.proofs.LayerLaws.{stack_push, on_pushed}
use Rattle.moved_set.proofs.trailed_set.TrailedSet.push.Goals as goal

pub invariant_of-self-2 : goal.invariant_of-self-2
invariant_of-self-2 c =
    let items : c.push.new.self.items ≡ c.self.inside.marks.items ++ length c.as_slice-mark.result.now ∷ [] = grind (arith, common_steps) in
    record {
      words = c.self.invariant.words;
      small = c.self.invariant.small;
      places = c.self.invariant.places;
      marks = on_pushed c.self.inside.trail.items c.self.inside.marks.items c.push.new.self.items (length c.as_slice-mark.result.now) items (ap length c.as_slice-mark.ensures.value) c.self.invariant.marks;
    }

pub returns-clause-stack : goal.returns-clause-stack
returns-clause-stack c =
    let items : c.push.new.self.items ≡ c.self.inside.marks.items ++ length c.as_slice-mark.result.now ∷ [] = grind (arith, common_steps) in
    stack_push c.self.inside.count c.self.inside.trail.items c.self.inside.words.items c.self.inside.marks.items c.push.new.self.items (length c.as_slice-mark.result.now) items (ap length c.as_slice-mark.ensures.value)
    ∙ ap (λ (l : Layers). l.stack ++ l.current ∷ []) c.self.view_is
