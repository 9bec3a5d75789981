use Rattle.std.proofs.Common.{◌≡◌, ap, sym, ◌∙◌, ◌++◌, ◌∷◌, [], arith, length}
use Rattle.std.proofs.lemmas.List.{with_items_is}
use Rattle.trailed_box.specs.Trailed.{Trailed}
use Rattle.trailed_box.proofs.TrailLaws.{stack_after_pop, on_after_pop, parts_after_pop, part_after_pop}
use Rattle.trailed_box.proofs.trailed.TrailedBox.pop.Goals as goal

pub invariant_of-self-2 : goal.invariant_of-self-2
invariant_of-self-2 c =
    let items : c.self.inside.marks.items ≡ c.pop.new.self.items ++ c.in_ok-mark.mark ∷ [] = c.in_ok-mark.ensures.items in
    record {
      marks = on_after_pop c.self.inside.trail.items c.undo.new.trail.items c.self.inside.marks.items c.pop.new.self.items c.in_ok-mark.mark items c.undo.ensures.trail c.self.invariant.marks;
      parts = parts_after_pop (length c.self.inside.current) (length c.undo.new.current) c.self.inside.trail.items c.undo.new.trail.items c.self.inside.marks.items c.pop.new.self.items c.in_ok-mark.mark c.undo.ensures.same_length items c.undo.ensures.trail c.self.invariant.parts;
      places =
          ap length (with_items_is c.self.inside.last c.undo.new.last (omega arith)) ∙ c.undo.auto.last ∙ ap length c.as_mut_slice.ensures.value ∙ c.self.invariant.places ∙ sym c.undo.ensures.same_length;
    }

pub returns-clause-some : goal.returns-clause-some
returns-clause-some c =
    let items : c.self.inside.marks.items ≡ c.pop.new.self.items ++ c.in_ok-mark.mark ∷ [] = c.in_ok-mark.ensures.items in
    sym (ap (λ (t : Trailed). t.stack) c.self.view_is)
    ∙ stack_after_pop c.self.inside.trail.items c.undo.new.trail.items c.self.inside.current c.undo.new.current c.self.inside.marks.items c.pop.new.self.items c.in_ok-mark.mark items c.undo.ensures.trail c.undo.ensures.current c.self.invariant.marks

pub returns-clause-part : goal.returns-clause-part
returns-clause-part c =
    part_after_pop (length c.self.inside.current) (length c.undo.new.current) c.self.inside.trail.items c.self.inside.marks.items c.pop.new.self.items c.in_ok-mark.mark c.undo.ensures.same_length c.in_ok-mark.ensures.items c.self.invariant.parts
