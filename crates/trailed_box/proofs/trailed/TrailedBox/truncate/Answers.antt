use Rattle.std.proofs.Common.{take, ap, sym, ◌∙◌}
use Rattle.std.proofs.lemmas.List.{take-map}
use Rattle.trailed_box.specs.Trail.{left_at, stack_of}
use Rattle.trailed_box.specs.Trailed.{Trailed}
use Rattle.trailed_box.proofs.trailed.TrailedBox.truncate.Goals as goal

pub returns-clause-stack : goal.returns-clause-stack
returns-clause-stack c =
    ap (stack_of c.self.inside.trail.items c.self.inside.current) c.truncate.ensures.items
    ∙ sym (take-map (left_at c.self.inside.trail.items c.self.inside.current) c.args.count c.self.inside.marks.items)
    ∙ ap (λ (t : Trailed). take c.args.count t.stack) c.self.view_is
