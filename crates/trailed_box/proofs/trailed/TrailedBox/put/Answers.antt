use Rattle.std.proofs.Common.{ap, ◌∙◌}
use Rattle.trailed_box.specs.Trailed.{Trailed}
use Rattle.trailed_box.proofs.TrailLaws.{stack_after_put, put_cast}
use Rattle.trailed_box.proofs.trailed.TrailedBox.put.Goals as goal

pub returns-clause-stack : goal.returns-clause-stack
returns-clause-stack c =
    let now = c.put.ensures ∙ put_cast c.self.inside.current c.args.v c.args.low c.args.high c.ranges.low c.ranges.high in
    stack_after_put c.self.inside.marks.items c.as_slice.result.now c.self.inside.trail.items c.note.new.trail.items c.self.inside.current c.put.new.self
    c.args.v c.args.low c.args.high c.as_slice.ensures.value now c.in_ok-note.ensures.spared
    ∙ ap (λ (t : Trailed). t.stack) c.self.view_is
