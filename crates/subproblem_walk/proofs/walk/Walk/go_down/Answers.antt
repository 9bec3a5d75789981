use Rattle.std.proofs.Common.{ℕ, refl, subst, ◌∙◌}
use Rattle.subproblem_walk.specs.Nodes.{Serve}
use Rattle.subproblem_walk.proofs.WalkLemmas.{there, way_there, answer_there, answer_nowhere}
use Rattle.subproblem_walk.proofs.walk.Walk.go_down.Goals as goal

pub returns-then-is_led_to-clause-answer : goal.returns-then-is_led_to-clause-answer
returns-then-is_led_to-clause-answer c =
    let th = there c.args.tree.now.model.now c.args.tree.now.program.now.kernels c.args.tree.now.start.now c.args.whole c.args.rest c.args.sub.boxes c.lead.new.sub.boxes
    c.args.self.now.turns.items c.lead.new.turns.items c.in_ok-reached.reached c.requires.at c.requires.turns c.in_ok-reached.ensures.way in
    let led = c.if-is_led_to.ensures.led in
    answer_there c.args.tree.now.model.now c.args.tree.now.program.now.kernels c.args.tree.now.start.now c.args.whole _ c.lead.new.sub.boxes c.in_ok-reached.reached th refl c.args.best c.in_ok-reached.ensures.end_for
    c.lead.new.sub refl c.in_ok-reached.ensures.way.ends led (c.in_ok-reached.ensures.made led) (λ some. c.in_ok-reached.ensures.told (λ zero_is. c.requires.told some zero_is) led)

pub returns-clause-answer : goal.returns-clause-answer
returns-clause-answer c =
    let th = there c.args.tree.now.model.now c.args.tree.now.program.now.kernels c.args.tree.now.start.now c.args.whole c.args.rest c.args.sub.boxes c.lead.new.sub.boxes
    c.args.self.now.turns.items c.lead.new.turns.items c.in_ok-reached.reached c.requires.at c.requires.turns c.in_ok-reached.ensures.way in
    answer_nowhere c.args.tree.now.model.now c.args.tree.now.program.now.kernels c.args.tree.now.start.now c.args.whole _ c.lead.new.sub.boxes c.in_ok-reached.reached th refl c.args.best c.in_ok-reached.ensures.end_for
    (c.lead.ensures.length ∙ c.requires.length) refl c.in_ok-reached.ensures.way.ends c.if-is_led_to.ensures.not

pub returns-clause-walk : goal.returns-clause-walk
returns-clause-walk c =
    let th = there c.args.tree.now.model.now c.args.tree.now.program.now.kernels c.args.tree.now.start.now c.args.whole c.args.rest c.args.sub.boxes c.lead.new.sub.boxes
    c.args.self.now.turns.items c.lead.new.turns.items c.in_ok-reached.reached c.requires.at c.requires.turns c.in_ok-reached.ensures.way in
    record {
      boxes =
          way_there c.args.tree.now.model.now c.args.tree.now.program.now.kernels c.args.tree.now.start.now c.args.whole _ c.lead.new.sub.boxes c.in_ok-reached.reached th refl c.args.best c.in_ok-reached.ensures.end_for
          (c.lead.ensures.length ∙ c.requires.length);
      sets = subst (λ (n : ℕ). Serve c.lead.new.sets c.args.tree.now.program.now.kernels n) c.requires.length c.in_ok-reached.ensures.sets;
    }
