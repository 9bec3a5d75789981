use Rattle.std.proofs.Common.{◌≡◌, [], ℤ, Option, refl, sym, subst, ◌∙◌, arith}
use Rattle.std.specs.Prelude.{IfSome}
use Rattle.interval.specs.Boxes.{Bounds}
use Rattle.search.specs.Stacks.{boxes_of}
use Rattle.search.specs.Turns.{IsLeastTurns, CostsAtLeast, IsFirstOfItsCost}
use Rattle.search.proofs.RunLaws.{of_false}
use Rattle.search.proofs.TurnLaws.{given, number_of, least_done, least_first}
use Rattle.search.proofs.least_turns.LeastTurns.go_on.Goals as goal

pub nodes-init : goal.nodes-init
nodes-init g c = record {
  turns = subst (λ (o : Option ℤ). IsLeastTurns c.args.run.now (record c.args.self.now { lowest = o })) (sym c.lesser-self.ensures)
      (given c.args.run.now c.args.self.now c.args.best c.law_more_posted.ensures c.requires.turns (number_of c.args.run.now c.requires.run c.args.best c.requires.best));
  asked = refl;
  last = refl;
  lowest = refl;
  less = omega arith;
}

pub returns-then-branch-clause-first : goal.returns-then-branch-clause-first
returns-then-branch-clause-first g c = λ static.
    subst (λ (b : Bounds). IfSome c.step.new.self.last (IsFirstOfItsCost c.args.run.now.model.now b)) (c.in_ok-step.ensures.asked ∙ c.nodes.invariant.asked)
    (least_first c.args.run.now c.requires.run c.step.new.self c.in_ok-step.ensures.turns c.law_inside_order.ensures c.law_branches.ensures c.law_finds_first.ensures static)

pub returns-then-is_over-clause-first : goal.returns-then-is_over-clause-first
returns-then-is_over-clause-first g c = λ static.
    subst (λ (b : Bounds). IfSome c.step.new.self.last (IsFirstOfItsCost c.args.run.now.model.now b)) (c.in_ok-step.ensures.asked ∙ c.nodes.invariant.asked)
    (least_first c.args.run.now c.requires.run c.step.new.self c.in_ok-step.ensures.turns c.law_inside_order.ensures c.law_branches.ensures c.law_finds_first.ensures static)

pub returns-clause-done : goal.returns-clause-done
returns-clause-done g c =
    subst (λ (b : Bounds). CostsAtLeast c.args.run.now.model.now b c.nodes.self.lowest) c.nodes.invariant.asked
    (least_done c.args.run.now c.requires.run c.nodes.self c.nodes.invariant.turns c.law_inside_order.ensures c.law_branches.ensures c.law_finds_least.ensures
    (of_false c.has_next.result (boxes_of c.nodes.self.searcher ≡ []) c.nodes-test.false c.has_next.ensures.none))

pub returns-clause-first : goal.returns-clause-first
returns-clause-first g c = λ static.
    subst (λ (b : Bounds). IfSome c.nodes.self.last (IsFirstOfItsCost c.args.run.now.model.now b)) c.nodes.invariant.asked
    (least_first c.args.run.now c.requires.run c.nodes.self c.nodes.invariant.turns c.law_inside_order.ensures c.law_branches.ensures c.law_finds_first.ensures static)
