use Rattle.std.proofs.Common.{List, take, sym, ap, subst, ◌∙◌}
use Rattle.subproblem_walk.specs.declared.turns.Turn.{Turn}
use Rattle.interval.specs.Boxes.{Bounds}
use Rattle.subproblem_walk.specs.Turns.{AreTurnsTo}
use Rattle.subproblem_walk.specs.Walks.{IsBeatenEnd}
use Rattle.subproblem_walk.proofs.WalkLemmas.{turned, turned_to}
use Rattle.subproblem_walk.proofs.BeatenLemmas.{back_on_way, back_answer}
use Rattle.subproblem_walk.proofs.walk.Walk.from_last.Goals as goal

pub returns-then-ends_before-clause-answer : goal.returns-then-ends_before-clause-answer
returns-then-ends_before-clause-answer c =
    let on = c.requires.way in
    let to = c.if-ends_before.ensures.way in
    record {
      path = c.if-ends_before.ensures.none c.args.tree.now.model.now c.args.tree.now.program.now.kernels c.args.tree.now.start.now on.way on.stands;
      end_for = c.if-ends_before.ensures.end_for;
      made = tt;
      told = λ some. tt;
      under = record { way = on.way; stands = record { steps = on.stands.steps; end = on.stands.end }; over = on.over; same_length = on.same_length };
      way = record { below = to.below; rest = to.rest; turns = to.turns; ends = to.ends };
    }

pub go_down-requires-clause-at : goal.go_down-requires-clause-at
go_down-requires-clause-at c =
    let on = c.requires.way in
    let back = c.back_to-branching.ensures.back c.args.tree.now.model.now c.args.tree.now.program.now.kernels c.args.tree.now.start.now on.way on.stands.steps on.over in
    let turn = c.in_ok-rest-in-Some.ensures.turn in
    turned c.args.tree.now.model.now c.args.tree.now.program.now.kernels c.args.tree.now.start.now c.back_to-branching.result c.back_to-branching.new.boxes c.take_turn.new.sub.boxes
    c.back_to-branching.new.turns.items c.take_turn.new.turns.items turn.0 back turn.2

pub go_down-requires-clause-turns : goal.go_down-requires-clause-turns
go_down-requires-clause-turns c =
    let turn = c.in_ok-rest-in-Some.ensures.turn in
    let shared = c.in-Some.shared in
    turned_to c.args.tree.now.model.now c.args.tree.now.program.now.kernels c.args.address.depth c.args.address.number shared.rest.depth shared.rest.number
    c.in_ok-rest-in-Some.rest.depth c.in_ok-rest-in-Some.rest.number c.back_to-branching.result c.back_to-branching.new.boxes c.take_turn.new.sub.boxes c.back_to-branching.new.turns.items c.take_turn.new.turns.items turn.0
    (subst (λ (ts : List Turn). AreTurnsTo c.args.address.depth c.args.address.number ts shared.rest.depth shared.rest.number) (ap (take shared.count) c.as_slice.ensures.value ∙ sym c.back_to-branching.ensures.turns) c.in-Some.ensures.turns)
    c.in-Some.ensures.some c.in_ok-rest-in-Some.ensures.depth turn.1 turn.2

pub go_down-requires-clause-made : goal.go_down-requires-clause-made
go_down-requires-clause-made c =
    let on = c.requires.way in
    let back = c.back_to-branching.ensures.back c.args.tree.now.model.now c.args.tree.now.program.now.kernels c.args.tree.now.start.now on.way on.stands.steps on.over in
    c.in_ok-rest-in-Some.ensures.made c.args.tree.now.model.now c.args.tree.now.program.now.kernels back.greatest.closed back.parted

pub returns-in-Some-beaten_end-clause-answer : goal.returns-in-Some-beaten_end-clause-answer
returns-in-Some-beaten_end-clause-answer c =
    let on = c.requires.way in
    let back = c.back_to-branching.ensures.back c.args.tree.now.model.now c.args.tree.now.program.now.kernels c.args.tree.now.start.now on.way on.stands.steps on.over in
    let shared = c.in-Some.shared in
    let same = c.back_to-branching.ensures.length ∙ on.same_length in
    let h = subst (λ (b : Bounds). IsBeatenEnd c.args.tree.now.model.now c.args.best b c.in-Some-beaten_end.end) c.current.ensures c.in-Some-beaten_end.ensures in
    back_answer c.args.tree.now.model.now c.args.tree.now.program.now.kernels c.args.tree.now.start.now _ c.back_to-branching.new.boxes c.back_to-branching.result c.args.best back h c.requires.goal c.requires.cut.long same c.args.address.depth c.args.address.number shared.rest.depth shared.rest.number
    (subst (λ (ts : List Turn). AreTurnsTo c.args.address.depth c.args.address.number ts shared.rest.depth shared.rest.number) (ap (take shared.count) c.as_slice.ensures.value ∙ sym c.back_to-branching.ensures.turns) c.in-Some.ensures.turns)
    c.in-Some.ensures.some (back_on_way c.args.tree.now.model.now c.args.tree.now.program.now.kernels c.args.tree.now.start.now _ c.back_to-branching.new.boxes c.back_to-branching.result c.args.best back h c.requires.goal c.requires.cut.long same)

pub returns-in-Some-beaten_end-clause-walk : goal.returns-in-Some-beaten_end-clause-walk
returns-in-Some-beaten_end-clause-walk c =
    let on = c.requires.way in
    let back = c.back_to-branching.ensures.back c.args.tree.now.model.now c.args.tree.now.program.now.kernels c.args.tree.now.start.now on.way on.stands.steps on.over in
    let h = subst (λ (b : Bounds). IsBeatenEnd c.args.tree.now.model.now c.args.best b c.in-Some-beaten_end.end) c.current.ensures c.in-Some-beaten_end.ensures in
    record {
      boxes = back_on_way c.args.tree.now.model.now c.args.tree.now.program.now.kernels c.args.tree.now.start.now _ c.back_to-branching.new.boxes c.back_to-branching.result c.args.best back h c.requires.goal c.requires.cut.long (c.back_to-branching.ensures.length ∙ on.same_length);
      sets = c.requires.sets;
    }
