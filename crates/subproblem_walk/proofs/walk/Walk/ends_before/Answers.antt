use Rattle.std.proofs.Common.{None, List, subst, ◌∙◌, arith}
use Rattle.std.proofs.lemmas.List.{take_all}
use Rattle.subproblem_walk.specs.declared.turns.Turn.{Turn}
use Rattle.subproblem_walk.specs.Turns.{AreTurnsTo}
use Rattle.subproblem_walk.specs.Walks.{end_of}
use Rattle.subproblem_walk.proofs.TurnLemmas.{path_through, end_nowhere}
use Rattle.subproblem_walk.proofs.WalkLemmas.{ends_above}
use Rattle.subproblem_walk.proofs.walk.Walk.ends_before.Goals as goal

pub returns-clause-none : goal.returns-clause-none
returns-clause-none c = λ model kernels start way stands.
    let shared = c.shared_turns-shared.result in
    let n = c.if-shared-eq0.false in
    let to = subst (λ (ts : List Turn). AreTurnsTo c.args.address.depth c.args.address.number ts shared.rest.depth shared.rest.number)
    (take_all shared.count c.as_slice-turns.result.now c.if-shared-turns.false ∙ c.as_slice-turns.ensures.value) c.shared_turns-shared.ensures.turns in
    path_through model kernels c.args.address.depth c.args.address.number shared.rest.depth shared.rest.number start c.args.self.now.turns.items way c.args.self.now.end None stands.steps to
    (end_nowhere model kernels shared.rest.depth shared.rest.number (end_of start way) c.args.self.now.end (ends_above shared.rest.depth c.args.self.now.end c.in_default.not-Part (omega arith))
    stands.end c.if-is_led_to.ensures.not)

pub returns-clause-way : goal.returns-clause-way
returns-clause-way c =
    let shared = c.shared_turns-shared.result in
    let n = c.if-shared-eq0.false in
    record {
      below = shared.rest.depth;
      rest = shared.rest.number;
      turns = subst (λ (ts : List Turn). AreTurnsTo c.args.address.depth c.args.address.number ts shared.rest.depth shared.rest.number)
          (take_all shared.count c.as_slice-turns.result.now c.if-shared-turns.false ∙ c.as_slice-turns.ensures.value) c.shared_turns-shared.ensures.turns;
      ends = ends_above shared.rest.depth c.args.self.now.end c.in_default.not-Part (omega arith);
    }
