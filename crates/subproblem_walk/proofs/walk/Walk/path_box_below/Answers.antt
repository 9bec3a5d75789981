use Rattle.subproblem_walk.specs.Walks.{box_of}
use Rattle.subproblem_walk.proofs.StartLemmas.{start_can}
use Rattle.subproblem_walk.proofs.WalkLemmas.{if_ok}
use Rattle.subproblem_walk.proofs.BeatenLemmas.{answer_below, found_inside}
use Rattle.subproblem_walk.proofs.walk.Walk.path_box_below.Goals as goal

pub returns-clause-path : goal.returns-clause-path
returns-clause-path c =
    if_ok c.go.result (λ found answer.
    answer_below c.args.tree.now.model.now c.args.tree.now.program.now.kernels c.args.tree.now.start.now c.args.tree.now.depth c.args.number c.law_inside_order.ensures c.law_paths.ensures c.law_cuts.ensures
    (start_can c.args.tree.now.model.now c.args.tree.now.program.now c.args.tree.now.start.now c.requires.program c.requires.phases c.requires.length c.len-length.ensures.in_range)
    c.args.best c.requires.goal c.go.new.self found answer) c.go.ensures.answer

pub returns-clause-inside : goal.returns-clause-inside
returns-clause-inside c =
    if_ok c.go.result (λ found answer.
    found_inside c.args.tree.now.model.now c.args.tree.now.program.now.kernels c.args.tree.now.start.now c.args.tree.now.depth c.args.number c.law_paths.ensures
    (start_can c.args.tree.now.model.now c.args.tree.now.program.now c.args.tree.now.start.now c.requires.program c.requires.phases c.requires.length c.len-length.ensures.in_range)
    c.go.new.self.end (box_of found) answer.path) c.go.ensures.answer
