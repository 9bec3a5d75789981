use Rattle.std.proofs.Common.{rules, sym}
use Rattle.interval.specs.Boxes.{IsCrossed, IsProper}
use Rattle.free_search.proofs.FreeLaws.{placed_for, crossed_has_none}
use Rattle.free_search.proofs.run.run_free.Goals as goal

pub is_refuted-requires : goal.is_refuted-requires
is_refuted-requires g c =
    placed_for c.args.run.now.program.now.kernels c.args.space.now c.args.sub.now c.args.learner.now c.requires.serves (sym c.requires.assumed.same_length)

pub returns-then-is_crossed-clause-refuted : goal.returns-then-is_crossed-clause-refuted
returns-then-is_crossed-clause-refuted g c =
    let crossed : IsCrossed c.args.sub.now = search rules in
    crossed_has_none c.args.run.now.program.now.kernels c.args.space.now c.args.sub.now crossed

pub rounds-requires-clause-proper : goal.rounds-requires-clause-proper
rounds-requires-clause-proper g c κs within =
    let proper : IsProper c.args.sub.now = search rules in
    c.law_inside_order.ensures.outer_is_proper c.args.sub.now c.args.space.now proper c.requires.assumed
