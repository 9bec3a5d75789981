use Rattle.free_search.proofs.FreeLaws.{point_solves_in}
use Rattle.free_search.proofs.points.point_in.Goals as goal

pub returns : goal.returns
returns g c =
    point_solves_in c.law_inside_order.ensures c.law_fixed_is_point.ensures c.law_point_solves.ensures c.args.run.now.model.now c.args.run.now.program.now
    c.args.b.now c.args.sub.now c.in_ok-point.point c.requires.run.program c.requires.inside c.if-not-is_within.ensures c.requires.closed c.requires.fixed
    c.in_ok-point.ensures
