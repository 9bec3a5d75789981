use Rattle.domain_laws.proofs.PointDoms.{Hulls, points_inside}
use Rattle.domain_laws.proofs.PointMixes.{BoxesHavePoints, box_points}
use Rattle.domain_laws.proofs.SolutionLaws.{none_says, are_left}
use Rattle.domain_laws.proofs.law_solutions_are_left.Goals as goal

pub returns-clause-left : goal.returns-clause-left
returns-clause-left c =
    let hulls : Hulls = record { within = c.law_hull.ensures.within; ends = c.law_hull.ensures.ends } in
    let points : BoxesHavePoints = box_points (points_inside hulls) c.law_between.ensures.numbers in
    are_left c.law_drop_point.ensures points c.law_some_program.ensures c.law_inside.ensures.numbers

pub returns-clause-none : goal.returns-clause-none
returns-clause-none c =
    let hulls : Hulls = record { within = c.law_hull.ensures.within; ends = c.law_hull.ensures.ends } in
    let points : BoxesHavePoints = box_points (points_inside hulls) c.law_between.ensures.numbers in
    none_says c.law_drop_point.ensures points c.law_some_program.ensures
