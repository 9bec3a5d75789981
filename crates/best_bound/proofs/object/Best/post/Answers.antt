use Rattle.std.proofs.Common.{◌≡◌, ◌∙◌, arith}
use Rattle.std.proofs.lemmas.Int.{ints}
use mir.Val.{to_z, of_z}
use mir.Syntax.{w64}
use Rattle.best_bound.proofs.Showing.{costs_pass, posts_pass, costs_all, cost_posted}
use Rattle.best_bound.proofs.object.Best.post.Goals as goal

pub returns-clause-seen : goal.returns-clause-seen
returns-clause-seen g c =
    let cast : to_z w64 (of_z w64 c.args.cost) ≡ c.args.cost = let r = c.ranges.cost in omega (arith, ints) in
    cost_posted _ _ _ _ _ _ c.tell.ensures.posted (c.cost_word-word.ensures.cost ∙ cast)

pub returns-clause-passes : goal.returns-clause-passes
returns-clause-passes g c = costs_pass g.C.Costs.is_cost _ _ c.tell.ensures.posted.hears

pub returns-clause-all : goal.returns-clause-all
returns-clause-all g c = costs_all _ _ _ c.tell.ensures.posted.hears

pub returns-clause-posts_pass : goal.returns-clause-posts_pass
returns-clause-posts_pass g c = posts_pass g.C.Costs.is_cost _ _ c.tell.ensures.posted.hears
