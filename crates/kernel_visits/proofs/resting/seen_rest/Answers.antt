-- What is seen of a shape is so of its kernel in all boxes inside.
use Rattle.std.proofs.Common.{subst}
use Rattle.kernel_visits.specs.declared.shape.Shape.{Shape}
use Rattle.kernel_visits.specs.Shapes.{IsShapeOf}
use Rattle.kernel_visits.proofs.ShapeQuiet.{at_most_places, same_places, either_places, triple_places}
use Rattle.kernel_visits.proofs.SeenLaws.{at_most_seen, same_seen, either_seen, triple_seen}
use Rattle.kernel_visits.proofs.resting.seen_rest.Goals as goal

pub difference-requires-clause-first : goal.difference-requires-clause-first
difference-requires-clause-first c = (at_most_places c.args.k.now c.args.b.now c.in-AtMost.lit c.in-AtMost.x c.in-AtMost.y c.in-AtMost.limit c.requires.kernel c.requires.proper (subst (λ (s : Shape). IsShapeOf c.args.k.now s) c.in-AtMost.is c.requires.shape)).first

pub difference-requires-clause-second : goal.difference-requires-clause-second
difference-requires-clause-second c = (at_most_places c.args.k.now c.args.b.now c.in-AtMost.lit c.in-AtMost.x c.in-AtMost.y c.in-AtMost.limit c.requires.kernel c.requires.proper (subst (λ (s : Shape). IsShapeOf c.args.k.now s) c.in-AtMost.is c.requires.shape)).second

pub difference-requires-clause-proper_first : goal.difference-requires-clause-proper_first
difference-requires-clause-proper_first c = (at_most_places c.args.k.now c.args.b.now c.in-AtMost.lit c.in-AtMost.x c.in-AtMost.y c.in-AtMost.limit c.requires.kernel c.requires.proper (subst (λ (s : Shape). IsShapeOf c.args.k.now s) c.in-AtMost.is c.requires.shape)).first_proper

pub difference-requires-clause-proper_second : goal.difference-requires-clause-proper_second
difference-requires-clause-proper_second c = (at_most_places c.args.k.now c.args.b.now c.in-AtMost.lit c.in-AtMost.x c.in-AtMost.y c.in-AtMost.limit c.requires.kernel c.requires.proper (subst (λ (s : Shape). IsShapeOf c.args.k.now s) c.in-AtMost.is c.requires.shape)).second_proper

pub at_most_rest-requires-clause-variable : goal.at_most_rest-requires-clause-variable
at_most_rest-requires-clause-variable c = (at_most_places c.args.k.now c.args.b.now c.in-AtMost.lit c.in-AtMost.x c.in-AtMost.y c.in-AtMost.limit c.requires.kernel c.requires.proper (subst (λ (s : Shape). IsShapeOf c.args.k.now s) c.in-AtMost.is c.requires.shape)).literal

pub at_most_rest-requires-clause-proper : goal.at_most_rest-requires-clause-proper
at_most_rest-requires-clause-proper c = (at_most_places c.args.k.now c.args.b.now c.in-AtMost.lit c.in-AtMost.x c.in-AtMost.y c.in-AtMost.limit c.requires.kernel c.requires.proper (subst (λ (s : Shape). IsShapeOf c.args.k.now s) c.in-AtMost.is c.requires.shape)).literal_proper

pub difference-requires-in-Same-clause-first : goal.difference-requires-in-Same-clause-first
difference-requires-in-Same-clause-first c = (same_places c.args.k.now c.args.b.now c.in-Same.lit c.in-Same.x c.in-Same.y c.in-Same.limit c.requires.kernel c.requires.proper (subst (λ (s : Shape). IsShapeOf c.args.k.now s) c.in-Same.is c.requires.shape)).first

pub difference-requires-in-Same-clause-second : goal.difference-requires-in-Same-clause-second
difference-requires-in-Same-clause-second c = (same_places c.args.k.now c.args.b.now c.in-Same.lit c.in-Same.x c.in-Same.y c.in-Same.limit c.requires.kernel c.requires.proper (subst (λ (s : Shape). IsShapeOf c.args.k.now s) c.in-Same.is c.requires.shape)).second

pub difference-requires-in-Same-clause-proper_first : goal.difference-requires-in-Same-clause-proper_first
difference-requires-in-Same-clause-proper_first c = (same_places c.args.k.now c.args.b.now c.in-Same.lit c.in-Same.x c.in-Same.y c.in-Same.limit c.requires.kernel c.requires.proper (subst (λ (s : Shape). IsShapeOf c.args.k.now s) c.in-Same.is c.requires.shape)).first_proper

pub difference-requires-in-Same-clause-proper_second : goal.difference-requires-in-Same-clause-proper_second
difference-requires-in-Same-clause-proper_second c = (same_places c.args.k.now c.args.b.now c.in-Same.lit c.in-Same.x c.in-Same.y c.in-Same.limit c.requires.kernel c.requires.proper (subst (λ (s : Shape). IsShapeOf c.args.k.now s) c.in-Same.is c.requires.shape)).second_proper

pub same_rest-requires-clause-variable : goal.same_rest-requires-clause-variable
same_rest-requires-clause-variable c = (same_places c.args.k.now c.args.b.now c.in-Same.lit c.in-Same.x c.in-Same.y c.in-Same.limit c.requires.kernel c.requires.proper (subst (λ (s : Shape). IsShapeOf c.args.k.now s) c.in-Same.is c.requires.shape)).literal

pub same_rest-requires-clause-proper : goal.same_rest-requires-clause-proper
same_rest-requires-clause-proper c = (same_places c.args.k.now c.args.b.now c.in-Same.lit c.in-Same.x c.in-Same.y c.in-Same.limit c.requires.kernel c.requires.proper (subst (λ (s : Shape). IsShapeOf c.args.k.now s) c.in-Same.is c.requires.shape)).literal_proper

pub either_rest-requires-clause-first : goal.either_rest-requires-clause-first
either_rest-requires-clause-first c = (either_places c.args.k.now c.args.b.now c.in-Either.first c.in-Either.second c.requires.kernel c.requires.proper (subst (λ (s : Shape). IsShapeOf c.args.k.now s) c.in-Either.is c.requires.shape)).first

pub either_rest-requires-clause-second : goal.either_rest-requires-clause-second
either_rest-requires-clause-second c = (either_places c.args.k.now c.args.b.now c.in-Either.first c.in-Either.second c.requires.kernel c.requires.proper (subst (λ (s : Shape). IsShapeOf c.args.k.now s) c.in-Either.is c.requires.shape)).second

pub either_rest-requires-clause-proper_first : goal.either_rest-requires-clause-proper_first
either_rest-requires-clause-proper_first c = (either_places c.args.k.now c.args.b.now c.in-Either.first c.in-Either.second c.requires.kernel c.requires.proper (subst (λ (s : Shape). IsShapeOf c.args.k.now s) c.in-Either.is c.requires.shape)).first_proper

pub either_rest-requires-clause-proper_second : goal.either_rest-requires-clause-proper_second
either_rest-requires-clause-proper_second c = (either_places c.args.k.now c.args.b.now c.in-Either.first c.in-Either.second c.requires.kernel c.requires.proper (subst (λ (s : Shape). IsShapeOf c.args.k.now s) c.in-Either.is c.requires.shape)).second_proper

pub returns-in-AtMost : goal.returns-in-AtMost
returns-in-AtMost c =
    at_most_seen c.law_quotient_order.ensures c.law_clamp_order.ensures c.args.b.now c.args.k.now c.requires.kernel c.requires.proper c.in-AtMost.lit c.in-AtMost.x c.in-AtMost.y c.in-AtMost.limit c.difference.result c.difference.ensures
    (subst (λ (s : Shape). IsShapeOf c.args.k.now s) c.in-AtMost.is c.requires.shape) c.at_most_rest.result c.at_most_rest.ensures

pub returns-in-Same : goal.returns-in-Same
returns-in-Same c =
    same_seen c.law_quotient_order.ensures c.law_clamp_order.ensures c.args.b.now c.args.k.now c.requires.kernel c.requires.proper c.in-Same.lit c.in-Same.x c.in-Same.y c.in-Same.limit c.difference-in-Same.result c.difference-in-Same.ensures
    (subst (λ (s : Shape). IsShapeOf c.args.k.now s) c.in-Same.is c.requires.shape) c.same_rest.result c.same_rest.ensures

pub returns-in-Either : goal.returns-in-Either
returns-in-Either c =
    either_seen c.law_quotient_order.ensures c.law_clamp_order.ensures c.args.b.now c.args.k.now c.requires.kernel c.requires.proper c.in-Either.first c.in-Either.second
    (subst (λ (s : Shape). IsShapeOf c.args.k.now s) c.in-Either.is c.requires.shape) c.either_rest.result c.either_rest.ensures

pub triple_rest-requires-clause-first : goal.triple_rest-requires-clause-first
triple_rest-requires-clause-first c = (triple_places c.args.k.now c.args.b.now c.in-Triple.first c.in-Triple.second c.in-Triple.third c.requires.kernel c.requires.proper (subst (λ (s : Shape). IsShapeOf c.args.k.now s) c.in-Triple.is c.requires.shape)).first

pub triple_rest-requires-clause-second : goal.triple_rest-requires-clause-second
triple_rest-requires-clause-second c = (triple_places c.args.k.now c.args.b.now c.in-Triple.first c.in-Triple.second c.in-Triple.third c.requires.kernel c.requires.proper (subst (λ (s : Shape). IsShapeOf c.args.k.now s) c.in-Triple.is c.requires.shape)).second

pub triple_rest-requires-clause-third : goal.triple_rest-requires-clause-third
triple_rest-requires-clause-third c = (triple_places c.args.k.now c.args.b.now c.in-Triple.first c.in-Triple.second c.in-Triple.third c.requires.kernel c.requires.proper (subst (λ (s : Shape). IsShapeOf c.args.k.now s) c.in-Triple.is c.requires.shape)).third

pub triple_rest-requires-clause-proper_first : goal.triple_rest-requires-clause-proper_first
triple_rest-requires-clause-proper_first c = (triple_places c.args.k.now c.args.b.now c.in-Triple.first c.in-Triple.second c.in-Triple.third c.requires.kernel c.requires.proper (subst (λ (s : Shape). IsShapeOf c.args.k.now s) c.in-Triple.is c.requires.shape)).first_proper

pub triple_rest-requires-clause-proper_second : goal.triple_rest-requires-clause-proper_second
triple_rest-requires-clause-proper_second c = (triple_places c.args.k.now c.args.b.now c.in-Triple.first c.in-Triple.second c.in-Triple.third c.requires.kernel c.requires.proper (subst (λ (s : Shape). IsShapeOf c.args.k.now s) c.in-Triple.is c.requires.shape)).second_proper

pub triple_rest-requires-clause-proper_third : goal.triple_rest-requires-clause-proper_third
triple_rest-requires-clause-proper_third c = (triple_places c.args.k.now c.args.b.now c.in-Triple.first c.in-Triple.second c.in-Triple.third c.requires.kernel c.requires.proper (subst (λ (s : Shape). IsShapeOf c.args.k.now s) c.in-Triple.is c.requires.shape)).third_proper

pub returns-in-Triple : goal.returns-in-Triple
returns-in-Triple c =
    triple_seen c.law_quotient_order.ensures c.law_clamp_order.ensures c.args.b.now c.args.k.now c.requires.kernel c.requires.proper c.in-Triple.first c.in-Triple.second c.in-Triple.third
    (subst (λ (s : Shape). IsShapeOf c.args.k.now s) c.in-Triple.is c.requires.shape) c.triple_rest.result c.triple_rest.ensures
