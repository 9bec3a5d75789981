use Rattle.std.proofs.Common.{◌≡◌, ℤ, List, [], Option, sym, ap, subst, ◌∙◌, rules, arith}
use Rattle.std.proofs.lemmas.Grind.{common_steps}
use Rattle.std.specs.List.{AllZip}
use Rattle.portfolio.specs.declared.told.FirstTold.{FirstTold}
use Rattle.portfolio.specs.Told.{TellsFirst}
use Rattle.portfolio.proofs.TogetherLaws.{left_first, left_next, first_there, none_there}
use Rattle.portfolio.proofs.together.first_of_parts.Goals as goal

pub loop-part-init : goal.loop-part-init
loop-part-init c = λ lists h.
    left_first lists c.into_iter-part-iterator.result.rest.items (subst (λ (told : List FirstTold). AllZip TellsFirst lists told) (sym c.into_iter-part-iterator.ensures.into_iter_gives.0) h)

pub loop-part-preserved : goal.loop-part-preserved
loop-part-preserved c = λ lists h.
    left_next lists c.loop-part.part-iterator.rest.items c.next.new.self.rest.items c.in-Some.part c.in-Some.ensures.steps.0 (c.in-Known-None.is ∙ ap (λ (o : Option (List ℤ)). FirstTold.Known o) c.in-Known-None.field-0-is) (c.loop-part.invariant lists h)

pub returns-in-Known-Some : goal.returns-in-Known-Some
returns-in-Known-Some c = λ lists h.
    first_there lists c.loop-part.part-iterator.rest.items c.next.new.self.rest.items c.in-Some.part c.in-Known-Some.values c.in-Some.ensures.steps.0 (c.in-Known-Some.is ∙ ap (λ (o : Option (List ℤ)). FirstTold.Known o) c.in-Known-Some.field-0-is) (c.loop-part.invariant lists h)

pub returns : goal.returns
returns c = λ lists h.
    let over : c.loop-part.part-iterator.rest.items ≡ [] = first_of (search rules, grind (arith, common_steps)) in
    none_there lists c.loop-part.part-iterator.rest.items over (c.loop-part.invariant lists h)
