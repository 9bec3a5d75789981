use Rattle.std.proofs.Common.{ℤ, List, Option, sym, subst}
use Rattle.std.specs.Prelude.{IfSome}
use Rattle.search.specs.LeastEnds.{CostsLess}
use Rattle.search.proofs.LeastRunLaws.{popped_last, last_holds, done_of, spent_of}
use Rattle.search.proofs.least.least_end.Goals as goal

pub returns-in-Some-clause-ends : goal.returns-in-Some-clause-ends
returns-in-Some-clause-ends c = λ s h. (
  spent_of s c.args.closing c.in-Some.why c.in-Some.is h,
  popped_last c.args.closing.found c.pop-last.new.self.items c.into_vec-solutions.result.items c.pop-last.result c.into_vec-solutions.result.len c.pop-last.new.self.len
      c.into_vec-solutions.ensures c.pop-last.ensures.items c.pop-last.ensures.rest c.pop-last.ensures.cases,
)

pub returns-clause-ends : goal.returns-clause-ends
returns-clause-ends c = λ s h. (
  done_of s c.args.closing c.in-None.is h,
  popped_last c.args.closing.found c.pop-last.new.self.items c.into_vec-solutions.result.items c.pop-last.result c.into_vec-solutions.result.len c.pop-last.new.self.len
      c.into_vec-solutions.ensures c.pop-last.ensures.items c.pop-last.ensures.rest c.pop-last.ensures.cases,
)

pub returns-clause-least : goal.returns-clause-least
returns-clause-least c = λ model sub seen h. h c.in-None.is

pub returns-in-Some-clause-below : goal.returns-in-Some-clause-below
returns-in-Some-clause-below c = λ goal costs h.
    subst (λ (answer : Option (List ℤ)). IfSome answer (CostsLess goal costs))
    (sym (popped_last c.args.closing.found c.pop-last.new.self.items c.into_vec-solutions.result.items c.pop-last.result c.into_vec-solutions.result.len c.pop-last.new.self.len
    c.into_vec-solutions.ensures c.pop-last.ensures.items c.pop-last.ensures.rest c.pop-last.ensures.cases))
    (last_holds (CostsLess goal costs) c.args.closing.found h)

pub returns-clause-below : goal.returns-clause-below
returns-clause-below c = λ goal costs h.
    subst (λ (answer : Option (List ℤ)). IfSome answer (CostsLess goal costs))
    (sym (popped_last c.args.closing.found c.pop-last.new.self.items c.into_vec-solutions.result.items c.pop-last.result c.into_vec-solutions.result.len c.pop-last.new.self.len
    c.into_vec-solutions.ensures c.pop-last.ensures.items c.pop-last.ensures.rest c.pop-last.ensures.cases))
    (last_holds (CostsLess goal costs) c.args.closing.found h)
