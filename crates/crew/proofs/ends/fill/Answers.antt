use Rattle.std.proofs.Common.{◌≡◌, ◌++◌, [], ◌∷◌, ap, sym, subst, ◌∙◌, arith, append_assoc}
use Rattle.tickets.specs.Counting.{IsEachOnce}
use Rattle.crew.specs.Ends.{numbers_of}
use Rattle.crew.proofs.Filling.{number_below, hold_after}
use Rattle.crew.proofs.ends.fill.Goals as goal

pub put-requires : goal.put-requires
put-requires g c =
    let all : c.loop-number.yielded ++ (c.in-Some.number, c.in-Some.end) ∷ c.next.new.self.rest.items ≡ c.args.runs.items =
    ap (λ xs. c.loop-number.yielded ++ xs) (sym c.in-Some.ensures.steps.0) ∙ c.loop-number.invariant.all in
    let below = number_below c.args.count c.in-Some.number c.in-Some.end c.loop-number.yielded c.next.new.self.rest.items
    (subst (λ xs. IsEachOnce c.args.count (numbers_of xs)) (sym all) c.requires.each_once) in
    let size = c.loop-number.invariant.held.length_is in omega arith

pub loop-number-preserved : goal.loop-number-preserved
loop-number-preserved g c =
    let all : c.loop-number.yielded ++ (c.in-Some.number, c.in-Some.end) ∷ c.next.new.self.rest.items ≡ c.args.runs.items =
    ap (λ xs. c.loop-number.yielded ++ xs) (sym c.in-Some.ensures.steps.0) ∙ c.loop-number.invariant.all in
    let below = number_below c.args.count c.in-Some.number c.in-Some.end c.loop-number.yielded c.next.new.self.rest.items
    (subst (λ xs. IsEachOnce c.args.count (numbers_of xs)) (sym all) c.requires.each_once) in record {
      all = append_assoc c.loop-number.yielded ((c.in-Some.number, c.in-Some.end) ∷ []) c.next.new.self.rest.items ∙ all;
      held = hold_after c.args.count c.in-Some.number c.in-Some.end c.loop-number.yielded c.loop-number.slots.items c.put.new.slots.items below c.loop-number.invariant.held c.put.ensures;
    }
