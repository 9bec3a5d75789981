use Rattle.std.proofs.Common.{◌≡◌, ℕ, List, take, subst, ◌∙◌, arith}
use Rattle.std.proofs.lemmas.List.{take_all}
use Rattle.moved_fixpoint.specs.Asked.{AreAskedFor}
use Rattle.moved_fixpoint.proofs.DrawnLaws.{asked_for_more}
use Rattle.moved_fixpoint.proofs.drawing.ask_each.Goals as goal

pub loop-v-preserved : goal.loop-v-preserved
loop-v-preserved c = record {
  count = c.ask_either.ensures.same_count ∙ c.loop-v.invariant.count;
  kept = λ j is_in. c.ask_either.ensures.kept j (c.loop-v.invariant.kept j is_in);
  asked = asked_for_more c.args.masks.now c.args.rests.now c.args.b.now c.args.variables.now c.loop-v.v-index c.loop-v.asked c.ask_either.new.asked c.loop-v-test.true c.loop-v.invariant.asked c.ask_either.ensures;
}

pub returns-clause-asked : goal.returns-clause-asked
returns-clause-asked c =
    let all : take c.loop-v.v-index c.args.variables.now ≡ c.args.variables.now = take_all c.loop-v.v-index c.args.variables.now (omega (arith, c.loop-v-test.false)) in
    subst (λ (vs : List ℕ). AreAskedFor c.args.masks.now c.args.rests.now c.args.b.now vs c.loop-v.asked) all c.loop-v.invariant.asked
