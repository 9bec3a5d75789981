use Rattle.std.proofs.Common.{Bool, List, subst, arith}
use Rattle.std.proofs.lemmas.List.{take_all}
use Rattle.guarded_tell.specs.Words.{Tell}
use Rattle.moved_fixpoint.specs.Asked.{AreAsked}
use Rattle.moved_fixpoint.proofs.AskedLaws.{asked_more, asked_none}
use Rattle.moved_fixpoint.proofs.running.ask_told.Goals as goal

pub loop-t-init : goal.loop-t-init
loop-t-init c = asked_none c.args.masks.now c.args.rests.now c.args.b.now c.has_one-by_side.result c.args.asked.now

pub loop-t-preserved : goal.loop-t-preserved
loop-t-preserved c =
    asked_more c.args.masks.now c.args.rests.now c.args.b.now c.has_one-by_side.result c.args.told.now c.loop-t.t-index _ c.args.asked.now c.loop-t.asked c.ask.new.asked c.loop-t-test.true c.loop-t.invariant c.ask.ensures

pub returns : goal.returns
returns c =
    let all = take_all c.loop-t.t-index c.args.told.now (omega (arith, c.loop-t-test.false)) in
    subst (λ (s : Bool). AreAsked c.args.masks.now c.args.rests.now c.args.b.now s c.args.told.now c.args.asked.now c.loop-t.asked) c.has_one-by_side.ensures
    (subst (λ (ts : List Tell). AreAsked c.args.masks.now c.args.rests.now c.args.b.now c.has_one-by_side.result ts c.args.asked.now c.loop-t.asked) all c.loop-t.invariant)
