use Rattle.std.proofs.Common.{subst, arith}
use Rattle.model_text.specs.Turns.{IsPassed}
use Rattle.model_text.proofs.TurnLaws.{TurnLaws, fault_more, fault_end, fault_out}
use Rattle.model_text.proofs.turns.fault_behind.Goals as goal

pub loop-at-init : goal.loop-at-init
loop-at-init c =
    let laws : TurnLaws = record { nothing = c.law_tokens_in_turn.ensures.nothing; joined = c.law_tokens_in_turn.ensures.joined; whole = c.law_tokens_in_turn.ensures.whole; fault = c.law_tokens_in_turn.ensures.fault } in
    (laws, c.requires)

pub loop-at-preserved : goal.loop-at-preserved
loop-at-preserved c =
    let i = c.loop-at.invariant in
    let item = subst (IsPassed c.args.text.now c.loop-at.at) c.in-Ok-Some.field-0-is c.in-Ok-Some.ensures.item in
    (i.0, fault_more i.0 c.args.text.now c.loop-at.at c.in-Ok-Some.to c.args.kind c.args.place item.0 i.1 item.1)

pub returns-in-Ok-None : goal.returns-in-Ok-None
returns-in-Ok-None c =
    let i = c.loop-at.invariant in
    fault_end i.0 c.args.text.now c.loop-at.at c.args.kind c.args.place i.1 (subst (IsPassed c.args.text.now c.loop-at.at) c.in-Ok-None.field-0-is c.in-Ok-None.ensures.item)

pub unread-requires : goal.unread-requires
unread-requires c =
    let w = c.loop-at.invariant.1 in
    record { at = c.loop-at.at; items = w.items; before = w.before; cause = c.in-Err.ensures.cause }

pub returns : goal.returns
returns c =
    let i = c.loop-at.invariant in
    fault_out i.0 c.args.text.now c.loop-at.at c.args.kind c.args.place (omega (arith, c.loop-at-test.false)) i.1
