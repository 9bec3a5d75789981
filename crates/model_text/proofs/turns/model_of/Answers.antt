use Rattle.std.proofs.Common.{◌<◌, ◌≤◌, [], length, subst, arith}
use Rattle.model_text.specs.Turns.{IsTakenTo, IsTakenOn}
use Rattle.model_text.proofs.TurnLaws.{TurnLaws, taken_out, items_none}
use Rattle.model_text.proofs.turns.model_of.Goals as goal

pub loop-at-init : goal.loop-at-init
loop-at-init c =
    let laws : TurnLaws = record { nothing = c.law_tokens_in_turn.ensures.nothing; joined = c.law_tokens_in_turn.ensures.joined; whole = c.law_tokens_in_turn.ensures.whole; fault = c.law_tokens_in_turn.ensures.fault } in
    (laws, record { items = []; before = items_none laws c.args.text.now c.requires; taken = c.new-resolver.ensures c.args.text.now })

pub loop-at-smaller : goal.loop-at-smaller
loop-at-smaller c =
    let on : (c.loop-at.at < c.in-Ok-Some.to) × IsTakenTo c.args.text.now c.in-Ok-Some.to c.take_next.new.resolver = subst (IsTakenOn c.args.text.now c.loop-at.at c.take_next.new.resolver) c.in-Ok-Some.field-0-is c.in-Ok-Some.ensures.taken in
    let inside : c.in-Ok-Some.to ≤ length c.args.text.now = on.1.before.lexed.inside in
    let less : c.loop-at.at < c.in-Ok-Some.to = on.0 in
    omega arith

pub loop-at-preserved : goal.loop-at-preserved
loop-at-preserved c =
    let on : (c.loop-at.at < c.in-Ok-Some.to) × IsTakenTo c.args.text.now c.in-Ok-Some.to c.take_next.new.resolver = subst (IsTakenOn c.args.text.now c.loop-at.at c.take_next.new.resolver) c.in-Ok-Some.field-0-is c.in-Ok-Some.ensures.taken in
    (c.loop-at.invariant.0, on.1)

pub finished-requires : goal.finished-requires
finished-requires c = subst (IsTakenOn c.args.text.now c.loop-at.at c.take_next.new.resolver) c.in-Ok-None.field-0-is c.in-Ok-None.ensures.taken

pub finished-requires-2 : goal.finished-requires-2
finished-requires-2 c =
    let i = c.loop-at.invariant in
    taken_out i.0 c.args.text.now c.loop-at.at c.loop-at.resolver (omega (arith, c.loop-at-test.false)) i.1
