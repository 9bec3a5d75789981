use Rattle.std.proofs.Common.{subst}
use Rattle.fzn_parser.specs.Stream.{IsNextItem}
use Rattle.model_text.proofs.TurnLaws.{TurnLaws, taken_end}
use Rattle.model_text.proofs.turns.take_next.Goals as goal

pub next_item-requires : goal.next_item-requires
next_item-requires c = c.requires.before.lexed.inside

pub take_item-requires : goal.take_item-requires
take_item-requires c =
    let item = subst (IsNextItem c.args.text.now c.args.at) c.in-Ok-Some.field-0-is c.in-Ok-Some.ensures.item in
    (c.args.at, (c.requires, item))

pub returns-in-Ok-None-clause-taken : goal.returns-in-Ok-None-clause-taken
returns-in-Ok-None-clause-taken c =
    let laws : TurnLaws = record { nothing = c.law_tokens_in_turn.ensures.nothing; joined = c.law_tokens_in_turn.ensures.joined; whole = c.law_tokens_in_turn.ensures.whole; fault = c.law_tokens_in_turn.ensures.fault } in
    taken_end laws c.args.text.now c.args.at c.args.resolver.now c.requires (subst (IsNextItem c.args.text.now c.args.at) c.in-Ok-None.field-0-is c.in-Ok-None.ensures.item)

pub returns-in_ok-take_item-in-Ok-Some-clause-taken : goal.returns-in_ok-take_item-in-Ok-Some-clause-taken
returns-in_ok-take_item-in-Ok-Some-clause-taken c =
    let item = subst (IsNextItem c.args.text.now c.args.at) c.in-Ok-Some.field-0-is c.in-Ok-Some.ensures.item in
    (item.onward, c.in_ok-take_item-in-Ok-Some.ensures.taken)

pub unread-requires : goal.unread-requires
unread-requires c =
    let w = c.requires in
    record { at = c.args.at; items = w.items; before = w.before; cause = c.in-Err.ensures.cause }
