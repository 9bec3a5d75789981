use Rattle.std.proofs.Common.{ℕ, sym, subst}
use Rattle.model_text.specs.Texts.{IsFaultOf}
use Rattle.model_text.specs.Turns.{IsUnread}
use Rattle.model_text.proofs.TurnLaws.{TurnLaws, stuck_unread, lacks_unread}
use Rattle.model_text.proofs.turns.unread.Goals as goal

pub returns-in-NoToken : goal.returns-in-NoToken
returns-in-NoToken c =
    let laws : TurnLaws = record { nothing = c.law_tokens_in_turn.ensures.nothing; joined = c.law_tokens_in_turn.ensures.joined; whole = c.law_tokens_in_turn.ensures.whole; fault = c.law_tokens_in_turn.ensures.fault } in
    subst (λ (k : ℕ). IsFaultOf c.args.text.now k c.in-NoToken.at) (sym c.number.ensures) (stuck_unread laws c.args.text.now c.in-NoToken.at (subst (IsUnread c.args.text.now) c.in-NoToken.is c.requires))

pub lacks_item-requires : goal.lacks_item-requires
lacks_item-requires c = lacks_unread c.args.text.now c.in-NoItem.at c.in-NoItem.to (subst (IsUnread c.args.text.now) c.in-NoItem.is c.requires)
