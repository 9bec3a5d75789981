use Rattle.std.proofs.Common.{ℕ, sym, subst}
use Rattle.model_text.specs.Texts.{IsFaultOf}
use Rattle.model_text.proofs.TurnLaws.{TurnLaws, lacking, stuck_lacking}
use Rattle.model_text.proofs.turns.lacks_item.Goals as goal

pub pass_tokens-requires : goal.pass_tokens-requires
pass_tokens-requires c = c.requires.lacks.lexed.inside

pub returns-in-Ok : goal.returns-in-Ok
returns-in-Ok c =
    let laws : TurnLaws = record { nothing = c.law_tokens_in_turn.ensures.nothing; joined = c.law_tokens_in_turn.ensures.joined; whole = c.law_tokens_in_turn.ensures.whole; fault = c.law_tokens_in_turn.ensures.fault } in
    let rest = c.in-Ok.ensures.whole in
    subst (λ (k : ℕ). IsFaultOf c.args.text.now k c.args.at) (sym c.number.ensures) (lacking laws c.args.text.now c.args.at c.args.to rest.0 c.requires rest.1)

pub returns-in-Err : goal.returns-in-Err
returns-in-Err c =
    let laws : TurnLaws = record { nothing = c.law_tokens_in_turn.ensures.nothing; joined = c.law_tokens_in_turn.ensures.joined; whole = c.law_tokens_in_turn.ensures.whole; fault = c.law_tokens_in_turn.ensures.fault } in
    subst (λ (k : ℕ). IsFaultOf c.args.text.now k c.in-Err.none.at) (sym c.number-in-Err.ensures) (stuck_lacking laws c.args.text.now c.args.at c.args.to c.in-Err.none.at c.requires c.in-Err.ensures.fault)
