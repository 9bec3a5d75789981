use Rattle.std.proofs.Common.{subst}
use Rattle.fzn_model.specs.Resolving.{IsCause}
use Rattle.model_text.proofs.TurnLaws.{TurnLaws, model_whole, fault_finished}
use Rattle.model_text.proofs.turns.finished.Goals as goal

pub returns-in-Ok : goal.returns-in-Ok
returns-in-Ok c =
    let laws : TurnLaws = record { nothing = c.law_tokens_in_turn.ensures.nothing; joined = c.law_tokens_in_turn.ensures.joined; whole = c.law_tokens_in_turn.ensures.whole; fault = c.law_tokens_in_turn.ensures.fault } in
    let w = c.requires in
    model_whole laws c.args.text.now c.args.resolver c.in-Ok.model w (c.in-Ok.ensures w.items w.taken)

pub returns-in-Err-Fault : goal.returns-in-Err-Fault
returns-in-Err-Fault c =
    let laws : TurnLaws = record { nothing = c.law_tokens_in_turn.ensures.nothing; joined = c.law_tokens_in_turn.ensures.joined; whole = c.law_tokens_in_turn.ensures.whole; fault = c.law_tokens_in_turn.ensures.fault } in
    let w = c.requires in
    fault_finished laws c.args.text.now c.args.resolver c.in-Err-Fault.kind c.in-Err-Fault.at w (subst (IsCause c.args.text.now w.items) c.in-Err-Fault.field-0-is (c.in-Err-Fault.ensures w.items w.taken))
