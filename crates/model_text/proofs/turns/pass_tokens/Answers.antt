use Rattle.std.proofs.Common.{[], Some, subst, arith}
use Rattle.fzn_lexer.specs.Lexing.{IsNext}
use Rattle.model_text.proofs.TurnLaws.{TurnLaws, lexed_on, lexed_end, lexed_out, stuck_on}
use Rattle.model_text.proofs.turns.pass_tokens.Goals as goal

pub loop-at-init : goal.loop-at-init
loop-at-init c =
    let laws : TurnLaws = record { nothing = c.law_tokens_in_turn.ensures.nothing; joined = c.law_tokens_in_turn.ensures.joined; whole = c.law_tokens_in_turn.ensures.whole; fault = c.law_tokens_in_turn.ensures.fault } in
    (laws, ([], laws.nothing c.args.text.now c.args.from c.requires))

pub loop-at-preserved : goal.loop-at-preserved
loop-at-preserved c =
    let i = c.loop-at.invariant in
    let next : IsNext c.args.text.now c.loop-at.at (Some c.in-Ok-Some.token) = subst (λ o. IsNext c.args.text.now c.loop-at.at o) c.in-Ok-Some.field-0-is c.in-Ok-Some.ensures in
    (i.0, lexed_on i.0 c.args.text.now c.args.from c.loop-at.at c.in-Ok-Some.token i.1 next)

pub returns-in-Ok-None-clause-whole : goal.returns-in-Ok-None-clause-whole
returns-in-Ok-None-clause-whole c =
    let i = c.loop-at.invariant in
    lexed_end i.0 c.args.text.now c.args.from c.loop-at.at i.1 (subst (λ o. IsNext c.args.text.now c.loop-at.at o) c.in-Ok-None.field-0-is c.in-Ok-None.ensures)

pub returns-in-Err-clause-fault : goal.returns-in-Err-clause-fault
returns-in-Err-clause-fault c =
    let i = c.loop-at.invariant in
    stuck_on i.0 c.args.text.now c.args.from c.loop-at.at c.in-Err.none.at i.1 c.in-Err.ensures

pub returns-clause-whole : goal.returns-clause-whole
returns-clause-whole c =
    let i = c.loop-at.invariant in
    lexed_out i.0 c.args.text.now c.args.from c.loop-at.at i.1 (omega (arith, c.loop-at-test.false))
