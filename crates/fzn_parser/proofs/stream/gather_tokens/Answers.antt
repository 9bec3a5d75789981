use Rattle.std.proofs.Common.{◌∙◌, List, Some, sym, subst, arith}
use Rattle.fzn_lexer.specs.declared.Token.{Token}
use Rattle.fzn_lexer.specs.Lexing.{IsNext}
use Rattle.fzn_parser.specs.Stream.{IsStretch}
use Rattle.fzn_parser.proofs.Gathered.{TurnLaws, gathered_none, gathered_more, stretch_here, stretch_end, stretch_out, stuck_behind, stuck_next}
use Rattle.fzn_parser.proofs.stream.gather_tokens.Goals as goal

pub loop-at-init : goal.loop-at-init
loop-at-init c =
    let laws : TurnLaws c.args.text.now = record {
      nothing = c.law_tokens_in_turn.ensures.nothing c.args.text.now;
      joined = c.law_tokens_in_turn.ensures.joined c.args.text.now;
      one_rest = c.law_tokens_in_turn.ensures.one_rest c.args.text.now;
    } in
    rw (c.clear.ensures.items) (gathered_none c.args.text.now c.args.from laws c.requires)

pub returns-then-branch-clause-stretch : goal.returns-then-branch-clause-stretch
returns-then-branch-clause-stretch c =
    let kept = c.in_ok-keep_token-in-Ok-Some.ensures in
    let next : IsNext c.args.text.now c.loop-at.at (Some c.in-Ok-Some.token) = subst (λ o. IsNext c.args.text.now c.loop-at.at o) c.in-Ok-Some.field-0-is c.in-Ok-Some.ensures in
    subst (λ (us : List Token). IsStretch c.args.text.now c.args.from c.in-Ok-Some.token.to us) (sym kept.tokens)
    (stretch_here c.args.text.now c.args.from c.loop-at.at c.loop-at.tokens.items c.in-Ok-Some.token c.loop-at.invariant next (sym kept.ends ∙ c.if-branch.true))

pub loop-at-preserved : goal.loop-at-preserved
loop-at-preserved c =
    let kept = c.in_ok-keep_token-in-Ok-Some.ensures in
    let next : IsNext c.args.text.now c.loop-at.at (Some c.in-Ok-Some.token) = subst (λ o. IsNext c.args.text.now c.loop-at.at o) c.in-Ok-Some.field-0-is c.in-Ok-Some.ensures in
    rw (kept.tokens) (gathered_more c.args.text.now c.args.from c.loop-at.at c.loop-at.tokens.items c.in-Ok-Some.token c.loop-at.invariant next (sym kept.ends ∙ c.if-branch.false))

pub returns-in-Ok-None-clause-stretch : goal.returns-in-Ok-None-clause-stretch
returns-in-Ok-None-clause-stretch c =
    stretch_end c.args.text.now c.args.from c.loop-at.at c.loop-at.tokens.items c.loop-at.invariant (subst (λ o. IsNext c.args.text.now c.loop-at.at o) c.in-Ok-None.field-0-is c.in-Ok-None.ensures)

pub returns-in-Err-clause-cause : goal.returns-in-Err-clause-cause
returns-in-Err-clause-cause c =
    stuck_behind c.args.text.now c.args.from c.loop-at.at c.in-Err.none.at c.loop-at.tokens.items c.loop-at.invariant c.in-Err.ensures

pub returns-clause-stretch : goal.returns-clause-stretch
returns-clause-stretch c =
    stretch_out c.args.text.now c.args.from c.loop-at.at c.loop-at.tokens.items c.loop-at.invariant (omega (arith, c.loop-at-test.false))

pub returns-in-Err-clause-next : goal.returns-in-Err-clause-next
returns-in-Err-clause-next c =
    stuck_next c.args.text.now c.args.from c.loop-at.at c.in-Err.none.at c.loop-at.tokens.items c.loop-at.invariant c.in-Err.ensures
