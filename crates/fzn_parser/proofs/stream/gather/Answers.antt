use Rattle.std.proofs.Common.{◌≡◌, ◌∙◌, ◌==◌, length, Some, sym, subst, arith, rules}
use Rattle.fzn_lexer.specs.Lexing.{IsNext}
use Rattle.fzn_parser.proofs.Gathered.{TurnLaws, lexemes_none, lexemes_more, lexemes_here, lexemes_end, lexemes_out, stuck_behind, stuck_next}
use Rattle.fzn_parser.proofs.stream.gather.Goals as goal

pub loop-at-init : goal.loop-at-init
loop-at-init c =
    let laws : TurnLaws c.args.text.now = record {
      nothing = c.law_tokens_in_turn.ensures.nothing c.args.text.now;
      joined = c.law_tokens_in_turn.ensures.joined c.args.text.now;
      one_rest = c.law_tokens_in_turn.ensures.one_rest c.args.text.now;
    } in
    rw (c.clear.ensures.items) (lexemes_none c.args.text.now c.args.from _ laws c.requires)

pub returns-then-branch-clause-stretch : goal.returns-then-branch-clause-stretch
returns-then-branch-clause-stretch c =
    let kept = c.in_ok-keep-in-Ok-Some.ensures in
    let none : c.is_empty.result ≡ (length c.loop-at.lexemes.items == 0) = search rules in
    let next : IsNext c.args.text.now c.loop-at.at (Some c.in-Ok-Some.token) = subst (λ o. IsNext c.args.text.now c.loop-at.at o) c.in-Ok-Some.field-0-is c.in-Ok-Some.ensures in
    rw (kept.lexemes, c.start_with-start.ensures) (lexemes_here c.args.text.now c.args.from c.loop-at.at c.loop-at.lexemes.items c.loop-at.start c.in-Ok-Some.token c.is_empty.result c.loop-at.invariant none next (sym kept.ends ∙ c.if-branch.true))

pub loop-at-preserved : goal.loop-at-preserved
loop-at-preserved c =
    let kept = c.in_ok-keep-in-Ok-Some.ensures in
    let none : c.is_empty.result ≡ (length c.loop-at.lexemes.items == 0) = search rules in
    let next : IsNext c.args.text.now c.loop-at.at (Some c.in-Ok-Some.token) = subst (λ o. IsNext c.args.text.now c.loop-at.at o) c.in-Ok-Some.field-0-is c.in-Ok-Some.ensures in
    rw (kept.lexemes, c.start_with-start.ensures) (lexemes_more c.args.text.now c.args.from c.loop-at.at c.loop-at.lexemes.items c.loop-at.start c.in-Ok-Some.token c.is_empty.result c.loop-at.invariant none next (sym kept.ends ∙ c.if-branch.false))

pub returns-in-Ok-None-clause-stretch : goal.returns-in-Ok-None-clause-stretch
returns-in-Ok-None-clause-stretch c =
    lexemes_end c.args.text.now c.args.from c.loop-at.at c.loop-at.lexemes.items c.loop-at.start c.loop-at.invariant (subst (λ o. IsNext c.args.text.now c.loop-at.at o) c.in-Ok-None.field-0-is c.in-Ok-None.ensures)

pub returns-in-Err-clause-cause : goal.returns-in-Err-clause-cause
returns-in-Err-clause-cause c =
    stuck_behind c.args.text.now c.args.from c.loop-at.at c.in-Err.none.at c.loop-at.invariant.tokens c.loop-at.invariant.gathered c.in-Err.ensures

pub returns-clause-stretch : goal.returns-clause-stretch
returns-clause-stretch c =
    lexemes_out c.args.text.now c.args.from c.loop-at.at c.loop-at.lexemes.items c.loop-at.start c.loop-at.invariant (omega (arith, c.loop-at-test.false))

pub returns-in-Err-clause-next : goal.returns-in-Err-clause-next
returns-in-Err-clause-next c =
    stuck_next c.args.text.now c.args.from c.loop-at.at c.in-Err.none.at c.loop-at.invariant.tokens c.loop-at.invariant.gathered c.in-Err.ensures
