use Rattle.std.proofs.Common.{◌<◌, ◌≤◌, ◌∙◌, [], length, sym, arith}
use Rattle.fzn_lexer.proofs.Turns.{none_lacks, token_behind, none_behind, joined}
use Rattle.fzn_lexer.proofs.next_token.Goals as goal

pub returns-in_default : goal.returns-in_default
returns-in_default c = none_lacks c.args.text.now c.args.from c.loop-at.at (sym c.in_default.ensures) c.loop-at-test.true c.loop-at.invariant

pub returns-then-is_some : goal.returns-then-is_some
returns-then-is_some c = token_behind c.args.text.now c.args.from c.loop-at.at c.in-Some.found c.token_in-token.result c.in-Some.ensures c.token_in-token.ensures.token c.token_in-token.ensures.ends (sym c.is_some.ensures ∙ c.if-is_some.true) c.loop-at.invariant

pub after_blanks-at-requires-in-loop-at : goal.after_blanks-at-requires-in-loop-at
after_blanks-at-requires-in-loop-at c =
    let on = none_behind c.args.text.now c.args.from c.loop-at.at c.in-Some.found c.token_in-token.result c.in-Some.ensures c.token_in-token.ensures.token (sym c.is_some.ensures ∙ c.if-is_some.false) c.loop-at.invariant in
    on.1.inside

pub loop-at-smaller : goal.loop-at-smaller
loop-at-smaller c =
    let on = none_behind c.args.text.now c.args.from c.loop-at.at c.in-Some.found c.token_in-token.result c.in-Some.ensures c.token_in-token.ensures.token (sym c.is_some.ensures ∙ c.if-is_some.false) c.loop-at.invariant in
    let less : c.loop-at.at < c.in-Some.found.to = on.0 in
    let more : c.in-Some.found.to ≤ c.after_blanks-at-in-loop-at.result = c.after_blanks-at-in-loop-at.ensures.rises in
    let inside : c.after_blanks-at-in-loop-at.result ≤ length c.args.text.now = c.after_blanks-at-in-loop-at.ensures.inside in
    omega arith

pub loop-at-preserved : goal.loop-at-preserved
loop-at-preserved c =
    let on = none_behind c.args.text.now c.args.from c.loop-at.at c.in-Some.found c.token_in-token.result c.in-Some.ensures c.token_in-token.ensures.token (sym c.is_some.ensures ∙ c.if-is_some.false) c.loop-at.invariant in
    joined c.args.text.now c.args.from c.in-Some.found.to c.after_blanks-at-in-loop-at.result [] [] on.1 c.after_blanks-at-in-loop-at.ensures
