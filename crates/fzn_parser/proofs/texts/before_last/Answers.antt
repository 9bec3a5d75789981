use Rattle.std.proofs.Common.{arith}
use Rattle.fzn_parser.proofs.Stretches.{last_whole, last_early, last_goes, last_out}
use Rattle.fzn_parser.proofs.texts.before_last.Goals as goal

pub loop-token-preserved : goal.loop-token-preserved
loop-token-preserved c = let i = c.loop-token.invariant in
    (omega arith, last_goes c.args.text.now c.args.tokens.now c.loop-token.list _ _ c.loop-token.token-index c.is_at.result _ (omega arith) i.1 c.is_at.ensures c.if-is_at.false c.in_ok-push.ensures.pushed)

pub returns : goal.returns
returns c = let i = c.loop-token.invariant in
    last_out c.args.text.now c.args.tokens.now c.loop-token.list _ c.loop-token.token-index (omega arith) i.1

pub returns-then-left-eq0 : goal.returns-then-left-eq0
returns-then-left-eq0 c = let i = c.loop-token.invariant in
    last_whole c.args.text.now c.args.tokens.now c.loop-token.list _ c.loop-token.token-index c.is_at.result _ (omega arith) i.1 c.is_at.ensures c.if-is_at.true

pub returns-else-left-eq0 : goal.returns-else-left-eq0
returns-else-left-eq0 c = let i = c.loop-token.invariant in
    last_early c.args.text.now c.args.tokens.now c.loop-token.list _ c.loop-token.token-index c.is_at.result _ (omega arith) i.1 c.is_at.ensures c.if-is_at.true
