use Rattle.std.proofs.Common.{arith}
use Rattle.fzn_parser.proofs.Stretches.{stretch_ends, stretch_goes, stretch_out}
use Rattle.fzn_parser.proofs.texts.stretch_len.Goals as goal

pub returns-then-is_at-clause-stretch : goal.returns-then-is_at-clause-stretch
returns-then-is_at-clause-stretch c = let i = c.loop-token.invariant in
    stretch_ends c.args.text.now c.args.tokens.now _ c.loop-token.token-index c.loop-token.len c.is_at.result _ i.0 (omega arith) i.1 c.is_at.ensures c.if-is_at.true

pub loop-token-preserved : goal.loop-token-preserved
loop-token-preserved c = let i = c.loop-token.invariant in
    (omega arith, stretch_goes c.args.text.now c.args.tokens.now _ c.loop-token.token-index c.loop-token.len c.is_at.result _ i.0 (omega arith) i.1 c.is_at.ensures c.if-is_at.false)

pub returns-clause-stretch : goal.returns-clause-stretch
returns-clause-stretch c = let i = c.loop-token.invariant in
    stretch_out c.args.text.now c.args.tokens.now _ c.loop-token.token-index c.loop-token.len i.0 (omega arith) i.1
