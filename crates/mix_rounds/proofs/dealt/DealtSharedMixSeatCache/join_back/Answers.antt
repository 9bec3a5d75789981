use Rattle.mix_rounds.proofs.Taking.{taken_more}
use Rattle.mix_rounds.proofs.dealt.DealtSharedMixSeatCache.join_back.Goals as goal

pub returns : goal.returns
returns c = λ first done mark moved taken ran.
    taken_more c.args.self.now first c.args.seat.now c.join_back.new.seat c.args.other done mark moved taken ran c.join_back.ensures.seen c.join_back.ensures.inside c.join_back.ensures.inside_other c.join_back.ensures.same
