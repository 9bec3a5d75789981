use Rattle.rounds.proofs.Taking.{taken_more}
use Rattle.rounds.proofs.dealt.DealtSharedSeatCache.join_back.Goals as goal

pub returns : goal.returns
returns c = λ first done mark moved taken ran.
    taken_more c.args.self.now first c.law_tell_place.ensures c.args.seat.now c.join_back.new.seat c.args.other done mark moved taken ran c.join_back.ensures.seen c.join_back.ensures.never_past c.join_back.ensures.same
