use Rattle.rounds.proofs.Taking.{round_result}
use Rattle.rounds.proofs.settling.run_together.Goals as goal

pub returns-clause-round : goal.returns-clause-round
returns-clause-round g c = round_result _ c.args.first.now c.run_dealt.new.first _ c.run_dealt.result c.requires.count c.run_dealt.ensures.taken
