use Rattle.std.proofs.Common.{refl, arith}
use Rattle.rounds.proofs.Dealing.{dealt_more}
use Rattle.rounds.proofs.cuts.deal.Goals as goal

pub returns : goal.returns
returns c =
    dealt_more c.args.j c.args.lanes c.args.shares.now.items _ c.index_mut.result.now c.push.new.self c.requires.dealt refl (omega arith) c.index_mut.ensures.value c.in_ok-push.ensures.items
