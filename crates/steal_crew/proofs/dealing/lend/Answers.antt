use Rattle.steal_crew.specs.Rights.{right_of}
use Rattle.steal_crew.proofs.EachLaws.{lent_hands, on_ok}
use Rattle.steal_crew.proofs.dealing.lend.Goals as goal

pub returns-clause-standings : goal.returns-clause-standings
returns-clause-standings c = λ d. on_ok c.accept.result c.accept.ensures.standing (lent_hands c.args.hands.now.items c.args.of c.args.robber d c.index_mut.result.now c.lend.new.self c.index_mut-2.result.now c.accept.new.self (right_of c.in_ok-victim.victim) c.requires.of c.requires.robber
    c.index_mut.ensures.value c.in_ok-victim.ensures.standing c.in_ok-victim.ensures.right c.index_mut-2.ensures.value)
