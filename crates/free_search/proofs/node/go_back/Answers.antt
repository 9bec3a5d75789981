use Rattle.free_search.proofs.ReadyLaws.{settled_ready}
use Rattle.free_search.proofs.node.go_back.Goals as goal

pub returns-clause-ready : goal.returns-clause-ready
returns-clause-ready g c =
    settled_ready c.law_quiet_where_closed.ensures c.law_known_where_rests.ensures c.args.run.now.program.now.kernels c.go_back_to.new.searcher c.go_back_to.ensures.settled
