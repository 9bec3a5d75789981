use Rattle.std.proofs.Common.{subst}
use Rattle.search.specs.declared.kind.Kind.{Kind}
use Rattle.search.specs.declared.ends.AllEnd.{AllEnd}
use Rattle.search.specs.Ends.{IsAllDone, IsAllEnd, search_of}
use Rattle.best_search.proofs.AnyLaws.{are_all}
use Rattle.best_search.proofs.all.all_solutions.Goals as goal

pub returns : goal.returns
returns g c =
    let run = c.args.run.now in
    let s = search_of run.model.now run.program.now run.node_limit run.round_limit run.lanes Kind.All run.program.now.start in
    let done : IsAllDone s c.in-Done.found = subst (λ (e : AllEnd). IsAllEnd s e) c.in-Done.is c.in_ok-found.ensures in
    are_all c.law_inside_order.ensures c.law_solutions_listed.ensures run.model.now run.program.now c.requires.run.program c.requires.run.model.search c.in-Done.found done.listed
