use Rattle.std.proofs.Common.{length, sym, subst}
use Rattle.interval.specs.Boxes.{Bounds}
use Rattle.best_bound.specs.Seats.{numbers_seen}
use Rattle.search.specs.declared.kind.Kind.{Kind}
use Rattle.search.specs.Ends.{search_in, IsFirstEnd}
use Rattle.search.specs.Premises.{CanSearch}
use Rattle.search.proofs.SearcherLaws.{given_back, serves_start}
use Rattle.search.proofs.first.run_unposted.Goals as goal

pub search_first-requires-clause-run : goal.search_first-requires-clause-run
search_first-requires-clause-run g c = λ ks b. subst (λ (b : Bounds). CanSearch c.args.run.now (length b)) (sym c.in_ok-searcher.ensures.current) c.requires.run

pub returns-clause-end : goal.returns-clause-end
returns-clause-end g c =
    subst (λ (b : Bounds). IsFirstEnd (search_in c.args.run.now Kind.First b) c.args.numbered.now.number (numbers_seen c.search_first.new.seat) c.in_ok-end.end) c.in_ok-searcher.ensures.current
    c.in_ok-end.ensures.end

pub returns-clause-over : goal.returns-clause-over
returns-clause-over g c =
    given_back c.args.start.boxes c.into_parts-boxes.result.0 c.args.run.now.program.now.kernels c.args.run.now.lanes c.in_ok-searcher.searcher c.search_first.new.searcher
    c.in_ok-searcher.ensures.current c.in_ok-searcher.ensures.below c.in_ok-end.ensures.again c.in_ok-end.ensures.bottom c.into_parts-boxes.ensures.boxes c.into_parts-boxes.ensures.over

pub returns-clause-searcher : goal.returns-clause-searcher
returns-clause-searcher g c =
    let kernels = c.args.run.now.program.now.kernels in
    c.keep.ensures.serves kernels _ _ (c.into_parts-boxes.ensures.spare kernels _ _
    (serves_start c.args.start.boxes.current kernels c.args.run.now.lanes c.in_ok-searcher.searcher c.search_first.new.searcher c.in_ok-searcher.ensures.current c.in_ok-end.ensures.again))
