use Rattle.std.proofs.Common.{length, refl, sym, subst, ◌∙◌}
use Rattle.interval.specs.Boxes.{Bounds}
use Rattle.search.specs.declared.kind.Kind.{Kind}
use Rattle.search.specs.Ends.{search_in, IsAllEnd}
use Rattle.search.specs.Premises.{CanSearch}
use Rattle.search.proofs.SearcherLaws.{given_back, serves_start}
use Rattle.search.proofs.all.run_all_from.Goals as goal

pub search_all-requires-clause-run : goal.search_all-requires-clause-run
search_all-requires-clause-run g c = λ ks b. subst (λ (b : Bounds). CanSearch c.args.run.now (length b)) (c.current.ensures ∙ sym c.in_ok-searcher.ensures.current) c.law_can_search.ensures

pub returns-clause-end : goal.returns-clause-end
returns-clause-end g c =
    subst (λ (b : Bounds). IsAllEnd (search_in c.args.run.now Kind.All b) c.all_end-end.result) c.in_ok-searcher.ensures.current
    (c.all_end-end.ensures (search_in c.args.run.now Kind.All c.in_ok-searcher.searcher.boxes.current) refl c.in_ok-closing.ensures.closing)

pub returns-clause-over : goal.returns-clause-over
returns-clause-over g c =
    given_back c.args.start.boxes c.into_parts-boxes.result.0 c.args.run.now.program.now.kernels c.args.run.now.lanes c.in_ok-searcher.searcher c.search_all.new.searcher
    c.in_ok-searcher.ensures.current c.in_ok-searcher.ensures.below c.in_ok-closing.ensures.again c.in_ok-closing.ensures.bottom c.into_parts-boxes.ensures.boxes c.into_parts-boxes.ensures.over

pub returns-clause-searcher : goal.returns-clause-searcher
returns-clause-searcher g c =
    let kernels = c.args.run.now.program.now.kernels in
    c.keep.ensures.serves kernels _ _ (c.into_parts-boxes.ensures.spare kernels _ _
    (serves_start c.args.start.boxes.current kernels c.args.run.now.lanes c.in_ok-searcher.searcher c.search_all.new.searcher c.in_ok-searcher.ensures.current c.in_ok-closing.ensures.again))
