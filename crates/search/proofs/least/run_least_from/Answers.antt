use Rattle.std.proofs.Common.{sym, subst}
use Rattle.interval.specs.Boxes.{Bounds, IsInside}
use Rattle.best_bound.specs.Seats.{costs_seen, costs_posted}
use Rattle.search.specs.LeastEnds.{least_in, least_alone, EndsLeast, IsBrokenOff, CostAtLeast, OnDone}
use Rattle.search.proofs.LeastRunLaws.{on_any_err, broken_at_start}
use Rattle.search.proofs.SearcherLaws.{given_back, serves_start}
use Rattle.search.proofs.least.run_least_from.Goals as goal

pub search_least-requires-clause-inside : goal.search_least-requires-clause-inside
search_least-requires-clause-inside g c = λ ks b. subst (λ (b : Bounds). IsInside b c.args.run.now.program.now.start) (sym c.in_ok-searcher.ensures.current) c.requires.inside

pub returns-clause-end : goal.returns-clause-end
returns-clause-end g c = record {
  found = c.in_ok-closing.closing.found;
  ends = subst (λ (b : Bounds). EndsLeast (least_in c.args.run.now (costs_seen c.search_least.new.seat) b) c.in_ok-closing.closing.found c.least_end-end.result) c.in_ok-searcher.ensures.current
      (c.least_end-end.ensures.ends (least_in c.args.run.now (costs_seen c.search_least.new.seat) c.in_ok-searcher.searcher.boxes.current) c.in_ok-closing.ensures.closing);
  posts = c.in_ok-closing.ensures.posted;
}

pub returns-clause-alone : goal.returns-clause-alone
returns-clause-alone g c = λ p known h. record {
  found = c.in_ok-closing.closing.found;
  ends = subst (λ (b : Bounds). EndsLeast (least_alone c.args.run.now known b) c.in_ok-closing.closing.found c.least_end-end.result) c.in_ok-searcher.ensures.current
      (c.least_end-end.ensures.ends (least_alone c.args.run.now known c.in_ok-searcher.searcher.boxes.current) (c.in_ok-closing.ensures.alone p known h));
  posts = c.in_ok-closing.ensures.posted;
}

pub returns-clause-least : goal.returns-clause-least
returns-clause-least g c =
    subst (λ (b : Bounds). OnDone c.least_end-end.result (CostAtLeast c.args.run.now.model.now b (costs_seen c.search_least.new.seat))) c.in_ok-searcher.ensures.current
    (c.least_end-end.ensures.least c.args.run.now.model.now c.in_ok-searcher.searcher.boxes.current (costs_seen c.search_least.new.seat) c.in_ok-closing.ensures.least)

pub returns-clause-below : goal.returns-clause-below
returns-clause-below g c = c.least_end-end.ensures.below c.args.run.now.model.now.goal (costs_seen c.args.seat.now) c.in_ok-closing.ensures.below

pub returns-clause-over : goal.returns-clause-over
returns-clause-over g c =
    given_back c.args.start.boxes c.into_parts-boxes.result.0 c.args.run.now.program.now.kernels c.args.run.now.lanes c.in_ok-searcher.searcher c.search_least.new.searcher
    c.in_ok-searcher.ensures.current c.in_ok-searcher.ensures.below c.in_ok-closing.ensures.again c.in_ok-closing.ensures.bottom c.into_parts-boxes.ensures.boxes c.into_parts-boxes.ensures.over

pub returns-clause-searcher : goal.returns-clause-searcher
returns-clause-searcher g c =
    let kernels = c.args.run.now.program.now.kernels in
    c.keep.ensures.serves kernels _ _ (c.into_parts-boxes.ensures.spare kernels _ _
    (serves_start c.args.start.boxes.current kernels c.args.run.now.lanes c.in_ok-searcher.searcher c.search_least.new.searcher c.in_ok-searcher.ensures.current c.in_ok-closing.ensures.again))

pub returns-in_err-searcher-clause-err : goal.returns-in_err-searcher-clause-err
returns-in_err-searcher-clause-err g c = on_any_err _ (broken_at_start (least_in c.args.run.now (costs_seen c.args.seat.now) c.args.start.boxes.current) (costs_posted c.args.seat.now))

pub returns-in_err-closing-clause-err : goal.returns-in_err-closing-clause-err
returns-in_err-closing-clause-err g c = on_any_err _
    (subst (λ (b : Bounds). IsBrokenOff (least_in c.args.run.now (costs_seen c.search_least.new.seat) b) (costs_posted c.args.seat.now) (costs_posted c.search_least.new.seat)) c.in_ok-searcher.ensures.current
    c.in_err-closing.ensures.err)
