use Rattle.std.proofs.Common.{◌≡◌, ◌+◌, ◌-◌, ◌≤◌, Some, ◌++◌, ℤ, List, [], None, length, get_or, ℕ, ap, refl, sym, subst, ◌∙◌, arith, inr}
use Rattle.std.specs.List.{All}
use Rattle.std.proofs.lemmas.List.Elements.{All-nil, All-append}
use Rattle.solution_lists.specs.Solutions.{SolvesInside}
use Rattle.best_bound.specs.Seats.{costs_seen, costs_posted}
use Rattle.best_bound.specs.declared.seat.BestSeat.{BestSeat}
use Rattle.search.specs.declared.kind.Kind.{Kind}
use Rattle.search.specs.Machine.{Reached, begun, cut_by, best_after}
use Rattle.search.specs.Nodes.{IsVisit}
use Rattle.search.specs.LeastEnds.{least_in, least_alone, PostsCosts, SeesCosts, IsBrokenOff, CostsLess}
use Rattle.search.specs.Costs.{IsObjectiveIn}
use Rattle.search.specs.Premises.{CanSearch}
use Rattle.search.specs.Stacks.{boxes_of, count_of}
use Rattle.search.proofs.PremiseLaws.{can_search}
use Rattle.search.proofs.RunLaws.{of_false}
use Rattle.search.proofs.SearchLaws.{counted_more, of_done, of_given_up}
use Rattle.search.proofs.LeastRunLaws.{premises, reached_after_look, falls_to, kept_by, lowest_number, objective_in, with_objective, few_vars, node_reached, node_below, costs_less, out_of_rounds, node_less, recorded_solve, at_most_one, can_post, cost_posted, node_low, posts_more, posts_none, covered, contains_of, among_of, on_any_err, broken_at_node, least_posted, IsReachedAlone, looked_alone, node_alone, out_of_rounds_alone, done_alone}
use Rattle.search.proofs.least.search_least.Goals as goal

pub boxes-init : goal.boxes-init
boxes-init g c = record {
  lowest = None;
  count = 0;
  reached = begun (least_in c.args.run.now (costs_seen c.args.seat.now) c.args.searcher.now.boxes.current) (record { stack = boxes_of c.args.searcher.now; best = None; count = 0; found = c.new-found.result })
      c.requires.boxes refl refl c.new-found.ensures;
  low = λ cost e. absurd (let q : None ≡ Some cost = e in cc);
  counted = record { told = refl; within = inr (omega arith) };
  ready = c.requires.ready;
  same_count = refl;
  bottom = refl;
  seat = c.requires.seat;
  parts = refl;
  kept = λ x h. h;
  posted = subst (λ (xs : List (List ℤ)). PostsCosts c.args.run.now.model.now.goal xs (costs_posted c.args.seat.now) (costs_posted c.args.seat.now)) (sym c.new-found.ensures) (posts_none c.args.run.now.model.now.goal (costs_posted c.args.seat.now));
  below = subst (All (CostsLess c.args.run.now.model.now.goal (costs_seen c.args.seat.now))) (sym c.new-found.ensures) (All-nil (CostsLess c.args.run.now.model.now.goal (costs_seen c.args.seat.now)));
  alone = λ p known h. record {
    best = known;
    least = h;
    reached = begun (least_alone c.args.run.now known c.args.searcher.now.boxes.current) (record { stack = boxes_of c.args.searcher.now; best = known; count = 0; found = c.new-found.result })
        c.requires.boxes refl refl c.new-found.ensures;
  };
}

pub node-requires-clause-run : goal.node-requires-clause-run
node-requires-clause-run g c = λ ks b.
    subst (λ (n : ℕ). CanSearch c.args.run.now n) (sym c.boxes.invariant.same_count) (can_search c.args.run.now c.args.searcher.now.boxes.current c.requires.run c.requires.inside)

pub node-requires-clause-best : goal.node-requires-clause-best
node-requires-clause-best g c = λ ks b.
    with_objective c.seen-lowest.result (IsObjectiveIn (count_of c.boxes.searcher - 1) c.args.run.now.model.now.goal)
    (lowest_number c.args.run.now.model.now c.requires.run.model (costs_seen c.seen-lowest.new.seat) c.seen-lowest.result (λ x h. (c.requires.costs x).0 (c.seen-lowest.ensures.passes x h)) c.seen-lowest.ensures.least)
    (objective_in c.args.run.now.model.now.vars (count_of c.boxes.searcher - 1) c.args.run.now.model.now.goal
    (few_vars (length c.args.run.now.model.now.vars) (length c.args.searcher.now.boxes.current) (count_of c.boxes.searcher) (can_search c.args.run.now c.args.searcher.now.boxes.current c.requires.run c.requires.inside).long c.boxes.invariant.same_count)
    c.requires.run.model.objective c.requires.objective)

pub record_fresh-requires-clause-seat : goal.record_fresh-requires-clause-seat
record_fresh-requires-clause-seat g c = c.seen-lowest.ensures.seat

pub record_fresh-requires-clause-one : goal.record_fresh-requires-clause-one
record_fresh-requires-clause-one g c =
    let t = c.in_ok-node.ensures.visit in
    subst (λ (xs : List (List ℤ)). length xs ≤ 1) (sym c.into_vec.ensures) (at_most_one c.args.run.now.model.now c.args.run.now.program.now.kernels c.args.run.now.round_limit c.args.run.now.lanes (cut_by Kind.Least c.args.run.now.model.now.goal c.seen-lowest.result t.top) t.rest (boxes_of c.node.new.self) c.node.new.found (of_done c.args.run.now.model.now c.args.run.now.program.now.kernels c.args.run.now.round_limit c.args.run.now.lanes (cut_by Kind.Least c.args.run.now.model.now.goal c.seen-lowest.result t.top) t.rest (boxes_of c.node.new.self) [] c.node.new.found c.in_ok-node.field-0 c.in-Done.is (subst (λ (xs : List (List ℤ)). IsVisit c.args.run.now.model.now c.args.run.now.program.now.kernels c.args.run.now.round_limit c.args.run.now.lanes (cut_by Kind.Least c.args.run.now.model.now.goal c.seen-lowest.result t.top) t.rest (boxes_of c.node.new.self) xs c.node.new.found c.in_ok-node.field-0) c.new-fresh.ensures t.visit)))

pub record_fresh-requires-clause-objective : goal.record_fresh-requires-clause-objective
record_fresh-requires-clause-objective g c k d l =
    let t = c.in_ok-node.ensures.visit in
    let s = subst (All (SolvesInside c.args.run.now.model.now c.args.searcher.now.boxes.current)) (sym c.into_vec.ensures) (recorded_solve c.law_inside_order.ensures c.law_branches.ensures (least_in c.args.run.now (costs_seen c.seen-lowest.new.seat) c.args.searcher.now.boxes.current) refl (premises c.args.run.now.model.now c.args.run.now.program.now c.args.run.now.node_limit c.args.run.now.round_limit c.args.run.now.lanes c.args.searcher.now.boxes.current c.requires.run.program c.requires.run.model c.requires.inside c.len-length.ensures.in_range None (costs_seen c.seen-lowest.new.seat)) c.requires.run.model (boxes_of c.boxes.searcher) c.boxes.invariant.lowest c.boxes.invariant.count c.boxes.found (reached_after_look c.args.run.now.model.now c.args.run.now.program.now c.args.run.now.node_limit c.args.run.now.round_limit c.args.run.now.lanes c.args.searcher.now.boxes.current c.requires.run.program c.requires.run.model c.requires.inside c.len-length.ensures.in_range c.law_more_posted.ensures (costs_seen c.boxes.seat) (costs_seen c.seen-lowest.new.seat) c.seen-lowest.result (record { stack = (boxes_of c.boxes.searcher); best = c.boxes.invariant.lowest; count = c.boxes.invariant.count; found = c.boxes.found }) c.seen-lowest.ensures.seen c.boxes.invariant.reached) t.rest t.top t.taken c.boxes.nodes c.if-is_full.ensures.short c.boxes.invariant.counted c.if-is_full.ensures.below c.seen-lowest.result (falls_to (costs_seen c.boxes.seat) (costs_seen c.seen-lowest.new.seat) c.boxes.invariant.lowest c.seen-lowest.result (kept_by (costs_seen c.boxes.seat) (costs_seen c.seen-lowest.new.seat) c.seen-lowest.result c.seen-lowest.ensures.seen) c.boxes.invariant.low c.seen-lowest.ensures.least) c.law_records_solutions.ensures (boxes_of c.node.new.self) c.node.new.found (of_done c.args.run.now.model.now c.args.run.now.program.now.kernels c.args.run.now.round_limit c.args.run.now.lanes (cut_by Kind.Least c.args.run.now.model.now.goal c.seen-lowest.result t.top) t.rest (boxes_of c.node.new.self) [] c.node.new.found c.in_ok-node.field-0 c.in-Done.is (subst (λ (xs : List (List ℤ)). IsVisit c.args.run.now.model.now c.args.run.now.program.now.kernels c.args.run.now.round_limit c.args.run.now.lanes (cut_by Kind.Least c.args.run.now.model.now.goal c.seen-lowest.result t.top) t.rest (boxes_of c.node.new.self) xs c.node.new.found c.in_ok-node.field-0) c.new-fresh.ensures t.visit))) k d l in
    can_post c.args.run.now.model.now c.requires.run.model c.requires.objective c.args.searcher.now.boxes.current (get_or c.into_vec.result.items k d) s

pub record_fresh-requires-clause-costs : goal.record_fresh-requires-clause-costs
record_fresh-requires-clause-costs g c k d l cost e =
    let t = c.in_ok-node.ensures.visit in
    let s = subst (All (SolvesInside c.args.run.now.model.now c.args.searcher.now.boxes.current)) (sym c.into_vec.ensures) (recorded_solve c.law_inside_order.ensures c.law_branches.ensures (least_in c.args.run.now (costs_seen c.seen-lowest.new.seat) c.args.searcher.now.boxes.current) refl (premises c.args.run.now.model.now c.args.run.now.program.now c.args.run.now.node_limit c.args.run.now.round_limit c.args.run.now.lanes c.args.searcher.now.boxes.current c.requires.run.program c.requires.run.model c.requires.inside c.len-length.ensures.in_range None (costs_seen c.seen-lowest.new.seat)) c.requires.run.model (boxes_of c.boxes.searcher) c.boxes.invariant.lowest c.boxes.invariant.count c.boxes.found (reached_after_look c.args.run.now.model.now c.args.run.now.program.now c.args.run.now.node_limit c.args.run.now.round_limit c.args.run.now.lanes c.args.searcher.now.boxes.current c.requires.run.program c.requires.run.model c.requires.inside c.len-length.ensures.in_range c.law_more_posted.ensures (costs_seen c.boxes.seat) (costs_seen c.seen-lowest.new.seat) c.seen-lowest.result (record { stack = (boxes_of c.boxes.searcher); best = c.boxes.invariant.lowest; count = c.boxes.invariant.count; found = c.boxes.found }) c.seen-lowest.ensures.seen c.boxes.invariant.reached) t.rest t.top t.taken c.boxes.nodes c.if-is_full.ensures.short c.boxes.invariant.counted c.if-is_full.ensures.below c.seen-lowest.result (falls_to (costs_seen c.boxes.seat) (costs_seen c.seen-lowest.new.seat) c.boxes.invariant.lowest c.seen-lowest.result (kept_by (costs_seen c.boxes.seat) (costs_seen c.seen-lowest.new.seat) c.seen-lowest.result c.seen-lowest.ensures.seen) c.boxes.invariant.low c.seen-lowest.ensures.least) c.law_records_solutions.ensures (boxes_of c.node.new.self) c.node.new.found (of_done c.args.run.now.model.now c.args.run.now.program.now.kernels c.args.run.now.round_limit c.args.run.now.lanes (cut_by Kind.Least c.args.run.now.model.now.goal c.seen-lowest.result t.top) t.rest (boxes_of c.node.new.self) [] c.node.new.found c.in_ok-node.field-0 c.in-Done.is (subst (λ (xs : List (List ℤ)). IsVisit c.args.run.now.model.now c.args.run.now.program.now.kernels c.args.run.now.round_limit c.args.run.now.lanes (cut_by Kind.Least c.args.run.now.model.now.goal c.seen-lowest.result t.top) t.rest (boxes_of c.node.new.self) xs c.node.new.found c.in_ok-node.field-0) c.new-fresh.ensures t.visit))) k d l in
    let q = cost_posted c.args.run.now.model.now c.requires.run.model c.args.searcher.now.boxes.current (get_or c.into_vec.result.items k d) s cost e in
    (q.0, (c.requires.costs cost).1 q.1)

pub boxes-smaller : goal.boxes-smaller
boxes-smaller g c =
    let t = c.in_ok-node.ensures.visit in
    node_less c.law_inside_order.ensures c.law_branches.ensures (least_in c.args.run.now (costs_seen c.seen-lowest.new.seat) c.args.searcher.now.boxes.current) refl (premises c.args.run.now.model.now c.args.run.now.program.now c.args.run.now.node_limit c.args.run.now.round_limit c.args.run.now.lanes c.args.searcher.now.boxes.current c.requires.run.program c.requires.run.model c.requires.inside c.len-length.ensures.in_range None (costs_seen c.seen-lowest.new.seat)) c.requires.run.model (boxes_of c.boxes.searcher) c.boxes.invariant.lowest c.boxes.invariant.count c.boxes.found (reached_after_look c.args.run.now.model.now c.args.run.now.program.now c.args.run.now.node_limit c.args.run.now.round_limit c.args.run.now.lanes c.args.searcher.now.boxes.current c.requires.run.program c.requires.run.model c.requires.inside c.len-length.ensures.in_range c.law_more_posted.ensures (costs_seen c.boxes.seat) (costs_seen c.seen-lowest.new.seat) c.seen-lowest.result (record { stack = (boxes_of c.boxes.searcher); best = c.boxes.invariant.lowest; count = c.boxes.invariant.count; found = c.boxes.found }) c.seen-lowest.ensures.seen c.boxes.invariant.reached) t.rest t.top t.taken c.boxes.nodes c.if-is_full.ensures.short c.boxes.invariant.counted c.if-is_full.ensures.below c.seen-lowest.result (falls_to (costs_seen c.boxes.seat) (costs_seen c.seen-lowest.new.seat) c.boxes.invariant.lowest c.seen-lowest.result (kept_by (costs_seen c.boxes.seat) (costs_seen c.seen-lowest.new.seat) c.seen-lowest.result c.seen-lowest.ensures.seen) c.boxes.invariant.low c.seen-lowest.ensures.least) (boxes_of c.node.new.self) c.node.new.found (of_done c.args.run.now.model.now c.args.run.now.program.now.kernels c.args.run.now.round_limit c.args.run.now.lanes (cut_by Kind.Least c.args.run.now.model.now.goal c.seen-lowest.result t.top) t.rest (boxes_of c.node.new.self) [] c.node.new.found c.in_ok-node.field-0 c.in-Done.is (subst (λ (xs : List (List ℤ)). IsVisit c.args.run.now.model.now c.args.run.now.program.now.kernels c.args.run.now.round_limit c.args.run.now.lanes (cut_by Kind.Least c.args.run.now.model.now.goal c.seen-lowest.result t.top) t.rest (boxes_of c.node.new.self) xs c.node.new.found c.in_ok-node.field-0) c.new-fresh.ensures t.visit))

pub boxes-preserved : goal.boxes-preserved
boxes-preserved g c =
    let t = c.in_ok-node.ensures.visit in
    let sees = subst (λ (xs : List (List ℤ)). SeesCosts c.args.run.now.model.now.goal xs (costs_seen c.seen-lowest.new.seat) (costs_seen c.record_fresh.new.seat)) c.into_vec.ensures c.in_ok-record_fresh-in-Done.ensures.seen in
    let posts = subst (λ (xs : List (List ℤ)). PostsCosts c.args.run.now.model.now.goal xs (costs_posted c.seen-lowest.new.seat) (costs_posted c.record_fresh.new.seat)) c.into_vec.ensures c.in_ok-record_fresh-in-Done.ensures.posted in
    let found = c.in_ok-record_fresh-in-Done.ensures.recorded ∙ ap (λ (xs : List (List ℤ)). c.boxes.found ++ xs) c.into_vec.ensures in
    record {
      lowest = (best_after Kind.Least c.args.run.now.model.now.goal c.seen-lowest.result c.node.new.found);
      count = c.boxes.invariant.count + 1;
      reached = subst (λ (xs : List (List ℤ)). Reached (least_in c.args.run.now (costs_seen c.record_fresh.new.seat) c.args.searcher.now.boxes.current) (record { stack = (boxes_of c.node.new.self); best = (best_after Kind.Least c.args.run.now.model.now.goal c.seen-lowest.result c.node.new.found); count = c.boxes.invariant.count + 1; found = xs })) (sym found)
          (c.law_more_posted.ensures (least_in c.args.run.now (costs_seen c.seen-lowest.new.seat) c.args.searcher.now.boxes.current) (costs_seen c.record_fresh.new.seat) (record { stack = (boxes_of c.node.new.self); best = (best_after Kind.Least c.args.run.now.model.now.goal c.seen-lowest.result c.node.new.found); count = c.boxes.invariant.count + 1; found = c.boxes.found ++ c.node.new.found })
          (λ x h. contains_of (costs_seen c.record_fresh.new.seat) x (sees.kept x (among_of (costs_seen c.seen-lowest.new.seat) x h))) (node_reached c.law_inside_order.ensures c.law_branches.ensures (least_in c.args.run.now (costs_seen c.seen-lowest.new.seat) c.args.searcher.now.boxes.current) refl (premises c.args.run.now.model.now c.args.run.now.program.now c.args.run.now.node_limit c.args.run.now.round_limit c.args.run.now.lanes c.args.searcher.now.boxes.current c.requires.run.program c.requires.run.model c.requires.inside c.len-length.ensures.in_range None (costs_seen c.seen-lowest.new.seat)) c.requires.run.model (boxes_of c.boxes.searcher) c.boxes.invariant.lowest c.boxes.invariant.count c.boxes.found (reached_after_look c.args.run.now.model.now c.args.run.now.program.now c.args.run.now.node_limit c.args.run.now.round_limit c.args.run.now.lanes c.args.searcher.now.boxes.current c.requires.run.program c.requires.run.model c.requires.inside c.len-length.ensures.in_range c.law_more_posted.ensures (costs_seen c.boxes.seat) (costs_seen c.seen-lowest.new.seat) c.seen-lowest.result (record { stack = (boxes_of c.boxes.searcher); best = c.boxes.invariant.lowest; count = c.boxes.invariant.count; found = c.boxes.found }) c.seen-lowest.ensures.seen c.boxes.invariant.reached) t.rest t.top t.taken c.boxes.nodes c.if-is_full.ensures.short c.boxes.invariant.counted c.if-is_full.ensures.below c.seen-lowest.result (falls_to (costs_seen c.boxes.seat) (costs_seen c.seen-lowest.new.seat) c.boxes.invariant.lowest c.seen-lowest.result (kept_by (costs_seen c.boxes.seat) (costs_seen c.seen-lowest.new.seat) c.seen-lowest.result c.seen-lowest.ensures.seen) c.boxes.invariant.low c.seen-lowest.ensures.least) (boxes_of c.node.new.self) c.node.new.found (of_done c.args.run.now.model.now c.args.run.now.program.now.kernels c.args.run.now.round_limit c.args.run.now.lanes (cut_by Kind.Least c.args.run.now.model.now.goal c.seen-lowest.result t.top) t.rest (boxes_of c.node.new.self) [] c.node.new.found c.in_ok-node.field-0 c.in-Done.is (subst (λ (xs : List (List ℤ)). IsVisit c.args.run.now.model.now c.args.run.now.program.now.kernels c.args.run.now.round_limit c.args.run.now.lanes (cut_by Kind.Least c.args.run.now.model.now.goal c.seen-lowest.result t.top) t.rest (boxes_of c.node.new.self) xs c.node.new.found c.in_ok-node.field-0) c.new-fresh.ensures t.visit))));
      low = node_low c.args.run.now.model.now.goal (costs_seen c.seen-lowest.new.seat) (costs_seen c.record_fresh.new.seat) c.seen-lowest.result c.node.new.found c.seen-lowest.ensures.least sees;
      counted = counted_more c.args.run.now.node_limit c.boxes.nodes c.boxes.invariant.count c.counted-nodes.result c.if-is_full.ensures.short c.boxes.invariant.counted c.if-is_full.ensures.below
          c.counted-nodes.ensures.more c.counted-nodes.ensures.most;
      ready = c.in_ok-node.ensures.ready c.in-Done.is;
      same_count = c.in_ok-node.ensures.count c.in-Done.is ∙ c.boxes.invariant.same_count;
      bottom = c.in_ok-node.ensures.below ∙ c.boxes.invariant.bottom;
      seat = c.record_fresh.ensures.seat;
      parts = c.record_fresh.ensures.parts ∙ c.seen-lowest.ensures.parts ∙ c.boxes.invariant.parts;
      kept = λ x h. c.record_fresh.ensures.kept x (kept_by (costs_seen c.boxes.seat) (costs_seen c.seen-lowest.new.seat) c.seen-lowest.result c.seen-lowest.ensures.seen x (c.boxes.invariant.kept x h));
      posted = subst (λ (xs : List (List ℤ)). PostsCosts c.args.run.now.model.now.goal xs (costs_posted c.args.seat.now) (costs_posted c.record_fresh.new.seat)) (sym found)
          (posts_more c.args.run.now.model.now.goal c.boxes.found c.node.new.found (costs_posted c.args.seat.now) (costs_posted c.seen-lowest.new.seat) (costs_posted c.record_fresh.new.seat)
          (subst (PostsCosts c.args.run.now.model.now.goal c.boxes.found (costs_posted c.args.seat.now)) (sym c.seen-lowest.ensures.posted) c.boxes.invariant.posted) posts);
      below = subst (All (CostsLess c.args.run.now.model.now.goal (costs_seen c.args.seat.now))) (sym found)
          (All-append (CostsLess c.args.run.now.model.now.goal (costs_seen c.args.seat.now)) c.boxes.found c.node.new.found c.boxes.invariant.below
          (costs_less c.args.run.now.model.now.goal (costs_seen c.args.seat.now) (costs_seen c.seen-lowest.new.seat) c.seen-lowest.result c.node.new.found c.seen-lowest.ensures.least
          (λ x h. kept_by (costs_seen c.boxes.seat) (costs_seen c.seen-lowest.new.seat) c.seen-lowest.result c.seen-lowest.ensures.seen x (c.boxes.invariant.kept x h))
          (node_below c.law_inside_order.ensures c.law_branches.ensures (least_in c.args.run.now (costs_seen c.seen-lowest.new.seat) c.args.searcher.now.boxes.current) refl (premises c.args.run.now.model.now c.args.run.now.program.now c.args.run.now.node_limit c.args.run.now.round_limit c.args.run.now.lanes c.args.searcher.now.boxes.current c.requires.run.program c.requires.run.model c.requires.inside c.len-length.ensures.in_range None (costs_seen c.seen-lowest.new.seat)) c.requires.run.model (boxes_of c.boxes.searcher) c.boxes.invariant.lowest c.boxes.invariant.count c.boxes.found (reached_after_look c.args.run.now.model.now c.args.run.now.program.now c.args.run.now.node_limit c.args.run.now.round_limit c.args.run.now.lanes c.args.searcher.now.boxes.current c.requires.run.program c.requires.run.model c.requires.inside c.len-length.ensures.in_range c.law_more_posted.ensures (costs_seen c.boxes.seat) (costs_seen c.seen-lowest.new.seat) c.seen-lowest.result (record { stack = (boxes_of c.boxes.searcher); best = c.boxes.invariant.lowest; count = c.boxes.invariant.count; found = c.boxes.found }) c.seen-lowest.ensures.seen c.boxes.invariant.reached) t.rest t.top t.taken c.boxes.nodes c.if-is_full.ensures.short c.boxes.invariant.counted c.if-is_full.ensures.below c.seen-lowest.result (falls_to (costs_seen c.boxes.seat) (costs_seen c.seen-lowest.new.seat) c.boxes.invariant.lowest c.seen-lowest.result (kept_by (costs_seen c.boxes.seat) (costs_seen c.seen-lowest.new.seat) c.seen-lowest.result c.seen-lowest.ensures.seen) c.boxes.invariant.low c.seen-lowest.ensures.least) c.law_records_below.ensures (boxes_of c.node.new.self) c.node.new.found (of_done c.args.run.now.model.now c.args.run.now.program.now.kernels c.args.run.now.round_limit c.args.run.now.lanes (cut_by Kind.Least c.args.run.now.model.now.goal c.seen-lowest.result t.top) t.rest (boxes_of c.node.new.self) [] c.node.new.found c.in_ok-node.field-0 c.in-Done.is (subst (λ (xs : List (List ℤ)). IsVisit c.args.run.now.model.now c.args.run.now.program.now.kernels c.args.run.now.round_limit c.args.run.now.lanes (cut_by Kind.Least c.args.run.now.model.now.goal c.seen-lowest.result t.top) t.rest (boxes_of c.node.new.self) xs c.node.new.found c.in_ok-node.field-0) c.new-fresh.ensures t.visit)))));
      alone = λ p known h.
          subst (λ (xs : List (List ℤ)). IsReachedAlone (least_alone c.args.run.now known c.args.searcher.now.boxes.current) (costs_posted c.record_fresh.new.seat) (boxes_of c.node.new.self) (c.boxes.invariant.count + 1) xs) (sym found)
          (node_alone c.law_inside_order.ensures c.law_branches.ensures (least_alone c.args.run.now known c.args.searcher.now.boxes.current) refl
          (premises c.args.run.now.model.now c.args.run.now.program.now c.args.run.now.node_limit c.args.run.now.round_limit c.args.run.now.lanes c.args.searcher.now.boxes.current c.requires.run.program c.requires.run.model c.requires.inside c.len-length.ensures.in_range known [])
          c.requires.run.model (costs_posted c.seen-lowest.new.seat) (boxes_of c.boxes.searcher) c.boxes.invariant.count c.boxes.found
          (looked_alone (least_alone c.args.run.now known c.args.searcher.now.boxes.current) (costs_posted c.boxes.seat) (costs_posted c.seen-lowest.new.seat) (boxes_of c.boxes.searcher) c.boxes.invariant.count c.boxes.found c.seen-lowest.ensures.posted (c.boxes.invariant.alone p known h))
          t.rest t.top t.taken c.boxes.nodes c.if-is_full.ensures.short c.boxes.invariant.counted c.if-is_full.ensures.below c.seen-lowest.result
          (least_posted (costs_seen c.seen-lowest.new.seat) (costs_posted c.seen-lowest.new.seat) c.seen-lowest.result c.seen-lowest.ensures.least c.seen-lowest.ensures.not_above
          (c.seen-lowest.ensures.all (c.seen-lowest.ensures.parts ∙ c.boxes.invariant.parts ∙ p)))
          c.law_records_below.ensures (boxes_of c.node.new.self) c.node.new.found (costs_posted c.record_fresh.new.seat)
          (of_done c.args.run.now.model.now c.args.run.now.program.now.kernels c.args.run.now.round_limit c.args.run.now.lanes (cut_by Kind.Least c.args.run.now.model.now.goal c.seen-lowest.result t.top) t.rest (boxes_of c.node.new.self) [] c.node.new.found c.in_ok-node.field-0 c.in-Done.is (subst (λ (xs : List (List ℤ)). IsVisit c.args.run.now.model.now c.args.run.now.program.now.kernels c.args.run.now.round_limit c.args.run.now.lanes (cut_by Kind.Least c.args.run.now.model.now.goal c.seen-lowest.result t.top) t.rest (boxes_of c.node.new.self) xs c.node.new.found c.in_ok-node.field-0) c.new-fresh.ensures t.visit))
          posts);
    }

pub returns-in-GivenUp-clause-closing : goal.returns-in-GivenUp-clause-closing
returns-in-GivenUp-clause-closing g c =
    let t = c.in_ok-node.ensures.visit in
    let up = of_given_up c.args.run.now.model.now c.args.run.now.program.now.kernels c.args.run.now.round_limit c.args.run.now.lanes (cut_by Kind.Least c.args.run.now.model.now.goal c.seen-lowest.result t.top) t.rest (boxes_of c.node.new.self) [] c.node.new.found c.in_ok-node.field-0 c.in-GivenUp.is (subst (λ (xs : List (List ℤ)). IsVisit c.args.run.now.model.now c.args.run.now.program.now.kernels c.args.run.now.round_limit c.args.run.now.lanes (cut_by Kind.Least c.args.run.now.model.now.goal c.seen-lowest.result t.top) t.rest (boxes_of c.node.new.self) xs c.node.new.found c.in_ok-node.field-0) c.new-fresh.ensures t.visit) in
    out_of_rounds c.law_inside_order.ensures c.law_branches.ensures (least_in c.args.run.now (costs_seen c.seen-lowest.new.seat) c.args.searcher.now.boxes.current) refl (premises c.args.run.now.model.now c.args.run.now.program.now c.args.run.now.node_limit c.args.run.now.round_limit c.args.run.now.lanes c.args.searcher.now.boxes.current c.requires.run.program c.requires.run.model c.requires.inside c.len-length.ensures.in_range None (costs_seen c.seen-lowest.new.seat)) c.requires.run.model (boxes_of c.boxes.searcher) c.boxes.invariant.lowest c.boxes.invariant.count c.boxes.found (reached_after_look c.args.run.now.model.now c.args.run.now.program.now c.args.run.now.node_limit c.args.run.now.round_limit c.args.run.now.lanes c.args.searcher.now.boxes.current c.requires.run.program c.requires.run.model c.requires.inside c.len-length.ensures.in_range c.law_more_posted.ensures (costs_seen c.boxes.seat) (costs_seen c.seen-lowest.new.seat) c.seen-lowest.result (record { stack = (boxes_of c.boxes.searcher); best = c.boxes.invariant.lowest; count = c.boxes.invariant.count; found = c.boxes.found }) c.seen-lowest.ensures.seen c.boxes.invariant.reached) t.rest t.top t.taken c.boxes.nodes c.if-is_full.ensures.short c.boxes.invariant.counted c.if-is_full.ensures.below c.seen-lowest.result (falls_to (costs_seen c.boxes.seat) (costs_seen c.seen-lowest.new.seat) c.boxes.invariant.lowest c.seen-lowest.result (kept_by (costs_seen c.boxes.seat) (costs_seen c.seen-lowest.new.seat) c.seen-lowest.result c.seen-lowest.ensures.seen) c.boxes.invariant.low c.seen-lowest.ensures.least) c.counted-nodes.result
    (counted_more c.args.run.now.node_limit c.boxes.nodes c.boxes.invariant.count c.counted-nodes.result c.if-is_full.ensures.short c.boxes.invariant.counted c.if-is_full.ensures.below
    c.counted-nodes.ensures.more c.counted-nodes.ensures.most) up.0

pub returns-in-GivenUp-clause-alone : goal.returns-in-GivenUp-clause-alone
returns-in-GivenUp-clause-alone g c = λ p known h.
    let t = c.in_ok-node.ensures.visit in
    let up = (of_given_up c.args.run.now.model.now c.args.run.now.program.now.kernels c.args.run.now.round_limit c.args.run.now.lanes (cut_by Kind.Least c.args.run.now.model.now.goal c.seen-lowest.result t.top) t.rest (boxes_of c.node.new.self) [] c.node.new.found c.in_ok-node.field-0 c.in-GivenUp.is (subst (λ (xs : List (List ℤ)). IsVisit c.args.run.now.model.now c.args.run.now.program.now.kernels c.args.run.now.round_limit c.args.run.now.lanes (cut_by Kind.Least c.args.run.now.model.now.goal c.seen-lowest.result t.top) t.rest (boxes_of c.node.new.self) xs c.node.new.found c.in_ok-node.field-0) c.new-fresh.ensures t.visit)) in
    out_of_rounds_alone c.law_inside_order.ensures c.law_branches.ensures (least_alone c.args.run.now known c.args.searcher.now.boxes.current) refl
    (premises c.args.run.now.model.now c.args.run.now.program.now c.args.run.now.node_limit c.args.run.now.round_limit c.args.run.now.lanes c.args.searcher.now.boxes.current c.requires.run.program c.requires.run.model c.requires.inside c.len-length.ensures.in_range known [])
    c.requires.run.model (costs_posted c.seen-lowest.new.seat) (boxes_of c.boxes.searcher) c.boxes.invariant.count c.boxes.found
    (looked_alone (least_alone c.args.run.now known c.args.searcher.now.boxes.current) (costs_posted c.boxes.seat) (costs_posted c.seen-lowest.new.seat) (boxes_of c.boxes.searcher) c.boxes.invariant.count c.boxes.found c.seen-lowest.ensures.posted (c.boxes.invariant.alone p known h))
    t.rest t.top t.taken c.boxes.nodes c.if-is_full.ensures.short c.boxes.invariant.counted c.if-is_full.ensures.below c.seen-lowest.result
    (least_posted (costs_seen c.seen-lowest.new.seat) (costs_posted c.seen-lowest.new.seat) c.seen-lowest.result c.seen-lowest.ensures.least c.seen-lowest.ensures.not_above
    (c.seen-lowest.ensures.all (c.seen-lowest.ensures.parts ∙ c.boxes.invariant.parts ∙ p)))
    c.counted-nodes.result
    (counted_more c.args.run.now.node_limit c.boxes.nodes c.boxes.invariant.count c.counted-nodes.result c.if-is_full.ensures.short c.boxes.invariant.counted c.if-is_full.ensures.below
    c.counted-nodes.ensures.more c.counted-nodes.ensures.most) up.0

pub returns-clause-alone : goal.returns-clause-alone
returns-clause-alone g c = λ p known h.
    done_alone c.law_inside_order.ensures c.law_branches.ensures (least_alone c.args.run.now known c.args.searcher.now.boxes.current) refl
    (premises c.args.run.now.model.now c.args.run.now.program.now c.args.run.now.node_limit c.args.run.now.round_limit c.args.run.now.lanes c.args.searcher.now.boxes.current c.requires.run.program c.requires.run.model c.requires.inside c.len-length.ensures.in_range known [])
    c.requires.run.model (costs_posted c.boxes.seat) (boxes_of c.boxes.searcher) c.boxes.invariant.count c.boxes.found
    (c.boxes.invariant.alone p known h)
    (of_false c.has_next.result (boxes_of c.boxes.searcher ≡ []) c.boxes-test.false c.has_next.ensures.none)

pub returns-clause-least : goal.returns-clause-least
returns-clause-least g c =
    let empty = of_false c.has_next.result (boxes_of c.boxes.searcher ≡ []) c.boxes-test.false c.has_next.ensures.none in
    λ e. covered c.law_inside_order.ensures c.law_branches.ensures (least_in c.args.run.now (costs_seen c.boxes.seat) c.args.searcher.now.boxes.current) refl (premises c.args.run.now.model.now c.args.run.now.program.now c.args.run.now.node_limit c.args.run.now.round_limit c.args.run.now.lanes c.args.searcher.now.boxes.current c.requires.run.program c.requires.run.model c.requires.inside c.len-length.ensures.in_range None (costs_seen c.boxes.seat)) c.requires.run.model (boxes_of c.boxes.searcher) c.boxes.invariant.lowest c.boxes.invariant.count c.boxes.found c.boxes.invariant.reached c.law_finds_least.ensures empty c.boxes.invariant.low

pub returns-in_err-node-clause-err : goal.returns-in_err-node-clause-err
returns-in_err-node-clause-err g c = on_any_err _
    (broken_at_node (least_in c.args.run.now (costs_seen c.seen-lowest.new.seat) c.args.searcher.now.boxes.current) (record { stack = boxes_of c.boxes.searcher; best = c.boxes.invariant.lowest; count = c.boxes.invariant.count; found = c.boxes.found })
    (costs_posted c.args.seat.now) (costs_posted c.boxes.seat) (costs_posted c.seen-lowest.new.seat)
    (reached_after_look c.args.run.now.model.now c.args.run.now.program.now c.args.run.now.node_limit c.args.run.now.round_limit c.args.run.now.lanes c.args.searcher.now.boxes.current c.requires.run.program c.requires.run.model c.requires.inside c.len-length.ensures.in_range c.law_more_posted.ensures (costs_seen c.boxes.seat) (costs_seen c.seen-lowest.new.seat) c.seen-lowest.result (record { stack = (boxes_of c.boxes.searcher); best = c.boxes.invariant.lowest; count = c.boxes.invariant.count; found = c.boxes.found }) c.seen-lowest.ensures.seen c.boxes.invariant.reached) c.boxes.invariant.posted c.seen-lowest.ensures.posted)

pub returns-in_err-record_fresh-in-Done-clause-err : goal.returns-in_err-record_fresh-in-Done-clause-err
returns-in_err-record_fresh-in-Done-clause-err g c = on_any_err _
    (subst (λ (seat : BestSeat). IsBrokenOff (least_in c.args.run.now (costs_seen seat) c.args.searcher.now.boxes.current) (costs_posted c.args.seat.now) (costs_posted seat))
    (sym c.in_err-record_fresh-in-Done.ensures.err)
    (broken_at_node (least_in c.args.run.now (costs_seen c.seen-lowest.new.seat) c.args.searcher.now.boxes.current) (record { stack = boxes_of c.boxes.searcher; best = c.boxes.invariant.lowest; count = c.boxes.invariant.count; found = c.boxes.found })
    (costs_posted c.args.seat.now) (costs_posted c.boxes.seat) (costs_posted c.seen-lowest.new.seat)
    (reached_after_look c.args.run.now.model.now c.args.run.now.program.now c.args.run.now.node_limit c.args.run.now.round_limit c.args.run.now.lanes c.args.searcher.now.boxes.current c.requires.run.program c.requires.run.model c.requires.inside c.len-length.ensures.in_range c.law_more_posted.ensures (costs_seen c.boxes.seat) (costs_seen c.seen-lowest.new.seat) c.seen-lowest.result (record { stack = (boxes_of c.boxes.searcher); best = c.boxes.invariant.lowest; count = c.boxes.invariant.count; found = c.boxes.found }) c.seen-lowest.ensures.seen c.boxes.invariant.reached) c.boxes.invariant.posted c.seen-lowest.ensures.posted))
