use Rattle.std.proofs.Common.{◌≡◌, None, ℕ, ◌+◌, refl, sym, subst, ◌∙◌, inr, arith}
use Rattle.search.specs.declared.kind.Kind.{Kind}
use Rattle.search.specs.Machine.{begun}
use Rattle.search.specs.Ends.{search_in}
use Rattle.search.specs.Stacks.{boxes_of}
use Rattle.search.specs.Premises.{CanSearch}
use Rattle.search.proofs.SearchLaws.{counted_more, node_reached, out_of_rounds, node_less, of_done, of_given_up}
use Rattle.search.proofs.all.search_all.Goals as goal

pub boxes-init : goal.boxes-init
boxes-init g c = record {
  count = 0;
  reached = begun (search_in c.args.run.now Kind.All c.args.searcher.now.boxes.current) (record { stack = boxes_of c.args.searcher.now; best = None; count = 0; found = c.new-found.result })
      c.requires.boxes refl refl c.new-found.ensures;
  counted = record { told = refl; within = inr (omega arith) };
  ready = c.requires.ready;
  same_count = refl;
  bottom = refl;
}

pub node-requires-clause-run : goal.node-requires-clause-run
node-requires-clause-run g c = λ ks b. subst (λ (n : ℕ). CanSearch c.args.run.now n) (sym c.boxes.invariant.same_count) c.requires.run

pub boxes-smaller : goal.boxes-smaller
boxes-smaller g c =
    let t = c.in_ok-node.ensures.visit in
    node_less (search_in c.args.run.now Kind.All c.args.searcher.now.boxes.current) (λ (e : Kind.All ≡ Kind.Least). absurd cc) (boxes_of c.boxes.searcher) c.boxes.invariant.count c.boxes.found c.boxes.invariant.reached
    c.law_inside_order.ensures c.law_branches.ensures c.requires.run.phases c.requires.run.long c.len-length.ensures.in_range t.rest t.top t.taken (boxes_of c.node.new.self) c.node.new.found
    (of_done c.args.run.now.model.now c.args.run.now.program.now.kernels c.args.run.now.round_limit c.args.run.now.lanes t.top t.rest (boxes_of c.node.new.self) c.boxes.found c.node.new.found c.in_ok-node.field-0 c.in-Done.is t.visit)

pub boxes-preserved : goal.boxes-preserved
boxes-preserved g c =
    let t = c.in_ok-node.ensures.visit in
    record {
      count = c.boxes.invariant.count + 1;
      reached = node_reached (search_in c.args.run.now Kind.All c.args.searcher.now.boxes.current) (λ (e : Kind.All ≡ Kind.Least). absurd cc) (boxes_of c.boxes.searcher) c.boxes.invariant.count c.boxes.found c.boxes.invariant.reached
          t.rest t.top t.taken c.boxes.nodes c.if-is_full.ensures.short c.boxes.invariant.counted (λ (e : Kind.All ≡ Kind.First). absurd cc) c.if-is_full.ensures.below (boxes_of c.node.new.self) c.node.new.found
          (of_done c.args.run.now.model.now c.args.run.now.program.now.kernels c.args.run.now.round_limit c.args.run.now.lanes t.top t.rest (boxes_of c.node.new.self) c.boxes.found c.node.new.found c.in_ok-node.field-0 c.in-Done.is t.visit);
      counted = (counted_more c.args.run.now.node_limit c.boxes.nodes c.boxes.invariant.count c.counted-nodes.result c.if-is_full.ensures.short c.boxes.invariant.counted c.if-is_full.ensures.below
          c.counted-nodes.ensures.more c.counted-nodes.ensures.most);
      ready = c.in_ok-node.ensures.ready c.in-Done.is;
      same_count = c.in_ok-node.ensures.count c.in-Done.is ∙ c.boxes.invariant.same_count;
      bottom = c.in_ok-node.ensures.below ∙ c.boxes.invariant.bottom;
    }

pub returns-in-GivenUp-clause-closing : goal.returns-in-GivenUp-clause-closing
returns-in-GivenUp-clause-closing g c =
    let t = c.in_ok-node.ensures.visit in
    let up = (of_given_up c.args.run.now.model.now c.args.run.now.program.now.kernels c.args.run.now.round_limit c.args.run.now.lanes t.top t.rest (boxes_of c.node.new.self) c.boxes.found c.node.new.found c.in_ok-node.field-0 c.in-GivenUp.is t.visit) in
    out_of_rounds (search_in c.args.run.now Kind.All c.args.searcher.now.boxes.current) (λ (e : Kind.All ≡ Kind.Least). absurd cc) (boxes_of c.boxes.searcher) c.boxes.invariant.count c.boxes.found c.boxes.invariant.reached
    t.rest t.top t.taken c.boxes.nodes c.if-is_full.ensures.short c.boxes.invariant.counted (λ (e : Kind.All ≡ Kind.First). absurd cc) c.if-is_full.ensures.below c.counted-nodes.result c.node.new.found
    (counted_more c.args.run.now.node_limit c.boxes.nodes c.boxes.invariant.count c.counted-nodes.result c.if-is_full.ensures.short c.boxes.invariant.counted c.if-is_full.ensures.below
    c.counted-nodes.ensures.more c.counted-nodes.ensures.most) up.0 up.1
