use Rattle.std.proofs.Common.{◌≡◌, None, ℕ, ◌+◌, [], ◌∷◌, refl, sym, ap, subst, ◌∙◌, inr, arith}
use Rattle.search.specs.declared.kind.Kind.{Kind}
use Rattle.search.specs.declared.ends.Why.{Why}
use Rattle.search.specs.Machine.{begun}
use Rattle.search.specs.Ends.{search_in, head_of}
use Rattle.search.specs.Stacks.{boxes_of}
use Rattle.search.specs.Premises.{CanSearch}
use Rattle.search.proofs.RunLaws.{of_false, at_most, first_done, popped_is_head, first_spent}
use Rattle.search.proofs.SearchLaws.{counted_more, node_reached, out_of_rounds, node_less, of_done, of_given_up, done_empty, done_first}
use Rattle.search.proofs.first.search_first.Goals as goal

pub boxes-init : goal.boxes-init
boxes-init g c = record {
  count = 0;
  reached = begun (search_in c.args.run.now Kind.First c.args.searcher.now.boxes.current) (record { stack = boxes_of c.args.searcher.now; best = None; count = 0; found = c.new-solutions.result })
      c.requires.boxes refl refl c.new-solutions.ensures;
  counted = record { told = refl; within = inr (omega arith) };
  sought = c.new-solutions.ensures;
  ready = c.requires.ready;
  same_count = refl;
  bottom = refl;
  seat = c.requires.seat;
  parts = refl;
  posted = refl;
  seen = λ n h. h;
  fresh = λ n h l e. absurd (let q : c.args.searcher.now.boxes.current ∷ [] ≡ [] = sym c.requires.boxes ∙ e in cc);
}

pub node-requires-clause-run : goal.node-requires-clause-run
node-requires-clause-run g c = λ ks b. subst (λ (n : ℕ). CanSearch c.args.run.now n) (sym c.boxes.invariant.same_count) c.requires.run

pub boxes-smaller : goal.boxes-smaller
boxes-smaller g c =
    let t = c.in_ok-node.ensures.visit in
    node_less (search_in c.args.run.now Kind.First c.args.searcher.now.boxes.current) (λ (e : Kind.First ≡ Kind.Least). absurd cc) (boxes_of c.boxes.searcher) c.boxes.invariant.count c.boxes.solutions c.boxes.invariant.reached
    c.law_inside_order.ensures c.law_branches.ensures c.requires.run.phases c.requires.run.long c.len-length.ensures.in_range t.rest t.top t.taken (boxes_of c.node.new.self) c.node.new.found
    (of_done c.args.run.now.model.now c.args.run.now.program.now.kernels c.args.run.now.round_limit c.args.run.now.lanes t.top t.rest (boxes_of c.node.new.self) c.boxes.solutions c.node.new.found c.in_ok-node.field-0 c.in-Done.is t.visit)

pub boxes-preserved : goal.boxes-preserved
boxes-preserved g c =
    let t = c.in_ok-node.ensures.visit in
    record {
      count = c.boxes.invariant.count + 1;
      reached = node_reached (search_in c.args.run.now Kind.First c.args.searcher.now.boxes.current) (λ (e : Kind.First ≡ Kind.Least). absurd cc) (boxes_of c.boxes.searcher) c.boxes.invariant.count c.boxes.solutions c.boxes.invariant.reached
          t.rest t.top t.taken c.boxes.nodes c.if-is_full.ensures.short c.boxes.invariant.counted (λ e. c.boxes.invariant.sought) c.if-is_full.ensures.below (boxes_of c.node.new.self) c.node.new.found
          (of_done c.args.run.now.model.now c.args.run.now.program.now.kernels c.args.run.now.round_limit c.args.run.now.lanes t.top t.rest (boxes_of c.node.new.self) c.boxes.solutions c.node.new.found c.in_ok-node.field-0 c.in-Done.is t.visit);
      counted = (counted_more c.args.run.now.node_limit c.boxes.nodes c.boxes.invariant.count c.counted-nodes.result c.if-is_full.ensures.short c.boxes.invariant.counted c.if-is_full.ensures.below
          c.counted-nodes.ensures.more c.counted-nodes.ensures.most);
      sought = of_false c.is_found.result (c.node.new.found ≡ []) c.if-is_found.false c.is_found.ensures.none;
      ready = c.in_ok-node.ensures.ready c.in-Done.is;
      same_count = c.in_ok-node.ensures.count c.in-Done.is ∙ c.boxes.invariant.same_count;
      bottom = c.in_ok-node.ensures.below ∙ c.boxes.invariant.bottom;
      seat = c.lesser_seen.ensures.seat;
      parts = c.lesser_seen.ensures.parts ∙ c.boxes.invariant.parts;
      posted = c.lesser_seen.ensures.posted ∙ c.boxes.invariant.posted;
      seen = λ n h. c.lesser_seen.ensures.seen n (c.boxes.invariant.seen n h);
      fresh = λ n h l e.
          let m = c.lesser_seen.ensures.none c.in_default.is n (c.lesser_seen.ensures.seen n (c.boxes.invariant.seen n h)) in omega (arith, l, m);
    }

pub returns-in-GivenUp-clause-end : goal.returns-in-GivenUp-clause-end
returns-in-GivenUp-clause-end g c =
    let t = c.in_ok-node.ensures.visit in
    let up = (of_given_up c.args.run.now.model.now c.args.run.now.program.now.kernels c.args.run.now.round_limit c.args.run.now.lanes t.top t.rest (boxes_of c.node.new.self) c.boxes.solutions c.node.new.found c.in_ok-node.field-0 c.in-GivenUp.is t.visit) in
    first_spent (search_in c.args.run.now Kind.First c.args.searcher.now.boxes.current) refl Why.Rounds c.counted-nodes.result c.node.new.found
    (out_of_rounds (search_in c.args.run.now Kind.First c.args.searcher.now.boxes.current) (λ (e : Kind.First ≡ Kind.Least). absurd cc) (boxes_of c.boxes.searcher) c.boxes.invariant.count c.boxes.solutions c.boxes.invariant.reached
    t.rest t.top t.taken c.boxes.nodes c.if-is_full.ensures.short c.boxes.invariant.counted (λ e. c.boxes.invariant.sought) c.if-is_full.ensures.below c.counted-nodes.result c.node.new.found
    (counted_more c.args.run.now.node_limit c.boxes.nodes c.boxes.invariant.count c.counted-nodes.result c.if-is_full.ensures.short c.boxes.invariant.counted c.if-is_full.ensures.below
    c.counted-nodes.ensures.more c.counted-nodes.ensures.most) up.0 up.1)

pub returns-then-is_found-clause-end : goal.returns-then-is_found-clause-end
returns-then-is_found-clause-end g c =
    let t = c.in_ok-node.ensures.visit in
    let some = c.if-is_found.ensures.some in
    let done = done_first (search_in c.args.run.now Kind.First c.args.searcher.now.boxes.current) (λ (e : Kind.First ≡ Kind.Least). absurd cc) (boxes_of c.node.new.self) (c.boxes.invariant.count + 1) c.node.new.found
    (node_reached (search_in c.args.run.now Kind.First c.args.searcher.now.boxes.current) (λ (e : Kind.First ≡ Kind.Least). absurd cc) (boxes_of c.boxes.searcher) c.boxes.invariant.count c.boxes.solutions c.boxes.invariant.reached
    t.rest t.top t.taken c.boxes.nodes c.if-is_full.ensures.short c.boxes.invariant.counted (λ e. c.boxes.invariant.sought) c.if-is_full.ensures.below (boxes_of c.node.new.self) c.node.new.found
    (of_done c.args.run.now.model.now c.args.run.now.program.now.kernels c.args.run.now.round_limit c.args.run.now.lanes t.top t.rest (boxes_of c.node.new.self) c.boxes.solutions c.node.new.found c.in_ok-node.field-0 c.in-Done.is t.visit)) (refl, some) in
    first_done c.law_inside_order.ensures c.law_branches.ensures c.law_every_list.ensures (search_in c.args.run.now Kind.First c.args.searcher.now.boxes.current) refl c.requires.run.phases c.requires.run.long c.len-length.ensures.in_range c.requires.run.kernels c.node.new.found done
    c.pop.result
    (popped_is_head c.node.new.found c.pop.new.self.items c.into_vec.result.items c.pop.result c.into_vec.result.len c.pop.new.self.len
    (at_most c.law_inside_order.ensures c.law_branches.ensures c.law_every_list.ensures (search_in c.args.run.now Kind.First c.args.searcher.now.boxes.current) refl c.requires.run.phases c.requires.run.long c.len-length.ensures.in_range c.requires.run.kernels c.node.new.found done)
    c.into_vec.ensures c.pop.ensures.items c.pop.ensures.rest c.pop.ensures.cases)

pub returns-clause-end : goal.returns-clause-end
returns-clause-end g c =
    let empty = of_false c.has_next.result (boxes_of c.boxes.searcher ≡ []) c.boxes-test.false c.has_next.ensures.none in
    let done = done_empty (search_in c.args.run.now Kind.First c.args.searcher.now.boxes.current) (λ (e : Kind.First ≡ Kind.Least). absurd cc) (boxes_of c.boxes.searcher) c.boxes.invariant.count c.boxes.solutions c.boxes.invariant.reached empty in
    first_done c.law_inside_order.ensures c.law_branches.ensures c.law_every_list.ensures (search_in c.args.run.now Kind.First c.args.searcher.now.boxes.current) refl c.requires.run.phases c.requires.run.long c.len-length.ensures.in_range c.requires.run.kernels c.boxes.solutions done
    None (sym (ap head_of c.boxes.invariant.sought))
