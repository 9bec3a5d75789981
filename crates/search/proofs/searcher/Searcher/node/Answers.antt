use Rattle.std.proofs.Common.{List, [], ◌∷◌, ◌++◌, ap, sym, subst, refl, ◌∙◌}
use Rattle.branching.specs.declared.fronts.Front.{Front}
use Rattle.trailed_box.specs.Trailed.{Left, boxes_of as left_boxes}
use Rattle.narrowing.specs.Narrowing.{IsNarrowed, IsNarrowedAlone}
use Rattle.narrowing.specs.Narrowers.{LetsRestWhereFixed}
use Rattle.search.specs.Nodes.{IsSettled}
use Rattle.search.specs.Stacks.{boxes_of, own_of, IsFrontNear}
use Rattle.search.proofs.SearcherLaws.{opened, when_open, near_inside, from_left}
use Rattle.search.proofs.NodeLaws.{top_dropped, top_settled, top_given_up, within_rounds}
use Rattle.search.proofs.searcher.Searcher.node.Goals as goal

pub cut-requires-clause-open : goal.cut-requires-clause-open
cut-requires-clause-open g c = opened c.args.self.now.is_open (left_boxes (own_of c.args.self.now) ++ c.args.self.now.boxes.current ∷ []) c.requires.next

pub returns-in-GivenUp-clause-visit : goal.returns-in-GivenUp-clause-visit
returns-in-GivenUp-clause-visit g c =
    top_given_up c.args.run.now.model.now c.args.run.now.program.now.kernels c.args.run.now.round_limit c.args.run.now.lanes c.args.best (boxes_of c.args.self.now) (left_boxes (own_of c.args.self.now)) (boxes_of c.narrow.new.self) c.args.self.now.boxes.current c.cut.new.self.boxes.current c.args.found.now c.args.found.now
    (when_open c.args.self.now.is_open _ (opened c.args.self.now.is_open _ c.requires.next)) c.in_ok-cut.ensures.current (subst (IsNarrowed c.args.run.now.program.now.kernels c.args.run.now.round_limit c.cut.new.self.boxes.current c.narrow.new.self.boxes.current) c.in-GivenUp.is c.in_ok-narrow.ensures.narrowed).0
    (λ one. subst (IsNarrowedAlone c.args.run.now.program.now.kernels c.args.run.now.round_limit c.cut.new.self.boxes.current) c.in-GivenUp.is (c.in_ok-narrow.ensures.alone one)) refl

pub returns-in_ok-back-in-Failed-clause-visit : goal.returns-in_ok-back-in-Failed-clause-visit
returns-in_ok-back-in-Failed-clause-visit g c =
    top_dropped c.args.run.now.model.now c.args.run.now.program.now.kernels c.args.run.now.round_limit c.args.run.now.lanes c.args.best (boxes_of c.args.self.now) (left_boxes (own_of c.args.self.now)) (boxes_of c.back.new.self) c.args.self.now.boxes.current c.cut.new.self.boxes.current c.args.found.now c.args.found.now
    (when_open c.args.self.now.is_open _ (opened c.args.self.now.is_open _ c.requires.next)) c.in_ok-cut.ensures.current
    (λ one. subst (IsNarrowedAlone c.args.run.now.program.now.kernels c.args.run.now.round_limit c.cut.new.self.boxes.current) c.in-Failed.is (c.in_ok-narrow.ensures.alone one))
    (subst (IsNarrowed c.args.run.now.program.now.kernels c.args.run.now.round_limit c.cut.new.self.boxes.current c.narrow.new.self.boxes.current) c.in-Failed.is c.in_ok-narrow.ensures.narrowed).0
    (c.in_ok-back-in-Failed.ensures.boxes ∙ ap left_boxes (c.in_ok-narrow.ensures.own ∙ c.in_ok-cut.ensures.own)) refl

pub settle-requires-clause-closed : goal.settle-requires-clause-closed
settle-requires-clause-closed g c = (subst (IsNarrowed c.args.run.now.program.now.kernels c.args.run.now.round_limit c.cut.new.self.boxes.current c.narrow.new.self.boxes.current) c.in-Fixed.is c.in_ok-narrow.ensures.narrowed).0.closed

pub settle-requires-clause-rests : goal.settle-requires-clause-rests
settle-requires-clause-rests g c = subst (LetsRestWhereFixed c.narrow.new.self.narrower c.args.run.now.program.now.kernels c.narrow.new.self.boxes.current) c.in-Fixed.is c.in_ok-narrow.ensures.rests

pub settle-requires-clause-front : goal.settle-requires-clause-front
settle-requires-clause-front g c =
    subst (λ (f : Front). IsFrontNear c.args.run.now.model.now c.narrow.new.self.boxes.current f) (sym c.in_ok-narrow.ensures.front)
    (near_inside c.law_inside_order.ensures c.args.run.now.model.now c.cut.new.self.boxes.current c.narrow.new.self.boxes.current c.cut.new.self.front (subst (IsNarrowed c.args.run.now.program.now.kernels c.args.run.now.round_limit c.cut.new.self.boxes.current c.narrow.new.self.boxes.current) c.in-Fixed.is c.in_ok-narrow.ensures.narrowed).0.inside (c.in_ok-cut.ensures.ready.front c.in_ok-cut.ensures.open))

pub returns-in_ok-settle-in-Fixed-clause-visit : goal.returns-in_ok-settle-in-Fixed-clause-visit
returns-in_ok-settle-in-Fixed-clause-visit g c =
    top_settled c.args.run.now.model.now c.args.run.now.program.now.kernels c.args.run.now.round_limit c.args.run.now.lanes c.args.best (boxes_of c.args.self.now) (left_boxes (own_of c.args.self.now)) (boxes_of c.settle.new.self) c.args.self.now.boxes.current c.cut.new.self.boxes.current c.args.found.now c.settle.new.found
    (when_open c.args.self.now.is_open _ (opened c.args.self.now.is_open _ c.requires.next)) c.in_ok-cut.ensures.current
    (λ one. subst (IsNarrowedAlone c.args.run.now.program.now.kernels c.args.run.now.round_limit c.cut.new.self.boxes.current) c.in-Fixed.is (c.in_ok-narrow.ensures.alone one))
    c.narrow.new.self.boxes.current (subst (IsNarrowed c.args.run.now.program.now.kernels c.args.run.now.round_limit c.cut.new.self.boxes.current c.narrow.new.self.boxes.current) c.in-Fixed.is c.in_ok-narrow.ensures.narrowed).0
    (within_rounds c.args.run.now.program.now.kernels c.args.run.now.round_limit c.cut.new.self.boxes.current c.narrow.new.self.boxes.current c.in-Fixed.rounds
    (subst (IsNarrowed c.args.run.now.program.now.kernels c.args.run.now.round_limit c.cut.new.self.boxes.current c.narrow.new.self.boxes.current) c.in-Fixed.is c.in_ok-narrow.ensures.narrowed))
    (subst (λ (ls : List Left). IsSettled c.args.run.now.model.now c.narrow.new.self.boxes.current (left_boxes ls) (boxes_of c.settle.new.self) c.args.found.now c.settle.new.found) (c.in_ok-narrow.ensures.own ∙ c.in_ok-cut.ensures.own)
    c.in_ok-settle-in-Fixed.ensures.settled)

pub returns-in-GivenUp-clause-again : goal.returns-in-GivenUp-clause-again
returns-in-GivenUp-clause-again g c = from_left c.args.run.now c.narrow.new.self _ c.in_ok-narrow.ensures.left (c.in_ok-narrow.ensures.count ∙ c.in_ok-cut.ensures.count)

pub returns-in_ok-back-in-Failed-clause-again : goal.returns-in_ok-back-in-Failed-clause-again
returns-in_ok-back-in-Failed-clause-again g c = from_left c.args.run.now c.back.new.self _ c.in_ok-back-in-Failed.ensures.ready.left (c.in_ok-back-in-Failed.ensures.count ∙ c.in_ok-narrow.ensures.count ∙ c.in_ok-cut.ensures.count)

pub returns-in_ok-settle-in-Fixed-clause-again : goal.returns-in_ok-settle-in-Fixed-clause-again
returns-in_ok-settle-in-Fixed-clause-again g c = from_left c.args.run.now c.settle.new.self _ c.in_ok-settle-in-Fixed.ensures.ready.left (c.in_ok-settle-in-Fixed.ensures.count ∙ c.in_ok-narrow.ensures.count ∙ c.in_ok-cut.ensures.count)

pub returns-in_ok-back-in-Failed-clause-below : goal.returns-in_ok-back-in-Failed-clause-below
returns-in_ok-back-in-Failed-clause-below g c = c.in_ok-back-in-Failed.ensures.below ∙ c.in_ok-narrow.ensures.below ∙ c.in_ok-cut.ensures.below

pub returns-in_ok-settle-in-Fixed-clause-below : goal.returns-in_ok-settle-in-Fixed-clause-below
returns-in_ok-settle-in-Fixed-clause-below g c = c.in_ok-settle-in-Fixed.ensures.below ∙ c.in_ok-narrow.ensures.below ∙ c.in_ok-cut.ensures.below

pub returns-in-GivenUp-clause-below : goal.returns-in-GivenUp-clause-below
returns-in-GivenUp-clause-below g c = c.in_ok-narrow.ensures.below ∙ c.in_ok-cut.ensures.below
