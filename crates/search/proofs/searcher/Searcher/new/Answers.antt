use Rattle.std.proofs.Common.{List, [], ◌∷◌, ◌++◌, ap, sym, subst, ◌∙◌}
use Rattle.interval.specs.Boxes.{Bounds, IsCrossed}
use Rattle.moved_fixpoint.specs.Made.{IsMadeBy}
use Rattle.narrowing.specs.Narrowers.{LetRest}
use Rattle.trailed_box.specs.Trailed.{Left, boxes_of as left_boxes}
use Rattle.search.specs.Stacks.{own_on, TellsCrossed}
use Rattle.search.proofs.RunLaws.{of_false, of_true}
use Rattle.search.proofs.SearcherLaws.{own_none, below_none, sound_none, pair_within}
use Rattle.search.proofs.searcher.Searcher.new.Goals as goal

pub note_start-requires : goal.note_start-requires
note_start-requires g c = pair_within c.args.spare.narrower c.args.run.now.program.now.kernels c.args.start.boxes.current c.args.start.changed c.requires.spare.fits c.requires.made

pub returns-clause-ready : goal.returns-clause-ready
returns-clause-ready g c =
    let kernels = c.args.run.now.program.now.kernels in
    let b = c.args.start.boxes.current in
    let stack = c.args.start.boxes.stack in
    let fronts = c.clear.new.self.items in
    let n = c.note_start.new.narrower in
    let none = own_none stack fronts c.clear.ensures.items in
    record {
      left = record {
        sound = sound_none c.args.run.now.model.now kernels (own_on stack fronts) fronts none c.clear.ensures.items;
        fits = c.note_start.ensures.fits kernels _ c.requires.spare.fits;
        lanes = c.note_start.ensures.lanes ∙ c.requires.spare.same_lanes;
        let_rest = subst (λ (ls : List Left). LetRest n kernels ls) (sym none) (c.note_start.ensures.let_rest kernels);
      };
      quiet = λ _. c.note_start.ensures.quiet kernels b (sym c.requires.spare.fits.len) c.requires.run.kernels c.requires.made;
      knows = λ _ _. c.note_start.ensures.knows kernels _ b c.requires.spare.fits;
      front = λ _. record { outer = b; inside = c.law_inside_order.ensures.itself b; is_front = c.first.ensures c.args.run.now.model.now b };
      told = λ _. subst (TellsCrossed c.is_crossed_start-is_crossed.result) c.current.ensures (record {
        crossed = λ e. of_true c.is_crossed_start-is_crossed.result (IsCrossed c.current.result.now) e c.is_crossed_start-is_crossed.ensures.crossed;
        proper = λ e. of_false c.is_crossed_start-is_crossed.result _ e c.is_crossed_start-is_crossed.ensures.proper kernels
            (subst (λ (d : Bounds). IsMadeBy c.args.start.changed kernels d) (sym c.current.ensures) c.requires.made);
      });
    }

pub returns-clause-boxes : goal.returns-clause-boxes
returns-clause-boxes g c = ap (λ (ls : List Left). left_boxes ls ++ c.args.start.boxes.current ∷ []) (own_none c.args.start.boxes.stack c.clear.new.self.items c.clear.ensures.items)

pub returns-clause-below : goal.returns-clause-below
returns-clause-below g c = below_none c.args.start.boxes.stack c.clear.new.self.items c.clear.ensures.items
