use Rattle.std.proofs.Common.{◌≡◌, ◌≤ℤ◌, ℕ, List, [], ◌∷◌, ◌++◌, length, ap, sym, subst, ◌∙◌, arith}
use Rattle.std.specs.List.{All}
use Rattle.std.proofs.lemmas.List.{length-set}
use Rattle.interval.specs.Boxes.{Bounds, IsInside, IsProper, put_of}
use Rattle.guarded_tell.specs.Kernels.{IsKernel}
use Rattle.trailed_box.specs.declared.trail.Part.{Part}
use Rattle.trailed_box.specs.Trailed.{Left, IsPart, left_of, boxes_of as left_boxes}
use Rattle.branching.specs.Fronts.{right_by, left_by}
use Rattle.narrowing.specs.Narrowers.{Fits, AreQuietUnlessNoted, Knows, LetRest}
use Rattle.search.specs.Stacks.{own_on}
use Rattle.search.proofs.SearcherLaws.{own_more, below_more, sound_push, boxes_parted, told_proper, pair_proper}
use Rattle.search.proofs.searcher.Searcher.part.Goals as goal

pub put-requires-clause-part : goal.put-requires-clause-part
put-requires-clause-part g c =
    subst (λ (p : Part). IsPart (length c.leave.new.boxes.current) p.var p.low p.high) (sym c.first_part.ensures)
    (subst (λ (b : Bounds). IsPart (length b) c.args.parts.pair c.args.parts.left_low c.args.parts.left_high) (sym c.in_ok-leave.ensures.current)
    (record { variable = c.requires.fits.pair; low_in_range = c.requires.fits.left_low; high_in_range = c.requires.fits.left_high }))

pub put-requires-clause-noted : goal.put-requires-clause-noted
put-requires-clause-noted g c =
    let v = c.requires.fits.pair in
    let e = (c.in_ok-leave-2.ensures.fits c.args.run.now.program.now.kernels (length c.args.self.now.boxes.current) c.requires.left.fits).len in
    let f = ap (λ (p : Part). p.var) c.first_part.ensures in
    omega (arith, v, e, f)

pub returns-clause-ready : goal.returns-clause-ready
returns-clause-ready g c =
    let base = c.args.self.now.boxes.current in
    let left = left_of base c.args.parts.pair c.args.parts.right_low c.args.parts.right_high in
    let same = c.in_ok-leave.ensures.current in
    let is_base : c.put.new.boxes.current ≡ left_by base c.args.parts =
    c.in_ok-put.ensures.current ∙ ap (λ (p : Part). put_of c.leave.new.boxes.current p.var p.low p.high) c.first_part.ensures ∙ ap (λ (b : Bounds). left_by b c.args.parts) same in
    let lengths : length c.put.new.boxes.current ≡ length base = ap length is_base ∙ length-set base c.args.parts.pair _ in
    let kernels = c.args.run.now.program.now.kernels in
    let n = c.leave-2.new.self in
    let mine = own_on c.args.self.now.boxes.stack c.args.self.now.fronts.items in
    let more : own_on c.put.new.boxes.stack c.keep.new.fronts.items ≡ mine ++ left ∷ [] =
    own_more c.put.new.boxes.stack c.args.self.now.boxes.stack c.keep.new.fronts.items c.args.self.now.fronts.items left c.args.front (c.in_ok-put.ensures.stack ∙ c.in_ok-leave.ensures.stack) c.in_ok-keep.ensures in
    let first_inside : IsInside (left_by base c.args.parts) base = c.requires.parts.first_part.inside in
    record {
      left = record {
        sound = sound_push c.args.run.now.model.now c.args.run.now.program.now.kernels mine (own_on c.put.new.boxes.stack c.keep.new.fronts.items) c.args.self.now.fronts.items c.keep.new.fronts.items left c.args.front
            more c.in_ok-keep.ensures (record { closed = c.requires.closed; inside = c.requires.parts.second_part.inside; proper = c.requires.parts.second_part.proper }) c.requires.front c.requires.left.sound;
        fits = subst (λ (n : ℕ). Fits c.put.new.narrower c.args.run.now.program.now.kernels n) (sym lengths) (c.in_ok-put.ensures.fits c.args.run.now.program.now.kernels (length base) (c.in_ok-leave-2.ensures.fits kernels (length base) c.requires.left.fits));
        lanes = c.in_ok-put.ensures.lanes ∙ c.in_ok-leave-2.ensures.lanes ∙ c.requires.left.lanes;
        let_rest = subst (λ (ls : List Left). LetRest c.put.new.narrower kernels ls) (sym more)
            (c.in_ok-put.ensures.let_rest kernels _ (c.in_ok-leave-2.ensures.let_rest kernels mine base c.args.parts.pair c.args.parts.right_low c.args.parts.right_high c.requires.rests c.requires.left.let_rest));
      };
      quiet = λ _. c.in_ok-put.ensures.quiet c.args.run.now.program.now.kernels (subst (λ (b : Bounds). All (IsKernel (length b)) c.args.run.now.program.now.kernels) (sym same) c.requires.run.kernels)
          (subst (λ (b : Bounds). AreQuietUnlessNoted n c.args.run.now.program.now.kernels b) (sym same) (c.law_quiet_where_closed.ensures n c.args.run.now.program.now.kernels base c.requires.closed));
      knows = λ _ _. c.in_ok-put.ensures.knows kernels
          (subst (λ (p : Part). IsInside (put_of c.leave.new.boxes.current p.var p.low p.high) c.leave.new.boxes.current) (sym c.first_part.ensures)
          (subst (λ (b : Bounds). IsInside (left_by b c.args.parts) b) (sym same) first_inside))
          (subst (λ (p : Part). p.low ≤ℤ p.high) (sym c.first_part.ensures)
          (pair_proper base c.args.parts.pair c.args.parts.left_low c.args.parts.left_high c.requires.fits.pair c.requires.parts.first_part.proper))
          (subst (λ (b : Bounds). Knows n kernels b) (sym same) (c.law_known_where_rests.ensures n kernels base (c.in_ok-leave-2.ensures.rests kernels base c.requires.rests)));
      front = λ _. record {
        outer = base;
        inside = subst (λ (b : Bounds). IsInside b base) (sym is_base) c.requires.parts.first_part.inside;
        is_front = c.requires.front;
      };
      told = λ _. told_proper c.put.new.boxes.current (subst IsProper (sym is_base) c.requires.parts.first_part.proper);
    }

pub returns-clause-count : goal.returns-clause-count
returns-clause-count g c =
    ap length (c.in_ok-put.ensures.current ∙ ap (λ (p : Part). put_of c.leave.new.boxes.current p.var p.low p.high) c.first_part.ensures ∙ ap (λ (b : Bounds). left_by b c.args.parts) c.in_ok-leave.ensures.current)
    ∙ length-set c.args.self.now.boxes.current c.args.parts.pair _

pub returns-clause-boxes : goal.returns-clause-boxes
returns-clause-boxes g c =
    let base = c.args.self.now.boxes.current in
    let is_base : c.put.new.boxes.current ≡ left_by base c.args.parts =
    c.in_ok-put.ensures.current ∙ ap (λ (p : Part). put_of c.leave.new.boxes.current p.var p.low p.high) c.first_part.ensures ∙ ap (λ (b : Bounds). left_by b c.args.parts) c.in_ok-leave.ensures.current in
    let left = left_of base c.args.parts.pair c.args.parts.right_low c.args.parts.right_high in
    let mine = own_on c.args.self.now.boxes.stack c.args.self.now.fronts.items in
    boxes_parted c.args.self.now.is_open (own_on c.put.new.boxes.stack c.keep.new.fronts.items) mine base c.put.new.boxes.current c.args.parts.pair c.args.parts.right_low c.args.parts.right_high
    c.requires.open
    (own_more c.put.new.boxes.stack c.args.self.now.boxes.stack c.keep.new.fronts.items c.args.self.now.fronts.items left c.args.front (c.in_ok-put.ensures.stack ∙ c.in_ok-leave.ensures.stack) c.in_ok-keep.ensures)
    ∙ ap (λ (b : Bounds). left_boxes mine ++ right_by base c.args.parts ∷ b ∷ []) is_base

pub returns-clause-below : goal.returns-clause-below
returns-clause-below g c =
    let left = left_of c.args.self.now.boxes.current c.args.parts.pair c.args.parts.right_low c.args.parts.right_high in
    below_more c.put.new.boxes.stack c.args.self.now.boxes.stack c.keep.new.fronts.items c.args.self.now.fronts.items left c.args.front (c.in_ok-put.ensures.stack ∙ c.in_ok-leave.ensures.stack) c.in_ok-keep.ensures
