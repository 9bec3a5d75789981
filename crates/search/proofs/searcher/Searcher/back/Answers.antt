use Rattle.std.proofs.Common.{◌≡◌, ℕ, true, false, cond, List, [], ◌∷◌, ◌++◌, length, ap, sym, subst, ◌∙◌, arith}
use Rattle.std.specs.List.{All}
use Rattle.std.proofs.lemmas.List.{length-set}
use Rattle.interval.specs.Boxes.{Bounds, IsInside, IsProper}
use Rattle.guarded_tell.specs.Kernels.{IsKernel}
use Rattle.trailed_box.specs.Trailed.{Left, left_of, boxes_of as left_boxes}
use Rattle.branching.specs.declared.fronts.Front.{Front}
use Rattle.narrowing.specs.Narrowers.{Fits, LetRest}
use Rattle.search.specs.Stacks.{own_on, below_on, AreSound}
use Rattle.search.proofs.SearcherLaws.{own_more, below_more, own_none, some_lefts, sound_none, sound_pop, last_left, last_front, boxes_back, told_proper, pair_proper}
use Rattle.search.proofs.searcher.Searcher.back.Goals as goal

pub returns-in-None-clause-ready : goal.returns-in-None-clause-ready
returns-in-None-clause-ready g c =
    let kernels = c.args.run.now.program.now.kernels in
    let stack = c.args.self.now.boxes.stack in
    let none = own_none stack c.last.new.fronts.items c.in-None.ensures.unchanged in
    record {
      left = record {
        sound = sound_none c.args.run.now.model.now kernels (own_on stack c.last.new.fronts.items) c.last.new.fronts.items none c.in-None.ensures.unchanged;
        fits = c.requires.left.fits;
        lanes = c.requires.left.lanes;
        let_rest = subst (λ (ls : List Left). LetRest c.args.self.now.narrower kernels ls) (own_none stack c.args.self.now.fronts.items c.in-None.ensures.none ∙ sym none) c.requires.left.let_rest;
      };
      quiet = λ e. absurd (let f : false ≡ true = e in cc);
      knows = λ e _. absurd (let f : false ≡ true = e in cc);
      front = λ e. absurd (let f : false ≡ true = e in cc);
      told = λ e. absurd (let f : false ≡ true = e in cc);
    }

pub returns-in-None-clause-boxes : goal.returns-in-None-clause-boxes
returns-in-None-clause-boxes g c = sym (ap left_boxes (own_none c.args.self.now.boxes.stack c.args.self.now.fronts.items c.in-None.ensures.none))

pub returns-in-None-clause-below : goal.returns-in-None-clause-below
returns-in-None-clause-below g c = ap (λ (fs : List Front). below_on c.args.self.now.boxes.stack fs) (c.in-None.ensures.unchanged ∙ sym c.in-None.ensures.none)

pub unwind-part-requires : goal.unwind-part-requires
unwind-part-requires g c =
    some_lefts c.args.self.now.boxes.stack c.args.self.now.fronts.items c.args.run.now.model.now c.last.new.fronts.items c.in-Some.front c.in-Some.ensures.some c.requires.left.sound.fronts

pub put-requires-clause-noted : goal.put-requires-clause-noted
put-requires-clause-noted g c =
    let v = c.unwind-part.ensures.part.variable in
    let e = (c.back.ensures.fits c.args.run.now.program.now.kernels (length c.args.self.now.boxes.current) c.requires.left.fits).len in
    let f = c.unwind-part.ensures.same_length in
    omega (arith, v, e, f)

pub returns-in_ok-put-in-Some-clause-ready : goal.returns-in_ok-put-in-Some-clause-ready
returns-in_ok-put-in-Some-clause-ready g c =
    let model = c.args.run.now.model.now in
    let kernels = c.args.run.now.program.now.kernels in
    let base = c.unwind-part.new.boxes.current in
    let part = c.unwind-part.result in
    let left = left_of base part.var part.low part.high in
    let fronts = c.last.new.fronts.items in
    let mine = own_on c.args.self.now.boxes.stack c.args.self.now.fronts.items in
    let others = own_on c.unwind-part.new.boxes.stack fronts in
    let more : mine ≡ others ++ left ∷ [] =
    own_more c.args.self.now.boxes.stack c.unwind-part.new.boxes.stack c.args.self.now.fronts.items fronts left c.in-Some.front c.unwind-part.ensures.stack c.in-Some.ensures.some in
    let same : own_on c.put.new.boxes.stack fronts ≡ others = ap (λ (ls : List Left). own_on ls fronts) c.in_ok-put-in-Some.ensures.stack in
    let lengths : length c.put.new.boxes.current ≡ length c.args.self.now.boxes.current =
    ap length c.in_ok-put-in-Some.ensures.current ∙ length-set base part.var _ ∙ c.unwind-part.ensures.same_length in
    let is_left = last_left model kernels mine others c.args.self.now.fronts.items fronts left more c.requires.left.sound.parts c.requires.left.sound.fronts in
    let layers = subst (λ (ls : List Left). LetRest c.args.self.now.narrower kernels ls) more c.requires.left.let_rest in
    record {
      left = record {
        sound = subst (λ (ls : List Left). AreSound model kernels ls fronts) (sym same)
            (sound_pop model kernels mine others c.args.self.now.fronts.items fronts left more c.requires.left.sound.parts c.requires.left.sound.fronts c.in-Some.front c.in-Some.ensures.some);
        fits = subst (λ (n : ℕ). Fits c.put.new.narrower kernels n) (sym lengths)
            (c.in_ok-put-in-Some.ensures.fits kernels (length c.args.self.now.boxes.current) (c.back.ensures.fits kernels (length c.args.self.now.boxes.current) c.requires.left.fits));
        lanes = c.in_ok-put-in-Some.ensures.lanes ∙ c.back.ensures.lanes ∙ c.requires.left.lanes;
        let_rest = subst (λ (ls : List Left). LetRest c.put.new.narrower kernels ls) (sym same) (c.in_ok-put-in-Some.ensures.let_rest kernels others (c.back.ensures.let_rest kernels others left layers));
      };
      quiet = λ _. c.in_ok-put-in-Some.ensures.quiet kernels (subst (λ (n : ℕ). All (IsKernel n) kernels) (sym c.unwind-part.ensures.same_length) c.requires.run.kernels)
          (c.law_quiet_where_closed.ensures c.back.new.self kernels base is_left.closed);
      knows = λ _ _. c.in_ok-put-in-Some.ensures.knows kernels is_left.inside (pair_proper base part.var part.low part.high c.unwind-part.ensures.part.variable is_left.proper)
          (c.law_known_where_rests.ensures c.back.new.self kernels base (c.back.ensures.rests kernels others left layers));
      front = λ _. record {
        outer = base;
        inside = subst (λ (b : Bounds). IsInside b base) (sym c.in_ok-put-in-Some.ensures.current) is_left.inside;
        is_front = last_front model kernels mine others c.args.self.now.fronts.items fronts left more c.requires.left.sound.parts c.requires.left.sound.fronts c.in-Some.front c.in-Some.ensures.some;
      };
      told = λ _. told_proper c.put.new.boxes.current (subst IsProper (sym c.in_ok-put-in-Some.ensures.current) is_left.proper);
    }

pub returns-in_ok-put-in-Some-clause-count : goal.returns-in_ok-put-in-Some-clause-count
returns-in_ok-put-in-Some-clause-count g c =
    ap length c.in_ok-put-in-Some.ensures.current ∙ length-set c.unwind-part.new.boxes.current c.unwind-part.result.var _ ∙ c.unwind-part.ensures.same_length

pub returns-in_ok-put-in-Some-clause-boxes : goal.returns-in_ok-put-in-Some-clause-boxes
returns-in_ok-put-in-Some-clause-boxes g c =
    let part = c.unwind-part.result in
    let fronts = c.last.new.fronts.items in
    let left = left_of c.unwind-part.new.boxes.current part.var part.low part.high in
    ap (λ (ls : List Left). cond c.args.self.now.is_open (left_boxes (own_on ls fronts) ++ c.put.new.boxes.current ∷ []) []) c.in_ok-put-in-Some.ensures.stack
    ∙ boxes_back c.args.self.now.is_open (own_on c.args.self.now.boxes.stack c.args.self.now.fronts.items) (own_on c.unwind-part.new.boxes.stack fronts) c.unwind-part.new.boxes.current c.put.new.boxes.current part.var part.low part.high
    c.requires.open
    (own_more c.args.self.now.boxes.stack c.unwind-part.new.boxes.stack c.args.self.now.fronts.items fronts left c.in-Some.front c.unwind-part.ensures.stack c.in-Some.ensures.some)
    c.in_ok-put-in-Some.ensures.current

pub returns-in_ok-put-in-Some-clause-below : goal.returns-in_ok-put-in-Some-clause-below
returns-in_ok-put-in-Some-clause-below g c =
    let part = c.unwind-part.result in
    let left = left_of c.unwind-part.new.boxes.current part.var part.low part.high in
    ap (λ (ls : List Left). below_on ls c.last.new.fronts.items) c.in_ok-put-in-Some.ensures.stack
    ∙ sym (below_more c.args.self.now.boxes.stack c.unwind-part.new.boxes.stack c.args.self.now.fronts.items c.last.new.fronts.items left c.in-Some.front c.unwind-part.ensures.stack c.in-Some.ensures.some)
