use Rattle.std.proofs.Common.{◌≡◌, ℕ, ℤ, ◌<◌, ◌-◌, List, length, ap, sym, subst, ◌∙◌, arith}
use Rattle.std.specs.Prelude.{IfSome}
use Rattle.std.proofs.lemmas.List.{length-set}
use Rattle.interval.specs.Limits.{IsNumber}
use Rattle.interval.specs.Boxes.{Bounds, IsInside, put_of}
use Rattle.trailed_box.specs.Trailed.{Left, IsPart}
use Rattle.narrowing.specs.Narrowers.{Fits, LetRest}
use Rattle.search.specs.declared.kind.Kind.{Kind}
use Rattle.search.specs.Costs.{IsObjectiveIn}
use Rattle.search.specs.Machine.{cut_by}
use Rattle.search.specs.Stacks.{own_on, below_on, own_of, AreSound, TellsCrossed}
use Rattle.search.proofs.SearcherLaws.{near_inside, cut_lies, told_cut, not_crossed}
use Rattle.search.proofs.searcher.Searcher.cut.Goals as goal

pub cut_below-requires-clause-some : goal.cut_below-requires-clause-some
cut_below-requires-clause-some g c = subst (λ (b : Bounds). 0 < length b) (sym c.current.ensures) (let l = c.requires.run.long in omega (arith, l))

pub cut_below-requires-clause-best : goal.cut_below-requires-clause-best
cut_below-requires-clause-best g c =
    subst (λ (b : Bounds). IfSome c.args.best (λ (cost : ℤ). IsNumber cost × IsObjectiveIn (length b - 1) c.args.run.now.model.now.goal)) (sym c.current.ensures) c.requires.best

pub put-requires-clause-part : goal.put-requires-clause-part
put-requires-clause-part g c = subst (λ (b : Bounds). IsPart (length b) c.in-Some.cut.var c.in-Some.cut.low c.in-Some.cut.high) c.current.ensures (c.in-Some.ensures).1

pub put-requires-clause-noted : goal.put-requires-clause-noted
put-requires-clause-noted g c =
    let v = ((c.in-Some.ensures).1).variable in
    let e = ap length c.current.ensures in
    let f = c.requires.ready.left.fits.len in
    omega (arith, v, e, f)

pub returns-in-None-clause-current : goal.returns-in-None-clause-current
returns-in-None-clause-current g c = subst (λ (b : Bounds). b ≡ cut_by Kind.Least c.args.run.now.model.now.goal c.args.best b) c.current.ensures (sym c.in-None.ensures)

pub returns-in_ok-put-in-Some-clause-ready : goal.returns-in_ok-put-in-Some-clause-ready
returns-in_ok-put-in-Some-clause-ready g c =
    let old = c.args.self.now.boxes.current in
    let lengths : length c.put.new.boxes.current ≡ length old = ap length c.in_ok-put-in-Some.ensures.current ∙ length-set old c.in-Some.cut.var _ in
    let is_cut : c.put.new.boxes.current ≡ cut_by Kind.Least c.args.run.now.model.now.goal c.args.best old =
    c.in_ok-put-in-Some.ensures.current ∙ sym (subst (λ (b : Bounds). cut_by Kind.Least c.args.run.now.model.now.goal c.args.best b ≡ put_of b c.in-Some.cut.var c.in-Some.cut.low c.in-Some.cut.high) c.current.ensures (c.in-Some.ensures).0) in
    record {
      left = record {
        sound = subst (λ (ls : List Left). AreSound c.args.run.now.model.now c.args.run.now.program.now.kernels (own_on ls c.args.self.now.fronts.items) c.args.self.now.fronts.items) (sym c.in_ok-put-in-Some.ensures.stack) c.requires.ready.left.sound;
        fits = subst (λ (n : ℕ). Fits c.put.new.narrower c.args.run.now.program.now.kernels n) (sym lengths) (c.in_ok-put-in-Some.ensures.fits c.args.run.now.program.now.kernels (length old) c.requires.ready.left.fits);
        lanes = c.in_ok-put-in-Some.ensures.lanes ∙ c.requires.ready.left.lanes;
        let_rest = subst (λ (ls : List Left). LetRest c.put.new.narrower c.args.run.now.program.now.kernels (own_on ls c.args.self.now.fronts.items)) (sym c.in_ok-put-in-Some.ensures.stack)
            (c.in_ok-put-in-Some.ensures.let_rest c.args.run.now.program.now.kernels (own_of c.args.self.now) c.requires.ready.left.let_rest);
      };
      quiet = λ _. c.in_ok-put-in-Some.ensures.quiet c.args.run.now.program.now.kernels c.requires.run.kernels (c.requires.ready.quiet c.requires.open);
      knows = λ _ e.
          let left = not_crossed c.is_crossed_by-self.result _ e c.is_crossed_by-self.ensures.proper in
          c.in_ok-put-in-Some.ensures.knows c.args.run.now.program.now.kernels
          (subst (λ (b : Bounds). IsInside b old) (sym is_cut ∙ c.in_ok-put-in-Some.ensures.current) (cut_lies c.law_inside_order.ensures c.args.run.now.model.now.goal c.args.best old))
          left.1 (c.requires.ready.knows c.requires.open left.0);
      front = λ _. near_inside c.law_inside_order.ensures c.args.run.now.model.now old c.put.new.boxes.current c.args.self.now.front
          (subst (λ (b : Bounds). IsInside b old) (sym is_cut) (cut_lies c.law_inside_order.ensures c.args.run.now.model.now.goal c.args.best old)) (c.requires.ready.front c.requires.open);
      told = λ _. subst (TellsCrossed c.is_crossed_by-self.result) (sym c.in_ok-put-in-Some.ensures.current)
          (told_cut c.law_tightens_one.ensures old c.in-Some.cut.var c.in-Some.cut.low c.in-Some.cut.high c.args.self.now.is_crossed c.is_crossed_by-self.result
          (subst (λ (b : Bounds). c.in-Some.cut.var < length b) c.current.ensures ((c.in-Some.ensures).1).variable)
          (subst (λ (b : Bounds). IsInside b old) (sym is_cut ∙ c.in_ok-put-in-Some.ensures.current) (cut_lies c.law_inside_order.ensures c.args.run.now.model.now.goal c.args.best old))
          (c.requires.ready.told c.requires.open) c.is_crossed_by-self.ensures.crossed c.is_crossed_by-self.ensures.proper);
    }

pub returns-in_ok-put-in-Some-clause-count : goal.returns-in_ok-put-in-Some-clause-count
returns-in_ok-put-in-Some-clause-count g c = ap length c.in_ok-put-in-Some.ensures.current ∙ length-set c.args.self.now.boxes.current c.in-Some.cut.var _

pub returns-in_ok-put-in-Some-clause-current : goal.returns-in_ok-put-in-Some-clause-current
returns-in_ok-put-in-Some-clause-current g c =
    c.in_ok-put-in-Some.ensures.current ∙ sym (subst (λ (b : Bounds). cut_by Kind.Least c.args.run.now.model.now.goal c.args.best b ≡ put_of b c.in-Some.cut.var c.in-Some.cut.low c.in-Some.cut.high) c.current.ensures (c.in-Some.ensures).0)

pub returns-in_ok-put-in-Some-clause-own : goal.returns-in_ok-put-in-Some-clause-own
returns-in_ok-put-in-Some-clause-own g c = ap (λ (ls : List Left). own_on ls c.args.self.now.fronts.items) c.in_ok-put-in-Some.ensures.stack

pub returns-in_ok-put-in-Some-clause-below : goal.returns-in_ok-put-in-Some-clause-below
returns-in_ok-put-in-Some-clause-below g c = ap (λ (ls : List Left). below_on ls c.args.self.now.fronts.items) c.in_ok-put-in-Some.ensures.stack
