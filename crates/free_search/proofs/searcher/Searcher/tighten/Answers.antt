use Rattle.std.proofs.Common.{◌≡◌, ℕ, List, length, ap, sym, subst, ◌∙◌, arith}
use Rattle.std.specs.List.{All}
use Rattle.std.proofs.lemmas.List.{length-set}
use Rattle.interval.specs.Boxes.{Bounds, IsProper, put_of}
use Rattle.trailed_box.specs.Trailed.{Left, IsPart}
use Rattle.fixpoint_laws.specs.Fixpoints.{IsClosed}
use Rattle.narrowing.specs.Narrowers.{Fits, LetRest}
use Rattle.free_search.specs.Ready.{IsTighter}
use Rattle.free_search.proofs.searcher.Searcher.tighten.Goals as goal

pub put-requires-clause-part : goal.put-requires-clause-part
put-requires-clause-part g c =
    subst (λ (b : Bounds). IsPart (length b) c.in-Some.part.var c.in-Some.part.low c.in-Some.part.high) c.current.ensures c.in-Some.ensures.is_part

pub put-requires-clause-noted : goal.put-requires-clause-noted
put-requires-clause-noted g c =
    let v = c.in-Some.ensures.is_part.variable in
    let e = ap length c.current.ensures in
    let f = c.requires.ready.left.fits.len in
    omega (arith, v, e, f)

pub returns-in_ok-put-in-Some-clause-ready : goal.returns-in_ok-put-in-Some-clause-ready
returns-in_ok-put-in-Some-clause-ready g c =
    let kernels = c.args.run.now.program.now.kernels in
    let old = c.args.self.now.boxes.current in
    let part = c.in-Some.part in
    let tighter : IsTighter old part = subst (λ (b : Bounds). IsTighter b part) c.current.ensures c.in-Some.ensures in
    let current : c.put.new.boxes.current ≡ put_of old part.var part.low part.high = c.in_ok-put-in-Some.ensures.current in
    let lengths : length c.put.new.boxes.current ≡ length old = ap length current ∙ length-set old part.var _ in
    record {
      left = record {
        closed = subst (λ (ls : List Left). All (λ (l : Left). IsClosed l.base kernels) ls) (sym c.in_ok-put-in-Some.ensures.stack) c.requires.ready.left.closed;
        fits = subst (λ (n : ℕ). Fits c.put.new.narrower kernels n) (sym lengths) (c.in_ok-put-in-Some.ensures.fits kernels (length old) c.requires.ready.left.fits);
        let_rest = subst (λ (ls : List Left). LetRest c.put.new.narrower kernels ls) (sym c.in_ok-put-in-Some.ensures.stack)
            (c.in_ok-put-in-Some.ensures.let_rest kernels c.args.self.now.boxes.stack c.requires.ready.left.let_rest);
      };
      proper = subst IsProper (sym current) (c.law_tightens_one.ensures.proper old part.var part.low part.high tighter.is_part.variable c.requires.ready.proper tighter.some);
      quiet = c.in_ok-put-in-Some.ensures.quiet kernels c.requires.run.kernels c.requires.ready.quiet;
      knows = c.in_ok-put-in-Some.ensures.knows kernels (c.law_tightens_one.ensures.inside old part.var part.low part.high tighter.tightens) tighter.some c.requires.ready.knows;
    }

pub returns-in_ok-put-in-Some-clause-count : goal.returns-in_ok-put-in-Some-clause-count
returns-in_ok-put-in-Some-clause-count g c = ap length c.in_ok-put-in-Some.ensures.current ∙ length-set c.args.self.now.boxes.current c.in-Some.part.var _
