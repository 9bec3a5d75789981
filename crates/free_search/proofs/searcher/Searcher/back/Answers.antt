use Rattle.std.proofs.Common.{◌≡◌, ℕ, List, [], ◌∷◌, ◌++◌, length, sym, subst}
use Rattle.std.specs.List.{All}
use Rattle.trailed_box.specs.Trailed.{Left, left_of}
use Rattle.fixpoint_laws.specs.Fixpoints.{IsClosed}
use Rattle.narrowing.specs.Narrowers.{Fits, LetRest}
use Rattle.free_search.proofs.ReadyLaws.{all_last, all_front}
use Rattle.free_search.proofs.searcher.Searcher.back.Goals as goal

pub returns-in-Some-clause-settled : goal.returns-in-Some-clause-settled
returns-in-Some-clause-settled g c =
    let kernels = c.args.run.now.program.now.kernels in
    let left = left_of c.pop.new.self.current c.in-Some._part.var c.in-Some._part.low c.in-Some._part.high in
    let more : c.args.self.now.boxes.stack ≡ c.pop.new.self.stack ++ left ∷ [] = c.in-Some.ensures.some in
    let closed = subst (λ (ls : List Left). All (λ (l : Left). IsClosed l.base kernels) ls) more c.requires.closed in
    let layers = subst (λ (ls : List Left). LetRest c.args.self.now.narrower kernels ls) more c.requires.let_rest in
    record {
      left = record {
        closed = all_front (λ (l : Left). IsClosed l.base kernels) c.pop.new.self.stack (left ∷ []) closed;
        fits = subst (λ (n : ℕ). Fits c.back.new.self kernels n) (sym c.in-Some.ensures.same_length)
            (c.back.ensures.fits kernels (length c.args.self.now.boxes.current) c.requires.fits);
        let_rest = c.back.ensures.let_rest kernels c.pop.new.self.stack left layers;
      };
      closed = all_last (λ (l : Left). IsClosed l.base kernels) c.pop.new.self.stack left closed;
      rests = c.back.ensures.rests kernels c.pop.new.self.stack left layers;
    }
