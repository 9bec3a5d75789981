use Rattle.std.proofs.Common.{List, subst}
use Rattle.guarded_tell.specs.declared.kernel.Kernel.{Kernel}
use Rattle.fixpoint_laws.specs.Fixpoints.{IsClosed}
use Rattle.narrowing.specs.Narrowers.{LetsRest}
use Rattle.narrowing.specs.declared.narrowed.Narrowed.{Narrowed}
use Rattle.narrowing.specs.Narrowing.{IsNarrowed}
use Rattle.narrowing.specs.Narrowers.{LetsRestWhereFixed}
use Rattle.free_search.proofs.ReadyLaws.{left_after}
use Rattle.free_search.proofs.searcher.Searcher.narrow.Goals as goal

pub returns-in-Fixed-clause-left : goal.returns-in-Fixed-clause-left
returns-in-Fixed-clause-left g c =
    left_after c.args.run.now.program.now.kernels c.as_slice.result.now c.args.self.now (record { boxes = c.narrow.new.b; narrower = c.narrow.new.self; depth = c.args.self.now.depth })
    c.as_slice.ensures c.narrow.ensures.stack c.narrow.ensures.same_length c.narrow.ensures.fits c.narrow.ensures.let_rest c.requires.ready.left

pub returns-in-Failed-clause-left : goal.returns-in-Failed-clause-left
returns-in-Failed-clause-left g c =
    left_after c.args.run.now.program.now.kernels c.as_slice.result.now c.args.self.now (record { boxes = c.narrow.new.b; narrower = c.narrow.new.self; depth = c.args.self.now.depth })
    c.as_slice.ensures c.narrow.ensures.stack c.narrow.ensures.same_length c.narrow.ensures.fits c.narrow.ensures.let_rest c.requires.ready.left

pub returns-in-Fixed-clause-settled : goal.returns-in-Fixed-clause-settled
returns-in-Fixed-clause-settled g c = λ _.
    let kernels = c.args.run.now.program.now.kernels in
    let narrowed : IsNarrowed c.as_slice.result.now 0 c.args.self.now.boxes.current c.narrow.new.b.current (Narrowed.Fixed c.in-Fixed.rounds) =
    subst (IsNarrowed c.as_slice.result.now 0 c.args.self.now.boxes.current c.narrow.new.b.current) c.in-Fixed.is c.in_ok-narrow.ensures.narrowed in
    let rests : LetsRest c.narrow.new.self c.as_slice.result.now c.narrow.new.b.current =
    subst (LetsRestWhereFixed c.narrow.new.self c.as_slice.result.now c.narrow.new.b.current) c.in-Fixed.is c.in_ok-narrow.ensures.rests in
    record {
      left = left_after kernels c.as_slice.result.now c.args.self.now (record { boxes = c.narrow.new.b; narrower = c.narrow.new.self; depth = c.args.self.now.depth })
          c.as_slice.ensures c.narrow.ensures.stack c.narrow.ensures.same_length c.narrow.ensures.fits c.narrow.ensures.let_rest c.requires.ready.left;
      closed = subst (λ (ks : List Kernel). IsClosed c.narrow.new.b.current ks) c.as_slice.ensures narrowed.0.closed;
      rests = subst (λ (ks : List Kernel). LetsRest c.narrow.new.self ks c.narrow.new.b.current) c.as_slice.ensures rests;
    }
