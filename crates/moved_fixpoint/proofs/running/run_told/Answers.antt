use Rattle.std.proofs.Common.{inl, sym}
use Rattle.moved_fixpoint.proofs.RunLemmas.{gathered_any, last_any}
use Rattle.moved_fixpoint.proofs.running.run_told.Goals as goal

pub run_one-requires-clause-told : goal.run_one-requires-clause-told
run_one-requires-clause-told c =
    gathered_any c.args.kernels.now c.args.place c.index-kernels-place.result c.args.b.now.current c.current.result.now _ c.requires.place c.index-kernels-place.is c.current.ensures
    (inl (sym c.in-Some.ensures.one))

pub run_one-requires-clause-last : goal.run_one-requires-clause-last
run_one-requires-clause-last c =
    last_any c.args.kernels.now c.args.place c.index-kernels-place.result c.args.b.now.current c.current.result.now c.in-Some.sole.tell c.in-Some.sole.is_last c.requires.place c.index-kernels-place.is
    c.current.ensures c.in-Some.ensures.last
