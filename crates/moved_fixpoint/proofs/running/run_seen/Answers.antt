use Rattle.std.proofs.Common.{inl, sym}
use Rattle.moved_fixpoint.proofs.RunLemmas.{gathered_any, quiet_any}
use Rattle.moved_fixpoint.proofs.running.run_seen.Goals as goal

pub run_one-requires-clause-told : goal.run_one-requires-clause-told
run_one-requires-clause-told c =
    gathered_any c.args.kernels.now c.args.place c.index-kernels-place.result c.args.b.now.current c.current.result.now _ c.requires.place c.index-kernels-place.is c.current.ensures
    (inl (sym c.in-One.ensures))

pub run_two-requires-clause-told : goal.run_two-requires-clause-told
run_two-requires-clause-told c =
    gathered_any c.args.kernels.now c.args.place c.index-kernels-place.result c.args.b.now.current c.current.result.now _ c.requires.place c.index-kernels-place.is c.current.ensures
    (inl (sym c.in-Two.ensures))

pub run_quiet-requires-clause-quiet : goal.run_quiet-requires-clause-quiet
run_quiet-requires-clause-quiet c =
    quiet_any c.args.kernels.now c.args.place c.index-kernels-place.result c.args.b.now.current c.current.result.now _ c.requires.place c.index-kernels-place.is c.current.ensures c.in-Quiet.ensures
