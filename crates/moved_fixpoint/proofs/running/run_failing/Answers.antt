use Rattle.moved_fixpoint.proofs.RunLemmas.{gathered_any, first_gathered}
use Rattle.moved_fixpoint.proofs.running.run_failing.Goals as goal

pub run_one-requires-clause-told : goal.run_one-requires-clause-told
run_one-requires-clause-told c =
    gathered_any c.args.kernels.now c.args.place c.index-kernels-place.result c.args.b.now.current c.current.result.now _ c.requires.place c.index-kernels-place.is c.current.ensures
    (first_gathered c.index-kernels-place.result c.current.result.now _ c.in-Some.ensures)
