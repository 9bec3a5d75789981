use Rattle.std.proofs.Common.{List, ap, subst, ◌∙◌}
use Rattle.guarded_tell.specs.declared.kernel.Kernel.{Kernel}
use Rattle.narrowing.specs.Narrowing.{IsNarrowedAlone}
use Rattle.narrowing.specs.Narrowers.{lanes_for}
use Rattle.search.proofs.SearcherLaws.{one_lane}
use Rattle.search.proofs.SweepLaws.{crossed_unspent}
use Rattle.search.proofs.searcher.Searcher.narrow.Goals as goal

pub returns-then-self-clause-alone : goal.returns-then-self-clause-alone
returns-then-self-clause-alone g c = λ _ spends.
    crossed_unspent c.args.run.now.program.now.kernels c.args.run.now.round_limit c.args.self.now.boxes.current ((c.requires.ready.told c.requires.open).crossed c.if-self.true) spends

pub returns-clause-alone : goal.returns-clause-alone
returns-clause-alone g c = λ one.
    subst (λ (kernels : List Kernel). IsNarrowedAlone kernels c.args.run.now.round_limit c.args.self.now.boxes.current c.in_ok-narrowed.narrowed) c.as_slice.ensures
    (c.in_ok-narrowed.ensures.alone (c.requires.ready.left.lanes ∙ ap (lanes_for c.args.run.now.program.now.kernels) one ∙ one_lane c.args.run.now.program.now.kernels))
